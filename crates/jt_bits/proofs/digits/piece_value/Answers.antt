use Rattle.std.proofs.Common.{◌≡◌, ℕ, List, ap, ◌∙◌}
use Rattle.std.specs.Int.{from_be_bytes, w64}
use Rattle.hex.specs.Hex.{decode_sized}
use Rattle.jt_bits.proofs.Pieces.{decoded_sixteen, good_digits, be_big}
use Rattle.jt_bits.proofs.digits.piece_value.Goals as goal

pub returns-in-Ok : goal.returns-in-Ok
returns-in-Ok c =
    let d = decoded_sixteen c.args.digits.now c.told-digits (good_digits c.args.digits.now c.requires) in
    let e = ap (λ (ds : List ℕ). decode_sized ds 8) c.as_slice.ensures ∙ d.1 in
    let out = (rw e at c.decode_to_slice.ensures.value).1 in
    let is : c.from_be_bytes.result ≡ from_be_bytes w64 c.decode_to_slice.new.out = c.from_be_bytes.ensures in
    is ∙ ap (from_be_bytes w64) out ∙ be_big d.0.bytes d.0.long ∙ d.0.worth

pub returns-in-Err : goal.returns-in-Err
returns-in-Err c =
    let d = decoded_sixteen c.args.digits.now c.told-digits (good_digits c.args.digits.now c.requires) in
    let e = ap (λ (ds : List ℕ). decode_sized ds 8) c.as_slice.ensures ∙ d.1 in
    let fine = (rw e at c.decode_to_slice.ensures.value).0 in
    let bad = c.in-Err.is in
    cc

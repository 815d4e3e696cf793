use Rattle.std.proofs.Common.{◌≡◌, ◌+◌, ℕ, suc, Bool, true, false, Some, drop, slice_get, option_map, sym, ap, subst, ◌∙◌, arith}
use Rattle.std.specs.List.{list_any}
use Rattle.scan_vectors.specs.Held.{bits}
use Rattle.play_diagnosis.specs.Reading.{is_bit_of}
use Rattle.play_diagnosis.proofs.AnyLaws.{any_from}
use Rattle.play_diagnosis.proofs.reading.scans_bit.Goals as goal

pub returns-then-stands_at : goal.returns-then-stands_at
returns-then-stands_at c =
    let p = is_bit_of c.args.bit in
    let vs = bits c.args.vector.now in
    let here : Some true ≡ option_map p (slice_get vs c.loop-i.i) = ap Some (sym c.if-stands_at.true) ∙ c.stands_at.ensures in
    sym (c.loop-i.invariant ∙ any_from p vs c.loop-i.i true here)

pub loop-i-preserved : goal.loop-i-preserved
loop-i-preserved c =
    let p = is_bit_of c.args.bit in
    let vs = bits c.args.vector.now in
    let here : Some false ≡ option_map p (slice_get vs c.loop-i.i) = ap Some (sym c.if-stands_at.false) ∙ c.stands_at.ensures in
    let next : suc c.loop-i.i ≡ c.loop-i.i + 1 = omega arith in
    c.loop-i.invariant ∙ any_from p vs c.loop-i.i false here ∙ ap (λ (n : ℕ). list_any p (drop n vs)) next

use Rattle.std.proofs.Common.{◌≤◌, ◌∙◌, ℕ, eqb, w8, ap, arith}
use Rattle.std.proofs.lemmas.Simd.{bitmask_splat, length-chunk}
use Rattle.std.specs.Simd.Lanes.{chunk}
use Rattle.jt_bits.specs.Packed.{has_bit}
use Rattle.boundary.proofs.ToldLaws.{told_bits}
use Rattle.boundary.proofs.sights.told_word.Goals as goal

few : 64 ≤ 64
few = omega arith

pub returns : goal.returns
returns c = λ j h.
    let seen = c.args.bytes.now in
    ap (λ (m : ℕ). has_bit m j) (bitmask_splat w8 eqb (chunk c.args.at 64 seen) 64 1 (length-chunk c.args.at 64 seen c.requires) few)
    ∙ told_bits seen c.args.at j c.requires h

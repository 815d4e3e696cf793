use Rattle.std.proofs.Common.{◌≡◌, ◌+◌, ◌-◌, ◌<◌, ◌≤◌, ℕ, Bool, Some, refl, sym, ap, ◌∙◌, arith}
use Rattle.std.specs.Prelude.{Option, option_map, slice_get}
use Rattle.jt_bits.specs.Packed.{has_bit}
use Rattle.scan_vectors.specs.Held.{bits, wanted_of}
use Rattle.player.proofs.WantedAhead.{passed_all, not_cared}
use Rattle.player.proofs.word_ahead.WordAhead.expected.Goals as goal

pub unwanted-i-requires-clause-first : goal.unwanted-i-requires-clause-first
unwanted-i-requires-clause-first c =
    let a = c.loop-self.self in
    let i = c.loop-self.i in
    not_cared (has_bit a.run.care (i - a.from)) (has_bit a.run.bits (i - a.from)) (sym c.wanted.ensures ∙ c.in-None.is)

pub loop-self-preserved : goal.loop-self-preserved
loop-self-preserved c =
    let a = c.loop-self.self in
    let i = c.loop-self.i in
    let n = c.unwanted-i.result in
    let v = bits c.args.vector.now in
    let known = c.loop-self.invariant.known in
    let low : a.from ≤ i = c.loop-self-test.ensures.low refl in
    let none = λ (k : ℕ) (less : k < n).
    let there : a.from + (i - a.from + k) ≡ i + k = omega (arith, low) in
    sym (ap (λ (m : ℕ). option_map {U = Option Bool} (λ b. b.wanted) (slice_get v m)) there)
    ∙ known.bits (i - a.from + k) (omega (arith, low, less, c.unwanted-i.ensures.within))
    ∙ ap (λ (care : Bool). Some (wanted_of care (has_bit a.run.bits (i - a.from + k)))) (c.unwanted-i.ensures.zeros k less) in
    record { known = c.look-in-None.ensures; next = c.loop-self.invariant.next ∙ passed_all v i n none }

use Rattle.std.proofs.Common.{◌≡◌, ◌<◌, ℕ, Bool, ◌&&◌, ◌||◌, true, false, bit_and, bit_or, refl, ap, ap₂, ◌∙◌}
use Rattle.jt_bits.specs.Packed.{has_bit}
use Rattle.pin_nets.specs.declared.Pull.{Pull}
use Rattle.board_faults.specs.declared.together.Driven.{Driven}
use Rattle.board_faults.specs.Faults.{joined}
use Rattle.board_faults.specs.Planes.{driven_at}
use Rattle.board_faults.specs.Together as together
use Rattle.board_faults.specs.Together.{at_driven, short_differs}
use Rattle.board_faults.proofs.Pairs.{any_pair, firsts, seconds}
use Rattle.board_faults.proofs.WordBits.{and_bit, or_bit}
use Rattle.board_faults.proofs.sight.pairs_show.Goals as goal

and-assoc : (a b t : Bool) → ((a && b) && t) ≡ (a && (b && t))
and-assoc true b t = refl
and-assoc false b t = refl

pub returns : goal.returns
returns c =
    let one = c.args.one in
    let other = c.args.other in
    let p = c.args.pull in
    let q = c.args.other_pull in
    let can = c.can_make.result in
    let can' = c.can_make-2.result in
    let x = bit_and c.same_bits.result c.differing.result in
    let y = bit_and c.same_bits-2.result c.differing-2.result in
    let differs : Driven → Driven → Bool = short_differs c.args.winner p q one.read other.read in
    let bits : (k : ℕ) → k < 64 → has_bit (bit_and (bit_and can can') (bit_or x y)) k
    ≡ (at_driven one.can (driven_at firsts k) && (at_driven other.can (driven_at seconds k) && differs (driven_at firsts k) (driven_at seconds k))) = λ k h.
    let f = driven_at firsts k in
    let g = driven_at seconds k in
    let after : has_bit c.bridge_words-after.result k ≡ together.bridge_sees c.args.winner (joined p q) f g =
    c.bridge_words-after.ensures k h ∙ ap (λ (r : Pull). together.bridge_sees c.args.winner r f g) c.joined.ensures in
    let first : has_bit x k ≡ (one.read && together.unlike (together.sees (together.together (together.pulled p) f)) (together.bridge_sees c.args.winner (joined p q) f g)) =
    and_bit c.same_bits.result c.differing.result k
    ∙ ap₂ (λ (a b : Bool). a && b) (c.same_bits.ensures k h)
    (c.differing.ensures k h ∙ ap (λ (b : Bool). together.unlike (together.sees (together.together (together.pulled p) f)) b) after) in
    let second : has_bit y k ≡ (other.read && together.unlike (together.sees (together.together (together.pulled q) g)) (together.bridge_sees c.args.winner (joined p q) f g)) =
    and_bit c.same_bits-2.result c.differing-2.result k
    ∙ ap₂ (λ (a b : Bool). a && b) (c.same_bits-2.ensures k h)
    (c.differing-2.ensures k h ∙ ap (λ (b : Bool). together.unlike (together.sees (together.together (together.pulled q) g)) b) after) in
    and_bit (bit_and can can') (bit_or x y) k
    ∙ ap₂ (λ (a b : Bool). a && b)
    (and_bit can can' k ∙ ap₂ (λ (a b : Bool). a && b) (c.can_make.ensures k h) (c.can_make-2.ensures k h))
    (or_bit x y k ∙ ap₂ (λ (a b : Bool). a || b) first second)
    ∙ and-assoc (at_driven one.can f) (at_driven other.can g) (differs f g) in
    any_pair (at_driven one.can) (at_driven other.can) differs (λ k. has_bit (bit_and (bit_and can can') (bit_or x y)) k) bits c.is_any_set.result
    c.is_any_set.ensures.none c.is_any_set.ensures.some

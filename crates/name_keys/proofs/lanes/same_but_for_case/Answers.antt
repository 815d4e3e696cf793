use Rattle.std.proofs.Common.{◌≡◌, ◌+◌, ◌≤◌, ◌%◌, ◌^◌, ℕ, Bool, List, not, eqb, length, map, take, drop, sym, ap, ◌∙◌, arith, w8}
use Rattle.std.specs.Char.{to_ascii_uppercase}
use Rattle.std.proofs.lemmas.Bool.{eqb-true}
use Rattle.std.proofs.lemmas.List.{length-map}
use Rattle.std.proofs.lemmas.Simd.{length-chunk, length-zip2, mask_l-mod, tops_compared}
use lib.Lanes.{mask_l, zip2}
use Rattle.name_keys.proofs.LaneLaws.{same_by_mask}
use Rattle.name_keys.proofs.lanes.same_but_for_case.Goals as goal

abbrev differ : ℕ → ℕ → Bool
differ a b = not (eqb a b)

long : (name bytes : List ℕ) (at : ℕ) → at + 16 ≤ length name → bytes ≡ map to_ascii_uppercase (take 16 (drop at name)) → length bytes ≡ 16
long name bytes at within is = ap length is ∙ length-map (take 16 (drop at name)) to_ascii_uppercase ∙ length-chunk at 16 name within

pub returns : goal.returns
returns c = λ is.
    let one = c.in_upper_case.result in
    let other = c.in_upper_case-2.result in
    let one_long = long c.args.one.now one c.args.at c.requires.one c.in_upper_case.ensures in
    let other_long = long c.args.other.now other c.args.at c.requires.other c.in_upper_case-2.ensures in
    let mask : mask_l (zip2 differ one other) % 2 ^ 64 ≡ 0 =
    ap (λ (l : List Bool). mask_l l % 2 ^ 64) (sym (tops_compared w8 differ one other)) ∙ eqb-true _ 0 is in
    let none = sym (mask_l-mod (zip2 differ one other) 64 (omega (arith, length-zip2 differ one other, one_long, other_long))) ∙ mask in
    sym c.in_upper_case.ensures ∙ same_by_mask one other (one_long ∙ sym other_long) none ∙ c.in_upper_case-2.ensures

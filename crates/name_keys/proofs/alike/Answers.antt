use Rattle.std.proofs.Common.{◌≡◌, ◌+◌, ◌-◌, ◌++◌, ℕ, Bool, true, false, List, map, take, drop, refl, sym, ap, ◌∙◌, arith}
use Rattle.std.specs.Char.{to_ascii_uppercase}
use Rattle.std.specs.Prelude.{bytes_eq, not}
use Rattle.std.proofs.Math.Seq.{take-add}
use Rattle.std.proofs.lemmas.List.{map-append}
use Rattle.std.proofs.lemmas.Slice.Eq.{bytes_eq-Decides}
use Rattle.name_keys.proofs.alike.Goals as goal
use Rattle.name_keys.proofs.alike.Goals.{else-ne-via-then-ne+else-not-same_but_for_case, else-ne-via-else-ne}

equal : (b : Bool) → not b ≡ false → b ≡ true
equal true e = refl
equal false e = absurd cc

abbrev upper : List ℕ → List ℕ
upper = map to_ascii_uppercase

-- a group more
more : (xs ys : List ℕ) (i : ℕ) → upper (take i xs) ≡ upper (take i ys) → upper (take 16 (drop i xs)) ≡ upper (take 16 (drop i ys)) → upper (take (i + 16) xs) ≡ upper (take (i + 16) ys)
more xs ys i same group =
    ap upper (take-add i 16 xs) ∙ map-append to_ascii_uppercase (take i xs) (take 16 (drop i xs))
    ∙ ap (λ (front : List ℕ). front ++ upper (take 16 (drop i xs))) same ∙ ap (λ (back : List ℕ). upper (take i ys) ++ back) group
    ∙ sym (map-append to_ascii_uppercase (take i ys) (take 16 (drop i ys))) ∙ sym (ap upper (take-add i 16 ys))

-- the same bytes are the same in upper case
raw : (xs ys : List ℕ) (i m : ℕ) → m ≡ 16 → bytes_eq (take m (drop i xs)) (take m (drop i ys)) ≡ true → upper (take 16 (drop i xs)) ≡ upper (take 16 (drop i ys))
raw xs ys i m is group =
    ap upper (ap (λ (k : ℕ). take k (drop i xs)) (sym is) ∙ (bytes_eq-Decides (take m (drop i xs)) (take m (drop i ys))).0 group ∙ ap (λ (k : ℕ). take k (drop i ys)) is)

pub loop-same-preserved : goal.loop-same-preserved
loop-same-preserved c =
    let one = c.args.one.now in
    let other = c.args.other.now in
    let at = c.loop-same.same in
    let group : upper (take 16 (drop at one)) ≡ upper (take 16 (drop at other)) = elim c.else-ne.branch [
      | else-ne-via-then-ne+else-not-same_but_for_case w ↦ w.same_but_for_case.ensures w.if-not-same_but_for_case.false
      | else-ne-via-else-ne w ↦ raw one other at (at + 16 - at) (omega arith) (equal _ (sym c.ne.ensures ∙ w.if-ne.false))
    ] in
    record { within = omega arith; alike = more one other at c.loop-same.invariant.alike group }

-- A key asked for.
use Rattle.std.proofs.Common.{◌≡◌, ℕ, Bool, true, false, true≢false, List, refl, sym, ap, ◌∙◌}
use Rattle.std.specs.Prelude.{bytes_eq}
use Rattle.std.specs.Ordering.{is_eq}
use Rattle.std.proofs.lemmas.Slice.Eq.{bytes_eq-Decides}
use Rattle.name_keys.specs.Keys.{key_order}
use Rattle.name_keys.specs.OrderLaws.{key_order_is}

turned : (a b : List ℕ) → bytes_eq a b ≡ bytes_eq b a
turned a b = by_test (bytes_eq b a) refl
  where
    by_test : (h : Bool) → bytes_eq b a ≡ h → bytes_eq a b ≡ bytes_eq b a
    by_test true e = (bytes_eq-Decides a b).1 (sym ((bytes_eq-Decides b a).0 e)) ∙ sym e
    by_test false e = by_other (bytes_eq a b) refl
      where
        by_other : (h : Bool) → bytes_eq a b ≡ h → bytes_eq a b ≡ bytes_eq b a
        by_other false f = f ∙ sym e
        by_other true f = absurd (true≢false (sym ((bytes_eq-Decides b a).1 (sym ((bytes_eq-Decides a b).0 f))) ∙ e))

-- the key that a name finds
pub key_asked : (key q : List ℕ) → is_eq (key_order key q) ≡ bytes_eq q key
key_asked key q = key_order_is key q ∙ turned key q

-- What calls of one direction keep of the other.
use Rattle.std.proofs.Common.{Bool, ℕ, suc, List, Option, Result}
use Rattle.std.specs.Prelude.{Ok}
use Rattle.std.specs.Io.KnownBytes.{Keeps}
use Rattle.std.proofs.KnownBytes.{Keeps-refl, Keeps-trans}
use Rattle.byte_streams.specs.Writes.{PutsAll, call_lost, none_left, some_put}
use Rattle.play_links.specs.Loops.{HearsAll, PutsCount, all_in, all_out, in_lost, out_lost, some_in, some_out}

-- a law of an end
abbrev pub CallsKeep : {S E : Type 0} (calls : S → List ℕ → Result ℕ E → S → Type 0) (known : S → Option (List ℕ)) → Type 0
CallsKeep {S = S} {E = E} calls known = (s : S) (bytes : List ℕ) (r : Result ℕ E) (t : S) → calls s bytes r t → Keeps (known s) (known t)

module _ {S E : Type 0} (calls : S → List ℕ → Result ℕ E → S → Type 0) (known : S → Option (List ℕ)) (law : CallsKeep calls known) where
  pub hears-keep : (s t : S) (n : ℕ) (bytes : List ℕ) (whole : Bool) → HearsAll calls s n bytes whole t → Keeps (known s) (known t)
  hears-keep s t _ _ _ (all_in v) = Keeps-refl (known v)
  hears-keep s t _ _ _ (in_lost v n buffer r u long h l) = law v buffer r u h
  hears-keep s t _ _ _ (some_in v n buffer k u bytes whole w long less h rest) =
      Keeps-trans (known v) (known u) (known w) (law v buffer (Ok (suc k)) u h) (hears-keep u w _ bytes whole rest)

  pub count-keep : (s t : S) (piece : List ℕ) (k : ℕ) (whole : Bool) → PutsCount calls s piece k whole t → Keeps (known s) (known t)
  count-keep s t _ _ _ (all_out v) = Keeps-refl (known v)
  count-keep s t _ _ _ (out_lost v piece r u h l) = law v piece r u h
  count-keep s t _ _ _ (some_out v piece n u k whole w less h rest) =
      Keeps-trans (known v) (known u) (known w) (law v piece (Ok (suc n)) u h) (count-keep u w _ k whole rest)

  pub puts-keep : (s t : S) (piece : List ℕ) (whole : Bool) → PutsAll calls s piece whole t → Keeps (known s) (known t)
  puts-keep s t _ _ (none_left v) = Keeps-refl (known v)
  puts-keep s t _ _ (call_lost v piece r u h l) = law v piece r u h
  puts-keep s t _ _ (some_put v piece n u whole w h rest) =
      Keeps-trans (known v) (known u) (known w) (law v piece (Ok (suc n)) u h) (puts-keep u w _ whole rest)

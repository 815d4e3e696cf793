-- The place of the description that is refused.
use Rattle.std.proofs.Common.{◌≡◌, ◌<◌, ◌+◌, ℕ, nat_lt, Bool, not, cond, List, [], ◌∷◌, length, map, Option, Some, None, is_none, is_some, option_and_then, Result, Ok, Err, refl, ap, sym, arith}
use Rattle.std.specs.List.{position, prefix_len}
use Rattle.std.specs.Option.{option_or}
use Rattle.std.proofs.lemmas.Bool.{lt-ltb}
use Rattle.std.proofs.lemmas.List.{length-map}
use Rattle.std.proofs.lemmas.Option.{none-some}
use Rattle.toml.specs.Data.{Members}
use Rattle.bsdl_device.specs.Device.{Device}
use Rattle.board_tables.specs.declared.fault.BoardFault.{BoardFault}
use Rattle.board_tables.specs.declared.fault.BoardFault.TheVariants as fault
use Rattle.board_parts.specs.Files.{File, described, missing_in, refused, refused_in, refused_place, text_of}
use Rattle.board_plan.specs.Planned.{Wiring}
use Rattle.board_file.specs.Refusals.{RefusesAt, unplaced}
use Rattle.board_file.specs.View.{TellsBoard}
use Rattle.board_file.specs.Wiring.{Fault}
use Rattle.board_file.specs.declared.refused.Refused.{Refused}

module _ (says : List ℕ → Option Device) (files : List File) where
  abbrev is-refused : List ℕ → Bool
  is-refused name = is_some (option_and_then (refused says) (text_of files name))

  abbrev before : List (List ℕ) → ℕ
  before names = prefix_len (λ name. not (is-refused name)) names

  -- where no file is missing, those that gave no device are refused
  refused-here : (o : Option (List ℕ)) (text : List ℕ) → o ≡ Some text → is_none (option_and_then says o) ≡ is_some (option_and_then (refused says) o)
  refused-here None text is = absurd (none-some text is)
  refused-here (Some given) text is = by (says given) refl
    where
      by : (d : Option Device) → says given ≡ d → is_none (says given) ≡ is_some (refused says given)
      by None e = rw (e, refused) refl
      by (Some d) e = rw (e, refused) refl

  none-before : (names : List (List ℕ)) → missing_in files names ≡ None → prefix_len (λ d. not (is_none d)) (map (described says files) names) ≡ before names
  none-before [] missing = refl
  none-before (name ∷ names) missing = by (text_of files name) refl missing (none-before names)
    where
      by : (o : Option (List ℕ)) → text_of files name ≡ o → missing_in files (name ∷ names) ≡ None
          → (missing_in files names ≡ None → prefix_len (λ d. not (is_none d)) (map (described says files) names) ≡ before names)
          → prefix_len (λ d. not (is_none d)) (map (described says files) (name ∷ names)) ≡ before (name ∷ names)
      by None e m more = absurd (none-some name (sym (rw (e, missing_in) at m)))
      by (Some text) e m more =
          let rest = more (rw (e, missing_in) at m) in
          let here = refused-here (text_of files name) text e in
          λ i. cond (not (here i)) (1 + rest i) 0

  pub undescribed : (names : List (List ℕ)) → missing_in files names ≡ None → position is_none (map (described says files) names) ≡ refused_place says files names
  undescribed names missing =
      let long : length (map (described says files) names) ≡ length names = length-map names (described says files) in
      let same = none-before names missing in
      λ i. cond (nat_lt (same i) (long i)) (Some (same i)) None

  -- a name whose file is refused has a place
  some-inside : (names : List (List ℕ)) (text : List ℕ) → refused_in says files names ≡ Some text → before names < length names
  some-inside [] text is = absurd (none-some text is)
  some-inside (name ∷ names) text is = by (option_and_then (refused says) (text_of files name)) refl is (some-inside names text)
    where
      by : (o : Option (List ℕ)) → option_and_then (refused says) (text_of files name) ≡ o → option_or o (refused_in says files names) ≡ Some text
          → (refused_in says files names ≡ Some text → before names < length names) → before (name ∷ names) < length (name ∷ names)
      by (Some found) e h more =
          let none : before (name ∷ names) ≡ 0 = ap (λ (x : Option (List ℕ)). cond (not (is_some x)) (1 + before names) 0) e in
          omega (arith, none)
      by None e h more =
          let next : before (name ∷ names) ≡ 1 + before names = ap (λ (x : Option (List ℕ)). cond (not (is_some x)) (1 + before names) 0) e in
          let rest = more h in
          omega (arith, next, rest)

  pub refused_there : (names : List (List ℕ)) (text : List ℕ) → refused_in says files names ≡ Some text → (k : ℕ) × (refused_place says files names ≡ Some k)
  refused_there names text is =
      let inside = lt-ltb (before names) (length names) (some-inside names text is) in
      (before names, ap (λ (b : Bool). cond b (Some (before names)) None) inside)

-- what is told with the place is told without it
pub unplaced_told : {F : Type 0} (says : List ℕ → Option Device) (refuses : List ℕ → F → Type 0) (files : List File) (t : Members) (f : BoardFault (Refused F)) (said : Result Wiring Fault)
    (targets : List (List ℕ)) → TellsBoard (RefusesAt says refuses files t) (Err f) said targets → TellsBoard refuses (Err (unplaced f)) said targets
unplaced_told says refuses files t fault.BadToml (Ok w) targets h = h
unplaced_told says refuses files t fault.BadToml (Err e) targets h = h
unplaced_told says refuses files t (fault.BadField k) (Ok w) targets h = h
unplaced_told says refuses files t (fault.BadField k) (Err e) targets h = h
unplaced_told says refuses files t (fault.UnknownFile s) (Ok w) targets h = h
unplaced_told says refuses files t (fault.UnknownFile s) (Err e) targets h = h
unplaced_told says refuses files t (fault.Bsdl r) (Ok w) targets h = (h.0, h.1, h.2.0)
unplaced_told says refuses files t (fault.Bsdl r) (Err e) targets h = (h.0, h.1, h.2.0)
unplaced_told says refuses files t (fault.UnknownPin s) (Ok w) targets h = h
unplaced_told says refuses files t (fault.UnknownPin s) (Err e) targets h = h
unplaced_told says refuses files t (fault.PinTwice s) (Ok w) targets h = h
unplaced_told says refuses files t (fault.PinTwice s) (Err e) targets h = h
unplaced_told says refuses files t fault.TooLarge (Ok w) targets h = h
unplaced_told says refuses files t fault.TooLarge (Err e) targets h = h
unplaced_told says refuses files t fault.NoMemory (Ok w) targets h = h
unplaced_told says refuses files t fault.NoMemory (Err e) targets h = h
unplaced_told says refuses files t (fault.CoreLoop s) (Ok w) targets h = h
unplaced_told says refuses files t (fault.CoreLoop s) (Err e) targets h = h

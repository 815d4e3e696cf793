-- What one more reading adds.
use Rattle.std.proofs.Common.{◌≡◌, ℕ, Bool, true, false, true≢false, cond, List, [], ◌∷◌, Option, Some, None, is_some, option_map, option_and_then, refl, ap, sym, subst, ◌∙◌, ◌++◌, ◌+◌, ◌<◌, map, length, drop, append_assoc, nat_cmp}
use Rattle.std.specs.BTreeMap.{BTreeMap, is_at}
use Rattle.std.specs.Cmp.Lexicographic.{slice_cmp}
use Rattle.std.specs.Option.{option_or}
use Rattle.std.specs.Str.{bytes_eq}
use Rattle.std.proofs.lemmas.List.{drop_more}
use Rattle.std.proofs.lemmas.Map.Text.{is_eq-slice_cmp}
use Rattle.std.proofs.lemmas.Option.{same_Some}
use Rattle.std.proofs.lemmas.Slice.Eq.{bytes_eq-Decides}
use Rattle.std.proofs.Math.ListN.{get_or}
use Rattle.board_tables.specs.WordView.{texts_of}
use denote.Ref.{Bor}
use Rattle.bsdl_device.specs.Device.{Device}
use Rattle.board_parts.specs.declared.library.Reading.{Reading}
use Rattle.board_parts.specs.declared.library.Reading.TheVariants as reading
use Rattle.board_parts.specs.Files.{File, missing_in, refused_in, text_of}
use Rattle.board_parts.specs.LibraryView.{AreKnown, IsRead, IsReading, IsFirstRefusal, device_in, known_at, missing_with, refused_with}

module _ {F : Type 0} (says : List ℕ → Option Device) (refuses : List ℕ → F → Type 0) where
  pub described_there : (b : Bool) (t : Option (List ℕ)) (r : Reading F) → IsReading says refuses b t r → device_in r ≡ option_and_then says t
  described_there b None r h = ap device_in h
  described_there b (Some text) reading.Missing h = absurd h
  described_there b (Some text) (reading.Refused f) h = sym h.0
  described_there b (Some text) reading.RefusedToo h = sym h.0
  described_there b (Some text) (reading.Described d) h = sym h

  pub missing_there : (b : Bool) (files : List File) (m : Option (Bor (List ℕ))) (name : Bor (List ℕ)) (t : Option (List ℕ)) (r : Reading F) (rest : List (List ℕ))
      → text_of files name.now ≡ t → IsReading says refuses b t r
      → option_or (option_map (λ n. n.now) (missing_with m name r)) (missing_in files rest) ≡ option_or (option_map (λ n. n.now) m) (missing_in files (name.now ∷ rest))
  missing_there b files (Some m) name t r rest at h = refl
  missing_there b files None name None r rest at h = rw (h, at, missing_in) refl
  missing_there b files None name (Some text) reading.Missing rest at h = absurd h
  missing_there b files None name (Some text) (reading.Refused f) rest at h = rw (at, missing_in) refl
  missing_there b files None name (Some text) reading.RefusedToo rest at h = rw (at, missing_in) refl
  missing_there b files None name (Some text) (reading.Described d) rest at h = rw (at, missing_in) refl

  pub refused_there : (files : List File) (o : Option F) (name : List ℕ) (t : Option (List ℕ)) (r : Reading F) (rest : List (List ℕ)) (all : Option (List ℕ))
      → text_of files name ≡ t → IsReading says refuses (is_some o) t r
      → IsFirstRefusal refuses o (refused_in says files (name ∷ rest)) all → IsFirstRefusal refuses (refused_with o r) (refused_in says files rest) all
  refused_there files (Some f) name t r rest all at h first = first
  refused_there files None name None r rest all at h first = subst (λ x. IsFirstRefusal refuses (refused_with None x) (refused_in says files rest) all) (sym h) (rw (at, refused_in) at first)
  refused_there files None name (Some text) reading.Missing rest all at h first = absurd h
  refused_there files None name (Some text) (reading.Refused f) rest all at h first = (text, sym (rw (at, h.0, refused_in) at first), h.1)
  refused_there files None name (Some text) reading.RefusedToo rest all at h first = absurd (true≢false (sym h.1))
  refused_there files None name (Some text) (reading.Described d) rest all at h first = rw (at, h, refused_in) at first

  -- one more text that was read
  pub one_more_known : (old new : BTreeMap (Bor (List ℕ)) (Option Device)) (text : Bor (List ℕ)) (r : Reading F) (d : Option Device) → AreKnown says old
      → IsRead says refuses false text.now r → d ≡ device_in r
      → ((q : Bor (List ℕ)) → known_at new q.now ≡ cond (is_at (λ k. slice_cmp nat_cmp text.now k.now) q) (Some d) (known_at old q.now))
      → AreKnown says new
  one_more_known old new text r d are read is_in step q found at = by_test (bytes_eq text.now q) refl
    where
      there : (b : Bool) → bytes_eq text.now q ≡ b → cond b (Some d) (known_at old q) ≡ Some found
      there b is = sym (step (record { ref_ptr = (0, 0); now = q }) ∙ ap (λ c. cond c (Some d) (known_at old q)) (is_eq-slice_cmp text.now q ∙ is)) ∙ at

      by_test : (b : Bool) → bytes_eq text.now q ≡ b → says q ≡ found
      by_test true is = ap says (sym ((bytes_eq-Decides text.now q).0 is)) ∙ sym (described_there false (Some text.now) r read) ∙ sym is_in ∙ same_Some d found (there true is)
      by_test false is = are q found (there false is)

-- ---- the next name

pub texts_from : (names : List (Bor (List ℕ))) (k : ℕ) (d : Bor (List ℕ)) → k < length names → texts_of (drop k names) ≡ (get_or names k d).now ∷ texts_of (drop (k + 1) names)
texts_from names k d h = ap texts_of (drop_more names k d h)

pub devices_more : {A B : Type 0} (f : A → B) (items : List B) (x : B) (name : A) (rest more : List A) (all : List B) → rest ≡ name ∷ more → x ≡ f name
    → items ++ map f rest ≡ all → (items ++ x ∷ []) ++ map f more ≡ all
devices_more f items x name rest more all e is before =
    append_assoc items (x ∷ []) (map f more) ∙ ap (λ y. items ++ y ∷ map f more) is ∙ ap (λ r. items ++ map f r) (sym e) ∙ before

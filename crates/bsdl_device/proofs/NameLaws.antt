-- A name more behind those that one text holds.
use Rattle.std.proofs.Common.{◌≡◌, ℕ, ◌+◌, ◌≤◌, ◌||◌, Bool, true, false, cond, List, [], ◌∷◌, ◌++◌, drop, length, length-append, refl, sym, ap, ◌∙◌, arith}
use Rattle.std.proofs.Common.{String, Global}
use Rattle.std.specs.Prelude.{bytes_eq}
use Rattle.std.specs.BTreeSet.{BTreeSet, contains_text}
use Rattle.std.specs.List.{list_any}
use Rattle.std.proofs.lemmas.List.{drop-append-le, length-drop, take-append-le, take_all}
use Rattle.std.proofs.lemmas.List.Folds.{list_any-append}
use Rattle.bsdl_device.specs.Names.{AreCut, cut, total}
use Rattle.bsdl_device.proofs.FoundLaws.{turned}

total_more : (ns : List ℕ) (n : ℕ) → total (ns ++ n ∷ []) ≡ total ns + n
total_more [] n = omega arith
total_more (m ∷ ns) n = omega (arith, total_more ns n)

cut_more : (text ns name : List ℕ) → total ns ≡ length text → cut (text ++ name) (ns ++ length name ∷ []) ≡ cut text ns ++ name ∷ []
cut_more [] [] name whole = ap (λ n. n ∷ []) (take_all (length name) name (omega arith))
cut_more (b ∷ text) [] name whole = absurd (omega (arith, whole))
cut_more text (n ∷ ns) name whole =
    let fits : n ≤ length text = omega (arith, whole) in
    let rest : total ns ≡ length (drop n text) = omega (arith, whole, length-drop n text) in
    rw (take-append-le n text name fits, drop-append-le n text name fits, cut_more (drop n text) ns name rest) refl

one : (b : Bool) → b || false ≡ b
one true = refl
one false = refl

either : (b before : Bool) → cond b true before ≡ before || b
either true true = refl
either true false = refl
either false true = refl
either false false = refl

pub cut_with : (text ns name new lens : List ℕ) (n : ℕ) → total ns ≡ length text → new ≡ text ++ name → n ≡ length name → lens ≡ ns ++ n ∷ [] → cut new lens ≡ cut text ns ++ name ∷ []
cut_with text ns name new lens n whole text_is len lens_are = rw (text_is, lens_are, len) (cut_more text ns name whole)

pub kept_with : (text ns name new lens : List ℕ) (n : ℕ) (known after : BTreeSet (String Global)) → AreCut text ns known → new ≡ text ++ name → n ≡ length name → lens ≡ ns ++ n ∷ []
    → ((q : List ℕ) → contains_text after q ≡ cond (bytes_eq name q) true (contains_text known q)) → AreCut new lens after
kept_with text ns name new lens n known after kept text_is len lens_are put = record {
  whole = ap total lens_are ∙ total_more ns n ∙ omega (arith, kept.whole, len, length-append text name) ∙ ap (λ (bs : List ℕ). length bs) (sym text_is);
  contains = λ q.
      put q ∙ either (bytes_eq name q) (contains_text known q) ∙ ap (λ b. b || bytes_eq name q) (kept.contains q)
      ∙ ap (λ b. list_any (bytes_eq q) (cut text ns) || b) (sym (turned name q (bytes_eq name q) refl) ∙ sym (one (bytes_eq q name)))
      ∙ sym (list_any-append (bytes_eq q) (cut text ns) (name ∷ [])) ∙ ap (list_any (bytes_eq q)) (sym (cut_with text ns name new lens n kept.whole text_is len lens_are));
}

-- Statements of a text, passed one after another.
use Rattle.std.proofs.Common.{◌≡◌, ℕ, zero, suc, ◌+◌, ◌≤◌, ◌<◌, List, [], ◌∷◌, drop, length, Option, Some, None, slice_get, refl, sym, ap, ◌∙◌, arith}
use Rattle.refusal_places.specs.Left.{left_of}
use Rattle.refusal_places.specs.Starts.{places_of, statement_position}
use Rattle.output_words.specs.declared.lines.Position.{Position}
use Rattle.play_explained.specs.Passed.{IsAt, PassesTo}
use Rattle.play_explained.specs.declared.places.Passed.{Passed}

-- what stands first among those that are left
record First (ps : List Position) (k : ℕ) (p : Position) (rest : List Position) : Type 0 where
  there : slice_get ps k ≡ Some p
  left : rest ≡ drop (suc k) ps

first : (ps : List Position) (k : ℕ) (p : Position) (rest : List Position) → drop k ps ≡ p ∷ rest → First ps k p rest
first [] zero p rest e = absurd cc
first [] (suc k) p rest e = absurd cc
first (q ∷ ps) zero p rest e = record { there = cc; left = cc }
first (q ∷ ps) (suc k) p rest e = let more = first ps k p rest e in record { there = more.there; left = more.left }

none_there : (ps : List Position) (k n : ℕ) → drop k ps ≡ [] → k ≤ n → slice_get ps n ≡ None
none_there [] k n e le = refl
none_there (q ∷ ps) zero n e le = absurd cc
none_there (q ∷ ps) (suc k) zero e le = absurd (omega (arith, le))
none_there (q ∷ ps) (suc k) (suc n) e le = none_there ps k n e (omega (arith, le))

pub passed_on : (text : List ℕ) (before after : Passed) → IsAt text before → PassesTo before after → IsAt text after
passed_on text before after at passes =
    let its = first (places_of text) before.count passes.position (left_of after.left) (sym at.left ∙ passes.left) in
    let next : suc before.count ≡ after.count = omega (arith, passes.count) in
    record {
      left = its.left ∙ ap (λ n. drop n (places_of text)) next;
      last = passes.last ∙ sym its.there ∙ ap (λ n. statement_position text n) next;
    }

pub none_further : (text : List ℕ) (p : Passed) (number : ℕ) → IsAt text p → left_of p.left ≡ [] → p.count < number → statement_position text number ≡ None
none_further text p zero at none less = refl
none_further text p (suc n) at none less = none_there (places_of text) p.count n (sym at.left ∙ none) (omega (arith, less))

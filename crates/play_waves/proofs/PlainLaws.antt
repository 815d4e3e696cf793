-- Pieces of a wave file whose strings are left out.
use Rattle.std.proofs.Common.{◌≡◌, ◌<◌, ◌+◌, ◌==◌, ℕ, suc, Bool, true, false, List, [], ◌∷◌, ◌++◌, get_or, length, take, refl, sym, ap, ◌∙◌, append_assoc, arith}
use Rattle.std.proofs.Math.Seq.{take-suc}
use Rattle.std.proofs.lemmas.List.{append-nil}
use Rattle.std.specs.Prelude.{if◌then◌else◌}
use Rattle.play_waves.specs.Plain.{PiecesAreOne, held, kept_line, newline, passed, taken_line, taken_text}

pub pieces : PiecesAreOne
pieces line [] ys = (refl, refl)
pieces line (b ∷ xs) ys = by (pieces [] xs ys) (pieces (line ++ b ∷ []) xs ys) (b == newline)
  where
    longer : List ℕ
    longer = line ++ b ∷ []

    by : (passed [] (xs ++ ys) ≡ passed [] xs ++ passed (held [] xs) ys) × (held [] (xs ++ ys) ≡ held (held [] xs) ys)
        → (passed longer (xs ++ ys) ≡ passed longer xs ++ passed (held longer xs) ys) × (held longer (xs ++ ys) ≡ held (held longer xs) ys)
        → (ends : Bool)
        → ((if ends then kept_line longer ++ passed [] (xs ++ ys) else passed longer (xs ++ ys))
        ≡ (if ends then kept_line longer ++ passed [] xs else passed longer xs) ++ passed (if ends then held [] xs else held longer xs) ys)
        × ((if ends then held [] (xs ++ ys) else held longer (xs ++ ys)) ≡ held (if ends then held [] xs else held longer xs) ys)
    by rest more true =
        (ap (λ (l : List ℕ). kept_line longer ++ l) rest.0 ∙ sym (append_assoc (kept_line longer) (passed [] xs) (passed (held [] xs) ys)), rest.1)
    by rest more false = more

one : (line : List ℕ) (b : ℕ) → passed line (b ∷ []) ≡ taken_text line b
one line b = by (b == newline)
  where
    by : (ends : Bool) → (if ends then kept_line (line ++ b ∷ []) ++ [] else []) ≡ (if ends then kept_line (line ++ b ∷ []) else [])
    by true = append-nil (kept_line (line ++ b ∷ []))
    by false = refl

-- a byte more
pub one_more : (line xs : List ℕ) (b : ℕ) → passed line xs ++ taken_text (held line xs) b ≡ passed line (xs ++ b ∷ [])
one_more line xs b = sym ((pieces line xs (b ∷ [])).0 ∙ ap (λ (l : List ℕ). passed line xs ++ l) (one (held line xs) b))

pub line_more : (line xs : List ℕ) (b : ℕ) → taken_line (held line xs) b ≡ held line (xs ++ b ∷ [])
line_more line xs b = sym (pieces line xs (b ∷ [])).1

-- of a piece, up to the next place
next_front : (xs : List ℕ) (i d : ℕ) → i < length xs → take i xs ++ get_or xs i d ∷ [] ≡ take (i + 1) xs
next_front xs i d less =
    let next : i + 1 ≡ suc i = omega arith in
    sym (ap (λ (n : ℕ). take n xs) next ∙ take-suc xs i d less)

module _ (line xs : List ℕ) (i d : ℕ) (now : List ℕ) (less : i < length xs) (is : now ≡ held line (take i xs)) where
  pub next_text : passed line (take i xs) ++ taken_text now (get_or xs i d) ≡ passed line (take (i + 1) xs)
  next_text =
      ap (λ (l : List ℕ). passed line (take i xs) ++ taken_text l (get_or xs i d)) is
      ∙ one_more line (take i xs) (get_or xs i d) ∙ ap (passed line) (next_front xs i d less)

  pub next_line : taken_line now (get_or xs i d) ≡ held line (take (i + 1) xs)
  next_line =
      ap (λ (l : List ℕ). taken_line l (get_or xs i d)) is ∙ line_more line (take i xs) (get_or xs i d)
      ∙ ap (held line) (next_front xs i d less)

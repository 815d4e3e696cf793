-- Every bit that differs of what comes out of a chain, link by link.
use Rattle.std.proofs.Common.{◌≡◌, ℕ, ◌+◌, ◌<◌, ◌≤◌, Bool, List, [], ◌++◌, append_assoc, append-nil, get_or, length, drop, map, sym, ap, ◌∙◌, arith}
use Rattle.std.proofs.lemmas.List.{drop_more, drop-drop, length-map}
use Rattle.scan_vectors.specs.declared.failures.Mismatch.{Mismatch}
use Rattle.scan_vectors.specs.Failures.{Found, differing, with_found}
use Rattle.scan_vectors.specs.Vector.{VectorBit, tdis}
use Rattle.scan_vectors.proofs.Listing.{found-twice}
use Rattle.board_chain.proofs.Differing.{differing-append, none-over}
use Rattle.board_chain.specs.Rows.{joined_registers}
use Rattle.board_chain.proofs.Rows.{row_at}

row_step : (command : ℕ) (vs : List VectorBit) (rows : List (List Bool)) (t : List Bool) (i : ℕ) (r : List Bool) → i < length rows → get_or rows i [] ≡ r
    → differing command vs (joined_registers (drop i rows) ++ t) ≡ differing command vs r ++ differing command (drop (length r) vs) (joined_registers (drop (i + 1) rows) ++ t)
row_step command vs rows t i r h is =
    ap (λ (l : List (List Bool)). differing command vs (joined_registers l ++ t)) (drop_more rows i [] h)
    ∙ ap (λ (x : List Bool). differing command vs ((x ++ joined_registers (drop (i + 1) rows)) ++ t)) is
    ∙ ap (differing command vs) (append_assoc r (joined_registers (drop (i + 1) rows)) t)
    ∙ differing-append command vs r (joined_registers (drop (i + 1) rows) ++ t)

-- Those of one link and of the links behind it are all: so it goes from link to link.
module _ {A : Type 0} (register : A → List Bool) (command : ℕ) (vs : List VectorBit) (chain : List A) (at i : ℕ) (c : A) (all had then_had : Found) (h : i < length chain)
    (is : c ≡ get_or chain i c)
    (so_far : with_found (differing command (drop at vs) (joined_registers (drop i (map register chain)) ++ tdis vs)) had ≡ all)
    (noted : then_had ≡ with_found (differing command (drop at vs) (register c)) had) where
  abbrev rows : List (List Bool)
  rows = map register chain

  abbrev rest : List Bool
  rest = joined_registers (drop (i + 1) rows) ++ tdis vs

  step : differing command (drop at vs) (joined_registers (drop i rows) ++ tdis vs) ≡ differing command (drop at vs) (register c) ++ differing command (drop (length (register c)) (drop at vs)) rest
  step = row_step command (drop at vs) rows (tdis vs) i (register c) (omega (arith, h, length-map chain register)) (row_at register chain i c h is)

  joins : with_found (differing command (drop (length (register c)) (drop at vs)) rest) then_had ≡ all
  joins =
      ap (with_found (differing command (drop (length (register c)) (drop at vs)) rest)) noted
      ∙ found-twice (differing command (drop at vs) (register c)) (differing command (drop (length (register c)) (drop at vs)) rest) had
      ∙ ap (λ (l : List Mismatch). with_found l had) (sym step) ∙ so_far

  pub note_more : (n : ℕ) → n ≡ length (register c) → with_found (differing command (drop (at + n) vs) rest) then_had ≡ all
  note_more n long =
      let e : at + length (register c) ≡ at + n = omega (arith, long) in
      ap (λ (l : List VectorBit). with_found (differing command l rest) then_had) (sym (drop-drop (length (register c)) at vs ∙ ap (λ (k : ℕ). drop k vs) e)) ∙ joins

  pub note_over : length (drop at vs) ≤ length (register c) → then_had ≡ all
  note_over past =
      let none = none-over command (drop at vs) rest (length (register c)) past in
      noted ∙ ap (λ (l : List Mismatch). with_found l had) (sym (append-nil (differing command (drop at vs) (register c))))
      ∙ ap (λ (l : List Mismatch). with_found (differing command (drop at vs) (register c) ++ l) had) (sym none)
      ∙ ap (λ (l : List Mismatch). with_found l had) (sym step) ∙ so_far

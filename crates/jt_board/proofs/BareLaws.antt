-- Bare devices, one more at a time.
use Rattle.std.proofs.Common.{◌≡◌, ℕ, zero, suc, ◌+◌, List, [], ◌∷◌, ◌++◌, sym, ap, ◌∙◌, arith}
use Rattle.board_plan.specs.Planned as planned
use Rattle.jt_board.specs.Bares.{bare_at, bare_planned}

grown : (k n j : ℕ) → j ≡ k + n → bare_planned k (suc n) ≡ bare_planned k n ++ bare_at j ∷ []
grown k zero j e = let at : j ≡ k = omega arith in ap (λ (m : ℕ). bare_at m ∷ []) (sym at)
grown k (suc n) j e = ap (λ (r : List planned.Member). bare_at k ∷ r) (grown (suc k) n j (omega arith))

pub bare_more : (n j : ℕ) → j ≡ n + 1 → bare_planned 1 (n + 1) ≡ bare_planned 1 n ++ bare_at j ∷ []
bare_more n j e = let next : n + 1 ≡ suc n = omega arith in ap (bare_planned 1) next ∙ grown 1 n j (omega arith)

pub bare_push : (n j : ℕ) (devices new : List planned.Member) (d : planned.Member) → j ≡ n + 1 → devices ≡ bare_planned 1 n → d ≡ bare_at j → new ≡ devices ++ d ∷ []
    → new ≡ bare_planned 1 (n + 1)
bare_push n j devices new d e are is pushed =
    pushed ∙ ap (λ (l : List planned.Member). l ++ d ∷ []) are ∙ ap (λ (x : planned.Member). bare_planned 1 n ++ x ∷ []) is ∙ sym (bare_more n j e)

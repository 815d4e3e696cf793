-- A play that lists another bit than a log that lists all does not give what the log says.
use Rattle.std.proofs.Common.{arith, ◌≡◌, ℕ, zero, suc, List, [], ◌∷◌, length, take, refl, sym, ap, subst, ◌∙◌}
use Rattle.scan_vectors.specs.declared.failures.Mismatch.{Mismatch}
use Rattle.scan_vectors.specs.Failures.{Found}
use Rattle.svf_programs.specs.Steps.{Program}
use Rattle.board_model.specs.Chain.{BoardState}
use Rattle.board_model.specs.Following.{IsAmong}
use Rattle.play_direct.specs.ToTheEnd.{all_failures}
use Rattle.fault_serving.specs.Firsts.{HasOther}
use Rattle.play_diagnosis.specs.Fitting.{Gives}
use Rattle.play_diagnosis.specs.Reading.{PlaysOn}

-- what is as long as all of it is all of it
all-taken : {X : Type 0} (n : ℕ) (xs : List X) → length (take n xs) ≡ length xs → take n xs ≡ xs
all-taken zero [] e = refl
all-taken zero (x ∷ xs) e = absurd (omega (arith, e))
all-taken (suc n) [] e = refl
all-taken (suc n) (x ∷ xs) e = ap (λ (l : List _). x ∷ l) (all-taken n xs (omega (arith, e)))

pub gives_no_other : (program : Program) (b : BoardState) (f : Found) → Gives (PlaysOn f) program b → f.total ≡ length f.list
    → HasOther f.list (all_failures program b) → ⊥
gives_no_other program b f gives whole h =
    let all = all_failures program b in
    let list : take 256 all ≡ f.list = ap (λ (x : Found). x.list) gives in
    let total : length all ≡ f.total = ap (λ (x : Found). x.total) gives in
    let same : all ≡ f.list = sym (all-taken 256 all (ap (λ (l : List Mismatch). length l) list ∙ sym whole ∙ sym total)) ∙ list in
    h.missing (subst (IsAmong h.other) same h.there)

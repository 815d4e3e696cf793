-- Names in any case.
use Rattle.std.proofs.Common.{◌≡◌, ℕ, Bool, nat_eq, ◌&&◌, [], ◌∷◌, refl, ap, arith}
use Rattle.std.specs.Char.{to_ascii_uppercase, eq_ignore_ascii_case}
use Rattle.std.proofs.lemmas.Bool.Decides.{nat_tests}
use Rattle.bsdl_text.specs.Laws.{NamesMatchInAnyCase}

-- two bytes are the same letter, or the same byte
same_letter : (c d : ℕ) → eq_ignore_ascii_case c d ≡ nat_eq (to_ascii_uppercase c) (to_ascii_uppercase d)
same_letter c d = grind (arith, nat_tests)

-- equal tests of the first bytes and of the rest
pub names_match_in_any_case : NamesMatchInAnyCase
names_match_in_any_case [] [] = refl
names_match_in_any_case [] (d ∷ ds) = refl
names_match_in_any_case (c ∷ cs) [] = refl
names_match_in_any_case (c ∷ cs) (d ∷ ds) =
    rw (same_letter c d) (ap (λ (b : Bool). nat_eq (to_ascii_uppercase c) (to_ascii_uppercase d) && b) (names_match_in_any_case cs ds))

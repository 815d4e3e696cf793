-- Lengths of patterns of the code.
use Rattle.std.proofs.Common.{◌≡◌, ◌<◌, ◌^◌, ℕ, Box, Global, Bool, true, false, ◌&&◌, List, [], ◌∷◌, length, map, refl, sym, ap, ◌∙◌, arith}
use Rattle.std.specs.Prelude.{Option, Some, None, option_map, not}
use Rattle.std.specs.List.{list_all}
use Rattle.std.proofs.lemmas.Bool.Decides.{nat_tests}
use Rattle.std.proofs.lemmas.List.{length-map, length-reverse}
use Rattle.bsdl_values.specs.declared.instructions.patterns.WrittenPattern.{WrittenPattern}
use Rattle.bsdl_values.specs.declared.instructions.names.Instr.{Instr}
use Rattle.bsdl_values.specs.InstructionView as view
use Rattle.bsdl_rules.specs.Lengths.{access_fits, patterns_captured, captures_fit, has_len, is_empty, row_len}
use Rattle.bsdl_values.specs.InstructionValues.{AccessRow}
use Rattle.bsdl_rules.specs.Sizes.{IsSize, captures_are, is_len}

short : (p : WrittenPattern) → length (view.pattern p) < 2 ^ 64
short p =
    let ok = p.digits.ok in
    let small = p.digits.small in
    rw (length-reverse, length-map) (omega arith)

-- a pattern of the code has the length n where it has it as a size
sized : (p : WrittenPattern) (s : Option ℕ) (n : ℕ) → IsSize s n → is_len s (view.pattern p) ≡ has_len n (view.pattern p)
sized p None n is =
    let few = short p in
    grind (arith, nat_tests)
sized p (Some m) n is = ap (λ k. has_len k (view.pattern p)) is.1

pub instr_sized : (i : Instr) (s : Option ℕ) (n : ℕ) → IsSize s n → captures_are s (view.instr i) ≡ captures_fit n (view.instr i)
instr_sized i s n is = by_captures i.captures
  where
    by_captures : (c : Option (Box WrittenPattern Global))
        → list_all (is_len s) (patterns_captured (option_map (λ b. view.pattern b.value) c)) ≡ list_all (has_len n) (patterns_captured (option_map (λ b. view.pattern b.value) c))
    by_captures None = refl
    by_captures (Some b) = ap (λ t. t && true) (sized b.value s n is)

pub all_captures : (is : List Instr) (s : Option ℕ) (n : ℕ) → IsSize s n → list_all (captures_are s) (map view.instr is) ≡ list_all (captures_fit n) (map view.instr is)
all_captures [] s n is = refl
all_captures (i ∷ rest) s n is = rw (instr_sized i s n is, all_captures rest s n is) refl

pub access_by : (n : ℕ) (r : AccessRow) {found : Bool} → is_empty r ≡ false → found ≡ list_all (captures_fit (row_len n r)) r.instrs → found ≡ access_fits n r
access_by n r some fits = fits ∙ sym (ap (λ b. not b && list_all (captures_fit (row_len n r)) r.instrs) some)

-- ---- conjunctions, one part after the other

pub first_fails : (a b : Bool) → a ≡ false → false ≡ (a && b)
first_fails a b fails = rw fails refl

pub rest_is : (a b : Bool) → a ≡ true → b ≡ (a && b)
rest_is a b holds = rw holds refl

-- What stands at the front of a text: a run, or a line.
use Rattle.std.proofs.Common.{◌≡◌, ℕ, suc, ◌+◌, Bool, true, false, not, cond, List, [], ◌∷◌, ◌++◌, length, take, drop, refl, sym, ap, ◌∙◌, arith}
use Rattle.std.specs.List.{prefix_len, AllByRecursion}
use Rattle.token_runs.specs.Bytes.{is_line_end}
use Rattle.token_runs.specs.Runs.{Ends, AllPass, EndsLine, IsInLine}

-- all of a front passes, and what follows it does not begin with more that passes
pub prefix_len-append : (p : ℕ → Bool) (body after : List ℕ) → AllPass p body → Ends p after → prefix_len p (body ++ after) ≡ length body
prefix_len-append p [] [] all ends = refl
prefix_len-append p [] (c ∷ after) all ends = rw ends refl
prefix_len-append p (c ∷ body) after all ends =
    let here : p c ≡ true = all.0 in
    let one : 1 + prefix_len p (body ++ after) ≡ suc (prefix_len p (body ++ after)) = omega arith in
    rw here (one ∙ ap suc (prefix_len-append p body after all.1 ends))

-- the longest front that passes
module _ (p : ℕ → Bool) where
  prefix_cases : (c : ℕ) (cs : List ℕ) (b : Bool) → p c ≡ b → AllPass p (take (prefix_len p cs) cs) → AllPass p (take (cond b (1 + prefix_len p cs) 0) (c ∷ cs))
  prefix_cases c cs true here more = let one : 1 + prefix_len p cs ≡ suc (prefix_len p cs) = omega arith in rw one (here, more)
  prefix_cases c cs false here more = tt

  pub prefix_passes : (cs : List ℕ) → AllPass p (take (prefix_len p cs) cs)
  prefix_passes [] = tt
  prefix_passes (c ∷ cs) = prefix_cases c cs (p c) refl (prefix_passes cs)

  ends_cases : (c : ℕ) (cs : List ℕ) (b : Bool) → p c ≡ b → Ends p (drop (prefix_len p cs) cs) → Ends p (drop (cond b (1 + prefix_len p cs) 0) (c ∷ cs))
  ends_cases c cs true here more = let one : 1 + prefix_len p cs ≡ suc (prefix_len p cs) = omega arith in rw one more
  ends_cases c cs false here more = here

  pub prefix_ends : (cs : List ℕ) → Ends p (drop (prefix_len p cs) cs)
  prefix_ends [] = tt
  prefix_ends (c ∷ cs) = ends_cases c cs (p c) refl (prefix_ends cs)

-- ---- lines

abbrev pub is_in_line : ℕ → Bool
is_in_line c = not (is_line_end c)

pub pass_in_line : (bytes : List ℕ) → AllByRecursion IsInLine bytes → AllPass is_in_line bytes
pass_in_line [] all = tt
pass_in_line (c ∷ bytes) all = let here : is_line_end c ≡ false = all.0 in (rw here refl, pass_in_line bytes all.1)

pub ends_in_line : (after : List ℕ) → EndsLine after → Ends is_in_line after
ends_in_line [] ends = tt
ends_in_line (c ∷ after) ends = let here : is_line_end c ≡ true = ends in rw here refl

not-true : (b : Bool) → not b ≡ true → b ≡ false
not-true true e = sym e
not-true false e = refl

not-false : (b : Bool) → not b ≡ false → b ≡ true
not-false true e = refl
not-false false e = sym e

pub all_in_line : (bytes : List ℕ) → AllPass is_in_line bytes → AllByRecursion IsInLine bytes
all_in_line [] all = tt
all_in_line (c ∷ bytes) all = (not-true (is_line_end c) all.0, all_in_line bytes all.1)

pub line_ends : (after : List ℕ) → Ends is_in_line after → EndsLine after
line_ends [] ends = tt
line_ends (c ∷ after) ends = not-false (is_line_end c) ends

-- One statement more of a text, of which not all are kept.
use Rattle.std.proofs.Common.{◌≡◌, ℕ, suc, ◌+◌, ◌<◌, ◌≤◌, List, [], ◌∷◌, ◌++◌, Some, None, Result, Ok, Err, refl, sym, ap, ◌∙◌, arith}
use Rattle.svf_words.specs.Words.{Word, Groups, last, group}
use Rattle.svf_lex.specs.declared.LexFault.{LexFault}
use Rattle.svf_words.specs.declared.fault.SvfFault.{SvfFault}
use Rattle.svf_parse.specs.Judging.{Said}
use Rattle.svf_parse.specs.Reading.{groups_say, at_statement, within_limit, statement_says, lex_code}
use Rattle.svf_parse.specs.View.{from_words}
use Rattle.svf_parse.proofs.Grouping.{in_front, in_front-nil, group_count, empty_group, said_group, at_last, at_broken}

-- groups without words say nothing, and are no more groups
pub words_say : (n : ℕ) (groups : Groups) → groups_say n (from_words groups) ≡ groups_say n groups
words_say n (last ws fault) = refl
words_say n (group [] groups) = words_say n groups ∙ sym (empty_group n [] groups refl)
words_say n (group (w ∷ ws) groups) = refl

fewer : (groups : Groups) → group_count (from_words groups) ≤ group_count groups
fewer (last ws fault) = omega arith
fewer (group [] groups) = omega (arith, fewer groups)
fewer (group (w ∷ ws) groups) = omega arith

-- the groups of one place say what those of another do that have the same words
pub same_words : (n : ℕ) (one other : Groups) → from_words one ≡ from_words other → groups_say n one ≡ groups_say n other
same_words n one other e = sym (words_say n one) ∙ ap (groups_say n) e ∙ words_say n other

pub broken_next : (n : ℕ) (one groups : Groups) (e : LexFault) → from_words one ≡ from_words groups → groups ≡ last [] (Some e)
    → groups_say n one ≡ Err (record { statement = n; code = lex_code e })
broken_next n one groups e same is = same_words n one groups same ∙ ap (groups_say n) is ∙ sym (in_front-nil (groups_say n (last [] (Some e)))) ∙ at_broken [] n [] e

module _ (groups : Groups) where
  module _ (w : Word) (ws : List Word) (after : Groups) (is : from_words groups ≡ group (w ∷ ws) after) where
    pub fewer_behind : group_count after < group_count groups
    fewer_behind =
        let count : group_count (from_words groups) ≡ suc (group_count after) = ap group_count is in
        omega (arith, count, fewer groups)

    -- what was read before the statement, and it
    pub next_said : (front : List Said) (n : ℕ) (s : Said) (total : Result (List Said) SvfFault) → in_front front (groups_say n groups) ≡ total
        → at_statement n (within_limit n (statement_says (w ∷ ws))) ≡ Ok s → in_front (front ++ s ∷ []) (groups_say (n + 1) after) ≡ total
    next_said front n s total so_far says =
        sym (said_group front n (w ∷ ws) after s (λ e. cc) says) ∙ ap (λ (p : Groups). in_front front (groups_say n p)) (sym is)
        ∙ ap (in_front front) (words_say n groups) ∙ so_far

  pub none_next : (front : List Said) (n : ℕ) (total : Result (List Said) SvfFault) → in_front front (groups_say n groups) ≡ total
      → from_words groups ≡ last [] None → total ≡ Ok front
  none_next front n total so_far is =
      sym so_far ∙ sym (ap (in_front front) (words_say n groups)) ∙ ap (λ (p : Groups). in_front front (groups_say n p)) is ∙ at_last front n []

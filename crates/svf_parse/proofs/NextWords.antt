-- One word on in a statement.
use Rattle.std.proofs.Common.{◌≡◌, ◌≤◌, List, [], ◌∷◌, ◌++◌, length, Bor, Option, Some, None, MatchOption, Result, refl, sym, ap, ◌∙◌, arith}
use Rattle.svf_lex.specs.declared.LexFault.{LexFault}
use Rattle.svf_lex.specs.declared.Lexer.{Lexer}
use Rattle.svf_lex.specs.Cutting.{Lexeme}
use Rattle.svf_lex.specs.Left.{left}
use Rattle.svf_words.specs.Words.{Word, Groups, last, group, with_word, groups_of, first_words, words_left}
use Rattle.svf_parse.specs.Ahead.{GoesOn}
use Rattle.svf_parse.specs.Behind.{with_words, Behind}

abbrev Items : Type 0
Items = List (Result Lexeme LexFault)

with_words-push : (ws : List Word) (w : Word) (groups : Groups) → with_words (ws ++ w ∷ []) groups ≡ with_words ws (with_word w groups)
with_words-push [] w groups = refl
with_words-push (x ∷ ws) w groups = ap (with_word x) (with_words-push ws w groups)

pub behind_none : (items : Items) → Behind items items
behind_none items = ([], refl)

pub behind_word : (from items more : Items) (w : Word) → groups_of items ≡ with_word w (groups_of more) → Behind from items → Behind from more
behind_word from items more w split so_far =
    (so_far.0 ++ w ∷ [], so_far.1 ∙ ap (with_words so_far.0) split ∙ sym (with_words-push so_far.0 w (groups_of more)))

pub behind_same : (from items same : Items) → same ≡ items → Behind from items → Behind from same
behind_same from items same is so_far = (so_far.0, so_far.1 ∙ ap (λ (i : Items). with_words so_far.0 (groups_of i)) (sym is))

-- the same, whichever was found
pub behind_take : (from items more : Items) (o : Option (Bor Word)) → MatchOption o (more ≡ items) (λ w. groups_of items ≡ with_word w.now (groups_of more)) → Behind from items → Behind from more
behind_take from items more None is so_far = behind_same from items more is so_far
behind_take from items more (Some w) split so_far = behind_word from items more w.now split so_far

with_words-append : (ws xs : List Word) (groups : Groups) → with_words (ws ++ xs) groups ≡ with_words ws (with_words xs groups)
with_words-append [] xs groups = refl
with_words-append (w ∷ ws) xs groups = ap (with_word w) (with_words-append ws xs groups)

pub goes_both : (from mid to : Groups) → GoesOn from mid → GoesOn mid to → GoesOn from to
goes_both from mid to a b = (a.0 ++ b.0, a.1 ∙ ap (with_words a.0) b.1 ∙ sym (with_words-append a.0 b.0 to))

pub behind_both : (from mid to : Items) → Behind from mid → Behind mid to → Behind from to
behind_both from mid to a b = goes_both (groups_of from) (groups_of mid) (groups_of to) a b

first_of : (w : Word) (groups : Groups) → first_words (with_word w groups) ≡ w ∷ first_words groups
first_of w (last ws fault) = refl
first_of w (group ws groups) = refl

fewer : (ws : List Word) (groups : Groups) → length (first_words groups) ≤ length (first_words (with_words ws groups))
fewer [] groups = omega arith
fewer (w ∷ ws) groups = omega (arith, ap length (first_of w (with_words ws groups)), fewer ws groups)

-- no more words are left behind
pub behind_fewer : (l m : Lexer) → Behind (left l) (left m) → length (words_left m) ≤ length (words_left l)
unfolding words_left
behind_fewer l m b = omega (arith, ap (λ (g : Groups). length (first_words g)) b.1, fewer b.0 (groups_of (left m)))

-- Words of a statement that are cut before it is known what they are.
use Rattle.std.specs.Prelude.{◌≡◌, List, [], ◌∷◌}
use Rattle.svf_lex.specs.Left.{left}
use Rattle.svf_words.specs.Words.{Word, Groups, with_word, groups_of, words_left}
use Rattle.svf_parse.specs.Behind.{with_words}
use Rattle.svf_parse.specs.declared.run_test.Ahead.{Ahead}
use Rattle.svf_parse.specs.declared.run_test.Ahead.TheVariants as ahead

-- these words and those behind them, up to the `;`
abbrev pub words_ahead : Ahead → List Word
words_ahead (ahead.Over l) = []
words_ahead (ahead.One w l) = w.now ∷ []
words_ahead (ahead.Two w x l) = w.now ∷ x.now ∷ words_left l

-- the same, and what follows
abbrev pub groups_ahead : Ahead → Groups
groups_ahead (ahead.Over l) = groups_of (left l)
groups_ahead (ahead.One w l) = with_word w.now (groups_of (left l))
groups_ahead (ahead.Two w x l) = with_word w.now (with_word x.now (groups_of (left l)))

-- some words of a statement, and then the others
abbrev pub GoesOn : Groups → Groups → Type 0
GoesOn from to = (ws : List Word) × (from ≡ with_words ws to)

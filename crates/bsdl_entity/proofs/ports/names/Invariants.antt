use Rattle.std.proofs.Common.{◌≡◌, ℕ, ◌≤◌, ◌<◌, length, map}
use Rattle.bsdl_text.specs.Left.{left}
use Rattle.bsdl_text.specs.Reading.{word, chain, joined_by}
use Rattle.bsdl_text.specs.WordView.{word_lexeme}
use Rattle.bsdl_text.proofs.ListLaws.{prepend}
use Rattle.bsdl_entity.proofs.ports.names.Given as goal

-- the names so far, and what is read behind them, are the list
abbrev pub invariant-names : goal.invariant-names
invariant-names l =
    (n : ℕ) × (length (left l.rest) ≤ n) × (length (left l.rest) < length (left l.lexer))
    × (joined_by word 44 (left l.lexer) ≡ prepend (map word_lexeme l.all.items) (chain word 44 n (left l.rest)))

abbrev pub decreases-names : goal.decreases-names
decreases-names l = length (left l.rest)

use Rattle.std.proofs.Common.{◌≡◌, ℕ, ◌≤◌, ◌<◌, length, map}
use Rattle.bsdl_text.specs.Left.{left}
use Rattle.bsdl_text.specs.Reading.{further, separated}
use Rattle.bsdl_text.specs.View.{closes}
use Rattle.bsdl_text.proofs.ListLaws.{prepend}
use Rattle.bsdl_text.proofs.lists.listed.Given as goal

-- the entries so far, and what is read behind them, are the list
abbrev pub invariant-entries : goal.invariant-entries
invariant-entries g l =
    (n : ℕ) × (length (left l.rest) ≤ n) × (length (left l.rest) < length (left l.lexer))
    × (separated g.E.Entry.says l.separator (closes l.close) (left l.lexer)
    ≡ prepend (map g.E.Entry.seen l.all.items) (further g.E.Entry.says l.separator (closes l.close) n (left l.rest)))

abbrev pub decreases-entries : goal.decreases-entries
decreases-entries g l = length (left l.rest)

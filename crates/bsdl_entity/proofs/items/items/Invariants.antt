use Rattle.std.proofs.Common.{◌≡◌, ℕ, ◌≤◌, length, map}
use Rattle.bsdl_text.specs.Left.{left}
use Rattle.bsdl_text.proofs.ListLaws.{prepend}
use Rattle.bsdl_entity.specs.Entity.{items}
use Rattle.bsdl_entity.specs.GivenView.{first_unsaid, given}
use Rattle.bsdl_values.specs.View.{judged}
use Rattle.bsdl_entity.specs.PortsView.{ports}
use Rattle.bsdl_entity.specs.Scalars.{is_scalar}
use Rattle.bsdl_entity.proofs.items.items.Given as goal

-- what was said so far, and what is said behind it, are the whole
abbrev pub invariant-items : goal.invariant-items
invariant-items l =
    (n : ℕ) × (length (left l.rest) ≤ n) × (length (left l.rest) ≤ length (left l.lexer))
    × (items (is_scalar (ports l.groups)) (length (left l.lexer)) (left l.lexer) ≡ judged (first_unsaid l.all.items) (prepend (map given l.all.items) (items (is_scalar (ports l.groups)) n (left l.rest))))
    × (l.scalars.groups.now ≡ l.groups)

abbrev pub decreases-items : goal.decreases-items
decreases-items l = length (left l.rest)

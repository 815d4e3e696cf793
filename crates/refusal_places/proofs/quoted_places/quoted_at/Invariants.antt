use Rattle.std.proofs.Common.{◌≡◌, false, length}
use Rattle.bsdl_text.specs.Cutting.{cuts_of, tokens}
use Rattle.bsdl_text.specs.Left.{left}
use Rattle.refusal_places.specs.QuotedPlaces.{quoted_at}
use Rattle.refusal_places.proofs.quoted_places.quoted_at.Given as goal

abbrev pub invariant-tokens : goal.invariant-tokens
invariant-tokens l = quoted_at l.place (left l.rest) ≡ quoted_at l.place (tokens (cuts_of false l.text))

abbrev pub decreases-tokens : goal.decreases-tokens
decreases-tokens l = length (left l.rest)

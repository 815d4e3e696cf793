use Rattle.std.proofs.Common.{◌≡◌, length}
use Rattle.bsdl_text.specs.Left.{left}
use Rattle.refusal_places.specs.QuotedPlaces.{place_in}
use Rattle.refusal_places.proofs.quoted_places.place_in.Given as goal

abbrev pub invariant-strings : goal.invariant-strings
invariant-strings l = place_in l.within (left l.rest) ≡ place_in l.offset (left l.strings)

abbrev pub decreases-strings : goal.decreases-strings
decreases-strings l = length (left l.rest)

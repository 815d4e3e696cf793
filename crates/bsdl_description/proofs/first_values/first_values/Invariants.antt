use Rattle.std.proofs.Common.{◌≡◌, map, drop}
use Rattle.std.specs.Option.{option_or}
use Rattle.bsdl_values.specs.declared.Attribute.{Attribute}
use Rattle.bsdl_entity.specs.GivenView.{first_unsaid, given}
use Rattle.bsdl_description.specs.FirstValues.{value_given}
use Rattle.bsdl_description.specs.FirstView.{kept}
use Rattle.bsdl_description.proofs.first_values.first_values.Given as goal

-- what was given so far counts before what is given behind it
abbrev pub invariant-loop-giving : goal.invariant-loop-giving
invariant-loop-giving l =
    (first_unsaid l.given ≡ first_unsaid (drop l.giving-index l.given))
    × ((a : Attribute) → value_given a (map given l.given) ≡ option_or (kept l.firsts.items a) (value_given a (map given (drop l.giving-index l.given))))

-- Where the words stand that tell what is at fault.
use Rattle.std.specs.Prelude.{Bool, if◌then◌else◌, List, [], ◌∷◌, Option, None, option_map}
use Rattle.std.specs.Option.{option_or}
use Rattle.std.specs.List.{find}
use Rattle.bsdl_values.specs.declared.Attribute.{Attribute}
use Rattle.bsdl_entity.specs.Entity.{Given}
use Rattle.bsdl_description.specs.FirstValues.{is_attribute}
use Rattle.bsdl_sizes.specs.declared.spots.Spot.{Spot}
use Rattle.bsdl_sizes.specs.declared.spots.Spot.TheVariants.{Outside}

-- the name of an attribute, where it is first given
abbrev pub attribute_spot : List Given → Attribute → Option Spot
attribute_spot gs a = option_map (λ g. Outside g.name.start) (find (λ g. is_attribute a g.attribute) gs)

-- that, where something does not fit
abbrev pub unless_fits : Bool → Option Spot → Option Spot
unless_fits fits spot = if fits then None else spot

abbrev pub first_spot : List (Option Spot) → Option Spot
first_spot [] = None
first_spot (s ∷ ss) = option_or s (first_spot ss)

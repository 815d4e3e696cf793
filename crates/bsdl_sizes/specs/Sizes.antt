-- The word that tells what of a refused description is too long or too short.
use Rattle.std.specs.Prelude.{ℕ, List, Option, Some, None, option_and_then, Result, Ok, Err}
use Rattle.bsdl_description.specs.Describing.{Refusal, Description, described, ◌>>?◌}
use Rattle.bsdl.specs.Form.{text_form}
use Rattle.bsdl_sizes.specs.declared.spots.Spot.{Spot}
use Rattle.bsdl_sizes.specs.declared.sizes.Refused.{Refused}
use Rattle.bsdl_sizes.specs.declared.sizes.Refused.TheVariants as refused
use Rattle.bsdl_sizes.specs.Lengths.{length_spot}
use Rattle.bsdl_sizes.specs.Limits.{limit_spot}

-- by the refusal
abbrev pub refused_spot : Refused → Description → Option Spot
refused_spot refused.BadLength d = length_spot d
refused_spot refused.TooLarge d = limit_spot d

abbrev pub when_ok : Result Description Refusal → Option Description
when_ok (Ok d) = Some d
when_ok (Err e) = None

-- what a text describes; nothing where it is too long
abbrev pub description_of : List ℕ → Option Description
description_of text = when_ok (text_form text >>? described)

-- of a refused text the word that tells what is too long or too short
abbrev pub spot_at_fault : Refused → List ℕ → Option Spot
spot_at_fault r text = option_and_then (refused_spot r) (description_of text)

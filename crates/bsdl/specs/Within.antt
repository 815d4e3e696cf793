-- Which descriptions lie within limits, and that nothing else of the limits decides what a text says.
use Rattle.std.specs.Prelude.{◌≡◌, ℕ, ◌≤◌, true, List, length, Result, Ok}
use Rattle.jt_limits.specs.declared.Limits.{Limits}
use Rattle.jt_limits.specs.Limits.{IsAtMost}
use Rattle.bsdl_device.specs.Device.{Device}
use Rattle.bsdl_description.specs.Describing.{Description, Refusal, described, ◌>>?◌}
use Rattle.bsdl_rules.specs.Limits.{keeps}
use Rattle.bsdl.specs.Form.{text_form_within}
use Rattle.bsdl.specs.Judging.{text_says_within}

-- what a text describes, before it is judged
abbrev pub describes_within : Limits → List ℕ → Result Description Refusal
describes_within l text = text_form_within l text >>? described

-- the text of this description lies within these limits
pub record DescribedWithin (l : Limits) (text : List ℕ) (d : Description) : Type 0 where
  pub bytes : length text ≤ l.description_bytes
  pub numbers : keeps l d ≡ true

-- a text that says a device within limits lies within them
abbrev pub SaidIsWithin : Type 0
SaidIsWithin = (l : Limits) (text : List ℕ) (v : Device) → text_says_within l text ≡ Ok v
    → (d : Description) × (describes_within l text ≡ Ok d) × DescribedWithin l text d

-- what is said within some limits and lies within others is said within those
abbrev pub WhatLiesWithinIsSaid : Type 0
WhatLiesWithinIsSaid = (a b : Limits) (text : List ℕ) (v : Device) (d : Description) → text_says_within b text ≡ Ok v
    → describes_within b text ≡ Ok d → DescribedWithin a text d → text_says_within a text ≡ Ok v

-- what is said within limits is said within larger ones
abbrev pub LargerLimitsSayMore : Type 0
LargerLimitsSayMore = (a b : Limits) → IsAtMost a b → (text : List ℕ) (v : Device) → text_says_within a text ≡ Ok v
    → text_says_within b text ≡ Ok v

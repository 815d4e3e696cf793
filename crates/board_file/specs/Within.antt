-- Which boards lie within limits, and that nothing else of the limits decides what a board file makes.
use Rattle.std.specs.Prelude.{⊤}
use Rattle.std.specs.Prelude.{◌≡◌, ℕ, ◌≤◌, List, length, Option, Some, None, Ok}
use Rattle.std.specs.List.{AllByRecursion}
use Rattle.jt_limits.specs.declared.Limits.{Limits}
use Rattle.toml.specs.Data.{Members}
use Rattle.bsdl_device.specs.Device.{Device}
use Rattle.board_tables.specs.Files.{file_names}
use Rattle.board_parts.specs.Files.{File, text_of}
use Rattle.board_plan.specs.Planned.{Wiring}
use Rattle.board_file.specs.Wiring.{makes_within}

-- the devices and nets of a board are no more than these limits say
pub record WiringWithin (l : Limits) (w : Wiring) : Type 0 where
  pub devices : length w.members ≤ l.devices
  pub nets : length w.nets ≤ l.nets

-- a device that a text says is said by another reader of descriptions too
abbrev pub SaysToo : (says other : List ℕ → Option Device) → Option (List ℕ) → Type 0
SaysToo says other None = ⊤
SaysToo says other (Some text) = (d : Device) → says text ≡ Some d → other text ≡ Some d

-- so is each one that the table names
abbrev pub SaysNamed : (says other : List ℕ → Option Device) → List File → Members → Type 0
SaysNamed says other files t = AllByRecursion (λ name. SaysToo says other (text_of files name)) (file_names t)

-- a board that is made within limits lies within them
abbrev pub MadeIsWithin : Type 0
MadeIsWithin = (l : Limits) (says : List ℕ → Option Device) (files : List File) (t : Members) (w : Wiring)
    → makes_within l says files t ≡ Ok w → WiringWithin l w

-- a board that is made within some limits and lies within others is made within those, by each reader that says the
-- same of the descriptions that it names
abbrev pub WhatLiesWithinIsMade : Type 0
WhatLiesWithinIsMade = (a b : Limits) (says other : List ℕ → Option Device) (files : List File) (t : Members)
    (w : Wiring) → SaysNamed says other files t → makes_within b says files t ≡ Ok w → WiringWithin a w
    → makes_within a other files t ≡ Ok w

-- What a board file and its descriptions make within limits hangs on them only by whether it lies within them. Whether
-- a string is on a loop is a matter of the wiring alone.
use Rattle.std.specs.Prelude.{⊤}
use Rattle.std.specs.Prelude.{◌≡◌, ℕ, List, Option, Some, None, Ok}
use Rattle.std.specs.List.{AllByRecursion}
use Rattle.jt_limits.specs.declared.Limits.{Limits}
use Rattle.jt_limits.specs.Limits.{IsAtMost, earlier_limits}
use Rattle.toml.specs.Data.{Members}
use Rattle.bsdl.specs.Describing.{Description}
use Rattle.bsdl.specs.Within.{DescribedWithin, describes_within}
use Rattle.board_tables.specs.Files.{file_names}
use Rattle.board_parts.specs.Files.{File, text_of}
use Rattle.board_file.specs.Wiring.{makes, makes_within}
use Rattle.board_file.specs.Within.{WiringWithin}
use Rattle.board_plan.specs.Planned as planned
use Rattle.jt_board.specs.FromText.{said_device, said_device_within}

-- the table and the files make this board within limits
abbrev pub MakesWithin : Limits → List File → Members → planned.Wiring → Type 0
MakesWithin l files t w = makes_within l (said_device_within l) files t ≡ Ok w

-- what a file describes within the limits b lies within a
abbrev pub FileWithin : (a b : Limits) → Option (List ℕ) → Type 0
FileWithin a b None = ⊤
FileWithin a b (Some text) = (d : Description) → describes_within b text ≡ Ok d → DescribedWithin a text d

-- so does each file that the table names
abbrev pub FilesWithin : (a b : Limits) → List File → Members → Type 0
FilesWithin a b files t = AllByRecursion (λ name. FileWithin a b (text_of files name)) (file_names t)

-- a board that is made within limits is made the same within larger ones
abbrev pub LargerLimitsMakeTheSame : Type 0
LargerLimitsMakeTheSame = (a b : Limits) → IsAtMost a b → (files : List File) (t : Members) (w : planned.Wiring)
    → MakesWithin a files t w → MakesWithin b files t w

-- a board that is made within some limits and lies within others, with its descriptions, is made the same within those
abbrev pub WhatLiesWithinIsTheSame : Type 0
WhatLiesWithinIsTheSame = (a b : Limits) (files : List File) (t : Members) (w : planned.Wiring)
    → MakesWithin b files t w → WiringWithin a w → FilesWithin a b files t → MakesWithin a files t w

-- each board that the earlier limits made is made the same
abbrev pub EarlierBoardsAreMade : Type 0
EarlierBoardsAreMade = (files : List File) (t : Members) (w : planned.Wiring) → MakesWithin earlier_limits files t w
    → makes said_device files t ≡ Ok w

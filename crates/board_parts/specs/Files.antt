-- What the files that are handed in describe. A description stands in a file; `says` is the device that a text
-- describes, None where the text is refused.
use Rattle.std.specs.Prelude.{ℕ, List, [], ◌∷◌, filter_map, codes, bytes_eq, is_none, is_some, position}
use Rattle.std.specs.Option.{option_or}
use Rattle.std.specs.Prelude.{option_map, option_and_then, Option, Some, None}
use Rattle.std.specs.Prelude.{if◌then◌else◌}
use Rattle.std.specs.List.{find}
use Rattle.toml.specs.Data.{Members}
use Rattle.bsdl_device.specs.Device.{Device}
use Rattle.board_tables.specs.Fields.{text_at}

-- its name and its text
abbrev pub File : Type 0
File = List ℕ × List ℕ

-- Of two files of one name the first counts.
abbrev pub text_of : List File → List ℕ → Option (List ℕ)
text_of files name = option_map (λ f. f.1) (find (λ (f : File). bytes_eq name f.0) files)

-- what the file of this name describes
abbrev pub described : (List ℕ → Option Device) → List File → List ℕ → Option Device
described says files name = option_and_then says (text_of files name)

-- what is described of a device of the board file
abbrev pub device_at : (List ℕ → Option Device) → List File → Members → Option Device
device_at says files t = option_and_then (described says files) (text_at (codes "bsdl") t)

abbrev pub devices_of : (List ℕ → Option Device) → List File → List Members → List Device
devices_of says files ts = filter_map (device_at says files) ts

-- ---- missing and refused ones

-- the first name that no file has
abbrev pub missing_in : List File → List (List ℕ) → Option (List ℕ)
missing_in files [] = None
missing_in files (name ∷ names) = elim (text_of files name) [ None ↦ Some name | Some text ↦ missing_in files names ]

-- a text, where it is refused
abbrev pub refused : (List ℕ → Option Device) → List ℕ → Option (List ℕ)
refused says text = if is_none (says text) then Some text else None

-- the text of the first name whose file is refused
abbrev pub refused_in : (List ℕ → Option Device) → List File → List (List ℕ) → Option (List ℕ)
refused_in says files [] = None
refused_in says files (name ∷ names) =
    option_or (option_and_then (refused says) (text_of files name)) (refused_in says files names)

-- its place among the names
abbrev pub refused_place : (List ℕ → Option Device) → List File → List (List ℕ) → Option ℕ
refused_place says files names = position (λ name. is_some (option_and_then (refused says) (text_of files name))) names

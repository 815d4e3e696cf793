-- Which description a refusal is of.
use Rattle.std.specs.Prelude.{◌≡◌, ℕ, List, Option, Some, None}
use Rattle.toml.specs.Data.{Members}
use Rattle.bsdl_device.specs.Device.{Device}
use Rattle.board_tables.specs.Files.{file_names}
use Rattle.board_tables.specs.declared.fault.BoardFault.{BoardFault}
use Rattle.board_tables.specs.declared.fault.BoardFault.TheVariants as fault
use Rattle.board_parts.specs.Files.{File, refused_place}
use Rattle.board_file.specs.declared.refused.Refused.{Refused}

-- A text is refused for this reason, and the place is that of the first name whose file is refused.
abbrev pub RefusesAt : {F : Type 0} → (says : List ℕ → Option Device) → (refuses : List ℕ → F → Type 0) → List File
    → Members → List ℕ → Refused F → Type 0
RefusesAt says refuses files t text r =
    refuses text r.fault × (refused_place says files (file_names t) ≡ Some r.place)

-- the refusal as it is told
abbrev pub unplaced : {F : Type 0} → BoardFault (Refused F) → BoardFault F
unplaced fault.BadToml = fault.BadToml
unplaced (fault.BadField k) = fault.BadField k
unplaced (fault.UnknownFile s) = fault.UnknownFile s
unplaced (fault.Bsdl r) = fault.Bsdl r.fault
unplaced (fault.UnknownPin s) = fault.UnknownPin s
unplaced (fault.PinTwice s) = fault.PinTwice s
unplaced fault.TooLarge = fault.TooLarge
unplaced fault.NoMemory = fault.NoMemory
unplaced (fault.CoreLoop s) = fault.CoreLoop s

-- and the place of the description that is refused
abbrev pub place_in : {F : Type 0} → BoardFault (Refused F) → Option ℕ
place_in (fault.Bsdl r) = Some r.place
place_in _ = None

-- The cells of a device that capture what their port sees, each with its port and its net.
use Rattle.std.specs.Prelude.{◌≡◌, ◌<◌, ℕ, suc, List, [], ◌∷◌, slice_index_or, Option, Some, None}
use Rattle.bsdl_device.specs.declared.Cell.{Cell}
use Rattle.boundary.specs.Masks.{sighted_port}
use Rattle.board_chips.specs.declared.sighted.SightedCell.{SightedCell}
use Rattle.board_chips.specs.WiredChips.{WiredChipValue}

-- cell k on this net before the others, if there is a port whose sight it captures
abbrev pub with_sighted : ℕ → (net port : Option ℕ) → List SightedCell → List SightedCell
with_sighted k net None rest = rest
with_sighted k net (Some p) rest = record { cell = k; port = p; net = net } ∷ rest

-- those among the cells from cell k on
abbrev pub sighted_from : ℕ → (nets : List (Option ℕ)) → List Cell → List SightedCell
sighted_from k nets [] = []
sighted_from k nets (c ∷ cs) =
    with_sighted k (slice_index_or nets k None) (sighted_port c.port c.function) (sighted_from (suc k) nets cs)

abbrev pub sighted_of : WiredChipValue → List SightedCell
sighted_of s = sighted_from 0 s.nets s.chip.device.cells

-- a net, if there is one, is one of so many
abbrev pub IsBelow : ℕ → Option ℕ → Type 0
IsBelow n net = (k : ℕ) → net ≡ Some k → k < n

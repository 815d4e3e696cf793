-- The whole boundary's capture by what the ports see, as the board's meaning has it.
use Rattle.std.specs.Prelude.{⊤}
use Rattle.std.specs.Prelude.{◌≡◌, Bool, ℕ, suc, false, List, [], ◌∷◌, length, Option, Some, None}
use Rattle.jt_bits.specs.Words.{bit_of}
use Rattle.bsdl_device.specs.declared.Cell.{Cell}
use Rattle.chip_registers.specs.Mode.{Mode}
use Rattle.boundary.specs.Cells.{BoundaryValue, captured_bits, cell_captures, takes_update}

-- what the port of a cell sees; a cell without one sees nothing
abbrev pub seen_at : (ℕ → Bool) → Option ℕ → Bool
seen_at sees (Some p) = sees p
seen_at sees None = false

-- from cell k on
abbrev pub capture_by_sight : (ℕ → Bool) → Bool → (update core : List Bool) → ℕ → List Cell → List Bool
capture_by_sight sees from_update update core k [] = []
capture_by_sight sees from_update update core k (c ∷ cs) =
    cell_captures (seen_at sees c.port) from_update (bit_of update k) (bit_of core k) c.port c.function
    ∷ capture_by_sight sees from_update update core (suc k) cs

-- each cell with a port was told what its port sees
abbrev pub SeesItsPorts : (ℕ → Bool) → List Cell → List Bool → Type 0
SeesItsPorts sees (c ∷ cs) (s ∷ seen) = ((p : ℕ) → c.port ≡ Some p → s ≡ sees p) × SeesItsPorts sees cs seen
SeesItsPorts sees _ _ = ⊤

-- the law: with every cell told, and all lists of the cells' number
abbrev pub CapturesBySight : Type 0
CapturesBySight = (sees : ℕ → Bool) (b : BoundaryValue) (mode : Mode) → length b.seen ≡ length b.cells
    → length b.update ≡ length b.cells → length b.core ≡ length b.cells
    → SeesItsPorts sees b.cells b.seen
    → captured_bits b mode ≡ capture_by_sight sees (takes_update b.extest_update mode) b.update b.core 0 b.cells

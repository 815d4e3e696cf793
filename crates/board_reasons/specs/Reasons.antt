-- Why a bit of a scan failed: what was wanted, and what held the bit that came in its place.
use Rattle.std.specs.Prelude.{Bool, true, false, ℕ, zero, suc, ◌&&◌, ◌==◌, List, [], ◌∷◌, ◌++◌, map, Option, Some}
use Rattle.std.specs.Prelude.{if◌then◌else◌}
use Rattle.jt_tap.specs.declared.Column.{Column}
use Rattle.scan_vectors.specs.declared.part.Part.{Part}
use Rattle.scan_vectors.specs.declared.part.Part.TheVariants.{Header, Data, Trailer}
use Rattle.scan_vectors.specs.declared.failures.Mismatch.{Mismatch}
use Rattle.scan_vectors.specs.Failures.{differing}
use Rattle.scan_vectors.specs.Vector.{VectorBit, tdis}
use Rattle.pin_nets.specs.Wired.{Net}
use Rattle.board_model.specs.Cells.{Member}
use Rattle.board_model.specs.Whole.{AtRest, capture, out, settle}
use Rattle.board_reasons.specs.declared.origins.Reason.{Reason}
use Rattle.board_reasons.specs.Holders.{holder}
use Rattle.board_reasons.specs.Lines.{wanted_line, from_line}

abbrev pub is_same_part : Part → Part → Bool
is_same_part Header Header = true
is_same_part Data Data = true
is_same_part Trailer Trailer = true
is_same_part _ _ = false

-- whether a bit of a vector is this bit of this part
abbrev pub is_bit : Part → ℕ → VectorBit → Bool
is_bit part bit v = is_same_part v.part part && v.place == bit

-- where a bit of a part stands in the whole vector, counted from the bit that goes first
abbrev pub place_in : List VectorBit → Part → ℕ → ℕ
place_in [] part bit = 0
place_in (v ∷ vs) part bit = if is_bit part bit v then zero else suc (place_in vs part bit)

abbrev pub is_one : Option Bool → Bool
is_one (Some true) = true
is_one _ = false

-- the value that is wanted of the bit at a place of a vector
abbrev pub wanted_at : List VectorBit → ℕ → Bool
wanted_at [] k = false
wanted_at (v ∷ vs) zero = is_one v.wanted
wanted_at (v ∷ vs) (suc k) = wanted_at vs k

-- why a wanted bit did not come out of a chain whose registers have captured
abbrev pub reason : List Net → List Member → Column → List VectorBit → Mismatch → Reason
reason nets ms column v f =
    let k = place_in v f.part f.bit in record { wanted = wanted_at v k; holder = holder nets ms column v k }

-- the reasons of all wanted bits that do not come out of a scan from rest
abbrev pub scan_reasons : Column → List VectorBit → AtRest → List Reason
scan_reasons column v m =
    let captured = capture column (settle m) in
    map (reason captured.nets captured.members column v) (differing 0 v (out column (tdis v) captured))

-- the lines of a reason
abbrev pub reason_lines : List Net → List Member → Reason → List ℕ
reason_lines nets ms r = wanted_line r.wanted ++ from_line nets ms r.holder

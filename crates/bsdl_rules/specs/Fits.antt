-- Which boundary cells fit (IEEE Std 1149.1-2001, Annex B.8.14).
use Rattle.std.specs.Prelude.{ℕ, suc, nat_lt, nat_le, ◌==◌, min, max, Bool, true, false, not, ◌&&◌, ◌||◌, is_some}
use Rattle.std.specs.Prelude.{is_none, if◌then◌else◌, List, filter, length, Option, Some, None, option_and_then}
use Rattle.std.specs.List.{list_any, list_all, find, range_with_len, fold}
use Rattle.bsdl_device.specs.Driving.{drives}
use Rattle.bsdl_device.specs.declared.Function.{Function}
use Rattle.bsdl_device.specs.declared.Function.TheVariants.{Bidir, Output2, Output3, Control, ControlR, Internal}
use Rattle.bsdl_device.specs.declared.Control3.{Control3}
use Rattle.bsdl_values.specs.CellRows.{PortName, CellRow}
use Rattle.bsdl_description.specs.Describing.{Description}
use Rattle.bsdl_text.specs.Words.{is_among}
use Rattle.jt_limits.specs.Limits.{subscript_limit}
use Rattle.bsdl_lookup.specs.PortNumbers.{bit_number}
use Rattle.bsdl_lookup.specs.Controls.{is_control}

abbrev pub port_bit : Description → CellRow → Option ℕ
port_bit d r = option_and_then (bit_number 0 d.ports) r.port

-- cells without a port
abbrev pub has_no_port : Function → Bool
has_no_port Control = true
has_no_port ControlR = true
has_no_port Internal = true
has_no_port _ = false

abbrev pub same_bit : Option ℕ → Option ℕ → Bool
same_bit (Some a) (Some b) = a == b
same_bit _ _ = false

-- a cell of a lower number drives the port bit too
abbrev pub is_driven_below : Description → CellRow → Bool
is_driven_below d r =
    list_any (λ s. nat_lt s.number r.number && (drives s.function && same_bit (port_bit d s) (port_bit d r))) d.cells

abbrev pub names_tap : Description → Option PortName → Bool
names_tap d None = false
names_tap d (Some p) = is_among d.taps p.name

-- the port of a row fits its function: `*`, or a port bit that is no TAP's and that no lower cell drives
abbrev pub port_fits : Description → CellRow → Bool
port_fits d r =
    if has_no_port r.function then is_none r.port
    else is_some (port_bit d r) && (not (names_tap d r.port) && not (drives r.function && is_driven_below d r))

abbrev pub is_control_cell : Description → ℕ → Bool
is_control_cell d n = nat_le n subscript_limit && list_any (λ s. s.number == n && is_control s.function) d.cells

abbrev pub control_fits : Description → ℕ → Function → Option Control3 → Bool
control_fits d n Output3 None = false
control_fits d n Output3 (Some c) = is_control_cell d c.cell
control_fits d n Bidir None = false
control_fits d n Bidir (Some c) = is_control_cell d c.cell
control_fits d n Output2 None = true
control_fits d n Output2 (Some c) = c.cell == n || is_control_cell d c.cell
control_fits d n _ c = true

abbrev pub row_fits : Description → CellRow → Bool
row_fits d r = port_fits d r && control_fits d r.number r.function r.control

abbrev pub rows_numbered : Description → ℕ → List CellRow
rows_numbered d k = filter (λ r. r.number == k) d.cells

-- Cell k is fit: below the length it has one row, which fits; from the length on it has none.
abbrev pub is_fit : Description → ℕ → Bool
is_fit d k =
    if nat_lt k d.boundary_length then length (rows_numbered d k) == 1 && list_all (row_fits d) (rows_numbered d k)
    else length (rows_numbered d k) == 0

-- no cell from here on is below the length or listed
abbrev pub cells_end : Description → ℕ
cells_end d = fold (λ n r. max n (suc r.number)) d.boundary_length d.cells

-- the least cell that is not fit, of those up to 65,535
abbrev pub unfit_cell : Description → Option ℕ
unfit_cell d = find (λ k. not (is_fit d k)) (range_with_len 0 (min (suc subscript_limit) (cells_end d)))

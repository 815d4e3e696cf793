-- Cells that control others (IEEE Std 1149.1-2001, Annex B.8.14).
use Rattle.std.specs.Prelude.{ℕ, ◌==◌, Bool, true, false, ◌&&◌}
use Rattle.bsdl_device.specs.declared.Function.{Function}
use Rattle.bsdl_device.specs.declared.Function.TheVariants.{Control, ControlR}
use Rattle.bsdl_values.specs.CellRows.{CellRow}

abbrev pub is_control : Function → Bool
is_control Control = true
is_control ControlR = true
is_control _ = false

-- a row is of a control cell of this number
abbrev pub controls_as : ℕ → CellRow → Bool
controls_as n r = r.number == n && is_control r.function

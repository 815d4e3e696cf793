-- What rows of cells of the code stand for.
use Rattle.std.specs.Prelude.{option_map}
use Rattle.bsdl_text.specs.Words.{upper}
use Rattle.bsdl_text.specs.NumberView.{value}
use Rattle.bsdl_device.specs.declared.Control3.{Control3}
use Rattle.bsdl_values.specs.declared.cells.PortName as declared_port
use Rattle.bsdl_values.specs.declared.cells.Controlling as declared_control
use Rattle.bsdl_values.specs.declared.cells.CellRow as declared_row
use Rattle.bsdl_values.specs.CellRows.{PortName, CellRow}

abbrev pub port_name : declared_port.PortName → PortName
port_name p = record { name = upper p.name.text.now; index = option_map value p.index }

abbrev pub control : declared_control.Controlling → Control3
control c = record { cell = value c.cell; disabling = c.disabling; leaves = c.leaves }

abbrev pub cell_row : declared_row.CellRow → CellRow
cell_row r = record {
  number = value r.number;
  port = option_map port_name r.port;
  function = r.function;
  control = option_map control r.control;
}

-- A small device that a reader of the tests gives: a TAP port, an output that a cell drives, an input, a bus of two
-- bits, a power pin and a port of both directions that a cell drives.
use Rattle.std.specs.Prelude.{ℕ, true, false, List, [], ◌∷◌, ◌++◌, Option, Some, None, codes, bytes_eq}
use Rattle.std.specs.Prelude.{if◌then◌else◌}
use Rattle.bsdl_device.specs.Device.{PortBit, Device}
use Rattle.bsdl_device.specs.Ports.{bits_of}
use Rattle.bsdl_device.specs.declared.PortMode.TheVariants.{In, InOut, Out, Linkage}
use Rattle.bsdl_device.specs.declared.Function.TheVariants.{Bidir, Internal, Output2}
use Rattle.bsdl_device.specs.declared.Cell.{Cell}

abbrev pub small_ports : List PortBit
small_ports =
    [] ++ bits_of (codes "TDI") In true None ++ bits_of (codes "Q") Out false None ++ bits_of (codes "D") In false None
    ++ bits_of (codes "A") In false (Some (2, 2)) ++ bits_of (codes "VCC") Linkage false None
    ++ bits_of (codes "B") InOut false None

abbrev pub small_driver : Cell
small_driver = record { function = Output2; port = Some 1; control = None }

abbrev pub small_both : Cell
small_both = record { function = Bidir; port = Some 6; control = None }

abbrev pub small_cell : Cell
small_cell = record { function = Internal; port = None; control = None }

abbrev pub small_device : Device
small_device = record {
  ports = small_ports;
  instruction_length = 2;
  opcodes = [];
  capture = true ∷ [];
  idcode = None;
  usercode = None;
  cells = small_driver ∷ small_both ∷ small_cell ∷ [];
  private_names = [];
  accesses = [];
  users = [];
  has_trst = false;
}

-- the text `K` describes it; any other is refused
abbrev pub small_says : List ℕ → Option Device
small_says text = if bytes_eq text (codes "K") then Some small_device else None

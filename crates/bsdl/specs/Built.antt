-- The device that a description says (IEEE Std 1149.1-2001, Annex B.8).
use Rattle.std.specs.Prelude.{option_map, slice_get, map}
use Rattle.std.specs.List.{flat_map}
use Rattle.bsdl_device.specs.Device.{Device}
use Rattle.bsdl_device.specs.Opcodes.{x_as_0}
use Rattle.bsdl_description.specs.Describing.{Description}
use Rattle.bsdl_opcodes.specs.ResetOpcode.{opcode}
use Rattle.bsdl_opcodes.specs.Users.{users_of}
use Rattle.bsdl_opcodes.specs.Accesses.{accesses_of_row}
use Rattle.bsdl.specs.Boundary.{port_bits, cells_of}

abbrev pub device : Description → Device
device d = record {
  ports = flat_map (port_bits d.taps) d.ports;
  instruction_length = d.instruction_length;
  opcodes = map opcode d.opcodes;
  capture = x_as_0 d.capture;
  idcode = option_map x_as_0 (slice_get d.idcodes 0);
  usercode = option_map x_as_0 (slice_get d.usercodes 0);
  cells = cells_of d.ports d.cells d.boundary_length;
  private_names = d.private_names;
  accesses = flat_map (accesses_of_row (users_of d.accesses)) d.accesses;
  users = map (λ u. u.1) (users_of d.accesses);
  has_trst = d.has_trst;
}

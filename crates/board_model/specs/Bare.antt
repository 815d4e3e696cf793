-- The bare device, less than the standard asks of a component (it has no SAMPLE and no PRELOAD), and the board of bare
-- devices.
use Rattle.std.specs.Prelude.{true, false, ℕ, zero, suc, List, [], ◌∷◌, ◌++◌, Some, None, codes}
use Rattle.std.specs.Fmt.{decimal}
use Rattle.bsdl_device.specs.Device.{Name, PortBit, Device}
use Rattle.bsdl_device.specs.declared.PortMode.{PortMode}
use Rattle.bsdl_device.specs.declared.PortMode.TheVariants.{In, Out}
use Rattle.bsdl_device.specs.declared.Function.TheVariants.{Internal}
use Rattle.board_model.specs.Cells.{Member, powered}
use Rattle.board_model.specs.Chain.{BoardState}
use Rattle.board_model.specs.Resting.{power_up, board_at_rest}

abbrev tap_port : Name → PortMode → PortBit
tap_port name mode = record { name = name; index = None; mode = mode; is_tap = true }

-- Two instruction bits, BYPASS 11 and EXTEST 00, capture 01, no code, one internal cell, and the TAP's four ports.
abbrev pub bare : Device
bare = record {
  ports = tap_port (codes "TDI") In ∷ tap_port (codes "TMS") In ∷ tap_port (codes "TCK") In
      ∷ tap_port (codes "TDO") Out ∷ [];
  instruction_length = 2;
  opcodes =
      record { name = codes "BYPASS"; patterns = (Some true ∷ Some true ∷ []) ∷ [] }
      ∷ record { name = codes "EXTEST"; patterns = (Some false ∷ Some false ∷ []) ∷ [] }
      ∷ [];
  capture = true ∷ false ∷ [];
  idcode = None;
  usercode = None;
  cells = record { function = Internal; port = None; control = None } ∷ [];
  private_names = [];
  accesses = [];
  users = [];
  has_trst = false;
}

-- the name of the k-th device
abbrev pub bare_name : ℕ → Name
bare_name k = codes "U" ++ decimal k

abbrev pub bare_member : Name → Member
bare_member name = powered name bare (false ∷ []) [] false

-- n devices, the first of them U and this number
abbrev pub bare_from : ℕ → ℕ → List Member
bare_from k zero = []
bare_from k (suc n) = bare_member (bare_name k) ∷ bare_from (suc k) n

-- n bare devices, U1 nearest TDO, as they power up
abbrev pub bare_board : ℕ → BoardState
bare_board n = board_at_rest (power_up [] (bare_from 1 n))

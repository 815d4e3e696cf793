-- What a device description says of a device (IEEE Std 1149.1-2001, Annex B). Data alone; bits stand lowest first.
use Rattle.std.specs.Prelude.{Bool, ℕ, List, Option}
use Rattle.bsdl_device.specs.declared.PortMode.{PortMode}
use Rattle.bsdl_device.specs.declared.Cell.{Cell}
use Rattle.bsdl_device.specs.declared.Place.{Place}

-- a name in upper case, as its bytes
abbrev pub Name : Type 0
Name = List ℕ

-- one pattern of 0, 1 and X, the rightmost first; X is None
abbrev pub Pattern : Type 0
Pattern = List (Option Bool)

-- One bit of a port; port bits are numbered in the order in which their ports are declared, within a port by rising
-- index. The TAP's own ports are no pins of the board.
pub record PortBit : Type 0 where
  pub name : Name
  pub index : Option ℕ
  pub mode : PortMode
  pub is_tap : Bool

-- an instruction's name and its opcodes, as written
pub record Opcode : Type 0 where
  pub name : Name
  pub patterns : List Pattern

-- an own instruction, its register, and what it captures there, if that is fixed
pub record Access : Type 0 where
  pub instruction : Name
  pub place : Place
  pub captures : Option (List Bool)

pub record Device : Type 0 where
  pub ports : List PortBit
  pub instruction_length : ℕ
  pub opcodes : List Opcode
  -- the INSTRUCTION_CAPTURE pattern and the two codes, with X as 0
  pub capture : List Bool
  pub idcode : Option (List Bool)
  pub usercode : Option (List Bool)
  pub cells : List Cell
  pub private_names : List Name
  pub accesses : List Access
  -- the lengths of the user registers, in the order in which they are first named
  pub users : List ℕ
  pub has_trst : Bool

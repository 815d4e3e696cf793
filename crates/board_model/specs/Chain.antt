-- The edge meaning: the chain byte by byte (IEEE Std 1149.1-2001, clauses 4, 5 and 6; bytes of OpenOCD's
-- remote_bitbang). All devices move at once, each from the TDO and the levels of before the edge.
use Rattle.std.specs.Prelude.{Bool, true, false, ◌&&◌, ℕ, suc, List, [], ◌∷◌, ◌++◌, map, Option, Some, None, unwrap_or}
use Rattle.std.specs.Prelude.{if◌then◌else◌}
use Rattle.jt_tap.specs.declared.State.{State}
use Rattle.jt_tap.specs.declared.State.TheVariants.{Reset}
use Rattle.jt_tap.specs.Controller.{next, work}
use Rattle.boundary.specs.Registers.{after_reset}
use Rattle.scan_registers.specs.Edges.{after_rise, after_fall, tdo_after}
use Rattle.board_model.specs.Cells.{Member, Told, surroundings, untold}
use Rattle.pin_nets.specs.Wired.{Net}
use Rattle.board_model.specs.Nets.{told}
use Rattle.bitbang_protocol.specs.declared.Message.{Message}
use Rattle.bitbang_protocol.specs.declared.Message.TheVariants.{Write, Ask, Quit, Lines}
use Rattle.bitbang_protocol.specs.Protocol.{decode, answer}
use Rattle.board_model.specs.declared.Reply.{Reply}
use Rattle.board_model.specs.declared.Reply.TheVariants as said

-- a device of the chain with its controller and its TDO, None while undriven
pub record ChipState : Type 0 where
  pub member : Member
  pub state : State
  pub tdo : Option Bool

-- the board between two bytes; the first chip is nearest the board's TDO
pub record BoardState : Type 0 where
  pub tck : Bool
  pub trst : Bool
  pub nets : List Net
  pub chips : List ChipState

-- While TRST is asserted a device with a TRST port is held in RESET.
abbrev pub is_held : Bool → Member → Bool
is_held trst m = trst && m.device.has_trst

-- One rising edge of one device, given TDI and what it is told.
abbrev pub rise : (trst tms tdi : Bool) → Told → ChipState → ChipState
rise trst tms tdi about c =
    if is_held trst c.member then c else record {
      member = record c.member {
        registers = after_rise (work c.state) c.member.device (surroundings about c.member) tdi
            c.member.registers;
      };
      state = next c.state tms;
      tdo = c.tdo;
    }

-- One falling edge: the update or reset of the state, then TDO.
abbrev pub fall : ChipState → ChipState
fall c =
    let r = after_fall (work c.state) c.member.device (surroundings untold c.member) c.member.registers in
    record {
      member = record c.member { registers = r };
      state = c.state;
      tdo = tdo_after (work c.state) c.member.device r;
    }

-- TRST asserted: a device with a TRST port is in RESET at once, its TDO undriven.
abbrev pub assert_trst : ChipState → ChipState
assert_trst c =
    if c.member.device.has_trst then record {
      member = record c.member {
        registers = after_reset c.member.device (surroundings untold c.member)
            c.member.registers;
      };
      state = Reset;
      tdo = None;
    } else c

-- A device's TDI is the TDO of the next device; an undriven one reads 1; the last device takes the byte's.
abbrev pub tdi_before : Bool → List ChipState → Bool
tdi_before tdi [] = tdi
tdi_before tdi (c ∷ cs) = unwrap_or c.tdo true

-- a rising edge of the chain from device k on
abbrev pub rise_all : (trst tms tdi : Bool) → (ℕ → Told) → ℕ → List ChipState → List ChipState
rise_all trst tms tdi about k [] = []
rise_all trst tms tdi about k (c ∷ cs) =
    rise trst tms (tdi_before tdi cs) (about k) c ∷ rise_all trst tms tdi about (suc k) cs

abbrev pub members : List ChipState → List Member
members cs = map (λ c. c.member) cs

-- Only a written byte that changes TCK is an edge.
abbrev pub after_levels : (was tck tms tdi : Bool) → BoardState → List ChipState
after_levels false true tms tdi b = rise_all b.trst tms tdi (told b.nets (members b.chips)) 0 b.chips
after_levels true false tms tdi b = map fall b.chips
after_levels _ _ tms tdi b = b.chips

-- The board after one message.
abbrev pub after_message : Message → BoardState → BoardState
after_message (Write tck tms tdi) b = record b { tck = tck; chips = after_levels b.tck tck tms tdi b }
after_message (Lines trst srst) b = record b { trst = trst; chips = if trst then map assert_trst b.chips else b.chips }
after_message _ b = b

-- `R` asks the first device's TDO, which reads 1 while undriven; nothing else is answered.
abbrev pub answers : Message → BoardState → List Bool
answers Ask b = tdi_before true b.chips ∷ []
answers _ b = []

abbrev pub reply_of : Message → BoardState → Reply
reply_of Ask b = said.Answer (answer (tdi_before true b.chips))
reply_of Quit b = said.Quit
reply_of _ b = said.Nothing

-- One byte: a byte off the table is refused and changes nothing.
abbrev pub reply : ℕ → BoardState → Reply
reply byte b = elim (decode byte) [ Some m ↦ reply_of m b | None ↦ said.Refused byte ]

abbrev pub after_byte : ℕ → BoardState → BoardState
after_byte byte b = elim (decode byte) [ Some m ↦ after_message m b | None ↦ b ]

-- what a board has answered, and where it stands
pub record Heard : Type 0 where
  pub answers : List Bool
  pub board : BoardState

-- The board side: the fold over messages.
abbrev pub hear : List Message → BoardState → Heard
hear [] b = record { answers = []; board = b }
hear (m ∷ ms) b = let rest = hear ms
    (after_message m b) in record { answers = answers m b ++ rest.answers; board = rest.board }

-- The same over bytes: the board after them, one after another.
abbrev pub after_bytes : List ℕ → BoardState → BoardState
after_bytes [] b = b
after_bytes (byte ∷ bytes) b = after_bytes bytes (after_byte byte b)

-- The boards of the worked waves, and the steps that are played on them.
use Rattle.std.specs.Prelude.{ℕ, Bool, true, false, List, [], ◌∷◌, ◌++◌, map, codes, Option, Some, None}
use Rattle.jt_tap.specs.declared.Column.TheVariants.{Dr, Ir}
use Rattle.jt_tap.specs.declared.State.TheVariants.{Idle}
use Rattle.bsdl_device.specs.Device.{Device}
use Rattle.bsdl_device.specs.declared.Disabled.TheVariants.{Weak1, Z}
use Rattle.bsdl_device.specs.declared.Function.TheVariants.{Control, Output3}
use Rattle.bsdl_device.specs.declared.PortMode.TheVariants.{Out}
use Rattle.pin_nets.specs.Wired.{Net}
use Rattle.pin_nets.specs.declared.Pull.TheVariants.{Free}
use Rattle.pin_nets.specs.declared.Rule.TheVariants.{Counted}
use Rattle.board_model.specs.Bare.{bare, bare_member}
use Rattle.board_model.specs.Cells.{powered}
use Rattle.board_model.specs.Chain.{BoardState}
use Rattle.board_model.specs.Resting.{board_at_rest, power_up}
use Rattle.scan_vectors.specs.Vector.{VectorBit}
use Rattle.scan_vectors.specs.declared.part.Part.TheVariants.{Data}
use Rattle.svf_programs.specs.Steps.{Numbered, Run, Scan, Trst}
use Rattle.svf_words.specs.declared.keywords.TrstWord.TheVariants.{On}

-- The bare device with a TRST port, whose cells are an output and its control: port Q drives while the control has a 1.
abbrev pub driver : Device
driver = record bare {
  ports = bare.ports ++ record { name = codes "Q"; index = None; mode = Out; is_tap = false } ∷ [];
  cells =
      record {
        function = Output3;
        port = Some 4;
        control = Some (record { cell = 1; disabling = false; leaves = Z });
      }
      ∷ record { function = Control; port = None; control = None }
      ∷ [];
  has_trst = true;
}

-- Q alone
abbrev pub driven : Net
driven = record { name = codes "N"; pull = Free; rule = Counted; pins = record { device = 0; port = 4 } ∷ [] }

-- The driver nearest TDO, its core at 0, and a bare device behind it; net N has Q.
abbrev pub pair : BoardState
pair = board_at_rest (power_up (driven ∷ [])
    (powered (codes "U1") driver (false ∷ false ∷ []) [] false ∷ bare_member (codes "U2") ∷ []))

-- The driver, whose port drives a weak 1 while the control has a 0.
abbrev pub pulling : Device
pulling = record driver {
  cells =
      record {
        function = Output3;
        port = Some 4;
        control = Some (record { cell = 1; disabling = false; leaves = Weak1 });
      }
      ∷ record { function = Control; port = None; control = None }
      ∷ [];
}

-- the ports of both devices
abbrev pub shared : Net
shared = record driven { pins = record { device = 0; port = 4 } ∷ record { device = 1; port = 4 } ∷ [] }

-- Two drivers of net N, whose cores drive 0. The nearest TDO pulls where it is disabled.
abbrev pub rivals : BoardState
rivals = board_at_rest (power_up (shared ∷ [])
    (powered (codes "U1") pulling (false ∷ true ∷ []) [] false
    ∷ powered (codes "U2") driver (false ∷ true ∷ []) [] false ∷ []))

-- a board of one device of this name, whose one port has this name
abbrev pub called : (device port : List ℕ) → BoardState
called device port = board_at_rest (power_up []
    (powered device
    (record bare { ports = record { name = port; index = None; mode = Out; is_tap = false } ∷ [] }) [] [] false ∷ []))

-- a bit of a scan: what goes in, and what is wanted
abbrev pub bit : Bool → Option Bool → VectorBit
bit tdi wanted = record { tdi = tdi; wanted = wanted; part = Data; place = 0 }

-- `SDR 2 TDI (1) TDO (2);`
abbrev pub delayed : Numbered
delayed = record { number = 1; what = Scan Dr (bit true (Some false) ∷ bit false (Some true) ∷ []) Idle }

-- `SDR 2 TDI (1) TDO (1);`: both bits come out otherwise
abbrev pub failing : Numbered
failing = record {
  number = 1;
  what = Scan Dr (bit true (Some true) ∷ record (bit false (Some false)) { place = 1 } ∷ []) Idle;
}

-- `SIR 4 TDI (C);`: EXTEST in the driver, BYPASS behind it
abbrev pub selecting : Numbered
selecting = record { number = 1; what = Scan Ir (map (λ b. bit b None) (false ∷ false ∷ true ∷ true ∷ [])) Idle }

-- `SDR 3 TDI (3);`: Q and its control get a 1
abbrev pub driving : Numbered
driving = record { number = 2; what = Scan Dr (map (λ b. bit b None) (true ∷ true ∷ false ∷ [])) Idle }

-- `TRST ON;`
abbrev pub asserting : Numbered
asserting = record { number = 3; what = Trst On }

-- `RUNTEST 1 TCK;`
abbrev pub waiting : Numbered
waiting = record { number = 1; what = Run Idle 1 Idle }

-- Worked faults: of a net N of two pins with pull up, and a net M of one pin.
use Rattle.std.specs.Prelude.{◌≡◌, true, false, ℕ, List, [], ◌∷◌, codes}
use Rattle.pin_nets.specs.declared.Drive.TheVariants.{Strong, Weak, Nothing}
use Rattle.pin_nets.specs.declared.Level.TheVariants.{Zero, One, Contend}
use Rattle.pin_nets.specs.declared.Pin.{Pin}
use Rattle.pin_nets.specs.declared.Pull.{Pull}
use Rattle.pin_nets.specs.declared.Pull.TheVariants.{Up, Down, Free}
use Rattle.pin_nets.specs.declared.Rule.{Rule}
use Rattle.pin_nets.specs.declared.Rule.TheVariants.{Counted, Tied, WiredOr, Led}
use Rattle.pin_nets.specs.Levels.{shown}
use Rattle.pin_nets.specs.Wired.{Net}
use Rattle.board_faults.specs.declared.kinds.Fault.TheVariants as fault
use Rattle.board_faults.specs.declared.kinds.Way.TheVariants as way
use Rattle.board_faults.specs.declared.kinds.Winner.TheVariants.{Zeros, Ones, First, Second}
use Rattle.board_faults.specs.Faults.{faults, ways, with_way}

abbrev pub pin : (device port : ℕ) → Pin
pin device port = record { device = device; port = port }

abbrev pub net : List ℕ → Pull → Rule → List Pin → Net
net name pull rule pins = record { name = name; pull = pull; rule = rule; pins = pins }

abbrev pub n_pins : List Pin
n_pins = pin 0 4 ∷ pin 1 5 ∷ []

abbrev pub nets : List Net
nets = net (codes "N") Up Counted n_pins ∷ net (codes "M") Free Counted (pin 1 4 ∷ []) ∷ []

abbrev pub m : Net
m = net (codes "M") Free Counted (pin 1 4 ∷ [])

pub record FaultRows : Type 0 where
  -- N has two joints, a pull, and one later net; M one joint and no pull
  pub all : faults nets
      ≡ fault.Open 0 0 ∷ fault.Open 0 1 ∷ fault.Pull 0 ∷ fault.Stuck 0 false ∷ fault.Stuck 0 true ∷ fault.Short 0 1
      ∷ fault.Open 1 0 ∷ fault.Stuck 1 false ∷ fault.Stuck 1 true ∷ []
  pub bridge_ways : ways (fault.Short 0 1)
      ≡ way.Short 0 1 Zeros ∷ way.Short 0 1 Ones ∷ way.Short 0 1 First ∷ way.Short 0 1 Second ∷ []
  -- the rest of N keeps its pull, and the pin alone floats to 0
  pub open_pulled : with_way (way.Open 0 1 false) nets
      ≡ net (codes "N") Up Counted (pin 0 4 ∷ []) ∷ m ∷ net [] Down Counted (pin 1 5 ∷ []) ∷ []
  -- M has no pull, so what is left of it floats too
  pub open_free : with_way (way.Open 1 0 true) nets
      ≡ net (codes "N") Up Counted n_pins ∷ net (codes "M") Up Counted [] ∷ net [] Up Counted (pin 1 4 ∷ []) ∷ []
  pub wrong_pull : with_way (way.Pull 0) nets ≡ net (codes "N") Down Counted n_pins ∷ m ∷ []
  pub stuck : with_way (way.Stuck 0 true) nets ≡ net (codes "N") Up (Tied true) n_pins ∷ m ∷ []
  -- the second net leads, so its pin stands first
  pub second_leads : with_way (way.Short 0 1 Second) nets ≡ net (codes "N") Up (Led 1) (pin 1 4 ∷ n_pins) ∷ []
  -- what these nets show where a 1 and a 0 are driven strongly
  pub counted : shown Counted Nothing (Strong true ∷ Strong false ∷ []) ≡ Contend
  pub wired_or : shown WiredOr Nothing (Strong true ∷ Strong false ∷ []) ≡ One
  pub first_leads : shown (Led 1) Nothing (Strong true ∷ Strong false ∷ []) ≡ One
  pub nobody_leads : shown (Led 1) Nothing (Nothing ∷ Strong true ∷ Strong false ∷ []) ≡ Zero
  pub tied : shown (Tied true) (Weak false) (Strong false ∷ []) ≡ One
  -- drivers that agree are not led
  pub agreed : shown (Led 1) (Weak true) (Nothing ∷ Strong false ∷ []) ≡ Zero

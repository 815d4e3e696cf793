-- What a port bit sees of its net: the net's level, by its drivers. This simulation's own model of the wiring.
use Rattle.std.specs.Prelude.{Bool, not, ℕ, zero, suc, ◌+◌, ◌==◌, List, [], ◌∷◌, map, length, slice_get, find}
use Rattle.std.specs.Prelude.{option_map, unwrap_or, if◌then◌else◌}
use Rattle.pin_nets.specs.declared.Drive.{Drive}
use Rattle.pin_nets.specs.declared.Drive.TheVariants.{Nothing}
use Rattle.pin_nets.specs.declared.Level.{Level}
use Rattle.pin_nets.specs.declared.Pin.{Pin}
use Rattle.pin_nets.specs.declared.Pull.TheVariants.{Free}
use Rattle.pin_nets.specs.declared.Rule.TheVariants.{Counted}
use Rattle.pin_nets.specs.Levels.{opposed_by, pull_drive, reads, shown}
use Rattle.pin_nets.specs.Wired.{Net, joins}
use Rattle.pin_nets.specs.declared.Follow.{Follow}
use Rattle.board_model.specs.Cells.{Member, Told, drive}

abbrev pub pin_drive : List Member → Pin → Drive
pin_drive ms pin = unwrap_or (option_map (λ m. drive m pin.port) (slice_get ms pin.device)) Nothing

-- the level of a net where the devices' cores are these, by its rule, its pull among its drivers
abbrev pub level_under : List Member → Net → Level
level_under ms net = shown net.rule (pull_drive net.pull) (map (pin_drive ms) net.pins)

-- strong drivers of both levels are on a net where the devices' cores are these
abbrev pub is_opposed_under : List Member → Net → Bool
is_opposed_under ms net = opposed_by (pull_drive net.pull) (map (pin_drive ms) net.pins)

-- a port bit that is a net by itself
abbrev pub lone_net : ℕ → ℕ → Net
lone_net device port =
    record { name = []; pull = Free; rule = Counted; pins = record { device = device; port = port } ∷ [] }

-- the net of a port bit
abbrev pub net_of : List Net → ℕ → ℕ → Net
net_of nets device port = unwrap_or (find (joins device port) nets) (lone_net device port)

-- What a port bit of a device sees where the devices' cores are these: Contend reads 0, Float reads 1.
abbrev pub sees_under : List Net → List Member → ℕ → ℕ → Bool
sees_under nets ms device port = reads (level_under ms (net_of nets device port))

-- what a string gives its core bit whose source sees this
abbrev pub given_by : Follow → Bool → Bool
given_by f seen = if f.inverted then not seen else seen

-- core bit k: what its string gives it, its constant if no string is for it
abbrev pub followed_bit : (ℕ → Bool) → List Follow → ℕ → Bool → Bool
followed_bit sight [] k constant = constant
followed_bit sight (f ∷ fs) k constant =
    if f.cell == k then given_by f (sight f.source) else followed_bit sight fs k constant

-- a device's core bits from bit k on, of these constants
abbrev pub followed : (ℕ → Bool) → List Follow → ℕ → List Bool → List Bool
followed sight fs k [] = []
followed sight fs k (constant ∷ constants) = followed_bit sight fs k constant ∷ followed sight fs (suc k) constants

-- the device, its core what its strings make of its constants where its port bits see this
abbrev pub with_followed : (ℕ → Bool) → Member → Member
with_followed sight m = record m { core = followed sight m.follows 0 m.core }

-- the same of all devices, from device k on
abbrev pub with_followed_all : (ℕ → ℕ → Bool) → ℕ → List Member → List Member
with_followed_all sight k [] = []
with_followed_all sight k (m ∷ ms) = with_followed (sight k) m ∷ with_followed_all sight (suc k) ms

-- One round: every followed bit is what its source sees (or its opposite) where the cores are those held, every other
-- its constant.
abbrev pub one_round : List Net → List Member → (held : List Member) → List Member
one_round nets ms held = with_followed_all (sees_under nets held) 0 ms

-- so many rounds, from what is held
abbrev pub rounds : ℕ → List Net → List Member → (held : List Member) → List Member
rounds zero nets ms held = held
rounds (suc n) nets ms held = one_round nets ms (rounds n nets ms held)

-- the number of strings on the board
abbrev pub strings : List Member → ℕ
strings [] = 0
strings (m ∷ ms) = length m.follows + strings ms

-- The devices with their core bits in force: from the constants, as many rounds as there are strings.
abbrev pub in_force : List Net → List Member → List Member
in_force nets ms = rounds (strings ms) nets ms ms

-- the level of a net of the board
abbrev pub level : List Net → List Member → Net → Level
level nets ms net = level_under (in_force nets ms) net

-- strong drivers of both levels are on a net of the board
abbrev pub is_opposed : List Net → List Member → Net → Bool
is_opposed nets ms net = is_opposed_under (in_force nets ms) net

-- what a port bit of a device sees, from the registers of all
abbrev pub sees : List Net → List Member → ℕ → ℕ → Bool
sees nets ms device port = sees_under nets (in_force nets ms) device port

-- the core of the device at a place
abbrev pub core_at : List Member → ℕ → List Bool
core_at ms device = unwrap_or (option_map (λ m. m.core) (slice_get ms device)) []

-- what the device at a place is told where the devices' cores are these
abbrev pub told_under : List Net → List Member → ℕ → Told
told_under nets ms device = record { sight = sees_under nets ms device; core = core_at ms device }

-- What each device is told at an edge, from the registers of all.
abbrev pub told : List Net → List Member → ℕ → Told
told nets ms = told_under nets (in_force nets ms)

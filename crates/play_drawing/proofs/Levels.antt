-- A message that leaves what every pin drives changes no net, and no instruction.
use Rattle.std.proofs.Common.{◌≡◌, ◌+◌, ℕ, zero, suc, Bool, true, false, ◌&&◌, List, [], ◌∷◌, ◌++◌, map, refl, sym, ap, ap₂, ◌∙◌, option_map}
use Rattle.std.specs.Prelude.{slice_get, unwrap_or}
use Rattle.std.specs.List.{list_all}
use Rattle.jt_tap.specs.declared.Column.TheVariants.{Dr, Ir}
use Rattle.jt_tap.specs.declared.Work.{Work}
use Rattle.jt_tap.specs.declared.Work.TheVariants.{Resets, Captures, Shifts, Updates, Waits}
use Rattle.jt_tap.specs.Controller.{work}
use Rattle.bitbang_protocol.specs.declared.Message.{Message}
use Rattle.bitbang_protocol.specs.declared.Message.TheVariants.{Write, Ask, Quit, Light, Lines}
use Rattle.chip_instructions.specs.declared.Selected.{Selected}
use Rattle.chip_instructions.specs.declared.Selected.TheVariants.{Bypass, Identification, Boundary, User}
use Rattle.chip_instructions.specs.Instruction.{meaning}
use Rattle.chip_registers.specs.Registers.{Surroundings, capture_of, selected_bits, with_stage}
use Rattle.jt_bits.specs.Shifting.{after_shift}
use Rattle.scan_registers.specs.Edges.{after_fall, after_rise}
use Rattle.pin_nets.specs.Wired.{Net}
use Rattle.pin_nets.specs.declared.Drive.{Drive}
use Rattle.pin_nets.specs.declared.Drive.TheVariants.{Nothing}
use Rattle.board_model.specs.Cells.{Member, Told, drive, surroundings, untold}
use Rattle.board_model.specs.Chain.{BoardState, ChipState, after_levels, after_message, fall, is_held, members, rise, rise_all, tdi_before}
use Rattle.board_model.specs.Following.{AllDriveAlike, DrivesAlike}
use Rattle.board_model.specs.Nets.{in_force, level, told}
use Rattle.board_model.proofs.Staying.{bits_stay, in-force-alike}
use Rattle.wave_files.specs.Changes.{net_change}
use Rattle.play_drawing.specs.Quiet.{keeps_drives, keeps_levels}
use Rattle.wave_files.specs.Changes.{IsQuiet, KeepsInstructions}
use Rattle.wave_files.specs.Drives.{KeepsDrives}
use Rattle.wave_files.specs.Values.{by_numbers, byte_change, first_of_nets, latch, level_byte}
use Rattle.wave_files.proofs.Pins.{unchanged}

-- ---- one device

itself : (m : Member) → DrivesAlike m m
itself m = record { same = refl; drives = λ core port. refl }

staged : (s : Selected) (bits : List Bool) (m : Member) → DrivesAlike m (record m { registers = with_stage s bits m.registers })
staged Bypass bits m = record { same = refl; drives = λ core port. refl }
staged Identification bits m = record { same = refl; drives = λ core port. refl }
staged Boundary bits m = record { same = refl; drives = λ core port. refl }
staged (User k) bits m = record { same = refl; drives = λ core port. refl }

worked : (w : Work) (around : Surroundings) (tdi : Bool) (m : Member)
    → DrivesAlike m (record m { registers = after_rise w m.device around tdi m.registers })
worked (Captures Ir) around tdi m = record { same = refl; drives = λ core port. refl }
worked (Captures Dr) around tdi m =
    let it = meaning m.device m.registers.latch in
    staged it.selected (capture_of it.selected it.fixed (around.captures it.mode) m.registers) m
worked (Shifts Ir) around tdi m = record { same = refl; drives = λ core port. refl }
worked (Shifts Dr) around tdi m =
    staged (meaning m.device m.registers.latch).selected (after_shift (selected_bits m.device Dr m.registers) tdi) m
worked (Updates column) around tdi m = itself m
worked Resets around tdi m = itself m
worked Waits around tdi m = itself m

risen : (trst tms tdi : Bool) (about : Told) (c : ChipState) → DrivesAlike c.member (rise trst tms tdi about c).member
risen trst tms tdi about c = by (is_held trst c.member) refl
  where
    by : (b : Bool) → is_held trst c.member ≡ b → DrivesAlike c.member (rise trst tms tdi about c).member
    by true held = rw held (itself c.member)
    by false held = rw held (worked (work c.state) (surroundings about c.member) tdi c.member)

fallen : (w : Work) (around : Surroundings) (m : Member) → keeps_drives w ≡ true
    → DrivesAlike m (record m { registers = after_fall w m.device around m.registers })
fallen (Captures column) around m h = itself m
fallen (Shifts column) around m h = itself m
fallen (Updates column) around m h = absurd cc
fallen Resets around m h = absurd cc
fallen Waits around m h = itself m

-- ---- all devices

all_themselves : (ms : List Member) → AllDriveAlike ms ms
all_themselves [] = tt
all_themselves (m ∷ ms) = (itself m, all_themselves ms)

all_risen : (trst tms tdi : Bool) (about : ℕ → Told) (k : ℕ) (cs : List ChipState)
    → AllDriveAlike (members cs) (members (rise_all trst tms tdi about k cs))
all_risen trst tms tdi about k [] = tt
all_risen trst tms tdi about k (c ∷ cs) =
    (risen trst tms (tdi_before tdi cs) (about k) c, all_risen trst tms tdi about (suc k) cs)

first_true : (a b : Bool) → (a && b) ≡ true → a ≡ true
first_true true b h = refl
first_true false b h = absurd cc

then_true : (a b : Bool) → (a && b) ≡ true → b ≡ true
then_true true b h = h
then_true false b h = absurd cc

all_fallen : (cs : List ChipState) → list_all (λ c. keeps_drives (work c.state)) cs ≡ true
    → AllDriveAlike (members cs) (members (map fall cs))
all_fallen [] h = tt
all_fallen (c ∷ cs) h =
    let here = keeps_drives (work c.state) in
    let others = list_all (λ (d : ChipState). keeps_drives (work d.state)) cs in (
      fallen (work c.state) (surroundings untold c.member) c.member (first_true here others h),
      all_fallen cs (then_true here others h),
    )

-- ---- the board

written : (was tck tms tdi : Bool) (b : BoardState) → keeps_levels (Write tck tms tdi) b.chips ≡ true
    → AllDriveAlike (members b.chips) (members (after_levels was tck tms tdi b))
written false true tms tdi b h = all_risen b.trst tms tdi (told b.nets (members b.chips)) 0 b.chips
written true false tms tdi b h = all_fallen b.chips h
written true true tms tdi b h = all_themselves (members b.chips)
written false false tms tdi b h = all_themselves (members b.chips)

pub drives_stay : (m : Message) (b : BoardState) → keeps_levels m b.chips ≡ true
    → AllDriveAlike (members b.chips) (members (after_message m b).chips)
drives_stay (Write tck tms tdi) b h = written b.tck tck tms tdi b h
drives_stay (Lines trst srst) b h = absurd cc
drives_stay Ask b h = absurd cc
drives_stay Quit b h = absurd cc
drives_stay (Light on) b h = absurd cc

-- ---- what pins drive

one_alike : (m n : Member) (p : ℕ) → DrivesAlike m n → drive m p ≡ drive n p
one_alike m n p alike = alike.drives m.core p ∙ ap (λ (core : List Bool). drive (record n { core = core }) p) (sym (ap (λ (q : Member). q.core) alike.same))

-- what a port bit of the device at a place drives
abbrev drive_at : List Member → (i p : ℕ) → Drive
drive_at ms i p = unwrap_or (option_map (λ (m : Member). drive m p) (slice_get ms i)) Nothing

place_alike : (x y : List Member) (i p : ℕ) → AllDriveAlike x y → drive_at x i p ≡ drive_at y i p
place_alike [] [] i p alike = refl
place_alike [] (b ∷ y) i p alike = absurd alike
place_alike (a ∷ x) [] i p alike = absurd alike
place_alike (a ∷ x) (b ∷ y) zero p alike = one_alike a b p alike.0
place_alike (a ∷ x) (b ∷ y) (suc i) p alike = place_alike x y i p alike.1

pins_stay : (m : Message) (b : BoardState) → keeps_levels m b.chips ≡ true → KeepsDrives b.nets b.chips (after_message m b).chips
pins_stay m b h pin =
    let after = (after_message m b).chips in
    place_alike (in_force b.nets (members b.chips)) (in_force b.nets (members after)) pin.device pin.port
    (in-force-alike b.nets (members b.chips) (members after) (drives_stay m b h))

-- ---- what is written of the nets

pub none_changed : (nets : List Net) (before after : List ChipState)
    → ((net : Net) → level nets (members before) net ≡ level nets (members after) net)
    → (n : ℕ) (ns : List Net) → by_numbers (net_change nets before after) 1 n ns ≡ []
none_changed nets before after same n [] = refl
none_changed nets before after same n (x ∷ ns) =
    ap₂ (λ (a b : List ℕ). a ++ b)
    (ap (λ l. byte_change n (level_byte (level nets (members before) x)) (level_byte l)) (sym (same x))
    ∙ unchanged n (level_byte (level nets (members before) x)))
    (none_changed nets before after same (n + 1) ns)

nets_stay : (m : Message) (b : BoardState) → keeps_levels m b.chips ≡ true → (n : ℕ)
    → by_numbers (net_change b.nets b.chips (after_message m b).chips) 1 n b.nets ≡ []
nets_stay m b h n =
    none_changed b.nets b.chips (after_message m b).chips
    (bits_stay b.nets (members b.chips) (members (after_message m b).chips) (drives_stay m b h)).levels n b.nets

-- ---- instructions

held_staged : (s : Selected) (bits : List Bool) (m : Member) → m.registers.latch ≡ (with_stage s bits m.registers).latch
held_staged Bypass bits m = refl
held_staged Identification bits m = refl
held_staged Boundary bits m = refl
held_staged (User k) bits m = refl

held_worked : (w : Work) (around : Surroundings) (tdi : Bool) (m : Member)
    → m.registers.latch ≡ (after_rise w m.device around tdi m.registers).latch
held_worked (Captures Ir) around tdi m = refl
held_worked (Captures Dr) around tdi m =
    let it = meaning m.device m.registers.latch in
    held_staged it.selected (capture_of it.selected it.fixed (around.captures it.mode) m.registers) m
held_worked (Shifts Ir) around tdi m = refl
held_worked (Shifts Dr) around tdi m =
    held_staged (meaning m.device m.registers.latch).selected (after_shift (selected_bits m.device Dr m.registers) tdi) m
held_worked (Updates column) around tdi m = refl
held_worked Resets around tdi m = refl
held_worked Waits around tdi m = refl

held_risen : (trst tms tdi : Bool) (about : Told) (c : ChipState) → latch c ≡ latch (rise trst tms tdi about c)
held_risen trst tms tdi about c = by (is_held trst c.member) refl
  where
    by : (b : Bool) → is_held trst c.member ≡ b → latch c ≡ latch (rise trst tms tdi about c)
    by true held = rw held refl
    by false held = rw held (held_worked (work c.state) (surroundings about c.member) tdi c.member)

held_fallen : (w : Work) (around : Surroundings) (m : Member) → keeps_drives w ≡ true
    → m.registers.latch ≡ (after_fall w m.device around m.registers).latch
held_fallen (Captures column) around m h = refl
held_fallen (Shifts column) around m h = refl
held_fallen (Updates column) around m h = absurd cc
held_fallen Resets around m h = absurd cc
held_fallen Waits around m h = refl

all_held_risen : (trst tms tdi : Bool) (about : ℕ → Told) (k : ℕ) (cs : List ChipState) → KeepsInstructions cs (rise_all trst tms tdi about k cs)
all_held_risen trst tms tdi about k [] = refl
all_held_risen trst tms tdi about k (c ∷ cs) =
    λ i. held_risen trst tms (tdi_before tdi cs) (about k) c i ∷ all_held_risen trst tms tdi about (suc k) cs i

all_held_fallen : (cs : List ChipState) → list_all (λ c. keeps_drives (work c.state)) cs ≡ true → KeepsInstructions cs (map fall cs)
all_held_fallen [] h = refl
all_held_fallen (c ∷ cs) h =
    let here = keeps_drives (work c.state) in
    let others = list_all (λ (d : ChipState). keeps_drives (work d.state)) cs in
    λ i. held_fallen (work c.state) (surroundings untold c.member) c.member (first_true here others h) i
    ∷ all_held_fallen cs (then_true here others h) i

held_written : (was tck tms tdi : Bool) (b : BoardState) → keeps_levels (Write tck tms tdi) b.chips ≡ true
    → KeepsInstructions b.chips (after_levels was tck tms tdi b)
held_written false true tms tdi b h = all_held_risen b.trst tms tdi (told b.nets (members b.chips)) 0 b.chips
held_written true false tms tdi b h = all_held_fallen b.chips h
held_written true true tms tdi b h = refl
held_written false false tms tdi b h = refl

instructions_stay : (m : Message) (b : BoardState) → keeps_levels m b.chips ≡ true → KeepsInstructions b.chips (after_message m b).chips
instructions_stay (Write tck tms tdi) b h = held_written b.tck tck tms tdi b h
instructions_stay (Lines trst srst) b h = absurd cc
instructions_stay Ask b h = absurd cc
instructions_stay Quit b h = absurd cc
instructions_stay (Light on) b h = absurd cc

pub is_quiet : (m : Message) (b : BoardState) → keeps_levels m b.chips ≡ true → IsQuiet b.nets b.chips (after_message m b).chips
is_quiet m b h = record {
  no_net = nets_stay m b h (first_of_nets b.chips);
  no_drive = pins_stay m b h;
  no_instruction = instructions_stay m b h;
}

-- What is invisible is captured by no scan.
use Rattle.std.proofs.Common.{◌≡◌, ℕ, zero, suc, ◌+◌, Bool, true, false, not, ◌||◌, ◌==◌, List, [], ◌∷◌, slice_get, Option, Some, None, unwrap_or, if◌then◌else◌, refl, sym, ap, ap₂, subst, ◌∙◌, inl, inr, arith}
use Rattle.std.specs.Prelude.{option_map}
use Rattle.std.specs.List.{list_any}
use Rattle.std.proofs.lemmas.Bool.{eq-eqb, eqb-true, false≢true}
use Rattle.jt_bits.specs.Words.{bit_of}
use Rattle.jt_tap.specs.declared.Column.{Column}
use Rattle.bsdl_device.specs.declared.Cell.{Cell}
use Rattle.bsdl_device.specs.declared.Control3.{Control3}
use Rattle.bsdl_device.specs.declared.Function.{Function}
use Rattle.bsdl_device.specs.declared.Function.TheVariants as function
use Rattle.bsdl_device.specs.Device.{Device}
use Rattle.chip_instructions.specs.declared.Mode.{Mode}
use Rattle.chip_instructions.specs.declared.Mode.TheVariants.{Core, Extest, Clamp, HighZ}
use Rattle.chip_instructions.specs.Instruction.{meaning}
use Rattle.chip_registers.specs.Registers.{after_capture}
use Rattle.boundary.specs.Cells.{cell_captures, cell_drive, drive_of_driver, driven_in, driver_from, is_port, left_by, same_bit, takes_update}
use Rattle.boundary.specs.Masks.{is_sighted, sighted_port}
use Rattle.boundary.specs.Sight.{capture_by_sight, seen_at}
use Rattle.boundary.proofs.DriverLaws.{driven_by_cell}
use Rattle.pin_nets.specs.declared.Drive.{Drive}
use Rattle.pin_nets.specs.declared.Drive.TheVariants.{Nothing, Strong}
use Rattle.pin_nets.specs.declared.Follow.{Follow}
use Rattle.pin_nets.specs.Wired.{Net}
use Rattle.board_plan.specs.Planned as planned
use Rattle.board_plan.specs.Planned.{Wiring}
use Rattle.board_model.specs.Cells.{Member, Told, drive, surroundings}
use Rattle.board_model.specs.Following.{IsAmong}
use Rattle.board_model.specs.Nets.{core_at, followed, followed_bit, given_by, in_force, one_round, pin_drive, rounds, sees_under, strings, told, with_followed_all}
use Rattle.board_model.specs.Whole.{capture_all}
use Rattle.board_faults.specs.Alike.{AreOf, InvisibleFaultsAreNotCaptured}
use Rattle.board_faults.specs.declared.kinds.Way.{Way}
use Rattle.board_faults.specs.Faults.{with_way}
use Rattle.board_faults.specs.Sight.{CanDrive, IsInvisible, drives_at, drives_by, drives_of, is_read, port_drives}
use Rattle.board_faults.proofs.Driving.{among_any}
use Rattle.board_faults.proofs.Making.{nothing_by}

-- ---- whatever the registers are, a pin drives something that it can

strong-either : (b : Bool) → IsAmong (Strong b) (Strong false ∷ Strong true ∷ [])
strong-either false = inl refl
strong-either true = inr (inl refl)

other-bit : (b d : Bool) → same_bit b d ≡ false → b ≡ not d
other-bit true true e = absurd (false≢true (sym e))
other-bit true false e = refl
other-bit false true e = refl
other-bit false false e = absurd (false≢true (sym e))

cell-among : (bits : List Bool) (k : ℕ) (t : Option Control3) → IsAmong (cell_drive bits k t) (drives_of k t)
cell-among bits k None = inr (strong-either (bit_of bits k))
cell-among bits k (Some t) = by (same_bit (bit_of bits t.cell) t.disabling) refl
  where
    own : (b : Bool) → (t.cell == k) ≡ b → same_bit (bit_of bits t.cell) t.disabling ≡ false
        → IsAmong (Strong (bit_of bits k)) (if b then Strong (not t.disabling) ∷ [] else Strong false ∷ Strong true ∷ [])
    own true e apart =
        inl (ap Strong (sym (ap (bit_of bits) (sym (eqb-true t.cell k e)) ∙ other-bit (bit_of bits t.cell) t.disabling apart)))
    own false e apart = strong-either (bit_of bits k)

    by : (b : Bool) → same_bit (bit_of bits t.cell) t.disabling ≡ b
        → IsAmong (if same_bit (bit_of bits t.cell) t.disabling then left_by t.leaves else Strong (bit_of bits k)) (drives_of k (Some t))
    by true e = subst (λ (c : Bool). IsAmong (if c then left_by t.leaves else Strong (bit_of bits k)) (drives_of k (Some t))) (sym e) (inr (inl refl))
    by false e =
        subst (λ (c : Bool). IsAmong (if c then left_by t.leaves else Strong (bit_of bits k)) (drives_of k (Some t))) (sym e)
        (inr (inr (own (t.cell == k) refl e)))

driver-among : (bits : List Bool) (cells : List Cell) (o : Option ℕ) → IsAmong (drive_of_driver bits o cells) (drives_by cells o)
driver-among bits cells None = inl refl
driver-among bits cells (Some k) = by (slice_get cells k)
  where
    by : (c : Option Cell)
        → IsAmong (elim c [ None ↦ Nothing | Some c ↦ cell_drive bits k c.control ]) (elim c [ None ↦ Nothing ∷ [] | Some c ↦ drives_of k c.control ])
    by None = inl refl
    by (Some c) = cell-among bits k c.control

mode-among : (mode : Mode) (cells : List Cell) (update core : List Bool) (o : Option ℕ) → IsAmong (driven_in mode cells update core o) (drives_by cells o)
mode-among HighZ cells update core o = nothing_by cells o
mode-among Extest cells update core o = driver-among update cells o
mode-among Clamp cells update core o = driver-among update cells o
mode-among Core cells update core o = driver-among core cells o

drive-among : (m : Member) (port : ℕ) → IsAmong (drive m port) (port_drives m.device.cells port)
drive-among m port =
    let mode = (meaning m.device m.registers.latch).mode in
    subst (λ (d : Drive). IsAmong d (port_drives m.device.cells port)) (driven_by_cell mode m.device.cells m.registers.update m.core port)
    (mode-among mode m.device.cells m.registers.update m.core (driver_from port 0 m.device.cells))

device-among : (ps : List planned.Member) (ms : List Member) → AreOf ps ms → (k port : ℕ)
    → IsAmong (unwrap_or (option_map (λ m. drive m port) (slice_get ms k)) Nothing) (drives_at port (slice_get ps k))
device-among [] [] of k port = inl refl
device-among [] (m ∷ ms) of k port = absurd of
device-among (p ∷ ps) [] of k port = absurd of
device-among (p ∷ ps) (m ∷ ms) of zero port =
    subst (λ (d : Device). IsAmong (drive m port) (port_drives d.cells port)) of.0 (drive-among m port)
device-among (p ∷ ps) (m ∷ ms) of (suc k) port = device-among ps ms of.2 k port

can-drive : (w : Wiring) (ms : List Member) → AreOf w.members ms → CanDrive w.members (pin_drive ms)
can-drive w ms of pin = device-among w.members ms of pin.device pin.port

-- ---- what is read sees the same

module _ (w : Wiring) (its_way : Way) (unseen : IsInvisible w its_way) where
  abbrev nets : List Net
  nets = w.nets

  abbrev faulty : List Net
  faulty = with_way its_way w.nets

  sees-same : (ms : List Member) → AreOf w.members ms → (device port : ℕ) (p : planned.Member) → slice_get w.members device ≡ Some p → is_read p port ≡ true
      → sees_under nets ms device port ≡ sees_under faulty ms device port
  sees-same ms of device port p at read = unseen (pin_drive ms) (can-drive w ms of) (record { device = device; port = port }) p at read

-- ---- what strings make of it

or-right : (a b : Bool) → b ≡ true → (a || b) ≡ true
or-right true b e = refl
or-right false b e = e

followed-bit-same : (sight sight' : ℕ → Bool) (fs : List Follow) (k : ℕ) (c : Bool) → ((f : Follow) → IsAmong f fs → sight f.source ≡ sight' f.source)
    → followed_bit sight fs k c ≡ followed_bit sight' fs k c
followed-bit-same sight sight' [] k c same = refl
followed-bit-same sight sight' (f ∷ fs) k c same =
    ap₂ (λ (s : Bool) (r : Bool). if f.cell == k then given_by f s else r) (same f (inl refl))
    (followed-bit-same sight sight' fs k c (λ g among. same g (inr among)))

followed-same : (sight sight' : ℕ → Bool) (fs : List Follow) (k : ℕ) (cs : List Bool) → ((f : Follow) → IsAmong f fs → sight f.source ≡ sight' f.source)
    → followed sight fs k cs ≡ followed sight' fs k cs
followed-same sight sight' fs k [] same = refl
followed-same sight sight' fs k (c ∷ cs) same =
    ap₂ (λ (b : Bool) (bs : List Bool). b ∷ bs) (followed-bit-same sight sight' fs k c same) (followed-same sight sight' fs (suc k) cs same)

-- from device k on, each by what its strings' sources see
all-followed-same : (sight sight' : ℕ → ℕ → Bool) (k : ℕ) (ps : List planned.Member) (ms : List Member) → AreOf ps ms
    → ((j : ℕ) (p : planned.Member) → slice_get ps j ≡ Some p → (f : Follow) → IsAmong f p.follows → sight (k + j) f.source ≡ sight' (k + j) f.source)
    → with_followed_all sight k ms ≡ with_followed_all sight' k ms
all-followed-same sight sight' k [] [] of same = refl
all-followed-same sight sight' k [] (m ∷ ms) of same = absurd of
all-followed-same sight sight' k (p ∷ ps) [] of same = absurd of
all-followed-same sight sight' k (p ∷ ps) (m ∷ ms) of same =
    let here : k + 0 ≡ k = omega arith in
    let own : (f : Follow) → IsAmong f m.follows → sight k f.source ≡ sight' k f.source =
    λ f among. subst (λ (n : ℕ). sight n f.source ≡ sight' n f.source) here (same 0 p refl f (subst (λ (fs : List Follow). IsAmong f fs) of.1 among)) in
    ap₂ (λ (n : Member) (ns : List Member). n ∷ ns)
    (ap (λ (bits : List Bool). record m { core = bits }) (followed-same (sight k) (sight' k) m.follows 0 m.core own))
    (all-followed-same sight sight' (suc k) ps ms of.2
    (λ j q at f among.
    let next : k + suc j ≡ suc k + j = omega arith in
    subst (λ (n : ℕ). sight n f.source ≡ sight' n f.source) next (same (suc j) q at f among)))

followed-of : (sight : ℕ → ℕ → Bool) (k : ℕ) (ps : List planned.Member) (ms : List Member) → AreOf ps ms → AreOf ps (with_followed_all sight k ms)
followed-of sight k [] [] of = tt
followed-of sight k [] (m ∷ ms) of = absurd of
followed-of sight k (p ∷ ps) [] of = absurd of
followed-of sight k (p ∷ ps) (m ∷ ms) of = (of.0, of.1, followed-of sight (suc k) ps ms of.2)

rounds-of : (n : ℕ) (nets : List Net) (ps : List planned.Member) (ms : List Member) → AreOf ps ms → AreOf ps (rounds n nets ms ms)
rounds-of zero nets ps ms of = of
rounds-of (suc n) nets ps ms of = followed-of (sees_under nets (rounds n nets ms ms)) 0 ps ms of

source-read : (p : planned.Member) (f : Follow) → IsAmong f p.follows → is_read p f.source ≡ true
source-read p f among =
    or-right (list_any (λ (c : Cell). is_port f.source (sighted_port c.port c.function)) p.device.cells) _
    (among_any (λ (g : Follow). f.source == g.source) f p.follows among (eq-eqb f.source f.source refl))

rounds-same : (w : Wiring) (its_way : Way) → IsInvisible w its_way → (n : ℕ) (ms : List Member) → AreOf w.members ms
    → rounds n w.nets ms ms ≡ rounds n (with_way its_way w.nets) ms ms
rounds-same w its_way unseen zero ms of = refl
rounds-same w its_way unseen (suc n) ms of =
    let held = rounds n w.nets ms ms in
    all-followed-same (sees_under w.nets held) (sees_under (with_way its_way w.nets) held) 0 w.members ms of
    (λ j p at f among.
    let own : 0 + j ≡ j = omega arith in
    sees-same w its_way unseen held (rounds-of n w.nets w.members ms of) (0 + j) f.source p (ap (slice_get w.members) own ∙ at) (source-read p f among))
    ∙ ap (λ (h : List Member). one_round (with_way its_way w.nets) ms h) (rounds-same w its_way unseen n ms of)

-- ---- what is captured of it

cell-same : (s s' fu u c : Bool) (port : Option ℕ) (f : Function) → ((p : ℕ) → port ≡ Some p → is_sighted port f ≡ true → s ≡ s')
    → cell_captures s fu u c port f ≡ cell_captures s' fu u c port f
cell-same s s' fu u c (Some p) function.Input same = same p refl refl
cell-same s s' fu u c (Some p) function.Clock same = same p refl refl
cell-same s s' fu u c (Some p) function.ObserveOnly same = same p refl refl
cell-same s s' fu u c (Some p) function.Bidir same = same p refl refl
cell-same s s' fu u c (Some p) function.Output2 same = refl
cell-same s s' fu u c (Some p) function.Output3 same = refl
cell-same s s' fu u c (Some p) function.Control same = refl
cell-same s s' fu u c (Some p) function.ControlR same = refl
cell-same s s' fu u c (Some p) function.Internal same = refl
cell-same s s' fu u c None function.Input same = refl
cell-same s s' fu u c None function.Clock same = refl
cell-same s s' fu u c None function.ObserveOnly same = refl
cell-same s s' fu u c None function.Bidir same = refl
cell-same s s' fu u c None function.Output2 same = refl
cell-same s s' fu u c None function.Output3 same = refl
cell-same s s' fu u c None function.Control same = refl
cell-same s s' fu u c None function.ControlR same = refl
cell-same s s' fu u c None function.Internal same = refl

seen-same : (sees sees' : ℕ → Bool) (port : Option ℕ) (f : Function) → ((p : ℕ) → port ≡ Some p → is_sighted port f ≡ true → sees p ≡ sees' p)
    → (p : ℕ) → port ≡ Some p → is_sighted port f ≡ true → seen_at sees port ≡ seen_at sees' port
seen-same sees sees' (Some q) f same p e sighted = same q refl sighted
seen-same sees sees' None f same p e sighted = refl

capture-same : (sees sees' : ℕ → Bool) (fu : Bool) (update core : List Bool) (k : ℕ) (cells : List Cell)
    → ((c : Cell) → IsAmong c cells → (p : ℕ) → c.port ≡ Some p → is_sighted c.port c.function ≡ true → sees p ≡ sees' p)
    → capture_by_sight sees fu update core k cells ≡ capture_by_sight sees' fu update core k cells
capture-same sees sees' fu update core k [] same = refl
capture-same sees sees' fu update core k (c ∷ cs) same =
    ap₂ (λ (b : Bool) (bs : List Bool). b ∷ bs)
    (cell-same (seen_at sees c.port) (seen_at sees' c.port) fu (bit_of update k) (bit_of core k) c.port c.function
    (seen-same sees sees' c.port c.function (same c (inl refl))))
    (capture-same sees sees' fu update core (suc k) cs (λ d among. same d (inr among)))

sighted-read : (p : planned.Member) (c : Cell) → IsAmong c p.device.cells → (port : ℕ) → c.port ≡ Some port → is_sighted c.port c.function ≡ true
    → is_read p port ≡ true
sighted-read p c among port at sighted =
    let found : is_port port (sighted_port c.port c.function) ≡ true =
    ap (λ (b : Bool). is_port port (if b then c.port else None)) sighted ∙ ap (is_port port) at ∙ eq-eqb port port refl in
    ap (λ (b : Bool). b || list_any (λ (f : Follow). port == f.source) p.follows)
    (among_any (λ (x : Cell). is_port port (sighted_port x.port x.function)) c p.device.cells among found)

all-captured-same : (column : Column) (about about' : ℕ → Told) (k : ℕ) (ps : List planned.Member) (ms : List Member) → AreOf ps ms
    → ((j : ℕ) → (about (k + j)).core ≡ (about' (k + j)).core)
    → ((j : ℕ) (p : planned.Member) → slice_get ps j ≡ Some p → (port : ℕ) → is_read p port ≡ true → (about (k + j)).sight port ≡ (about' (k + j)).sight port)
    → capture_all column about k ms ≡ capture_all column about' k ms
all-captured-same column about about' k [] [] of cores sights = refl
all-captured-same column about about' k [] (m ∷ ms) of cores sights = absurd of
all-captured-same column about about' k (p ∷ ps) [] of cores sights = absurd of
all-captured-same column about about' k (p ∷ ps) (m ∷ ms) of cores sights =
    let here : k + 0 ≡ k = omega arith in
    let core : (about k).core ≡ (about' k).core = subst (λ (n : ℕ). (about n).core ≡ (about' n).core) here (cores 0) in
    let sight : (c : Cell) → IsAmong c m.device.cells → (port : ℕ) → c.port ≡ Some port → is_sighted c.port c.function ≡ true
    → (about k).sight port ≡ (about' k).sight port =
    λ c among port at sighted.
    subst (λ (n : ℕ). (about n).sight port ≡ (about' n).sight port) here
    (sights 0 p refl port (sighted-read p c (subst (λ (d : Device). IsAmong c d.cells) of.0 among) port at sighted)) in
    let captures : (mode : Mode) → (surroundings (about k) m).captures mode ≡ (surroundings (about' k) m).captures mode =
    λ mode.
    ap (λ (bits : List Bool). capture_by_sight (about k).sight (takes_update m.extest_update mode) m.registers.update bits 0 m.device.cells) core
    ∙ capture-same (about k).sight (about' k).sight (takes_update m.extest_update mode) m.registers.update (about' k).core 0 m.device.cells sight in
    ap₂ (λ (n : Member) (ns : List Member). n ∷ ns)
    (λ i. record m { registers = after_capture m.device column (record { captures = λ mode. captures mode i; at_reset = (surroundings (about k) m).at_reset }) m.registers })
    (all-captured-same column about about' (suc k) ps ms of.2
    (λ j. let next : k + suc j ≡ suc k + j = omega arith in subst (λ (n : ℕ). (about n).core ≡ (about' n).core) next (cores (suc j)))
    (λ j q at port read.
    let next : k + suc j ≡ suc k + j = omega arith in
    subst (λ (n : ℕ). (about n).sight port ≡ (about' n).sight port) next (sights (suc j) q at port read)))

pub not_captured : InvisibleFaultsAreNotCaptured
not_captured w its_way unseen ms of column =
    let faulty = with_way its_way w.nets in
    let held = in_force w.nets ms in
    let same : held ≡ in_force faulty ms = rounds-same w its_way unseen (strings ms) ms of in
    all-captured-same column (told w.nets ms) (told faulty ms) 0 w.members ms of
    (λ j. ap (λ (h : List Member). core_at h (0 + j)) same)
    (λ j p at port read.
    let own : 0 + j ≡ j = omega arith in
    sees-same w its_way unseen held (rounds-of (strings ms) w.nets w.members ms of) (0 + j) port p (ap (slice_get w.members) own ∙ at) read
    ∙ ap (λ (h : List Member). sees_under faulty h (0 + j) port) same)

-- A play keeps the nets, and of each device its name and its description.
use Rattle.std.proofs.Common.{◌≡◌, Bool, true, false, ℕ, suc, List, [], ◌∷◌, map, refl, ap, ◌∙◌}
use Rattle.std.specs.Prelude.{if◌then◌else◌}
use Rattle.jt_tap.specs.Controller.{is_at, pause, work}
use Rattle.jt_tap.specs.declared.Column.{Column}
use Rattle.jt_tap.specs.declared.Column.TheVariants.{Dr, Ir}
use Rattle.jt_tap.specs.declared.State.{State}
use Rattle.jt_tap.specs.declared.State.TheVariants.{Reset, DrPause, IrPause}
use Rattle.jt_tap.specs.declared.Work.{Work}
use Rattle.jt_tap.specs.declared.Work.TheVariants.{Resets, Captures, Shifts, Updates, Waits}
use Rattle.svf_words.specs.declared.keywords.TrstWord.TheVariants.{On, Off, Z, Absent}
use Rattle.scan_vectors.specs.Vector.{tdis}
use Rattle.svf_programs.specs.Steps.{Step, Scan, Go, Path, Run, Trst}
use Rattle.pin_nets.specs.Wired.{Net}
use Rattle.board_model.specs.Cells.{Member, Told}
use Rattle.board_model.specs.Chain.{members}
use Rattle.board_model.specs.Nets.{told}
use Rattle.board_model.specs.Resting.{chip_at_rest}
use Rattle.board_model.specs.Whole.{AtRest, along, arrive, capture, capture_all, cut_back, joined_bits, pass, reset_member, selected_bits_of, settle, settled_member, shift, trst_asserted, trst_member, update, update_member}
use Rattle.std.proofs.Common.{◌++◌, drop, length}
use Rattle.play_model.specs.Meaning.{after_step, move_to, move_unless_there, scan_end}
use Rattle.play_explained.specs.Kept.{Plate, plate, plates}

-- nets and plates are the same
pub record Keeps (a b : AtRest) : Type 0 where
  pub nets : b.nets ≡ a.nets
  pub kept : plates b.members ≡ plates a.members

abbrev at_rest : State → Bool → List Net → List Member → AtRest
at_rest place trst nets ms = record { place = place; trst = trst; nets = nets; members = ms }

pub same : (a : AtRest) → Keeps a a
same a = record { nets = refl; kept = refl }

pub after : (a b c : AtRest) → Keeps a b → Keeps b c → Keeps a c
after a b c one more = record { nets = more.nets ∙ one.nets; kept = more.kept ∙ one.kept }

-- ---- devices

plates_mapped : (f : Member → Member) → ((m : Member) → plate (f m) ≡ plate m) → (ms : List Member) → plates (map f ms) ≡ plates ms
plates_mapped f each [] = refl
plates_mapped f each (m ∷ ms) = λ i. each m i ∷ plates_mapped f each ms i

plates_captured : (column : Column) (about : ℕ → Told) (k : ℕ) (ms : List Member) → plates (capture_all column about k ms) ≡ plates ms
plates_captured column about k [] = refl
plates_captured column about k (m ∷ ms) = ap (λ ps. plate m ∷ ps) (plates_captured column about (suc k) ms)

plates_cut : (column : Column) (ms : List Member) (bits : List Bool) → plates (cut_back column bits ms) ≡ plates ms
plates_cut column [] bits = refl
plates_cut column (m ∷ ms) bits = ap (λ ps. plate m ∷ ps) (plates_cut column ms (drop (length (selected_bits_of column m)) bits))

one_of : (b : Bool) (x y m : Member) → plate x ≡ plate m → plate y ≡ plate m → plate (if b then x else y) ≡ plate m
one_of true x y m first second = first
one_of false x y m first second = second

plate_settled : (place : State) (m : Member) → plate (settled_member place m) ≡ plate m
plate_settled place m =
    one_of (is_at place (pause Dr)) (update_member Dr m) (if is_at place (pause Ir) then update_member Ir m else m) m refl
    (one_of (is_at place (pause Ir)) (update_member Ir m) m m refl refl)

plate_trst : (place : State) (m : Member) → plate (trst_member (settled_member place) m) ≡ plate m
plate_trst place m = one_of m.device.has_trst m (settled_member place m) m refl (plate_settled place m)

-- ---- boards

pub capture_keeps : (column : Column) (m : AtRest) → Keeps m (capture column m)
capture_keeps column m = record { nets = refl; kept = plates_captured column (told m.nets m.members) 0 m.members }

shift_keeps : (column : Column) (t : List Bool) (m : AtRest) → Keeps m (shift column t m)
shift_keeps column t m = record { nets = refl; kept = plates_cut column m.members (drop (length t) (joined_bits column m.members ++ t)) }

update_keeps : (column : Column) (m : AtRest) → Keeps m (update column m)
update_keeps column m = record { nets = refl; kept = plates_mapped (update_member column) (λ d. refl) m.members }

reset_keeps : (place trst : _) (m : AtRest) → Keeps m (at_rest place trst m.nets (map reset_member m.members))
reset_keeps place trst m = record { nets = refl; kept = plates_mapped reset_member (λ d. refl) m.members }

settled : (place : State) (trst : Bool) (nets : List Net) (ms : List Member) → Keeps (at_rest place trst nets ms) (settle (at_rest place trst nets ms))
settled DrPause trst nets ms = update_keeps Dr (at_rest DrPause trst nets ms)
settled IrPause trst nets ms = update_keeps Ir (at_rest IrPause trst nets ms)
settled _ trst nets ms = record { nets = refl; kept = refl }

pub settle_keeps : (m : AtRest) → Keeps m (settle m)
settle_keeps m = settled m.place m.trst m.nets m.members

-- another place
placed : (to : State) (a m : AtRest) → Keeps a m → Keeps a (record m { place = to })
placed to a m keeps = record { nets = keeps.nets; kept = keeps.kept }

arrive_keeps : (to : State) (m : AtRest) → Keeps m (arrive to m)
arrive_keeps Reset m = record { nets = refl; kept = plates_mapped reset_member (λ d. refl) m.members }
arrive_keeps DrPause m = placed DrPause m (capture Dr m) (capture_keeps Dr m)
arrive_keeps IrPause m = placed IrPause m (capture Ir m) (capture_keeps Ir m)
arrive_keeps _ m = record { nets = refl; kept = refl }

either : (b : Bool) (a x y : AtRest) → Keeps a x → Keeps a y → Keeps a (if b then x else y)
either true a x y first second = first
either false a x y first second = second

move_keeps : (to : State) (m : AtRest) → Keeps m (move_to to m)
move_keeps to m = after m (settle m) (arrive to (settle m)) (settle_keeps m) (arrive_keeps to (settle m))

maybe_keeps : (to : State) (m : AtRest) → Keeps m (move_unless_there to m)
maybe_keeps to m = either (is_at m.place to) m m (move_to to m) (same m) (move_keeps to m)

scan_end_keeps : (column : Column) (end : State) (m : AtRest) → Keeps m (scan_end column end m)
scan_end_keeps column end m =
    either (is_at end (pause column)) m (record m { place = end }) (arrive end (update column m)) (placed end m m (same m))
    (after m (update column m) (arrive end (update column m)) (update_keeps column m) (arrive_keeps end (update column m)))

pass_keeps : (w : Work) (m : AtRest) → Keeps m (pass w m)
pass_keeps Resets m = record { nets = refl; kept = plates_mapped reset_member (λ d. refl) m.members }
pass_keeps (Captures column) m = capture_keeps column m
pass_keeps (Shifts column) m = shift_keeps column (false ∷ []) m
pass_keeps (Updates column) m = update_keeps column m
pass_keeps Waits m = same m

along_keeps : (path : List State) (m : AtRest) → Keeps m (along path m)
along_keeps [] m = same m
along_keeps (s ∷ path) m =
    let next : AtRest = record (pass (work s) m) { place = s } in
    after m next (along path next) (placed s m (pass (work s) m) (pass_keeps (work s) m)) (along_keeps path next)

pub step_keeps : (s : Step) (m : AtRest) → Keeps m (after_step s m)
step_keeps (Scan column v end) m =
    let a = settle m in
    let b = capture column a in
    let c = shift column (tdis v) b in
    after m a (scan_end column end c) (settle_keeps m)
    (after a b (scan_end column end c) (capture_keeps column a) (after b c (scan_end column end c) (shift_keeps column (tdis v) b) (scan_end_keeps column end c)))
step_keeps (Go s) m = move_keeps s m
step_keeps (Path path) m = along_keeps path m
step_keeps (Run run n end) m =
    let there = move_unless_there run m in
    after m there (move_unless_there end there) (maybe_keeps run m) (maybe_keeps end there)
step_keeps (Trst On) m = record { nets = refl; kept = plates_mapped (trst_member (settled_member m.place)) (plate_trst m.place) m.members }
step_keeps (Trst Absent) m = same m
step_keeps (Trst Off) m = record { nets = refl; kept = refl }
step_keeps (Trst Z) m = record { nets = refl; kept = refl }

-- the devices of a board at rest
pub members_resting : (place : State) (ms : List Member) → members (map (chip_at_rest place) ms) ≡ ms
members_resting place [] = refl
members_resting place (m ∷ ms) = ap (λ l. m ∷ l) (members_resting place ms)

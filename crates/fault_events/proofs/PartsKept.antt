-- A play keeps of each device all but its registers.
use Rattle.std.proofs.Common.{◌≡◌, ℕ, suc, Bool, true, false, List, [], ◌∷◌, length, drop, map, if◌then◌else◌, refl, ap, ap₂, ◌∙◌}
use Rattle.jt_tap.specs.declared.Column.{Column}
use Rattle.jt_tap.specs.declared.Column.TheVariants.{Dr, Ir}
use Rattle.jt_tap.specs.declared.State.{State}
use Rattle.jt_tap.specs.declared.State.TheVariants as state
use Rattle.jt_tap.specs.declared.Work.{Work}
use Rattle.jt_tap.specs.declared.Work.TheVariants.{Resets, Captures, Shifts, Updates, Waits}
use Rattle.jt_tap.specs.Controller.{is_at, pause, work}
use Rattle.svf_words.specs.declared.keywords.TrstWord.TheVariants.{On, Off, Z, Absent}
use Rattle.scan_vectors.specs.Vector.{tdis}
use Rattle.svf_programs.specs.Steps.{Step, Scan, Go, Path, Run, Trst}
use Rattle.pin_nets.specs.Wired.{Net}
use Rattle.board_plan.specs.Planned as planned
use Rattle.board_model.specs.Cells.{Member, Told}
use Rattle.board_model.specs.Whole.{AtRest, along, arrive, capture, capture_all, cut_back, pass, reset_member, selected_bits_of, settle, settled_member, shift, trst_member, update, update_member}
use Rattle.play_model.specs.Meaning.{after_step, move_to, move_unless_there, scan_end}
use Rattle.fault_events.specs.Parts.{planned_part, planned_parts}

abbrev pub parts : AtRest → List planned.Member
parts m = planned_parts m.members

pub map_keeps : (f : Member → Member) → ((m : Member) → planned_part (f m) ≡ planned_part m) → (ms : List Member) → planned_parts (map f ms) ≡ planned_parts ms
map_keeps f same [] = refl
map_keeps f same (m ∷ ms) = ap₂ (λ (p : planned.Member) (ps : List planned.Member). p ∷ ps) (same m) (map_keeps f same ms)

all-capture : (column : Column) (about : ℕ → Told) (k : ℕ) (ms : List Member) → planned_parts (capture_all column about k ms) ≡ planned_parts ms
all-capture column about k [] = refl
all-capture column about k (m ∷ ms) = ap (λ (ps : List planned.Member). planned_part m ∷ ps) (all-capture column about (suc k) ms)

all-cut : (column : Column) (bits : List Bool) (ms : List Member) → planned_parts (cut_back column bits ms) ≡ planned_parts ms
all-cut column bits [] = refl
all-cut column bits (m ∷ ms) =
    ap (λ (ps : List planned.Member). planned_part m ∷ ps) (all-cut column (drop (length (selected_bits_of column m)) bits) ms)

pub capture_keeps : (column : Column) (m : AtRest) → parts (capture column m) ≡ parts m
capture_keeps column m = all-capture column _ 0 m.members

pub update_keeps : (column : Column) (m : AtRest) → parts (update column m) ≡ parts m
update_keeps column m = map_keeps (update_member column) (λ x. refl) m.members

pub shift_keeps : (column : Column) (t : List Bool) (m : AtRest) → parts (shift column t m) ≡ parts m
shift_keeps column t m = all-cut column _ m.members

settle-at : (s : State) (trst : Bool) (nets : List Net) (ms : List Member) → parts (settle (record { place = s; trst = trst; nets = nets; members = ms })) ≡ planned_parts ms
settle-at state.DrPause trst nets ms = update_keeps Dr (record { place = state.DrPause; trst = trst; nets = nets; members = ms })
settle-at state.IrPause trst nets ms = update_keeps Ir (record { place = state.IrPause; trst = trst; nets = nets; members = ms })
settle-at s trst nets ms = refl

pub settle_keeps : (m : AtRest) → parts (settle m) ≡ parts m
settle_keeps m = settle-at m.place m.trst m.nets m.members

pub arrive_keeps : (s : State) (m : AtRest) → parts (arrive s m) ≡ parts m
arrive_keeps state.Reset m = map_keeps reset_member (λ x. refl) m.members
arrive_keeps state.DrPause m = capture_keeps Dr m
arrive_keeps state.IrPause m = capture_keeps Ir m
arrive_keeps s m = refl

pub pass_keeps : (w : Work) (m : AtRest) → parts (pass w m) ≡ parts m
pass_keeps Resets m = map_keeps reset_member (λ x. refl) m.members
pass_keeps (Captures column) m = capture_keeps column m
pass_keeps (Shifts column) m = shift_keeps column (false ∷ []) m
pass_keeps (Updates column) m = update_keeps column m
pass_keeps Waits m = refl

along_keeps : (path : List State) (m : AtRest) → parts (along path m) ≡ parts m
along_keeps [] m = refl
along_keeps (s ∷ path) m = along_keeps path (record (pass (work s) m) { place = s }) ∙ pass_keeps (work s) m

pub end_keeps : (column : Column) (end : State) (m : AtRest) → parts (scan_end column end m) ≡ parts m
end_keeps column end m = by (is_at end (pause column))
  where
    by : (b : Bool) → parts (if b then record m { place = end } else arrive end (update column m)) ≡ parts m
    by true = refl
    by false = arrive_keeps end (update column m) ∙ update_keeps column m

pub scanned_keeps : (column : Column) (t : List Bool) (m : AtRest) → parts (shift column t (capture column m)) ≡ parts m
scanned_keeps column t m = shift_keeps column t (capture column m) ∙ capture_keeps column m

pub move_keeps : (s : State) (m : AtRest) → parts (move_unless_there s m) ≡ parts m
move_keeps s m = by (is_at m.place s)
  where
    by : (b : Bool) → parts (if b then m else move_to s m) ≡ parts m
    by true = refl
    by false = arrive_keeps s (settle m) ∙ settle_keeps m

settled-part : (s : State) (m : Member) → planned_part (settled_member s m) ≡ planned_part m
settled-part s m = by (is_at s (pause Dr)) (is_at s (pause Ir))
  where
    by : (a b : Bool) → planned_part (if a then update_member Dr m else if b then update_member Ir m else m) ≡ planned_part m
    by true b = refl
    by false true = refl
    by false false = refl

asserted-part : (s : State) (m : Member) → planned_part (trst_member (settled_member s) m) ≡ planned_part m
asserted-part s m = by m.device.has_trst
  where
    by : (b : Bool) → planned_part (reset_member (if b then m else settled_member s m)) ≡ planned_part m
    by true = refl
    by false = settled-part s m

pub step_keeps : (step : Step) (m : AtRest) → parts (after_step step m) ≡ parts m
step_keeps (Scan column v end) m =
    end_keeps column end (shift column (tdis v) (capture column (settle m))) ∙ scanned_keeps column (tdis v) (settle m) ∙ settle_keeps m
step_keeps (Go s) m = arrive_keeps s (settle m) ∙ settle_keeps m
step_keeps (Path path) m = along_keeps path m
step_keeps (Run run n end) m = move_keeps end (move_unless_there run m) ∙ move_keeps run m
step_keeps (Trst On) m = map_keeps (trst_member (settled_member m.place)) (asserted-part m.place) m.members
step_keeps (Trst Off) m = refl
step_keeps (Trst Z) m = refl
step_keeps (Trst Absent) m = refl

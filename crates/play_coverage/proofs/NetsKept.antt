-- A play keeps the nets.
use Rattle.std.proofs.Common.{◌≡◌, Bool, true, false, List, [], ◌∷◌, refl, ◌∙◌}
use Rattle.std.specs.Prelude.{if◌then◌else◌}
use Rattle.jt_tap.specs.Controller.{is_at, pause, work}
use Rattle.jt_tap.specs.declared.Column.{Column}
use Rattle.jt_tap.specs.declared.State.{State}
use Rattle.jt_tap.specs.declared.State.TheVariants.{Reset, DrPause, IrPause}
use Rattle.jt_tap.specs.declared.Work.{Work}
use Rattle.jt_tap.specs.declared.Work.TheVariants.{Resets, Captures, Shifts, Updates, Waits}
use Rattle.svf_words.specs.declared.keywords.TrstWord.TheVariants.{On, Off, Z, Absent}
use Rattle.scan_vectors.specs.Vector.{tdis}
use Rattle.svf_programs.specs.Steps.{Step, Scan, Go, Path, Run, Trst}
use Rattle.pin_nets.specs.Wired.{Net}
use Rattle.board_model.specs.Cells.{Member}
use Rattle.board_model.specs.Whole.{AtRest, along, arrive, capture, pass, settle, shift, update}
use Rattle.play_model.specs.Meaning.{after_step, move_to, move_unless_there, scan_end}

either : (b : Bool) (nets : List Net) (x y : AtRest) → x.nets ≡ nets → y.nets ≡ nets → (if b then x else y).nets ≡ nets
either true nets x y first second = first
either false nets x y first second = second

settled : (place : State) (trst : Bool) (nets : List Net) (ms : List Member) → (settle (record { place = place; trst = trst; nets = nets; members = ms })).nets ≡ nets
settled DrPause trst nets ms = refl
settled IrPause trst nets ms = refl
settled _ trst nets ms = refl

settle_keeps : (m : AtRest) → (settle m).nets ≡ m.nets
settle_keeps m = settled m.place m.trst m.nets m.members

arrive_keeps : (to : State) (m : AtRest) → (arrive to m).nets ≡ m.nets
arrive_keeps Reset m = refl
arrive_keeps DrPause m = refl
arrive_keeps IrPause m = refl
arrive_keeps _ m = refl

move_keeps : (to : State) (m : AtRest) → (move_to to m).nets ≡ m.nets
move_keeps to m = arrive_keeps to (settle m) ∙ settle_keeps m

maybe_keeps : (to : State) (m : AtRest) → (move_unless_there to m).nets ≡ m.nets
maybe_keeps to m = either (is_at m.place to) m.nets m (move_to to m) refl (move_keeps to m)

scan_end_keeps : (column : Column) (end : State) (m : AtRest) → (scan_end column end m).nets ≡ m.nets
scan_end_keeps column end m =
    either (is_at end (pause column)) m.nets (record m { place = end }) (arrive end (update column m)) refl (arrive_keeps end (update column m))

pass_keeps : (w : Work) (m : AtRest) → (pass w m).nets ≡ m.nets
pass_keeps Resets m = refl
pass_keeps (Captures column) m = refl
pass_keeps (Shifts column) m = refl
pass_keeps (Updates column) m = refl
pass_keeps Waits m = refl

along_keeps : (path : List State) (m : AtRest) → (along path m).nets ≡ m.nets
along_keeps [] m = refl
along_keeps (s ∷ path) m = along_keeps path (record (pass (work s) m) { place = s }) ∙ pass_keeps (work s) m

pub step_keeps : (s : Step) (m : AtRest) → (after_step s m).nets ≡ m.nets
step_keeps (Scan column v end) m =
    scan_end_keeps column end (shift column (tdis v) (capture column (settle m))) ∙ settle_keeps m
step_keeps (Go s) m = move_keeps s m
step_keeps (Path path) m = along_keeps path m
step_keeps (Run run n end) m = maybe_keeps end (move_unless_there run m) ∙ maybe_keeps run m
step_keeps (Trst On) m = refl
step_keeps (Trst Absent) m = refl
step_keeps (Trst Off) m = refl
step_keeps (Trst Z) m = refl

-- Where a step rests and what it leaves on the TRST line are read off the step; so legality is read off the program.
use Rattle.std.proofs.Common.{◌≡◌, Bool, true, false, List, [], ◌∷◌, refl, sym, ap, ◌∙◌, subst}
use Rattle.std.specs.Prelude.{if◌then◌else◌}
use Rattle.jt_tap.specs.declared.Column.{Column}
use Rattle.jt_tap.specs.declared.Column.TheVariants.{Dr, Ir}
use Rattle.jt_tap.specs.declared.State.{State}
use Rattle.jt_tap.specs.declared.State.TheVariants.{Reset, Idle, DrPause, IrPause}
use Rattle.jt_tap.specs.declared.Work.{Work}
use Rattle.jt_tap.specs.declared.Work.TheVariants.{Resets, Captures, Shifts, Updates, Waits}
use Rattle.jt_tap.specs.Controller.{work, is_at, is_stable, pause}
use Rattle.board_model.specs.Cells.{Member}
use Rattle.pin_nets.specs.Wired.{Net}
use Rattle.scan_vectors.specs.Vector.{tdis}
use Rattle.board_model.specs.Whole.{AtRest, arrive, along, capture, pass, settle, shift, update}
use Rattle.bitbang.specs.Steps.{Step, Scan, Go, Path, Run, Trst, place_after, Numbered, line_after}
use Rattle.svf_words.specs.declared.keywords.TrstWord.TheVariants.{On, Off, Z, Absent}
use Rattle.play_model.specs.Meaning.{after_step, move_to, move_unless_there, scan_end}
use Rattle.jt_tap.specs.Paths.{last_of}
use Rattle.bitbang.specs.Legal.{IsFormed, AllLegalFrom}
use Rattle.board_model.proofs.Walks.{at_rest}
use Rattle.play_model.specs.Legal.{AllLegal}
use Rattle.play_model.specs.LegalPlays.{LegalityIsOfTheProgram}
use Rattle.play_model.proofs.StepLaws.{path-stable}

arrive-place : (to : State) (m : AtRest) → is_stable to ≡ true → (arrive to m).place ≡ to
arrive-place Reset m stable = refl
arrive-place Idle m stable = refl
arrive-place DrPause m stable = refl
arrive-place IrPause m stable = refl
arrive-place _ m stable = absurd (cc)

end-place : (column : Column) (end : State) (m : AtRest) → is_stable end ≡ true → (scan_end column end m).place ≡ end
end-place Dr Reset m stable = refl
end-place Dr Idle m stable = refl
end-place Dr DrPause m stable = refl
end-place Dr IrPause m stable = refl
end-place Dr _ m stable = absurd (cc)
end-place Ir Reset m stable = refl
end-place Ir Idle m stable = refl
end-place Ir DrPause m stable = refl
end-place Ir IrPause m stable = refl
end-place Ir _ m stable = absurd (cc)

along-place : (path : List State) (m : AtRest) → (along path m).place ≡ last_of m.place path
along-place [] m = refl
along-place (s ∷ path) m = along-place path (record (pass (work s) m) { place = s })

maybe-place : (to place : State) (trst : Bool) (nets : List Net) (ms : List Member) → is_stable to ≡ true
    → (move_unless_there to (at_rest place trst nets ms)).place ≡ to
maybe-place Reset Reset trst nets ms stable = refl
maybe-place Reset place trst nets ms stable = refl
maybe-place Idle Idle trst nets ms stable = refl
maybe-place Idle place trst nets ms stable = refl
maybe-place DrPause DrPause trst nets ms stable = refl
maybe-place DrPause place trst nets ms stable = refl
maybe-place IrPause IrPause trst nets ms stable = refl
maybe-place IrPause place trst nets ms stable = refl
maybe-place _ place trst nets ms stable = absurd (cc)

-- A step rests where it says.
place-command : (step : Step) (m : AtRest) → IsFormed m.place step → (after_step step m).place ≡ place_after m.place step
place-command (Scan column v end) m formed = end-place column end (shift column (tdis v) (capture column (settle m))) formed.1
place-command (Go s) m formed = arrive-place s (settle m) formed
place-command (Path path) m formed = along-place path m
place-command (Run run n end) m formed =
    let first = move_unless_there run m in maybe-place end first.place first.trst first.nets first.members formed.1
place-command (Trst On) m formed = refl
place-command (Trst Off) m formed = refl
place-command (Trst Z) m formed = refl
place-command (Trst Absent) m formed = refl

-- a step that is formed rests in a stable state
pub place-stable : (step : Step) (place : State) → is_stable place ≡ true → IsFormed place step → is_stable (place_after place step) ≡ true
place-stable (Scan column v end) place stable formed = formed.1
place-stable (Go s) place stable formed = formed
place-stable (Path path) place stable formed = path-stable path place formed
place-stable (Run run n end) place stable formed = formed.1
place-stable (Trst On) place stable formed = refl
place-stable (Trst Off) place stable formed = stable
place-stable (Trst Z) place stable formed = stable
place-stable (Trst Absent) place stable formed = stable

settle-line : (place : State) (trst : Bool) (nets : List Net) (ms : List Member) → (settle (at_rest place trst nets ms)).trst ≡ trst
settle-line DrPause trst nets ms = refl
settle-line IrPause trst nets ms = refl
settle-line _ trst nets ms = refl

arrive-line : (to : State) (m : AtRest) → (arrive to m).trst ≡ m.trst
arrive-line Reset m = refl
arrive-line DrPause m = refl
arrive-line IrPause m = refl
arrive-line _ m = refl

move-line : (to : State) (m : AtRest) → (move_to to m).trst ≡ m.trst
move-line to m = arrive-line to (settle m) ∙ settle-line m.place m.trst m.nets m.members

line-either : (which : Bool) (m n : AtRest) (trst : Bool) → m.trst ≡ trst → n.trst ≡ trst → (if which then m else n).trst ≡ trst
line-either true m n trst first second = first
line-either false m n trst first second = second

maybe-line : (to : State) (m : AtRest) → (move_unless_there to m).trst ≡ m.trst
maybe-line to m = line-either (is_at m.place to) m (move_to to m) m.trst refl (move-line to m)

end-line : (column : Column) (end : State) (m : AtRest) → (scan_end column end m).trst ≡ m.trst
end-line column end m =
    line-either (is_at end (pause column)) (record m { place = end }) (arrive end (update column m)) m.trst refl (arrive-line end (update column m))

pass-line : (w : Work) (m : AtRest) → (pass w m).trst ≡ m.trst
pass-line Resets m = refl
pass-line (Captures column) m = refl
pass-line (Shifts column) m = refl
pass-line (Updates column) m = refl
pass-line Waits m = refl

along-line : (path : List State) (m : AtRest) → (along path m).trst ≡ m.trst
along-line [] m = refl
along-line (s ∷ path) m = along-line path (record (pass (work s) m) { place = s }) ∙ pass-line (work s) m

-- A step leaves on the TRST line what it says.
line-command : (step : Step) (m : AtRest) → (after_step step m).trst ≡ line_after m.trst step
line-command (Scan column v end) m =
    end-line column end (shift column (tdis v) (capture column (settle m))) ∙ settle-line m.place m.trst m.nets m.members
line-command (Go s) m = move-line s m
line-command (Path path) m = along-line path m
line-command (Run run n end) m = maybe-line end (move_unless_there run m) ∙ maybe-line run m
line-command (Trst On) m = refl
line-command (Trst Off) m = refl
line-command (Trst Z) m = refl
line-command (Trst Absent) m = refl

rest-stable : (step : Step) (m : AtRest) → is_stable m.place ≡ true → IsFormed m.place step → is_stable (after_step step m).place ≡ true
rest-stable step m stable formed = ap is_stable (place-command step m formed) ∙ place-stable step m.place stable formed

moved-there : (steps : List Numbered) (p q : State) (a b : Bool) → p ≡ q → a ≡ b → AllLegalFrom p a steps → AllLegalFrom q b steps
moved-there steps p q a b places lines legal =
    subst (λ (t : Bool). AllLegalFrom q t steps) lines (subst (λ (s : State). AllLegalFrom s a steps) places legal)

pub legal-from : (steps : List Numbered) (m : AtRest) → is_stable m.place ≡ true → AllLegalFrom m.place m.trst steps → AllLegal steps m
legal-from [] m stable legal = tt
legal-from (s ∷ steps) m stable legal = (
  record { formed = legal.0.formed; stays = legal.0.stays; not_absent = legal.0.not_absent },
  legal-from steps (after_step s.what m) (rest-stable s.what m stable legal.0.formed)
      (moved-there steps _ _ _ _ (sym (place-command s.what m legal.0.formed)) (sym (line-command s.what m)) legal.1),
)

legal-to : (steps : List Numbered) (m : AtRest) → is_stable m.place ≡ true → AllLegal steps m → AllLegalFrom m.place m.trst steps
legal-to [] m stable legal = tt
legal-to (s ∷ steps) m stable legal = (
  record { formed = legal.0.formed; stays = legal.0.stays; not_absent = legal.0.not_absent },
  moved-there steps _ _ _ _ (place-command s.what m legal.0.formed) (line-command s.what m)
      (legal-to steps (after_step s.what m) (rest-stable s.what m stable legal.0.formed) legal.1),
)

pub legality : LegalityIsOfTheProgram
legality steps m stable = (legal-from steps m stable, legal-to steps m stable)

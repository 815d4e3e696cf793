use Rattle.std.proofs.Common.{◌≡◌, ◌++◌, ◌∷◌, [], List, map, sym, ap, subst, ◌∙◌}
use Rattle.std.proofs.lemmas.List.{map-append}
use Rattle.scan_vectors.specs.Held.{bits}
use Rattle.board_model.specs.Cells.{Member}
use Rattle.board_model.specs.Chain.{ChipState, members}
use Rattle.fault_events.specs.declared.captures.Capture.{Capture}
use Rattle.fault_events.specs.declared.notes.Note.{Note}
use Rattle.fault_events.specs.Captures.{Noted, seen}
use Rattle.fault_events.specs.Notes.{noted}
use Rattle.fault_events.specs.Parts.{AllPlannedFormed, planned_parts}
use Rattle.fault_events.proofs.Resting.{all_formed, rests_members}
use Rattle.fault_events.proofs.captures.note_capture.Goals as goal

pub note_pins-requires : goal.note_pins-requires
note_pins-requires c =
    let same = ap (λ (chips : List ChipState). planned_parts (members chips)) c.chain.ensures.chips ∙ c.requires.same in
    record {
      same = same;
      formed = all_formed (members c.chain.result.now.chips) (subst AllPlannedFormed (sym same) c.requires.formed);
      numbered = c.requires.numbered;
    }

pub returns : goal.returns
returns c = λ m is.
    let old = c.args.list.now.items in
    let pins = c.args.at.numbers.now.pins.items in
    let v = bits c.args.vector.now in
    let new : Capture = record { command = c.args.at.command; pins = c.in_ok-pins.pins } in
    let ms : members c.chain.result.now.chips ≡ m.members =
    ap (λ (chips : List ChipState). members chips) c.chain.ensures.chips ∙ rests_members c.args.board.now m is in
    let notes : new.pins.items ≡ noted pins m.members v = c.in_ok-pins.ensures ∙ ap (λ (l : List Member). noted pins l v) ms in
    ap (map seen) c.in_ok-push.ensures.items ∙ map-append seen old (new ∷ [])
    ∙ ap (λ (l : List Note). let one : Noted = record { command = c.args.at.command; notes = l } in map seen old ++ one ∷ []) notes

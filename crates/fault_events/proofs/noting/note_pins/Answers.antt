use Rattle.std.proofs.Common.{◌≡◌, List, map, IfOk, sym, ap, subst, ◌∙◌}
use Rattle.scan_vectors.specs.Held.{bits}
use Rattle.board_plan.specs.Planned.{Member}
use Rattle.board_model.specs.Chain.{members}
use Rattle.fault_events.specs.declared.notes.Note.{Note}
use Rattle.fault_events.specs.Drives.{started, wire_of}
use Rattle.fault_events.specs.Marks.{marked}
use Rattle.fault_events.specs.Numbers.{numbers}
use Rattle.fault_events.specs.Tables.{ArePorts, tables_of}
use Rattle.fault_events.proofs.AllNoted.{all_noted}
use Rattle.fault_events.proofs.noting.note_pins.Goals as goal

pub returns : goal.returns
returns c =
    let n = c.args.numbers.now in
    let ms = members c.args.chain.now.chips in
    let v = bits c.args.vector.now in
    let its = c.requires.numbered in
    let made =
    (λ i. marked v 0 (numbers (its.tables i) ms) (map (started ms) (its.wires i)))
    ∙ ap (λ (ps : List Member). marked v 0 (numbers (tables_of n.pins.items ps) ms) (map (started ms) (map (wire_of ps) n.pins.items))) (sym c.requires.same)
    ∙ all_noted n.pins.items ms its.apart (subst (λ (ps : List Member). ArePorts ps n.pins.items) (sym c.requires.same) its.ports) v in
    subst (λ (l : List Note). IfOk c.marked_pins.result (λ x. x.items ≡ l)) made c.marked_pins.ensures

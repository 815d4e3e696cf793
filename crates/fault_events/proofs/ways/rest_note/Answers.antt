use Rattle.std.proofs.Common.{◌≡◌, ◌+◌, ℕ, suc, List, take, drop, sym, ap, ap₂, ◌∙◌, arith, drop-drop}
use Rattle.fault_events.specs.declared.notes.Note.{Note}
use Rattle.fault_events.specs.Endings.{all_of, all_with}
use Rattle.fault_events.proofs.OnePlay.{all_split}
use Rattle.fault_events.proofs.ways.rest_note.Goals as goal

pub returns : goal.returns
returns c =
    let notes = c.args.notes.now in
    let pin = c.args.pin in
    let next : pin + 1 ≡ suc pin = omega arith in
    let behind : c.behind-2.result.now ≡ drop (suc pin) notes =
    c.behind-2.ensures ∙ ap (drop 1) c.behind.ensures ∙ drop-drop 1 pin notes ∙ ap (λ (k : ℕ). drop k notes) next in
    c.all_with.ensures
    ∙ ap₂ (λ (xs : List Note) (n : Note). all_with xs n) c.front.ensures (c.all_of.ensures ∙ ap all_of behind)
    ∙ sym (all_split (take pin notes) (drop (suc pin) notes))

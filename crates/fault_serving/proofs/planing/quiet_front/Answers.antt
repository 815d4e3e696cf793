use Rattle.std.proofs.Common.{◌||◌, Bool, sym, ap₂, ◌∙◌}
use Rattle.board_faults.proofs.WordBits.{or_bit}
use Rattle.fault_serving.proofs.planing.quiet_front.Goals as goal

pub returns-clause-quiet : goal.returns-clause-quiet
returns-clause-quiet c = λ k below.
    let x = c.changes_of-changes.result in
    let none = c.lowest.ensures.none k below in
    sym (ap₂ (λ (u v : Bool). u || v) (c.changes_of-changes.ensures.wanted k none.0) (c.changes_of-changes.ensures.stays k none.0))
    ∙ sym (or_bit x.wanted x.stays k) ∙ none.1

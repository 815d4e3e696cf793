-- A bit that fails first at a capture is one that the play to the end on the board with the fault lists.
use Rattle.std.proofs.Common.{◌≡◌, List, [], map, refl, sym, subst}
use Rattle.scan_vectors.specs.declared.failures.Mismatch.{Mismatch}
use Rattle.svf_programs.specs.Legal.{IsLegalProgram}
use Rattle.svf_programs.specs.Steps.{Program}
use Rattle.board_plan.specs.Planned.{Wiring}
use Rattle.board_faults.specs.declared.kinds.Way.{Way}
use Rattle.board_faults.specs.Faults.{IsWayOf}
use Rattle.board_faults.specs.Faulty.{CanBeJudged}
use Rattle.board_faults.proofs.JudgingLaws.{may_have}
use Rattle.fault_events.specs.Blocks.{noted_in}
use Rattle.fault_events.specs.Captures.{Noted, captures}
use Rattle.fault_events.specs.Nets.{seen, with_nets_noted}
use Rattle.fault_serving.specs.Firsts.{HasOther, firsts_noted}
use Rattle.fault_serving.proofs.Firsts.{firsts_are_failures, other_kept}
use Rattle.fault_serving.specs.declared.serving.Serving.{Serving}
use Rattle.fault_serving.specs.declared.serving.Serving.TheVariants.{Nothing, Whole, Blocks}
use Rattle.fault_serving.specs.Serving.{ListsOther, MayServe, Serves, kept_captures}
use Rattle.fault_serving.proofs.Plain.{without_strings}

pub other_fails : (program : Program) → IsLegalProgram program.steps → (w : Wiring) → CanBeJudged w → Serves program w
    → (its_way : Way) → IsWayOf w.nets its_way → (bits : List Mismatch)
    → HasOther bits (firsts_noted w.nets its_way (captures program w)) → ListsOther program w its_way bits
other_fails program legal w can serves its_way its bits h = record {
  other = h.other;
  there = firsts_are_failures program legal w can.sound (may_have w can) (without_strings w serves.plain) serves.passes its_way its h.other h.there;
  missing = h.missing;
}

-- the same by the first captures, as far as these are kept
pub kept_lists : (program : Program) → IsLegalProgram program.steps → (w : Wiring) → CanBeJudged w → (its_way : Way) → IsWayOf w.nets its_way → (bits : List Mismatch)
    → (serving : Serving) → MayServe program w serving
    → ((ns : List Noted) → map seen (kept_captures serving) ≡ map (with_nets_noted w.nets) ns → HasOther bits (firsts_noted w.nets its_way ns))
    → ListsOther program w its_way bits
kept_lists program legal w can its_way its bits Nothing may told = let none = told [] refl in absurd none.there
kept_lists program legal w can its_way its bits (Whole t) may told =
    other_fails program legal w can may.0 its_way its bits
    (subst (λ (cs : List Noted). HasOther bits (firsts_noted w.nets its_way cs)) may.2 (told (noted_in t.block) may.1.block.by_net))
kept_lists program legal w can its_way its bits (Blocks f) may told =
    let front = may.1 in
    other_fails program legal w can may.0 its_way its bits
    (subst (λ (cs : List Noted). HasOther bits (firsts_noted w.nets its_way cs)) (sym front.are)
    (other_kept bits w.nets its_way front.first front.rest (told front.first front.nets)))

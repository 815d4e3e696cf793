-- Whether a way fits, as it is told.
use Rattle.std.proofs.Common.{◌≡◌, ◌↔◌, Bool, Option, Some, None, sym}
use Rattle.std.specs.Prelude.{IsTrue}
use Rattle.svf_programs.specs.Steps.{Program}
use Rattle.board_plan.specs.Planned.{Wiring}
use Rattle.play_model.specs.declared.ending.Ending.{Ending}
use Rattle.board_faults.specs.declared.kinds.Way.{Way}
use Rattle.board_faults.specs.Judging.{wiring_with}
use Rattle.board_faults.specs.Made.{board_of}
use Rattle.fault_serving.specs.Serving.{IsToldOf}
use Rattle.play_diagnosis.specs.Ended.{by_told}
use Rattle.play_diagnosis.specs.Fitting.{Fits}
use Rattle.play_diagnosis.specs.Reading.{Verdict}
use Rattle.play_diagnosis.proofs.Ends.{ended_so}
use Rattle.play_diagnosis.proofs.Tests.{firsts, passes}

pub told_fits : (program : Program) (w : Wiring) (said : Verdict) (way : Way) (told : Option Ending) → IsToldOf program w way told
    → (fits : Bool) → by_told said told ≡ Some fits → IsTrue fits ↔ Fits said program w way
told_fits program w said way None told fits e = absurd (cc)
told_fits program w said way (Some ending) told fits e =
    let so = ended_so program (board_of (wiring_with way w)) ending (sym told.1) passes firsts said fits e in
    (λ holds. record { meaning = told.0; gives = so.0 holds }, λ its. so.1 its.gives)

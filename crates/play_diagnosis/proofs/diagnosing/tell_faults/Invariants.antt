use Rattle.std.proofs.Common.{◌≡◌, ◌++◌, List, length}
use Rattle.std.specs.List.{AllByRecursion}
use Rattle.svf_programs.specs.Sizes.{program_of}
use Rattle.board_plan.specs.View.{wiring}
use Rattle.board_faults.specs.declared.kinds.Fault.{Fault}
use Rattle.board_faults.specs.Faults.{IsFaultOf, faults}
use Rattle.board_faults.specs.Listing.{left_of}
use Rattle.fault_serving.specs.Serving.{MayServe}
use Rattle.play_diagnosis.specs.Benches.{IsBench}
use Rattle.play_diagnosis.specs.Diagnosis.{TellsFaults}
use Rattle.play_diagnosis.specs.Reading.{verdict_of}
use Rattle.play_diagnosis.proofs.diagnosing.tell_faults.Given as goal

-- the faults so far are told
abbrev pub invariant-chunks : goal.invariant-chunks
invariant-chunks l =
    let w = wiring l.plan in
    record {
      done : List Fault;
      all : faults w.nets ≡ done ++ left_of l.left;
      theirs : AllByRecursion (IsFaultOf w.nets) (left_of l.left);
      serving : MayServe (program_of l.program) w l.serving;
      bench : IsBench w l.bench;
      tells : TellsFaults (verdict_of l.said) (program_of l.program) w done l.text.items;
    }

abbrev pub decreases-chunks : goal.decreases-chunks
decreases-chunks l = length (left_of l.left)

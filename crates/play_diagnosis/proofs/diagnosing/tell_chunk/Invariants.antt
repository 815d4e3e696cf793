use Rattle.std.proofs.Common.{drop, take}
use Rattle.std.specs.Prelude.{flat_map}
use Rattle.std.specs.List.{AllByRecursion}
use Rattle.svf_programs.specs.Sizes.{program_of}
use Rattle.board_plan.specs.View.{wiring}
use Rattle.board_faults.specs.Faults.{IsFaultOf, ways}
use Rattle.fault_serving.specs.Serving.{AreTold}
use Rattle.play_diagnosis.specs.Benches.{IsBench}
use Rattle.play_diagnosis.specs.Diagnosis.{PutsFaults}
use Rattle.play_diagnosis.specs.Reading.{verdict_of}
use Rattle.play_diagnosis.proofs.diagnosing.tell_chunk.Given as goal

-- the faults so far are told, and of those behind them is told what was
abbrev pub invariant-loop-fault : goal.invariant-loop-fault
invariant-loop-fault l =
    let w = wiring l.plan in
    let program = program_of l.program in
    let left = drop l.fault-index l.chunk.faults.items in
    record {
      bench : IsBench w l.bench;
      theirs : AllByRecursion (IsFaultOf w.nets) left;
      told : AreTold program w (flat_map ways left) l.told;
      tells : PutsFaults (verdict_of l.said) program w (take l.fault-index l.chunk.faults.items) l.fn.text.items l.text.items;
    }

-- What is told of a way with which a program passes is how it is judged.
use Rattle.std.proofs.Common.{Some, sym, ◌∙◌}
use Rattle.svf_programs.specs.Steps.{Program}
use Rattle.board_plan.specs.Planned.{Wiring}
use Rattle.play_model.specs.declared.ending.Ending.TheVariants.{Pass}
use Rattle.board_faults.specs.declared.judging.Verdict.{Verdict}
use Rattle.board_faults.specs.declared.judging.Verdict.TheVariants.{Invisible, Played}
use Rattle.board_faults.specs.declared.kinds.Way.{Way}
use Rattle.board_faults.specs.Judging.{JudgesWayWith}
use Rattle.fault_serving.specs.Serving.{IsToldOf}
use Rattle.play_coverage.specs.Told.{JudgesPassed}

pub told_passed : (program : Program) (w : Wiring) (its_way : Way) (v : Verdict) → IsToldOf program w its_way (Some Pass) → JudgesPassed w its_way v
    → JudgesWayWith program w its_way (Some v)
told_passed program w its_way Invisible told unseen = (told.0, unseen)
told_passed program w its_way (Played ending) told passes = (told.0, (passes.0, passes.1 ∙ sym told.1))

use Rattle.std.proofs.Common.{ap}
use Rattle.board_plan.specs.View.{wiring}
use Rattle.play_diagnosis.specs.Diagnosis.{fault_line}
use Rattle.play_diagnosis.proofs.diagnosing.tell_fault.Goals as goal

pub returns-clause-tells : goal.returns-clause-tells
returns-clause-tells c =
    let w = wiring c.args.plan.now in (
      fault_line w c.args.fault c.deref.result.now,
      record { ways = c.in_ok-ways.ways.items; tries = c.in_ok-ways.ensures.tries; tells = ap (fault_line w c.args.fault) c.deref.ensures.value },
      c.in_ok-put_line.ensures,
    )

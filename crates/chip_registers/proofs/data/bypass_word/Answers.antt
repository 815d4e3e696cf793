use Rattle.chip_registers.proofs.DataLaws.{bypass_one, bypass_zero, bypass_past}
use Rattle.chip_registers.proofs.data.bypass_word.Goals.{else-i-eq0-via-then-i-eq0+else-bypass, else-i-eq0-via-else-i-eq0}
use Rattle.chip_registers.proofs.data.bypass_word.Goals as goal

pub returns-then-bypass : goal.returns-then-bypass
returns-then-bypass c = λ j h. bypass_one c.args.bypass c.args.i j c.if-i-eq0.true c.if-bypass.true

pub returns-else-i-eq0 : goal.returns-else-i-eq0
returns-else-i-eq0 c = λ j h. elim c.else-i-eq0.branch [
  | else-i-eq0-via-then-i-eq0+else-bypass w ↦ bypass_zero c.args.bypass c.args.i j w.if-bypass.false
  | else-i-eq0-via-else-i-eq0 w ↦ bypass_past c.args.bypass c.args.i j w.if-i-eq0.false
]

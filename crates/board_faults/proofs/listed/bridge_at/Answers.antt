use Rattle.std.proofs.Common.{◌+◌, ◌-◌, sym, arith}
use Rattle.board_faults.specs.declared.kinds.Fault.TheVariants as fault
use Rattle.board_faults.proofs.Places.{mapped_at, mapped_past}
use Rattle.board_faults.proofs.listed.bridge_at.Goals as goal

pub returns-then-at-count-clause-value : goal.returns-then-at-count-clause-value
returns-then-at-count-clause-value c =
    sym (mapped_at (fault.Short c.args.net) (c.args.net + 1) (c.args.count - (c.args.net + 1)) c.args.at (c.args.net + 1 + c.args.at) (omega (arith, c.if-at-count.true, c.requires)) (omega arith))

pub returns-else-at-count-clause-value : goal.returns-else-at-count-clause-value
returns-else-at-count-clause-value c =
    sym (mapped_past (fault.Short c.args.net) (c.args.net + 1) (c.args.count - (c.args.net + 1)) c.args.at (omega (arith, c.if-at-count.false, c.requires)))

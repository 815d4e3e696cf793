use Rattle.std.proofs.Common.{sym, ◌∙◌, arith}
use Rattle.play_pipes.proofs.RoundsEnd.{finish-keeps, finish-smaller}
use Rattle.play_pipes.proofs.finishing.go_on.Goals as goal

pub loop-pipes-smaller : goal.loop-pipes-smaller
loop-pipes-smaller c =
    let i = c.loop-pipes.invariant in
    finish-smaller c.args.pipes.now c.loop-pipes.pipes c.run.new.self i.0 18446744073709551615 (omega arith) c.requires i.2
    (sym c.is_over.ensures ∙ c.loop-pipes-test.true) c.run.ensures.world

pub loop-pipes-preserved : goal.loop-pipes-preserved
loop-pipes-preserved c =
    let i = c.loop-pipes.invariant in
    finish-keeps c.args.pipes.now c.loop-pipes.pipes c.run.new.self i.0 18446744073709551615 i.1 i.2 c.run.ensures.world

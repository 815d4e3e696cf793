use Rattle.std.proofs.Common.{◌+◌, bit_and, drop, arith}
use Rattle.board_description.proofs.BlockLaws.{Takes, takes_apart, takes_more, takes_no_more, takes_none}
use Rattle.board_description.proofs.blocks.taking.Goals as goal

pub returns-then-columns-pattern : goal.returns-then-columns-pattern
returns-then-columns-pattern c = λ k h. takes_apart c.args.columns.now c.args.pattern.now k c.if-columns-pattern.true

pub loop-i-init : goal.loop-i-init
loop-i-init c = takes_none c.args.columns.now c.args.pattern.now

pub loop-i-preserved : goal.loop-i-preserved
loop-i-preserved c =
    takes_more c.args.columns.now c.args.pattern.now c.loop-i.i c.loop-i.word c.taking-word.result _ _ (omega arith) (omega arith) c.taking-word.ensures c.loop-i.invariant

pub returns-then-word-eq0 : goal.returns-then-word-eq0
returns-then-word-eq0 c =
    let columns = c.args.columns.now in
    let pattern = c.args.pattern.now in
    let i = c.loop-i.i in
    takes_no_more columns (drop (i + 1) columns) pattern (drop (i + 1) pattern) (bit_and c.loop-i.word c.taking-word.result) c.if-word-eq0.true
    (takes_more columns pattern i c.loop-i.word c.taking-word.result _ _ (omega arith) (omega arith) c.taking-word.ensures c.loop-i.invariant)

use Rattle.std.proofs.Common.{◌<◌, false, length, arith}
use Rattle.std.proofs.lemmas.List.{get_or_read}
use Rattle.board_loops.proofs.MarkLaws.{told}
use Rattle.board_loops.proofs.NumberLaws.{lowered_leads_nowhere}
use Rattle.board_loops.proofs.net_loops.loops.leads_back.Goals as goal

pub returns-then-numbers-string : goal.returns-then-numbers-string
returns-then-numbers-string c = lowered_leads_nowhere c.args.strings.now c.args.numbers.now c.args.string c.requires.unraised c.if-numbers-string.true

pub returns : goal.returns
returns c =
    let marks = c.in_ok-marks.marks.items in
    let inside : c.args.string.source < length marks = omega (arith, c.requires.inside.source, c.in_ok-marks.ensures.long) in
    told c.args.strings.now c.args.string.source c.args.string.target marks c.index.result.now c.in_ok-marks.ensures.marks (get_or_read marks c.args.string.source c.index.result.now inside c.index.ensures false)

use Rattle.std.proofs.Common.{sym, ◌∙◌, arith}
use Rattle.scan_vectors.specs.Held.{bits}
use Rattle.svf_programs.specs.Seen.{numbered}
use Rattle.svf_programs.specs.Sizes.{program_of}
use Rattle.player.proofs.AnswersTaken.{counts-below, counts-keeps, counts-on, counts-same, has-room}
use Rattle.player.proofs.hearing.hear_one.Goals as goal

pub overflow_add-result : goal.overflow_add-result
overflow_add-result c =
    let below = counts-below (program_of c.args.program.now) c.args.p c.after_judging-p.result c.requires.stands c.requires.good c.requires.owed c.args.byte c.in-Some.bit
    (sym c.read_answer.ensures ∙ c.in-Some.is) (numbered c.args.step.now) c.requires.first (bits c.args.vector.now) c.requires.scans
    c.args.kept.now c.after_judging-p.new.kept c.requires.keeps
    c.after_judging-p.ensures.rest c.after_judging-p.ensures.stops c.after_judging-p.ensures.full c.after_judging-p.ensures.judged in
    omega (arith, below, c.len-2.ensures)

pub returns-clause-stands : goal.returns-clause-stands
returns-clause-stands c =
    counts-on (program_of c.args.program.now) c.args.p c.after_judging-p.result c.requires.stands c.requires.good c.requires.owed c.args.byte c.in-Some.bit
    (sym c.read_answer.ensures ∙ c.in-Some.is) (numbered c.args.step.now) c.requires.first (bits c.args.vector.now) c.requires.scans
    c.args.kept.now c.after_judging-p.new.kept c.requires.keeps
    c.after_judging-p.ensures.rest c.after_judging-p.ensures.stops c.after_judging-p.ensures.full c.after_judging-p.ensures.judged

pub returns-clause-keeps : goal.returns-clause-keeps
returns-clause-keeps c =
    counts-keeps (program_of c.args.program.now) c.args.p c.after_judging-p.result c.requires.stands c.requires.good c.requires.owed c.args.byte c.in-Some.bit
    (sym c.read_answer.ensures ∙ c.in-Some.is) (numbered c.args.step.now) c.requires.first (bits c.args.vector.now) c.requires.scans
    c.args.kept.now c.after_judging-p.new.kept c.requires.keeps
    c.after_judging-p.ensures.rest c.after_judging-p.ensures.stops c.after_judging-p.ensures.full c.after_judging-p.ensures.judged

pub returns-clause-state : goal.returns-clause-state
returns-clause-state c =
    counts-same (program_of c.args.program.now) c.args.p c.after_judging-p.result c.requires.stands c.requires.good c.requires.owed c.args.byte c.in-Some.bit
    (sym c.read_answer.ensures ∙ c.in-Some.is) (numbered c.args.step.now) c.requires.first (bits c.args.vector.now) c.requires.scans
    c.args.kept.now c.after_judging-p.new.kept c.requires.keeps
    c.after_judging-p.ensures.rest c.after_judging-p.ensures.stops c.after_judging-p.ensures.full c.after_judging-p.ensures.judged

pub after_judging-p-requires-clause-room : goal.after_judging-p-requires-clause-room
after_judging-p-requires-clause-room c =
    has-room (program_of c.args.program.now) c.args.p c.requires.stands c.requires.good c.requires.owed c.len.ensures.sound c.args.kept.now c.requires.keeps
    c.len.ensures.few

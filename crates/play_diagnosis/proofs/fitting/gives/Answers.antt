use Rattle.std.proofs.Common.{ap}
use Rattle.scan_vectors.specs.Failures.{found}
use Rattle.svf_programs.specs.Sizes.{program_of}
use Rattle.play_diagnosis.specs.Reading.{verdict_of}
use Rattle.play_diagnosis.proofs.Giving.{gives_all, gives_first, gives_pass}
use Rattle.play_diagnosis.proofs.fitting.gives.Goals as goal

pub returns-in-Pass : goal.returns-in-Pass
returns-in-Pass c =
    gives_pass (program_of c.args.program.now) c.args.board.now (verdict_of c.args.said.now) c.is_pass.result c.play_program.result
    (ap verdict_of c.in-Pass.is) c.play_program.ensures.ending c.is_pass.ensures

pub returns-in-First : goal.returns-in-First
returns-in-First c =
    gives_first (program_of c.args.program.now) c.args.board.now (verdict_of c.args.said.now) c.is_first.result _ c.play_program-in-First.result
    (ap verdict_of c.in-First.is) c.play_program-in-First.ensures.ending c.is_first.ensures

pub returns-in-All : goal.returns-in-All
returns-in-All c =
    gives_all (program_of c.args.program.now) c.args.board.now (verdict_of c.args.said.now) c.are_same.result _ (found c.play_program_all-found.result.1)
    (ap verdict_of c.in-All.is) c.play_program_all-found.ensures.failures c.are_same.ensures

use Rattle.std.proofs.Common.{◌∙◌}
use Rattle.svf_programs.specs.Sizes.{program_of}
use Rattle.play_direct.proofs.WholePlay.{played_so}
use Rattle.play_direct.proofs.playing.play_program.Goals as goal

pub returns-clause-meaning : goal.returns-clause-meaning
returns-clause-meaning c =
    let it = c.play_steps-failures.ensures in
    played_so (program_of c.args.program.now) c.args.board.now it.sound it.some it.legal c.ending.result c.play_steps-failures.new.board
    (c.ending.ensures ∙ it.first) it.board

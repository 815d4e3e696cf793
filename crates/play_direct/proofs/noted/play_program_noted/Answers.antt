use Rattle.std.proofs.Common.{ap, ◌∙◌}
use Rattle.std.specs.Prelude.{◌==◌}
use Rattle.svf_programs.specs.Sizes.{program_of}
use Rattle.play_model.specs.DirectPlay.{bytes_of_play}
use Rattle.play_direct.proofs.NotedPieces.{noted-writes}
use Rattle.play_direct.proofs.WholePlay.{played_so}
use Rattle.play_direct.proofs.noted.play_program_noted.Goals as goal

pub returns-clause-meaning : goal.returns-clause-meaning
returns-clause-meaning g c =
    let it = c.play_steps-failures.ensures in
    played_so (program_of c.args.program.now) c.args.board.now it.sound it.some it.legal c.ending.result c.play_steps-failures.new.board
    (c.ending.ensures ∙ it.first) it.board

pub returns-clause-writes : goal.returns-clause-writes
returns-clause-writes g c =
    noted-writes g.W.Write.contents c.args.out.now c.play_steps-failures.new.beside
    (bytes_of_play (program_of c.args.program.now) c.args.board.now)
    (c.failures.result == 0)
    (ap (λ n. n == 0) c.failures.ensures.value) c.requires.none_lost c.play_steps-failures.ensures.bytes

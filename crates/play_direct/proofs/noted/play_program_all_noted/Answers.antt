use Rattle.std.proofs.Common.{ap, refl, ◌∙◌}
use Rattle.std.specs.Prelude.{◌==◌}
use Rattle.svf_programs.specs.Sizes.{program_of}
use Rattle.play_model.specs.PlayingOn.{ending_of}
use Rattle.play_model.specs.declared.kind.Kind.TheVariants.{PlaysOn}
use Rattle.play_model.specs.ScheduleLaws.{bytes_of_full_play}
use Rattle.play_direct.specs.ToTheEnd.{all_failures}
use Rattle.play_direct.proofs.Failing.{ending-kept}
use Rattle.play_direct.proofs.NotedPieces.{noted-writes}
use Rattle.play_direct.proofs.WholePlay.{played_all}
use Rattle.play_direct.proofs.noted.play_program_all_noted.Goals as goal

pub returns-clause-ending : goal.returns-clause-ending
returns-clause-ending g c =
    c.ending.ensures ∙ ap (λ f. ending_of f.list) (c.play_steps-failures.ensures.all refl)
    ∙ ending-kept (all_failures (program_of c.args.program.now) c.args.board.now)

pub returns-clause-meaning : goal.returns-clause-meaning
returns-clause-meaning g c =
    let it = c.play_steps-failures.ensures in
    played_all (program_of c.args.program.now) c.args.board.now it.sound it.some it.legal c.play_steps-failures.new.board it.board

pub returns-clause-writes : goal.returns-clause-writes
returns-clause-writes g c =
    noted-writes g.W.Write.contents c.args.out.now c.play_steps-failures.new.beside
    (bytes_of_full_play PlaysOn (program_of c.args.program.now).steps c.args.board.now)
    (c.failures.result == 0)
    (ap (λ n. n == 0) c.failures.ensures.value) c.requires.none_lost c.play_steps-failures.ensures.bytes

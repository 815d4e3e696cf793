use Rattle.std.proofs.Common.{ap, refl, ◌∙◌}
use Rattle.svf_programs.specs.Sizes.{program_of}
use Rattle.play_model.specs.PlayingOn.{ending_of}
use Rattle.play_direct.specs.ToTheEnd.{all_failures}
use Rattle.play_direct.proofs.Failing.{ending-kept}
use Rattle.play_direct.proofs.WholePlay.{played_all}
use Rattle.play_direct.proofs.playing.play_program_all.Goals as goal

pub returns-clause-ending : goal.returns-clause-ending
returns-clause-ending c =
    c.ending.ensures ∙ ap (λ f. ending_of f.list) (c.play_steps-failures.ensures.all refl)
    ∙ ending-kept (all_failures (program_of c.args.program.now) c.args.board.now)

pub returns-clause-meaning : goal.returns-clause-meaning
returns-clause-meaning c =
    let it = c.play_steps-failures.ensures in
    played_all (program_of c.args.program.now) c.args.board.now it.sound it.some it.legal c.play_steps-failures.new.board it.board

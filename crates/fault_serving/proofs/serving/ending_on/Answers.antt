use Rattle.std.proofs.Common.{ap, ◌∙◌}
use Rattle.svf_programs.specs.Sizes.{program_of}
use Rattle.board_model.specs.Chain.{BoardState}
use Rattle.play_model.specs.Play.{play}
use Rattle.fault_serving.proofs.serving.ending_on.Goals as goal

pub returns : goal.returns
returns c = c.play_program.ensures.ending ∙ ap (λ (b : BoardState). (play (program_of c.args.program.now) b).ending) c.in_ok-board.ensures

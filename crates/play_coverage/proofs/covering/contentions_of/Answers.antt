use Rattle.std.proofs.Common.{◌≡◌, IfOk, subst}
use Rattle.svf_programs.specs.Sizes.{program_of}
use Rattle.board_model.specs.Chain.{BoardState}
use Rattle.play_coverage.specs.Contending as spec
use Rattle.play_coverage.proofs.covering.contentions_of.Goals as goal

pub returns : goal.returns
returns c = subst (λ (b : BoardState). IfOk c.contentions.result (λ v. v.items ≡ spec.contentions (program_of c.args.program.now) b)) c.in_ok-board.ensures c.contentions.ensures

use Rattle.std.proofs.Common.{◌∙◌}
use Rattle.bitbang_protocol.specs.Cycles.{opening}
use Rattle.board_model.proofs.BytesAndMessages.{after_all-encoded}
use Rattle.play_direct.proofs.stepping.play_opening.Goals as goal

pub returns : goal.returns
returns c = c.take_all.ensures ∙ after_all-encoded opening c.args.board.now

use Rattle.std.proofs.Common.{◌∙◌}
use Rattle.jt_bits.proofs.Pieces.{piece_worth}
use Rattle.jt_bits.proofs.digits.last_spaced.Goals as goal

pub returns-clause-value : goal.returns-clause-value
returns-clause-value c = c.piece_value.ensures ∙ piece_worth c.last_piece-piece.result.digits c.args.text.now c.last_piece-piece.ensures.spelled

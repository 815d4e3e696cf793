use Rattle.std.proofs.Common.{sym, ◌∙◌, arith}
use Rattle.scan_vectors.specs.Held.{bits}
use Rattle.board_reasons.proofs.VectorBits.{wanted_nowhere, wanted_there}
use Rattle.board_reasons.proofs.vectors.wanted_at.Goals as goal

pub returns-then-place-len : goal.returns-then-place-len
returns-then-place-len c =
    sym (wanted_nowhere (bits c.args.vector.now) c.args.place (omega (arith, c.if-place-len.true, c.len.ensures)))

pub returns : goal.returns
returns c = c.is_one.ensures ∙ sym (wanted_there (bits c.args.vector.now) c.args.place c.bit.result c.bit.ensures)

use Rattle.std.proofs.Common.{refl}
use Rattle.byte_streams.proofs.Fronts.{WritesAll-stopped, WritesAll-then}
use Rattle.board_model.specs.Chain.{members}
use Rattle.board_reasons.specs.Lines.{from_line}
use Rattle.board_reasons.proofs.writing.write_reason.Goals as goal

pub returns-in_err-write_wanted : goal.returns-in_err-write_wanted
returns-in_err-write_wanted g c =
    WritesAll-stopped (from_line c.args.chain.now.nets (members c.args.chain.now.chips) c.args.reason.holder) c.in_err-write_wanted.ensures refl c.from_residual.ensures.0

pub returns : goal.returns
returns g c = WritesAll-then c.in_ok-write_wanted.ensures refl c.write_from.ensures

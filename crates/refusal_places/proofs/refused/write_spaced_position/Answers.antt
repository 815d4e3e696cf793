use Rattle.std.proofs.Common.{refl}
use Rattle.byte_streams.proofs.Fronts.{WritesAll-then, WritesAll-stopped}
use Rattle.output_words.specs.Lines.{position_words}
use Rattle.refusal_places.proofs.refused.write_spaced_position.Goals as goal

pub returns-in_err-put_all : goal.returns-in_err-put_all
returns-in_err-put_all g c = WritesAll-stopped (position_words c.args.position) c.in_err-put_all.ensures.writes refl c.from_residual.ensures.0

pub returns : goal.returns
returns g c = WritesAll-then c.in_ok-put_all.ensures.writes refl c.write_position.ensures

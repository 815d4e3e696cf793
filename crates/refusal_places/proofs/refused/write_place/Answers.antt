use Rattle.std.proofs.Common.{refl}
use Rattle.byte_streams.proofs.Fronts.{WritesAll-then, WritesAll-stopped}
use Rattle.refusal_places.specs.Places.{word_told}
use Rattle.refusal_places.proofs.refused.write_place.Goals as goal

pub returns-in_err-write_spaced_position : goal.returns-in_err-write_spaced_position
returns-in_err-write_spaced_position g c =
    WritesAll-stopped (word_told c.args.text.now c.args.place c.args.fault.now) c.in_err-write_spaced_position.ensures refl c.from_residual.ensures.0

pub returns : goal.returns
returns g c = WritesAll-then c.in_ok-write_spaced_position.ensures refl c.write_word_told.ensures

use Rattle.std.proofs.Common.{arith}
use Rattle.byte_streams.proofs.Fronts.{WritesAll-is}
use Rattle.play_drawing.proofs.Judged.{first_place, further_place}
use Rattle.play_drawing.proofs.notes.write_place.Goals as goal

pub returns-then-place-eq0 : goal.returns-then-place-eq0
returns-then-place-eq0 g c = WritesAll-is (first_place c.args.number c.args.place c.if-place-eq0.true) c.write_bits_line.ensures

pub returns : goal.returns
returns g c = WritesAll-is (further_place c.args.number c.args.place (omega (arith, c.if-place-eq0.false))) c.write_number.ensures

use Rattle.std.proofs.Common.{Bool, Option, sym, ap, ◌∙◌}
use Rattle.byte_streams.proofs.Fronts.{WritesAll-is}
use Rattle.wave_files.specs.Values.{byte_line}
use Rattle.play_drawing.specs.Waves.{last_tck}
use Rattle.play_drawing.proofs.drawing.write_last_tck.Goals as goal

pub returns-in-Some : goal.returns-in-Some
returns-in-Some g c = WritesAll-is (ap (λ (o : Option Bool). last_tck o c.args.tck) (sym c.in-Some.is)) c.put_all.ensures.writes

pub returns-in-None : goal.returns-in-None
returns-in-None g c =
    WritesAll-is (ap (byte_line 0) c.digit_of.ensures ∙ ap (λ (o : Option Bool). last_tck o c.args.tck) (sym c.in-None.is)) c.write_byte.ensures

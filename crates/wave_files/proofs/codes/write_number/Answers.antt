use Rattle.std.proofs.Common.{◌-◌, drop, ap, ◌∙◌, arith}
use Rattle.std.proofs.lemmas.List.{take_all, length-drop}
use Rattle.byte_streams.proofs.Fronts.{WritesAll-is}
use Rattle.wave_files.specs.Values.{bits_line}
use Rattle.wave_files.proofs.codes.write_number.Goals as goal

pub returns : goal.returns
returns g c =
    let digits = c.binary_digits-start.result.0 in
    let start = c.binary_digits-start.result.1 in
    WritesAll-is
    (ap (bits_line c.args.number)
    (take_all (64 - start) (drop start digits) (omega (arith, length-drop start digits, c.binary_digits-start.ensures.whole))
    ∙ c.binary_digits-start.ensures.digits))
    c.write_bits_line.ensures

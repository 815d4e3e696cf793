use Rattle.std.proofs.Common.{◌∷◌, [], refl, arith}
use Rattle.byte_streams.proofs.Fronts.{WritesAll-is}
use Rattle.wave_files.proofs.Times.{digits_fit, put_so, starts}
use Rattle.wave_files.proofs.stamps.write_stamp.Goals as goal

pub write_digits-start-requires : goal.write_digits-start-requires
write_digits-start-requires g c = (omega (arith, digits_fit c.args.time c.ranges.time.fits), omega arith)

pub overflow_sub-start : goal.overflow_sub-start
overflow_sub-start g c = starts c.args.time c.write_digits-start.result c.ranges.time.fits c.write_digits-start.ensures.start

pub returns : goal.returns
returns g c =
    WritesAll-is
    (put_so c.args.time c.write_digits-start.result 22 c.write_digits-start.new.buf _ (10 ∷ []) c.ranges.time.fits refl c.write_digits-start.ensures.start
    c.write_digits-start.ensures.written c.write_digits-start.ensures.before c.write_digits-start.auto.buf)
    c.put_all.ensures.writes

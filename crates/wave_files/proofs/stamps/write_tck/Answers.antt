use Rattle.std.proofs.Common.{◌∷◌, ◌++◌, ℕ, List, refl, sym, ap, ◌∙◌, append_assoc, arith}
use Rattle.std.specs.Prelude.{codes, decimal}
use Rattle.byte_streams.proofs.Fronts.{WritesAll-is}
use Rattle.wave_files.specs.Values.{byte_line}
use Rattle.wave_files.proofs.Times.{digits_fit, put_so, starts}
use Rattle.wave_files.proofs.stamps.write_tck.Goals as goal

pub write_digits-start-requires : goal.write_digits-start-requires
write_digits-start-requires g c = (omega (arith, digits_fit c.args.time c.ranges.time.fits), omega arith)

pub overflow_sub-start : goal.overflow_sub-start
overflow_sub-start g c = starts c.args.time c.write_digits-start.result c.ranges.time.fits c.write_digits-start.ensures.start

pub returns : goal.returns
returns g c =
    WritesAll-is
    (put_so c.args.time c.write_digits-start.result 25 c.write_digits-start.new.buf _ (10 ∷ byte_line 0 c.args.tck) c.ranges.time.fits refl c.write_digits-start.ensures.start
    c.write_digits-start.ensures.written c.write_digits-start.ensures.before c.write_digits-start.auto.buf
    ∙ sym (ap (λ (l : List ℕ). codes "#" ++ l) (append_assoc (decimal c.args.time) (codes "\n") (byte_line 0 c.args.tck))))
    c.put_all.ensures.writes

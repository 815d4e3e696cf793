use Rattle.std.proofs.Common.{refl, ap, flat_map, ◌++◌}
use Rattle.byte_streams.proofs.Fronts.{WritesAll-is, WritesAll-stopped, WritesAll-then}
use Rattle.output_words.specs.Lines.{total_line}
use Rattle.jt_player.specs.Showing.{mismatch_line}
use Rattle.jt_player.proofs.showing.write_failures.Goals as goal

pub returns-in_err-write_mismatches : goal.returns-in_err-write_mismatches
returns-in_err-write_mismatches g c =
    let total = total_line c.args.failures.now.total in
    WritesAll-is (ap (λ ms. flat_map mismatch_line ms ++ total) c.as_slice.ensures.value)
    (WritesAll-stopped total c.in_err-write_mismatches.ensures refl c.from_residual.ensures.0)

pub returns : goal.returns
returns g c =
    let total = total_line c.args.failures.now.total in
    WritesAll-is (ap (λ ms. flat_map mismatch_line ms ++ total) c.as_slice.ensures.value)
    (WritesAll-then c.in_ok-write_mismatches.ensures refl c.write_total.ensures)

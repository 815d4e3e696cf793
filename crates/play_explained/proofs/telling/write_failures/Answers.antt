use Rattle.std.proofs.Common.{refl, ap, flat_map, ◌++◌, List}
use Rattle.byte_streams.proofs.Fronts.{WritesAll-is, WritesAll-stopped, WritesAll-then}
use Rattle.scan_vectors.specs.declared.failures.Mismatch.{Mismatch}
use Rattle.output_words.specs.Lines.{total_line}
use Rattle.play_explained.specs.Lines.{failure_lines, lines_known}
use Rattle.play_explained.proofs.telling.write_failures.Goals as goal

pub returns-in_err-write_each : goal.returns-in_err-write_each
returns-in_err-write_each g c =
    let total = total_line c.args.failures.now.total in
    WritesAll-is (ap (λ (ms : List Mismatch). flat_map (failure_lines c.args.text.now (lines_known c.args.known)) ms ++ total) c.as_slice.ensures.value)
    (WritesAll-stopped total c.in_err-write_each.ensures refl c.from_residual.ensures.0)

pub returns : goal.returns
returns g c =
    let total = total_line c.args.failures.now.total in
    WritesAll-is (ap (λ (ms : List Mismatch). flat_map (failure_lines c.args.text.now (lines_known c.args.known)) ms ++ total) c.as_slice.ensures.value)
    (WritesAll-then c.in_ok-write_each.ensures refl c.write_total.ensures)

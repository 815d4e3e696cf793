use Rattle.byte_streams.proofs.Fronts.{WritesAll-is}
use Rattle.play_explained.specs.Lines.{explained_lines, lines_in_program}
use Rattle.play_explained.proofs.runs.write_in_program.Goals as goal

pub returns : goal.returns
returns g c =
    WritesAll-is (λ i. explained_lines c.args.text.now (lines_in_program (c.program.ensures i).steps) c.args.kind c.args.ending (c.failures.ensures i))
    c.write_explained.ensures

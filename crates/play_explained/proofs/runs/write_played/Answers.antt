use Rattle.byte_streams.proofs.Fronts.{WritesAll-is}
use Rattle.play_explained.specs.Lines.{explained_lines}
use Rattle.play_explained.specs.Runs.{why_on}
use Rattle.play_explained.proofs.runs.write_played.Goals as goal

pub returns : goal.returns
returns g c =
    WritesAll-is (λ i. explained_lines c.args.text.now (why_on c.args.kind (c.program.ensures i) c.args.board.now) c.args.kind c.args.ending (c.failures.ensures i))
    c.write_on_board.ensures

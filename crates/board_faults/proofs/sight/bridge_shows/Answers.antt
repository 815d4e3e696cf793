use Rattle.std.proofs.Common.{◌∙◌}
use Rattle.board_faults.specs.Together.{at_driven, short_differs, some_pair}
use Rattle.board_faults.proofs.sight.bridge_shows.Goals as goal

pub returns : goal.returns
returns c =
    c.pairs_show.ensures
    ∙ (λ i.
    some_pair (at_driven (c.seen_at-one.ensures i).can) (at_driven (c.seen_at-other.ensures i).can)
    (short_differs c.args.winner (c.pull_at-pull.ensures i) (c.pull_at-other_pull.ensures i) (c.seen_at-one.ensures i).read (c.seen_at-other.ensures i).read))

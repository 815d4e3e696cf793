use Rattle.std.proofs.Common.{sym, ap, ◌∙◌}
use Rattle.std.specs.Prelude.{not}
use Rattle.play_model.specs.Streams.{stops_for}
use Rattle.play_direct.proofs.Failing.{some-listed}
use Rattle.play_direct.proofs.steps.stops.Goals as goal

pub returns-in-Stops : goal.returns-in-Stops
returns-in-Stops c =
    let fs = c.args.failures.now.list.items in
    ap not c.is_empty.ensures ∙ some-listed fs ∙ ap (λ k. stops_for k fs) (sym c.in-Stops.is)

use Rattle.std.proofs.Common.{map, ◌∙◌}
use Rattle.board_plan.specs.View.{net as planned_net}
use Rattle.board_faults.proofs.Kept.{kept_by, kept_shows, not_shown}
use Rattle.board_faults.proofs.sight.is_invisible.Goals as goal

pub returns : goal.returns
returns c = λ ms may kept.
    let nets = map planned_net c.args.nets.now in
    not_shown (record { members = ms; nets = nets }) c.args.way c.in_ok-shows.field-0 may c.requires.way
    (c.in_ok-shows.ensures ∙ kept_by ms nets c.args.sights.now kept c.args.way c.requires.way ∙ kept_shows ms nets c.args.way may)

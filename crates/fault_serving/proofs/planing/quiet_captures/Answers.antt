use Rattle.std.proofs.Common.{◌≡◌, ◌<◌, map, sym, ap, ◌∙◌, arith, slice_index_or}
use Rattle.board_faults.specs.declared.kinds.Way.TheVariants as way
use Rattle.board_plan.specs.View.{net as planned_net}
use Rattle.fault_events.specs.declared.differing.Pulls.{Pulls}
use Rattle.fault_events.specs.Nets.{note_at}
use Rattle.fault_events.specs.Notes.{net_at}
use Rattle.fault_serving.specs.Planes.{no_words, tells}
use Rattle.fault_serving.proofs.Quiet.{words_tell}
use Rattle.fault_serving.proofs.planing.quiet_captures.Goals as goal

pub returns-then-second-words : goal.returns-then-second-words
returns-then-second-words c = λ ns are k n below is.
    let nets = map planned_net c.args.nets.now in
    let ws = c.args.words.now in
    let first = c.args.first in
    let second = c.args.second in
    let winner = c.args.winner in
    let early : k < 64 = omega (arith, below, c.quiet_front.ensures.few) in
    let its = c.pulls_of-pulls.result in
    let as_theirs : Pulls = record { first = (net_at nets first).pull; second = (net_at nets second).pull } in
    let pulls : as_theirs ≡ its =
    λ i. record { first = sym c.pulls_of-pulls.ensures.first i; second = sym c.pulls_of-pulls.ensures.second i } in
    ap (λ (p : Pulls). tells (way.Short first second winner) p (note_at first n.notes) (note_at second n.notes)) pulls
    ∙ sym (words_tell first second winner its k (note_at first n.notes) (note_at second n.notes) (slice_index_or ws first no_words) (slice_index_or ws second no_words)
    ((are first (omega (arith, c.if-first-words.true))).noted k n early is) ((are second (omega (arith, c.if-second-words.true))).noted k n early is))
    ∙ c.quiet_front.ensures.quiet k below

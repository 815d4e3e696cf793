use Rattle.std.proofs.Common.{◌≡◌, List, drop, map, refl, sym, ap, subst, ◌∙◌}
use Rattle.std.proofs.lemmas.List.{drop-map}
use Rattle.pin_nets.specs.Wired.{Net}
use Rattle.board_plan.specs.View.{net as planned_net}
use Rattle.board_faults.specs.declared.kinds.Way.{Way}
use Rattle.board_faults.specs.declared.kinds.Way.TheVariants as way
use Rattle.fault_events.specs.declared.differing.Pulls.{Pulls}
use Rattle.fault_events.specs.declared.nets.NetCapture.{NetCapture}
use Rattle.fault_events.specs.Blocks.{noted_in}
use Rattle.fault_events.specs.Captures.{Noted}
use Rattle.fault_events.specs.Endings.{ending_noted}
use Rattle.fault_events.specs.Nets.{ending_by_nets, seen}
use Rattle.fault_events.specs.Pulls.{pulls_of}
use Rattle.fault_events.proofs.OnePlay.{block_ending}
use Rattle.fault_serving.specs.declared.planing.NoteWords.{NoteWords}
use Rattle.fault_serving.specs.Planes.{AreNetWords, AreQuiet}
use Rattle.fault_serving.proofs.Quiet.{passed_over}
use Rattle.fault_serving.proofs.serving.told_ending.Goals as goal

pub returns-in-Short : goal.returns-in-Short
returns-in-Short c =
    let nets : List Net = map planned_net c.args.nets.now in
    let b = c.args.telling.now.block in
    let all = b.nets.items in
    let ns : List Noted = map seen all in
    let first = c.in-Short.first in
    let second = c.in-Short.second in
    let winner = c.in-Short.winner in
    let w : Way = way.Short first second winner in
    let quiet = c.quiet_captures-quiet.result in
    let are : AreQuiet nets w ns quiet =
    c.quiet_captures-quiet.ensures ns (subst (λ (ws : List NoteWords). AreNetWords ns ws) (sym c.deref.ensures.value) c.requires.words) in
    let behind : c.captures_behind-behind.result.now ≡ drop quiet all = c.captures_behind-behind.ensures ∙ ap (drop quiet) c.captures-2.ensures in
    let pulls : c.pulls_of.result ≡ pulls_of nets w =
    λ i. record { first = c.pulls_of.ensures.first i; second = c.pulls_of.ensures.second i } in
    c.net_ending.ensures
    ∙ ap (λ (p : Pulls). ending_by_nets w p first second (map seen c.captures_behind-behind.result.now)) pulls
    ∙ ap (λ (l : List NetCapture). ending_by_nets w (pulls_of nets w) first second (map seen l)) behind
    ∙ ap (ending_by_nets w (pulls_of nets w) first second) (sym (drop-map seen quiet all))
    ∙ sym (passed_over nets first second winner quiet ns are)
    ∙ block_ending nets b c.requires.block w tt (pulls_of nets w) refl all refl
    ∙ sym (ap (λ (x : Way). ending_noted nets x (noted_in b)) c.in-Short.is)

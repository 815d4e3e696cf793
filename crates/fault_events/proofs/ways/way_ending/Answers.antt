use Rattle.std.proofs.Common.{◌≡◌, List, map, sym, ap, ◌∙◌}
use Rattle.pin_nets.specs.Wired.{Net}
use Rattle.board_plan.specs.View.{net as planned_net}
use Rattle.board_faults.specs.declared.kinds.Way.{Way}
use Rattle.board_faults.specs.declared.kinds.Way.TheVariants as way
use Rattle.fault_events.specs.declared.differing.Pulls.{Pulls}
use Rattle.fault_events.specs.Blocks.{noted_in}
use Rattle.fault_events.specs.Endings.{ending_noted}
use Rattle.fault_events.specs.Notes.{net_at}
use Rattle.fault_events.proofs.OnePlay.{block_ending}
use Rattle.fault_events.proofs.ways.way_ending.Goals as goal

pub returns-in-Pull : goal.returns-in-Pull
returns-in-Pull c =
    let nets : List Net = map planned_net c.args.nets.now in
    let b = c.args.block.now in
    let net = c.in-Pull.net in
    let its : Pulls = record { first = (net_at nets net).pull; second = (net_at nets net).pull } in
    let pulls : c.pulls_of.result ≡ its = λ i. record { first = c.pulls_of.ensures.first i; second = c.pulls_of.ensures.second i } in
    c.net_ending.ensures
    ∙ block_ending nets b c.requires (way.Pull net) tt c.pulls_of.result pulls _ c.deref-in-Pull.ensures.value
    ∙ sym (ap (λ (w : Way). ending_noted nets w (noted_in b)) c.in-Pull.is)

pub returns-in-Stuck : goal.returns-in-Stuck
returns-in-Stuck c =
    let nets : List Net = map planned_net c.args.nets.now in
    let b = c.args.block.now in
    let net = c.in-Stuck.net in
    let its : Pulls = record { first = (net_at nets net).pull; second = (net_at nets net).pull } in
    let pulls : c.pulls_of-in-Stuck.result ≡ its = λ i. record { first = c.pulls_of-in-Stuck.ensures.first i; second = c.pulls_of-in-Stuck.ensures.second i } in
    c.net_ending-in-Stuck.ensures
    ∙ block_ending nets b c.requires (way.Stuck net _) tt c.pulls_of-in-Stuck.result pulls _ c.deref-in-Stuck.ensures.value
    ∙ sym (ap (λ (w : Way). ending_noted nets w (noted_in b)) c.in-Stuck.is)

pub returns-in-Short : goal.returns-in-Short
returns-in-Short c =
    let nets : List Net = map planned_net c.args.nets.now in
    let b = c.args.block.now in
    let first = c.in-Short.first in
    let second = c.in-Short.second in
    let its : Pulls = record { first = (net_at nets first).pull; second = (net_at nets second).pull } in
    let pulls : c.pulls_of-in-Short.result ≡ its =
    λ i. record { first = c.pulls_of-in-Short.ensures.first i; second = c.pulls_of-in-Short.ensures.second i } in
    c.net_ending-in-Short.ensures
    ∙ block_ending nets b c.requires (way.Short first second c.in-Short.winner) tt c.pulls_of-in-Short.result pulls _ c.deref-in-Short.ensures.value
    ∙ sym (ap (λ (w : Way). ending_noted nets w (noted_in b)) c.in-Short.is)

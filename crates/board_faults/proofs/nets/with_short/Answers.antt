use Rattle.std.proofs.Common.{◌≡◌, List, map, get_or, set, sym, ap, ◌∙◌, arith}
use Rattle.std.proofs.lemmas.List.{length-map, map-set}
use Rattle.std.proofs.lemmas.List.Edits.{get_or-remove_below}
use Rattle.std.specs.List.{remove}
use Rattle.pin_nets.specs.Wired.{Net}
use Rattle.board_plan.specs.View.{net as planned_net}
use Rattle.board_faults.specs.Faults as spec
use Rattle.board_faults.proofs.Places.{at_map, map-remove}
use Rattle.board_faults.proofs.nets.with_short.Goals as goal

pub returns : goal.returns
returns c =
    let nets = c.args.nets.items in
    let all = map planned_net nets in
    let i = c.args.first in
    let k = c.args.second in
    let removed = c.remove-other.new.self.items in
    let other : planned_net c.remove-other.result ≡ get_or all k spec.nowhere =
    sym (at_map planned_net nets k c.remove-other.result spec.nowhere c.requires.there c.remove-other.ensures.value) in
    let gone : map planned_net removed ≡ remove all k = ap (map planned_net) c.remove-other.ensures.items ∙ map-remove planned_net nets k in
    let one : get_or all i spec.nowhere ≡ planned_net c.index_mut.result.now =
    sym (get_or-remove_below all k spec.nowhere i c.requires.order (omega (arith, c.requires.there, length-map nets planned_net)))
    ∙ ap (λ (l : List Net). get_or l i spec.nowhere) (sym gone)
    ∙ at_map planned_net removed i c.index_mut.result.now spec.nowhere (omega (arith, c.requires.order, c.requires.there, c.remove-other.ensures.len)) c.index_mut.ensures.value in
    map-set planned_net removed i c.bridge.new.net ∙ ap (λ (l : List Net). set l i (planned_net c.bridge.new.net)) gone
    ∙ ap (set (remove all k) i)
    (c.in_ok-bridge.ensures ∙ ap (λ (n : Net). spec.bridged c.args.winner n (planned_net c.remove-other.result)) (sym one)
    ∙ ap (spec.bridged c.args.winner (get_or all i spec.nowhere)) other)

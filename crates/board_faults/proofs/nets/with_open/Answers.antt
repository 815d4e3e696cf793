use Rattle.std.proofs.Common.{◌<◌, ◌++◌, [], ◌∷◌, List, length, map, get_or, set, sym, ap, ◌∙◌, arith}
use Rattle.std.proofs.lemmas.List.{map-append, map-set}
use Rattle.pin_nets.specs.Wired.{Net}
use Rattle.board_plan.specs.View.{net as planned_net}
use Rattle.board_faults.specs.Faults as spec
use Rattle.board_faults.proofs.Places.{at_map}
use Rattle.std.proofs.lemmas.Option.{slice_get_within}
use Rattle.std.proofs.lemmas.List.{length-map}
use Rattle.board_faults.proofs.nets.with_open.Goals as goal

pub returns : goal.returns
returns c =
    let nets = c.args.nets.items in
    let all = map planned_net nets in
    let k = c.args.net in
    let pin = c.args.pin in
    let bit = c.args.bit in
    let inside : k < length nets = omega (arith, slice_get_within all k c.requires.0 c.requires.1, length-map nets planned_net) in
    let at = at_map planned_net nets k c.index_mut.result.now spec.nowhere inside c.index_mut.ensures.value in
    let rest = c.in_ok-alone.ensures.rest ∙ ap (spec.rest_of pin bit) (sym at) in
    let alone = c.in_ok-alone.ensures.alone ∙ ap (spec.pin_alone pin bit) (sym at) in
    ap (map planned_net) c.in_ok-push.ensures.items ∙ map-append planned_net (set nets k c.open_pin.new.net) (c.in_ok-alone.alone ∷ [])
    ∙ ap (λ (l : List Net). l ++ planned_net c.in_ok-alone.alone ∷ []) (map-set planned_net nets k c.open_pin.new.net ∙ ap (set all k) rest)
    ∙ ap (λ (n : Net). set all k (spec.rest_of pin bit (get_or all k spec.nowhere)) ++ n ∷ []) alone

use Rattle.std.proofs.Common.{◌≡◌, ◌<◌, Bool, IfOk, List, length, map, get_or, sym, ap, subst, ◌∙◌, arith}
use Rattle.std.proofs.lemmas.List.{get_or-map, length-map}
use Rattle.std.proofs.lemmas.Option.{slice_get_within}
use Rattle.pin_nets.specs.Wired.{Net}
use Rattle.board_plan.specs.View.{net as planned_net}
use Rattle.board_faults.specs.declared.kinds.Way.{Way}
use Rattle.board_faults.specs.declared.kinds.Way.TheVariants as way
use Rattle.board_faults.specs.Faults.{IsWayOf, nowhere}
use Rattle.board_faults.specs.Sights.{shows_by, shows_of}
use Rattle.board_faults.proofs.sight.shows.Goals as goal

pub returns-in-Open : goal.returns-in-Open
returns-in-Open c =
    let all = c.args.nets.now in
    let nets : List Net = map planned_net all in
    let net = c.in-Open.net in
    let w : Way = way.Open net c.in-Open.pin c.in-Open.bit in
    let its : IsWayOf nets w = subst (IsWayOf nets) c.in-Open.is c.requires.way in
    let there : net < length nets = slice_get_within nets net its.0 its.1 in
    let inside : net < length all = omega (arith, there, length-map all planned_net) in
    let d = c.index-nets-net.result in
    let here : planned_net d ≡ get_or nets net nowhere =
    ap planned_net c.index-nets-net.is ∙ sym (get_or-map planned_net all net d nowhere inside) in
    subst (λ (b : Bool). IfOk c.open_shows.result (λ r. r ≡ b))
    ((λ i. shows_of (map (λ t. t.items) (c.deref.ensures.value i)) (planned_net d) (planned_net d) w)
    ∙ ap (λ (n : Net). shows_of (map (λ t. t.items) c.args.sights.now.ports.items) n n w) here
    ∙ sym (ap (shows_by c.args.sights.now nets) c.in-Open.is)) c.open_shows.ensures

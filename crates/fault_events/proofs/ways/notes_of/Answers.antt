use Rattle.std.proofs.Common.{◌≡◌, ◌<◌, ℕ, List, Some, length, map, take, drop, get_or, slice_get, refl, sym, ap, ap₂, ◌∙◌, arith}
use Rattle.std.specs.Prelude.{option_map}
use Rattle.std.proofs.lemmas.List.{length-map}
use Rattle.std.proofs.lemmas.Option.{slice_get-get_or, slice_get-map}
use Rattle.pin_nets.specs.Wired.{Net}
use Rattle.board_plan.specs.declared.plan.PlannedNet.{PlannedNet}
use Rattle.board_plan.specs.View.{net as planned_net}
use Rattle.fault_events.specs.declared.notes.Note.{Note}
use Rattle.fault_events.proofs.OnePlay.{notes_past, notes_there, starts_long}
use Rattle.fault_events.proofs.ways.notes_of.Goals as goal

pub bounds-starts-net : goal.bounds-starts-net
bounds-starts-net c =
    let nets : List Net = map planned_net c.args.nets.now in
    omega (arith, c.if-net-count.true, ap (λ (l : List ℕ). length l) c.requires, starts_long 0 nets, length-map c.args.nets.now planned_net)

pub returns-then-net-count : goal.returns-then-net-count
returns-then-net-count c =
    let all = c.args.nets.now in
    let nets : List Net = map planned_net all in
    let net = c.args.net in
    let notes = c.args.notes.now in
    let d = c.index-nets-net.result in
    let inside : net < length all = omega (arith, c.if-net-count.true) in
    let there : slice_get nets net ≡ Some (planned_net d) =
    slice_get-map planned_net all net ∙ ap (option_map planned_net) (slice_get-get_or all net d inside ∙ ap Some (sym c.index-nets-net.is)) in
    let own = get_or all net d in
    let long : c.len.result ≡ length d.pins.items =
    c.len.ensures ∙ own.pins.ok.0 ∙ ap (λ (n : PlannedNet). length n.pins.items) (sym c.index-nets-net.is) in
    c.front.ensures
    ∙ ap₂ (λ (n : ℕ) (l : List Note). take n l) long (c.behind.ensures ∙ ap (λ (l : List ℕ). drop (get_or l net 0) notes) c.requires)
    ∙ sym (notes_there 0 nets net (planned_net d) notes notes there refl)

pub returns-else-net-count : goal.returns-else-net-count
returns-else-net-count c =
    let nets : List Net = map planned_net c.args.nets.now in
    sym (notes_past nets c.args.net c.args.notes.now (omega (arith, c.if-net-count.false, length-map c.args.nets.now planned_net)))

use Rattle.std.proofs.Common.{◌≡◌, ◌∙◌, None, nat_lt, [], length, map, sym, ap, subst}
use Rattle.std.proofs.lemmas.List.{length-map}
use Rattle.std.specs.List.{AllByRecursion}
use Rattle.std.proofs.lemmas.Bool.{ltb-true}
use Rattle.jt_limits.specs.Limits.{limits}
use Rattle.toml.specs.View.{items_view}
use Rattle.board_tables.specs.Fields.{tables_in}
use Rattle.board_tables.specs.WordView.{texts_of}
use Rattle.board_parts.specs.Pins.{twice_in_nets}
use Rattle.board_plan.specs.Planned.{all_pins}
use Rattle.board_plan.specs.View.{net}
use Rattle.board_parts.specs.Parts.{net_of}
use Rattle.board_parts.specs.Twice.{IsAmong, is_some_twice}
use Rattle.board_file.specs.Ports.{most_ports}
use Rattle.board_file.proofs.TwiceLaws.{among, met_first, met_neither, none_back_twice, none_twice, told_large, told_none}
use Rattle.board_file.proofs.wiring.plan_fitting.Goals as goal

pub may_fit-requires : goal.may_fit-requires
may_fit-requires c =
    let names = texts_of c.args.names.now in
    let ds = c.args.devices.now in
    let ts = tables_in (items_view c.args.nets.now) in
    subst (λ nets. AllByRecursion (IsAmong (length ds) (most_ports ds)) (all_pins nets))
    (sym (ap (map net) c.deref.ensures.value ∙ c.in-Ok.ensures.nets)) (among names ds ts)

pub misfit-requires-clause-misfit : goal.misfit-requires-clause-misfit
misfit-requires-clause-misfit c none =
    let names = texts_of c.args.names.now in
    let ds = c.args.devices.now in
    let ts = tables_in (items_view c.args.nets.now) in
    let once = ap (λ nets. is_some_twice [] (all_pins nets)) (ap (map net) c.deref.ensures.value ∙ c.in-Ok.ensures.nets)
    ∙ none_back_twice names ds [] ts none in
    ltb-true limits.devices (length c.args.names.now)
    (met_first c.in-Ok-false.field-0 (nat_lt limits.devices (length c.args.names.now)) (is_some_twice [] (all_pins (map net c.deref.result.now))) c.in-Ok-false.ensures c.in-Ok-false.field-0-test once)

pub returns-then-count_tables-gt-MOST_NETS-clause-judged : goal.returns-then-count_tables-gt-MOST_NETS-clause-judged
returns-then-count_tables-gt-MOST_NETS-clause-judged c =
    let names = texts_of c.args.names.now in
    let ds = c.args.devices.now in
    let ts = tables_in (items_view c.args.nets.now) in
    let small = met_neither c.in-Ok-true.field-0 (nat_lt limits.devices (length c.args.names.now)) (is_some_twice [] (all_pins (map net c.deref.result.now))) c.in-Ok-true.ensures c.in-Ok-true.field-0-test in
    let once : twice_in_nets names ds [] ts ≡ None =
    none_twice names ds [] ts (ap (λ nets. is_some_twice [] (all_pins nets)) (sym (ap (map net) c.deref.ensures.value ∙ c.in-Ok.ensures.nets)) ∙ small.1) in
    told_large names ds ts c.in-Ok.ensures.known once c.count_tables.result c.count_tables.ensures c.if-count_tables-gt-MOST_NETS.true

pub returns-clause-judged : goal.returns-clause-judged
returns-clause-judged c =
    let names = texts_of c.args.names.now in
    let ds = c.args.devices.now in
    let ts = tables_in (items_view c.args.nets.now) in
    let small = met_neither c.in-Ok-true.field-0 (nat_lt limits.devices (length c.args.names.now)) (is_some_twice [] (all_pins (map net c.deref.result.now))) c.in-Ok-true.ensures c.in-Ok-true.field-0-test in
    let once : twice_in_nets names ds [] ts ≡ None =
    none_twice names ds [] ts (ap (λ nets. is_some_twice [] (all_pins nets)) (sym (ap (map net) c.deref.ensures.value ∙ c.in-Ok.ensures.nets)) ∙ small.1) in
    told_none names ds ts c.in-Ok.ensures.known once (length c.args.names.now) c.count_tables.result (length-map c.args.names.now _) c.count_tables.ensures small.0 c.if-count_tables-gt-MOST_NETS.false

use Rattle.std.proofs.Common.{◌+◌, ◌∷◌, drop, length, map, option_map, refl, ap, sym, ◌∙◌}
use Rattle.std.specs.Option.{option_or}
use Rattle.std.proofs.lemmas.List.{at_drop_more}
use Rattle.std.proofs.lemmas.Option.{slice_get_read}
use Rattle.bsdl_entity.specs.PortsView as view
use Rattle.bsdl_entity.specs.declared.ports.Group.{Group}
use Rattle.bsdl_lookup.specs.NamedPorts.{find_port}
use Rattle.bsdl_lookup.specs.Keyed.{port_keyed}
use Rattle.bsdl_lookup.proofs.NamedPortLaws.{group_kept}
use Rattle.bsdl_lookup.proofs.RangeLaws.{ranges_there}
use Rattle.bsdl_lookup.proofs.keyed_ports.keyed_ports_of.Goals as goal

pub add_group-requires : goal.add_group-requires
add_group-requires c =
    let groups = c.args.groups.now in
    let group = c.index-groups-place.result in
    ranges_there c.loop-place.keyed.ranges.items groups c.loop-place.place group c.loop-place.invariant.ranges
    (slice_get_read groups (length groups) c.loop-place.place group refl c.loop-place-test.true c.index-groups-place.is)

pub loop-place-preserved : goal.loop-place-preserved
loop-place-preserved c =
    let groups = c.args.groups.now in
    let i = c.loop-place.place in
    let n = c.loop-place.keyed.next in
    let group = c.index-groups-place.result in
    record {
      ranges = ap (λ r. map (option_map view.range) r.items) c.in_ok-add_group.ensures.ranges ∙ c.loop-place.invariant.ranges;
      kept = λ q.
          group_kept (port_keyed c.loop-place.keyed) (port_keyed c.add_group.new.keyed) n c.add_group.new.keyed.next group (drop (i + 1) groups) q c.in_ok-add_group.ensures.next c.in_ok-add_group.ensures.found
          ∙ ap (λ (g : Group). option_or (port_keyed c.loop-place.keyed q) (find_port n (view.ports (g ∷ drop (i + 1) groups)) q)) c.index-groups-place.is
          ∙ sym (at_drop_more (λ gs. option_or (port_keyed c.loop-place.keyed q) (find_port n (view.ports gs) q)) groups i group c.loop-place-test.true)
          ∙ c.loop-place.invariant.kept q;
    }

use Rattle.std.proofs.Common.{◌≡◌, ◌<◌, ◌+◌, ◌++◌, ℕ, List, [], drop, length, map, refl, sym, ap, subst, ◌∙◌, arith, append_assoc}
use Rattle.std.specs.Prelude.{Option}
use Rattle.std.specs.Global.{Vec}
use Rattle.std.specs.Io.KnownBytes.{Appends}
use Rattle.std.proofs.KnownBytes.{Appends-trans}
use Rattle.std.proofs.lemmas.List.{append-nil, length-map}
use Rattle.board_plan.specs.CellNets.{HasNets}
use Rattle.board_plan.specs.declared.plan.PlannedDevice.{PlannedDevice}
use Rattle.board_plan.specs.View.{member as planned_member, net as planned_net}
use Rattle.board_description.specs.Described.{device_lines, device_part, shown_file}
use Rattle.board_description.proofs.TextLaws.{Told-lost, as_many, device_next, devices_end, nets_of_device, ports_of}
use Rattle.board_description.proofs.whole.write_devices.Goals as goal

pub device_text-requires : goal.device_text-requires
device_text-requires g c =
    let nets = map planned_net c.args.nets.now in
    let devices = c.args.devices.now in
    let tables = c.args.tables.now in
    let i = c.loop-place.place in
    let inside : i < length devices = omega (arith, c.loop-place-test.true) in
    let there : i < length tables = omega (arith, inside, as_many devices nets tables c.requires.tables) in
    record {
      long = ap length (c.deref.ensures.value ∙ ap (λ (t : Vec (Option ℕ)). t.items) c.index-tables-place.is)
          ∙ ports_of devices nets tables i c.index-tables-place.result c.index-devices-place.result c.requires.tables inside there
          ∙ sym (ap (λ (d : PlannedDevice). length d.device.ports) c.index-devices-place.is);
    }

pub returns-in_err-put_all : goal.returns-in_err-put_all
returns-in_err-put_all g c =
    let nets = map planned_net c.args.nets.now in
    let devices = c.args.devices.now in
    let tables = c.args.tables.now in
    let i = c.loop-place.place in
    let device = c.index-devices-place.result in
    let inside : i < length devices = omega (arith, c.loop-place-test.true) in
    let there : i < length tables = omega (arith, inside, as_many devices nets tables c.requires.tables) in
    let has : HasNets i nets c.deref.result.now =
    subst (HasNets i nets) (sym (c.deref.ensures.value ∙ ap (λ (t : Vec (Option ℕ)). t.items) c.index-tables-place.is))
    (nets_of_device (map planned_member devices) nets tables i c.index-tables-place.result c.requires.tables there) in
    let rest = device_lines nets (i + 1) (drop (i + 1) (map shown_file devices)) (drop (i + 1) (map planned_member devices)) in
    let made : c.deref-in-loop-place.result.now ≡ device_part nets i (shown_file device) (planned_member device) =
    c.deref-in-loop-place.ensures.value ∙ c.in_ok-text.ensures i has in
    let sent = c.loop-place.invariant.sent in
    let split = ap (λ (l : List ℕ). sent ++ (l ++ rest)) made
    ∙ ap (λ (l : List ℕ). sent ++ l) (sym (device_next nets devices i device inside c.index-devices-place.is))
    ∙ c.loop-place.invariant.all in
    Told-lost g.W.Write.contents c.args.out.now c.loop-place.out c.put_all.new.out
    (device_lines nets 0 (map shown_file devices) (map planned_member devices)) sent c.deref-in-loop-place.result.now rest _ c.from_residual-in_err-put_all.result
    split c.loop-place.invariant.appends c.in_err-put_all.ensures.writes refl c.from_residual-in_err-put_all.ensures.1

pub loop-place-preserved : goal.loop-place-preserved
loop-place-preserved g c =
    let nets = map planned_net c.args.nets.now in
    let devices = c.args.devices.now in
    let tables = c.args.tables.now in
    let i = c.loop-place.place in
    let device = c.index-devices-place.result in
    let inside : i < length devices = omega (arith, c.loop-place-test.true) in
    let there : i < length tables = omega (arith, inside, as_many devices nets tables c.requires.tables) in
    let has : HasNets i nets c.deref.result.now =
    subst (HasNets i nets) (sym (c.deref.ensures.value ∙ ap (λ (t : Vec (Option ℕ)). t.items) c.index-tables-place.is))
    (nets_of_device (map planned_member devices) nets tables i c.index-tables-place.result c.requires.tables there) in
    let rest = device_lines nets (i + 1) (drop (i + 1) (map shown_file devices)) (drop (i + 1) (map planned_member devices)) in
    let made : c.deref-in-loop-place.result.now ≡ device_part nets i (shown_file device) (planned_member device) =
    c.deref-in-loop-place.ensures.value ∙ c.in_ok-text.ensures i has in
    let sent = c.loop-place.invariant.sent in
    let text = c.deref-in-loop-place.result.now in
    let split = ap (λ (l : List ℕ). sent ++ (l ++ rest)) made
    ∙ ap (λ (l : List ℕ). sent ++ l) (sym (device_next nets devices i device inside c.index-devices-place.is))
    ∙ c.loop-place.invariant.all in
    record {
      none_lost = c.in_ok-put_all.ensures.writes.ok.0 refl;
      within = omega (arith, c.loop-place-test.true);
      sent = sent ++ text;
      appends = Appends-trans _ _ _ _ _ c.loop-place.invariant.appends c.in_ok-put_all.ensures.writes.whole;
      all = append_assoc sent text rest ∙ split;
    }

pub returns : goal.returns
returns g c =
    let nets = map planned_net c.args.nets.now in
    let names = map shown_file c.args.devices.now in
    let ms = map planned_member c.args.devices.now in
    let i = c.loop-place.place in
    let sent = c.loop-place.invariant.sent in
    let end : device_lines nets i (drop i names) (drop i ms) ≡ [] =
    devices_end nets names ms i
    (omega (arith, c.loop-place-test.false, length-map c.args.devices.now shown_file, length-map c.args.devices.now planned_member)) in
    let whole : sent ≡ device_lines nets 0 names ms =
    sym (append-nil sent) ∙ sym (ap (λ (l : List ℕ). sent ++ l) end) ∙ c.loop-place.invariant.all in (
      c.loop-place.invariant.none_lost,
      subst (λ (l : List ℕ). Appends (g.W.Write.contents c.args.out.now.inner) (g.W.Write.contents c.loop-place.out.inner) l) whole c.loop-place.invariant.appends,
    )

use Rattle.std.proofs.Common.{◌≡◌, ◌++◌, ℕ, List, [], map, refl, ap, subst, ◌∙◌}
use Rattle.std.specs.Prelude.{Err}
use Rattle.std.proofs.lemmas.List.{append-nil}
use Rattle.std.specs.Io.KnownBytes.{Appends}
use Rattle.board_plan.specs.declared.plan.PlannedDevice.{PlannedDevice}
use Rattle.board_plan.specs.declared.plan.PlannedNet.{PlannedNet}
use Rattle.board_plan.specs.View.{member as planned_member, net as planned_net, wiring}
use Rattle.board_description.specs.Described.{device_lines, shown_file, wiring_lines}
use Rattle.board_description.specs.Kept.{Told}
use Rattle.board_description.proofs.TextLaws.{Told-first, Told-lost}
use Rattle.board_description.proofs.whole.write_description.Goals as goal

pub returns-in_err-write_devices : goal.returns-in_err-write_devices
returns-in_err-write_devices g c =
    let plan = c.args.plan.now in
    let names = map shown_file plan.devices.items in
    let old = c.args.out.now in
    let new = c.write_devices.new.out in
    let e = c.in_err-write_devices.field-0.0 in
    Told-first (Unit {0}) g.W.Write.contents old new
    (device_lines (map planned_net plan.nets.items) 0 names (map planned_member plan.devices.items)) (wiring_lines (wiring plan)) e c.from_residual-in_err-write_devices.result
    (subst (λ (ds : List PlannedDevice). Told {A = Unit {0}} g.W.Write.contents old new (device_lines (map planned_net plan.nets.items) 0 (map shown_file ds) (map planned_member ds)) (Err e)) c.deref-3.ensures.value
    (subst (λ (ns : List PlannedNet). Told {A = Unit {0}} g.W.Write.contents old new (device_lines (map planned_net ns) 0 (map shown_file c.deref-3.result.now) (map planned_member c.deref-3.result.now)) (Err e)) c.deref-4.ensures.value
    c.in_err-write_devices.ensures))
    c.from_residual-in_err-write_devices.ensures.1

pub returns-in_err-put_all : goal.returns-in_err-put_all
returns-in_err-put_all g c =
    let plan = c.args.plan.now in
    let names = map shown_file plan.devices.items in
    let old = c.args.out.now in
    let between = c.write_devices.new.out in
    let lines = device_lines (map planned_net plan.nets.items) 0 names (map planned_member plan.devices.items) in
    let last = wiring_lines (wiring plan) in
    let text = c.deref-6.result.now in
    let told = c.in_ok-write_devices.ensures.1 in
    let before : Appends (g.W.Write.contents old.inner) (g.W.Write.contents between.inner) lines =
    subst (λ (ds : List PlannedDevice). Appends (g.W.Write.contents old.inner) (g.W.Write.contents between.inner) (device_lines (map planned_net plan.nets.items) 0 (map shown_file ds) (map planned_member ds))) c.deref-3.ensures.value
    (subst (λ (ns : List PlannedNet). Appends (g.W.Write.contents old.inner) (g.W.Write.contents between.inner) (device_lines (map planned_net ns) 0 (map shown_file c.deref-3.result.now) (map planned_member c.deref-3.result.now))) c.deref-4.ensures.value told) in
    let made : text ++ [] ≡ last =
    append-nil text ∙ c.deref-6.ensures.value ∙ c.in_ok-put_wiring.ensures ∙ ap (λ (l : List ℕ). l ++ last) c.new-text.ensures.items in
    Told-lost g.W.Write.contents old between c.put_all.new.out (lines ++ last) lines text [] _ c.from_residual-in_err-put_all.result
    (ap (λ (l : List ℕ). lines ++ l) made) before c.in_err-put_all.ensures.writes refl c.from_residual-in_err-put_all.ensures.1

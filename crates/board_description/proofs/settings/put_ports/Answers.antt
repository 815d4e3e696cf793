use Rattle.std.proofs.Common.{◌<◌, ◌+◌, ◌++◌, ℕ, List, None, drop, length, map, refl, sym, ap, ◌∙◌, arith, append_assoc}
use Rattle.board_plan.specs.View.{net as planned_net}
use Rattle.board_description.specs.Described.{port_lines}
use Rattle.board_description.proofs.TextLaws.{ports_next}
use Rattle.board_description.proofs.settings.put_ports.Goals as goal

pub loop-port-preserved : goal.loop-port-preserved
loop-port-preserved c = λ place has.
    let nets = map planned_net c.args.nets.now in
    let name = c.args.name.now in
    let ports = c.args.device.now.ports in
    let table = c.args.table.now in
    let k = c.loop-port.port in
    let text = c.loop-port.text.items in
    let rest = port_lines nets place name (k + 1) (drop (k + 1) ports) in
    let inside : k < length table = omega (arith, c.loop-port-test.true) in
    ap (λ (l : List ℕ). l ++ rest) c.in_ok-put_port_line.ensures
    ∙ append_assoc text _ rest
    ∙ ap (λ (l : List ℕ). text ++ l) (sym (ports_next nets place name ports table k _ _ None inside has c.port.ensures refl))
    ∙ c.loop-port.invariant place has

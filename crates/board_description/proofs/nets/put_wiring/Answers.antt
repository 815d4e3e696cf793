use Rattle.std.proofs.Common.{◌≡◌, ◌++◌, List, map, subst}
use Rattle.std.specs.Prelude.{OnOk}
use Rattle.board_plan.specs.View.{member as planned_member, wiring}
use Rattle.board_plan.specs.declared.plan.PlannedDevice.{PlannedDevice}
use Rattle.board_description.specs.Described.{chain_line, net_lines, place_lines}
use Rattle.board_description.proofs.TextLaws.{OnOk-behind}
use Rattle.board_description.proofs.nets.put_wiring.Goals as goal

pub returns : goal.returns
returns c =
    let w = wiring c.args.plan.now in
    let text = c.args.text.now.items in
    let new = c.put_chain.new.text.items in
    let placed = c.put_places.new.text.items in
    let places : placed ≡ c.put_nets.new.text.items ++ place_lines 0 0 w.members =
    subst (λ (ds : List PlannedDevice). placed ≡ c.put_nets.new.text.items ++ place_lines 0 0 (map planned_member ds)) c.deref.ensures.value c.in_ok-put_places.ensures in
    let chain : OnOk c.put_chain.result (new ≡ placed ++ chain_line w.members) =
    subst (λ (ds : List PlannedDevice). OnOk c.put_chain.result (new ≡ placed ++ chain_line (map planned_member ds))) c.deref-2.ensures.value c.put_chain.ensures in
    OnOk-behind text (net_lines w) (place_lines 0 0 w.members ++ chain_line w.members) c.put_nets.new.text.items new c.put_chain.result c.in_ok-put_nets.ensures
    (OnOk-behind c.put_nets.new.text.items (place_lines 0 0 w.members) (chain_line w.members) placed new c.put_chain.result places chain)

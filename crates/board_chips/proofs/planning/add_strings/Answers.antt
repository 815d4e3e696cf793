use Rattle.std.proofs.Common.{false}
use Rattle.pin_nets.specs.declared.Follow.{Follow}
use Rattle.board_chips.specs.Planning.{string_by}
use Rattle.board_chips.proofs.PlanningLaws.{appended}
use Rattle.board_chips.proofs.planning.add_strings.Goals as goal

pub loop-string-preserved : goal.loop-string-preserved
loop-string-preserved c =
    let nothing : Follow = record { cell = 0; source = 0; inverted = false } in
    appended (string_by c.args.place c.args.cells.now c.args.nets.now c.args.pins.now) c.args.strings.now c.loop-string.string-index nothing c.args.all.now.items c.loop-string.all.items c.push.new.self.items
    c.wired_string.result c.loop-string-test.true c.loop-string.invariant c.wired_string.ensures c.in_ok-push.ensures.items

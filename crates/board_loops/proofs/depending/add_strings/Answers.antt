use Rattle.std.proofs.Common.{false}
use Rattle.pin_nets.specs.declared.Follow.{Follow}
use Rattle.board_loops.specs.Depending.{dependency_by}
use Rattle.board_loops.proofs.DependingLaws.{appended}
use Rattle.board_loops.proofs.depending.add_strings.Goals as goal

pub loop-string-preserved : goal.loop-string-preserved
loop-string-preserved c =
    let nothing : Follow = record { cell = 0; source = 0; inverted = false } in
    appended (dependency_by c.args.table.now c.args.first c.args.cells.now) c.args.strings.now c.loop-string.string-index nothing c.args.all.now.items c.loop-string.all.items c.push.new.self.items
    c.in_ok-dependency.field-0 c.loop-string-test.true c.loop-string.invariant c.in_ok-dependency.ensures c.in_ok-push.ensures.items

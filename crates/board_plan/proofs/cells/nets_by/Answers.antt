use Rattle.std.proofs.Common.{None}
use Rattle.chip_instructions.specs.Cell.{Cell}
use Rattle.chip_instructions.specs.Function.TheVariants.{Input}
use Rattle.board_plan.specs.CellNets.{net_by}
use Rattle.board_plan.proofs.CellLaws.{mapped_push}
use Rattle.board_plan.proofs.cells.nets_by.Goals as goal

pub loop-cell-preserved : goal.loop-cell-preserved
loop-cell-preserved c =
    let nothing : Cell = record { function = Input; port = None; control = None } in
    mapped_push (λ (x : Cell). net_by c.args.table.now x.port) c.args.cells.now c.loop-cell.cell-index nothing c.loop-cell.all.items c.push.new.self.items c.net_in.result c.loop-cell-test.true c.loop-cell.invariant
    c.net_in.ensures c.in_ok-push.ensures.items

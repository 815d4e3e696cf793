use Rattle.std.proofs.Common.{◌≡◌, Some, get_or, length, set, sym, ap, ◌∙◌, arith}
use Rattle.std.proofs.lemmas.List.{length-map, set-get_or}
use Rattle.std.specs.Vec.{with_item}
use Rattle.board_plan.specs.AllCellNets.{lists_of}
use Rattle.board_plan.proofs.TableLaws.{past_device, past_port, put_in, vector_at}
use Rattle.board_plan.proofs.all_cells.enter_pin.Goals as goal

pub returns-then-pin-len : goal.returns-then-pin-len
returns-then-pin-len c =
    let tables = c.args.tables.now in
    let pin = c.args.pin in
    put_in tables c.args.number pin c.index-tables-pin.result (with_item (get_or tables pin.device c.index-tables-pin.result) pin.port (Some c.args.number)) c.if-pin-tables.true c.index-tables-pin.is
    (ap (λ t. set t.items pin.port (Some c.args.number)) (sym c.index-tables-pin.is))

pub returns-else-pin-len : goal.returns-else-pin-len
returns-else-pin-len c =
    let tables = c.args.tables.now in
    let pin = c.args.pin in
    let table = c.index-tables-pin.result in
    let items = vector_at tables pin.device table c.if-pin-tables.true c.index-tables-pin.is in
    ap lists_of (set-get_or tables pin.device table) ∙ past_port (lists_of tables) c.args.number pin
    (omega (arith, c.if-pin-len.false, c.len.ensures, ap (λ t. t.len) c.index-tables-pin.is, table.ok.0, ap length items))

pub returns-else-pin-tables : goal.returns-else-pin-tables
returns-else-pin-tables c = past_device (lists_of c.args.tables.now) c.args.number c.args.pin (omega (arith, c.if-pin-tables.false, length-map c.args.tables.now (λ t. t.items)))

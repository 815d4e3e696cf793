use Rattle.std.proofs.Common.{◌||◌, ◌&&◌, ℕ, nat_lt, ap, sym, ◌∙◌}
use Rattle.std.specs.Prelude.{option_map}
use Rattle.bsdl_values.specs.CellView.{cell_row, port_name}
use Rattle.bsdl_lookup.specs.Drivers.{driver_at, is_below, same_bit}
use Rattle.bsdl_lookup.specs.View.{port_index}
use Rattle.bsdl_lookup.proofs.DriverLaws.{row_drives}
use Rattle.bsdl_lookup.proofs.drivers.add_row_by_key.Goals as goal

pub returns-in_ok-add_driver-in-Some-port_index_by_key : goal.returns-in_ok-add_driver-in-Some-port_index_by_key
returns-in_ok-add_driver-in-Some-port_index_by_key c = λ ps at s n few.
    let a = c.in-Some-port_index_by_key.port_index in
    let before = is_below (driver_at c.args.drivers.now s) n in
    c.in_ok-add_driver-in-Some-port_index_by_key.ensures s n
    ∙ ap (λ b. before || b) (ap (λ (k : ℕ). same_bit a s && nat_lt k n) c.up_to.ensures
    ∙ row_drives ps a s n (cell_row c.args.row.now) (port_name c.in-Some.port) few (ap (option_map port_name) c.in-Some.is) (sym c.if-not-drives.ensures)
    (sym (ap (option_map port_index) c.in-Some-port_index_by_key.is) ∙ c.port_index_by_key.ensures ps at))

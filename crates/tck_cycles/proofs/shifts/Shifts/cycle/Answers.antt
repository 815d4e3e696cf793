use Rattle.std.proofs.Common.{false}
use Rattle.jt_bits.proofs.PackedWords.{bit_read}
use Rattle.tck_cycles.proofs.shifts.Shifts.cycle.Goals as goal

pub returns : goal.returns
returns c =
    let tdi = bit_read c.args.self.tdi c.args.j in
    let read = bit_read c.args.self.read c.args.j in
    λ i. record { tms = false; tdi = tdi i; read = read i }

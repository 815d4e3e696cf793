use Rattle.std.proofs.Common.{sym}
use Rattle.tck_cycles.proofs.Places.{no_reads_stayed, no_reads_walked}
use Rattle.tck_cycles.proofs.middle.Middle.reads_from.Goals as goal

pub returns-in-Path : goal.returns-in-Path
returns-in-Path c = rw c.in-Path.is (sym (no_reads_walked c.in-Path.field-0.now c.args.at))

pub returns-in-Stay : goal.returns-in-Stay
returns-in-Stay c = rw c.in-Stay.is (sym (no_reads_stayed c.in-Stay.field-1 c.in-Stay.field-0 c.args.at))

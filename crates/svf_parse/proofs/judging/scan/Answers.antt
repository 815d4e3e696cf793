use Rattle.std.proofs.Common.{sym}
use Rattle.svf_parse.specs.FormView.{fields}
use Rattle.svf_parse.proofs.ScanLaws.{scan_sound}
use Rattle.svf_parse.proofs.judging.scan.Goals as goal

pub bits-requires : goal.bits-requires
bits-requires c = let sound = scan_sound c.args.len.now (fields c.args.fields) c.in-Ok.len (sym c.in-Ok.ensures) in sound.tdi

pub bits-requires-2 : goal.bits-requires-2
bits-requires-2 c = let sound = scan_sound c.args.len.now (fields c.args.fields) c.in-Ok.len (sym c.in-Ok.ensures) in sound.tdo

pub bits-requires-3 : goal.bits-requires-3
bits-requires-3 c = let sound = scan_sound c.args.len.now (fields c.args.fields) c.in-Ok.len (sym c.in-Ok.ensures) in sound.mask

pub bits-requires-4 : goal.bits-requires-4
bits-requires-4 c = let sound = scan_sound c.args.len.now (fields c.args.fields) c.in-Ok.len (sym c.in-Ok.ensures) in sound.smask

use Rattle.std.proofs.Common.{◌≡◌, take}
use Rattle.std.specs.Io.KnownBytes.{Appends}
use Rattle.board_plan.specs.Planned.{all_pins}
use Rattle.wave_files.specs.Drives.{drive_change, driving}
use Rattle.wave_files.specs.Values.{by_numbers}
use Rattle.wave_files.proofs.drives.write_each_drive.Given as goal

-- the changes of the pins before the place are written
abbrev pub invariant-loop-pin : goal.invariant-loop-pin
invariant-loop-pin g l = record {
  none_lost : l.out.failures ≡ 0;
  sent : Appends (g.W.Write.contents l.initial.out.inner) (g.W.Write.contents l.out.inner)
      (by_numbers (drive_change (driving l.behind.nets l.behind.chips) (driving l.behind.nets l.ahead.chips)) 1 l.first
      (take l.pin (all_pins l.behind.nets)));
}

use Rattle.std.proofs.Common.{◌≡◌, ◌+◌, take, drop}
use Rattle.std.specs.Io.KnownBytes.{Appends}
use Rattle.board_plan.specs.Planned.{all_pins}
use Rattle.wave_files.specs.Heading.{drive_variable}
use Rattle.wave_files.specs.Values.{by_numbers}
use Rattle.play_waves.proofs.pins.write_pins.Given as goal

-- the variables of the pins before the place are written
abbrev pub invariant-loop-i : goal.invariant-loop-i
invariant-loop-i g l = record {
  none_lost : l.out.failures ≡ 0;
  sent : Appends (g.W.Write.contents l.initial.out.inner) (g.W.Write.contents l.out.inner)
      (by_numbers (drive_variable l.chain.chips l.net) 1 (l.first + l.pin) (take l.i (take l.count (drop l.pin (all_pins l.chain.nets)))));
}

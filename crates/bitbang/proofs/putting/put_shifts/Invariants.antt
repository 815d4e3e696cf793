use Rattle.std.proofs.Common.{◌≡◌, ◌++◌, length, drop, map}
use Rattle.std.specs.List.{range_with_len}
use Rattle.tck_cycles.specs.Shifts.{shift_cycle}
use Rattle.bitbang.specs.Left.{bytes_of}
use Rattle.bitbang.proofs.putting.put_shifts.Given as goal

abbrev pub invariant-loop-j : goal.invariant-loop-j
invariant-loop-j l =
    let out = bytes_of (map (shift_cycle l.shifts) (range_with_len 0 l.j)) in
    record {
      count : l.count ≡ length out;
      filled : l.buffer ≡ out ++ drop l.count l.initial.buffer;
    }

use Rattle.std.proofs.Common.{◌≡◌, ◌++◌, length, drop, replicate}
use Rattle.bitbang.specs.Left.{bytes_of}
use Rattle.bitbang.proofs.putting.put_cycles.Given as goal

abbrev pub invariant-loop-i : goal.invariant-loop-i
invariant-loop-i l = record {
  count : l.count ≡ length (bytes_of (replicate l._i l.cycle));
  filled : l.buffer ≡ bytes_of (replicate l._i l.cycle) ++ drop l.count l.initial.buffer;
}

use Rattle.std.proofs.Common.{◌≡◌, ◌+◌, ◌-◌, ◌<◌, ◌≤◌, length, get_or, map, []}
use Rattle.scan_vectors.specs.Held.{bits}
use Rattle.board_chain.specs.Rows.{before}
use Rattle.board_chain.proofs.ShiftInPlace.{Moved, AllPut}
use Rattle.board_chain.proofs.scan.shift_chain.Given as goal

abbrev pub invariant-loop-i : goal.invariant-loop-i
invariant-loop-i g l = record {
  moved : Moved (map (λ c. g.L.Link.register c l.column) l.fn.chain) (map (λ c. g.L.Link.register c l.column) l.chain) (bits l.vector)
      (before (map (λ c. g.L.Link.register c l.column) l.fn.chain) l.i) l.from.link l.from.bit;
  puts : AllPut (λ c. g.L.Link.register c l.column) (λ c stage d. g.L.Link.is_put c l.column stage d) l.fn.chain l.chain;
  count : length l.chain ≡ length l.fn.chain;
  inside : l.i ≤ length l.fn.chain;
}

abbrev pub invariant-loop-done : goal.invariant-loop-done
invariant-loop-done g l = record {
  moved : Moved (map (λ c. g.L.Link.register c l.column) l.fn.chain) (map (λ c. g.L.Link.register c l.column) l.chain) (bits l.vector)
      (before (map (λ c. g.L.Link.register c l.column) l.fn.chain) l.i + l.done) l.from.link l.from.bit;
  puts : AllPut (λ c. g.L.Link.register c l.column) (λ c stage d. g.L.Link.is_put c l.column stage d) l.fn.chain l.chain;
  count : length l.chain ≡ length l.fn.chain;
  inside : l.i < length l.fn.chain;
  done : l.done ≤ l.len;
  len : l.len ≡ length (get_or (map (λ c. g.L.Link.register c l.column) l.fn.chain) l.i []);
}

abbrev pub decreases-loop-done : goal.decreases-loop-done
decreases-loop-done g l = l.len - l.done

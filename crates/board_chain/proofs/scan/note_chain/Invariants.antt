use Rattle.std.proofs.Common.{◌≡◌, ◌+◌, ◌-◌, ◌≤◌, ◌<◌, ◌^◌, ◌++◌, length, drop, map}
use Rattle.scan_vectors.specs.Failures.{differing, found, with_found}
use Rattle.scan_vectors.specs.Vector.{tdis}
use Rattle.scan_vectors.specs.Held.{bits}
use Rattle.board_chain.specs.Rows.{joined_registers, out}
use Rattle.board_chain.proofs.scan.note_chain.Given as goal

-- the links that are left and what comes behind them add what is missing, and there is room to count it
abbrev pub invariant-loop-link : goal.invariant-loop-link
invariant-loop-link g l = record {
  within : l.at ≤ length (bits l.vector);
  room : l.failures.total + (length (bits l.vector) - l.at) < 2 ^ 64;
  noted : with_found (differing l.command (drop l.at (bits l.vector)) (joined_registers (drop l.link-index (map (λ c. g.L.Link.register c l.column) l.chain)) ++ tdis (bits l.vector))) (found l.failures)
      ≡ with_found (differing l.command (bits l.vector) (out (bits l.vector) (map (λ c. g.L.Link.register c l.column) l.chain))) (found l.initial.failures);
}

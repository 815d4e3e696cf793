use Rattle.std.proofs.Common.{◌≤◌, length}
use Rattle.board_chain.proofs.WordThrough.{Through}
use Rattle.board_chain.proofs.scan.words.shift_word.Given as goal

abbrev pub invariant-loop-i : goal.invariant-loop-i
invariant-loop-i g l = record {
  inside : l.i ≤ length l.fn.chain;
  through : Through (λ c. g.L.Link.register c l.column) (λ c stage d. g.L.Link.is_put c l.column stage d) l.fn.chain l.chain l.i l.bits l.n l.entering;
}

abbrev pub decreases-loop-i : goal.decreases-loop-i
decreases-loop-i g l = l.i

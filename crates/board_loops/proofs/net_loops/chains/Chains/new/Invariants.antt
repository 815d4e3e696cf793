use Rattle.std.proofs.Common.{◌≡◌, vec_len}
use Rattle.board_loops.proofs.net_loops.chains.Chains.new.Given as goal

abbrev pub invariant-loop-place : goal.invariant-loop-place
invariant-loop-place l = vec_len l.last ≡ l.nets

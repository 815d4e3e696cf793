use Rattle.std.proofs.Common.{◌≡◌, take}
use Rattle.std.specs.Prelude.{flat_map}
use Rattle.std.specs.Io.KnownBytes.{Appends}
use Rattle.board_chain.specs.Chain.{members}
use Rattle.jt_board.specs.Report.{net_line}
use Rattle.jt_board.proofs.report.lines.write_nets.Given as goal

abbrev pub invariant-loop-k : goal.invariant-loop-k
invariant-loop-k g l = record {
  none_lost : l.out.failures ≡ 0;
  sent : Appends (g.W.Write.contents l.initial.out.inner) (g.W.Write.contents l.out.inner) (flat_map (net_line l.chain.nets (members l.chain.chips)) (take l.k l.chain.nets));
}

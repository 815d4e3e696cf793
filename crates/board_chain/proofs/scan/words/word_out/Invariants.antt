use Rattle.std.proofs.Common.{◌<◌, map}
use Rattle.board_chain.proofs.WordLaws.{Out}
use Rattle.board_chain.proofs.scan.words.word_out.Given as goal

abbrev pub invariant-loop-link : goal.invariant-loop-link
invariant-loop-link g l = record {
  less : l.at < 64;
  so : Out (map (λ c. g.L.Link.register c l.column) l.chain) l.link-index l.at l.out;
}

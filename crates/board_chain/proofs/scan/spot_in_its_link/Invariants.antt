use Rattle.std.proofs.Common.{◌≡◌, ◌+◌, ◌≤◌, length, map}
use Rattle.board_chain.specs.Rows.{before}
use Rattle.board_chain.proofs.scan.spot_in_its_link.Given as goal

abbrev pub invariant-loop-link : goal.invariant-loop-link
invariant-loop-link g l =
    (l.link ≤ length l.chain)
    × (before (map (λ c. g.L.Link.register c l.column) l.chain) l.link + l.bit ≡ before (map (λ c. g.L.Link.register c l.column) l.chain) l.fn.spot.link + l.fn.spot.bit)

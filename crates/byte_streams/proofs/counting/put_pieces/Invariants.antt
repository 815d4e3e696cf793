use Rattle.std.proofs.Common.{◌≡◌, Bool, take, drop}
use Rattle.std.specs.Prelude.{flat_map, map}
use Rattle.std.specs.Io.KnownBytes.{Appends}
use Rattle.byte_streams.specs.Writes.{PutsEach}
use Rattle.byte_streams.proofs.counting.put_pieces.Given as goal

-- No piece was lost yet, and what the calls from here on do is what all of them do.
abbrev pub invariant-loop-piece : goal.invariant-loop-piece
invariant-loop-piece g l = record {
  none_lost : l.out.failures ≡ 0;
  at_end : l.out.at_end ≡ l.initial.out.at_end;
  sent : Appends (g.W.Write.contents l.initial.out.inner) (g.W.Write.contents l.out.inner) (flat_map (λ piece. piece.now) (take l.piece-index l.pieces));
  calls : (whole : Bool) (u : _) → PutsEach g.W.Sink.puts l.out.inner (map (λ piece. piece.now) (drop l.piece-index l.pieces)) whole u
      → PutsEach g.W.Sink.puts l.initial.out.inner (map (λ piece. piece.now) l.pieces) whole u;
}

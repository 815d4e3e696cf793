use Rattle.std.proofs.Common.{◌≡◌, ◌≤◌, [], ◌++◌, List, ℕ, take, drop, length, sym, ap, ◌∙◌, append_assoc, arith}
use Rattle.std.proofs.lemmas.List.{append-nil, take-append-drop}
use Rattle.bitbang.specs.Left.{left}
use Rattle.play_direct.proofs.Buffers.{filled_front, nothing_waits}
use Rattle.play_direct.specs.Noting.{notes_then}
use Rattle.play_direct.proofs.NotedPieces.{Notes-is, Notes-none}
use Rattle.play_direct.proofs.beside.note_step.Goals as goal

pub loop-bytes-init : goal.loop-bytes-init
loop-bytes-init g c = record {
  sent = [];
  split = sym c.of-bytes.ensures.bytes;
  notes = Notes-none g.W.Write.contents c.args.out.now c.failures.ensures.once;
}

pub loop-bytes-preserved : goal.loop-bytes-preserved
loop-bytes-preserved g c =
    let i = c.loop-bytes.invariant in
    let n = c.fill-count.result in
    let rest = left c.loop-bytes.bytes in
    let piece = take n c.fill-count.new.buffer in
    let some : n ≤ length rest = omega (arith, c.fill-count.ensures.count) in
    let is : piece ≡ take n rest = ap (take n) c.fill-count.ensures.filled ∙ filled_front rest (drop n c.loop-bytes.buffer) n some in
    let cut : rest ≡ piece ++ left c.fill-count.new.self =
    sym (take-append-drop n rest) ∙ (λ i. sym is i ++ sym c.fill-count.ensures.left i) in
    record {
      sent = i.sent ++ piece;
      split = i.split ∙ ap (λ (l : List ℕ). i.sent ++ l) cut ∙ sym (append_assoc i.sent piece (left c.fill-count.new.self));
      notes = notes_then g.W.Write.contents _ _ _ _ _ i.notes c.note.ensures;
    }

pub returns-then-count-eq0 : goal.returns-then-count-eq0
returns-then-count-eq0 g c =
    let i = c.loop-bytes.invariant in
    let none : left c.loop-bytes.bytes ≡ [] =
    nothing_waits (left c.loop-bytes.bytes) c.fill-count.result (length c.loop-bytes.buffer) c.fill-count.ensures.count c.if-count-eq0.true (omega arith) in
    Notes-is (sym (i.split ∙ ap (λ (l : List ℕ). i.sent ++ l) none ∙ append-nil i.sent)) i.notes

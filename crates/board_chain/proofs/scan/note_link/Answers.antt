use Rattle.std.proofs.Common.{◌≡◌, ◌+◌, ◌<◌, ◌≤◌, [], List, drop, take, length, sym, ap, ⊎_elim, ◌∙◌, arith}
use Rattle.std.proofs.lemmas.Bool.{cases_lt}
use Rattle.std.proofs.lemmas.List.{length-take}
use Rattle.scan_vectors.specs.declared.failures.Mismatch.{Mismatch}
use Rattle.scan_vectors.specs.Failures.{Found, differing, found, with_found}
use Rattle.scan_vectors.specs.Held.{bits}
use Rattle.scan_vectors.proofs.Listing.{found-none}
use Rattle.board_chain.proofs.Differing.{few-wanted, none-over, none-past}
use Rattle.board_chain.proofs.Noting.{note_free, note_more, word_begins}
use Rattle.board_chain.proofs.scan.note_link.Goals as goal

pub loop-done-preserved-then-free-gt0 : goal.loop-done-preserved-then-free-gt0
loop-done-preserved-then-free-gt0 g c =
    let vs = bits c.args.vector.now in
    let out = g.L.Link.register c.args.link.now c.args.column in
    let i = c.loop-done.invariant in
    record {
      within = omega (arith, c.min-free.ensures, c.loop-done-test.true);
      room = omega (arith, i.room);
      noted = note_free c.args.command vs out c.args.at c.loop-done.done c.min-free.result
          (with_found (differing c.args.command (drop c.args.at vs) out) (found c.args.failures.now)) (found c.loop-done.failures) i.noted
          (λ j h. c.unwanted.ensures.bits j (omega (arith, h, c.min-free.ensures)));
    }

pub loop-done-preserved : goal.loop-done-preserved
loop-done-preserved g c =
    let vs = bits c.args.vector.now in
    let done = c.loop-done.done in
    let out = g.L.Link.register c.args.link.now c.args.column in
    let bound : c.min-end.result ≤ length out = omega (arith, c.min-end.ensures, c.register_len.ensures) in
    let i = c.loop-done.invariant in
    let piece = c.note_piece-done in
    let noted = piece.ensures.noted (drop done out)
    (word_begins out done c.register_word-word.result c.min-few.result (omega (arith, c.min-few.ensures)) (omega (arith, c.min-few.ensures, bound, c.loop-done-test.true)) c.register_word-word.ensures) in
    record {
      within = omega (arith, piece.ensures.most, c.min-few.ensures, c.loop-done-test.true);
      room = omega (
        arith,
        i.room,
        ap (λ (f : Found). f.total) noted,
        piece.ensures.most,
        c.min-few.ensures,
        c.loop-done-test.true,
        few-wanted c.args.command (take piece.result (drop (c.args.at + done) vs)) (drop done out),
        length-take piece.result (drop (c.args.at + done) vs),
      );
      noted = note_more c.args.command vs out c.args.at done piece.result
          (with_found (differing c.args.command (drop c.args.at vs) out) (found c.args.failures.now)) (found c.loop-done.failures) (found piece.new.failures) i.noted noted;
    }

pub returns : goal.returns
returns g c =
    let vs = bits c.args.vector.now in
    let done = c.loop-done.done in
    let now = found c.loop-done.failures in
    let out = g.L.Link.register c.args.link.now c.args.column in
    let none : differing c.args.command (drop (c.args.at + done) vs) (drop done out) ≡ [] = ⊎_elim
    (λ (less : done < length out). none-over c.args.command vs (drop done out) (c.args.at + done)
    (omega (arith, less, c.loop-done-test.false, c.min-end.ensures, c.len.ensures, c.register_len.ensures)))
    (λ (past : length out ≤ done). none-past c.args.command (drop (c.args.at + done) vs) out done past)
    (cases_lt done (length out)) in
    sym (found-none now (omega (arith, c.len-2.ensures.fits))) ∙ ap (λ (l : List Mismatch). with_found l now) (sym none) ∙ c.loop-done.invariant.noted

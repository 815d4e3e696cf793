use Rattle.std.proofs.Common.{◌+◌, List, drop, take, sym, ap, ◌∙◌, arith}
use Rattle.std.proofs.lemmas.List.{length-take}
use Rattle.scan_vectors.specs.declared.failures.Mismatch.{Mismatch}
use Rattle.scan_vectors.specs.Vector.{tdis}
use Rattle.scan_vectors.specs.Held.{bits}
use Rattle.scan_vectors.specs.Failures.{Found, differing, found, with_found}
use Rattle.scan_vectors.proofs.Listing.{found-none}
use Rattle.board_chain.proofs.Differing.{few-wanted, none-over}
use Rattle.board_chain.proofs.Noting.{note_free, note_more, tdi_begins}
use Rattle.board_chain.proofs.scan.pieces.note_behind.Goals as goal

pub loop-done-preserved-then-free-gt0 : goal.loop-done-preserved-then-free-gt0
loop-done-preserved-then-free-gt0 c =
    let vs = bits c.args.vector.now in
    let i = c.loop-done.invariant in
    record {
      within = omega (arith, c.min-free.ensures, c.loop-done-test.true);
      room = omega (arith, i.room);
      noted = note_free c.args.command vs (tdis vs) c.args.at c.loop-done.done c.min-free.result
          (with_found (differing c.args.command (drop c.args.at vs) (tdis vs)) (found c.args.failures.now)) (found c.loop-done.failures) i.noted
          (λ j h. c.unwanted.ensures.bits j (omega (arith, h, c.min-free.ensures)));
    }

pub loop-done-preserved : goal.loop-done-preserved
loop-done-preserved c =
    let vs = bits c.args.vector.now in
    let done = c.loop-done.done in
    let i = c.loop-done.invariant in
    let piece = c.note_piece-done in
    let noted = piece.ensures.noted (drop done (tdis vs))
    (tdi_begins vs done c.tdi_run-run.result.bits c.min-few.result c.tdi_run-run.result.len (omega (arith, c.min-few.ensures)) c.tdi_run-run.ensures.bits) in
    record {
      within = omega (arith, piece.ensures.most, c.min-few.ensures, c.loop-done-test.true);
      room = omega (
        arith,
        i.room,
        ap (λ (f : Found). f.total) noted,
        piece.ensures.most,
        c.min-few.ensures,
        c.loop-done-test.true,
        few-wanted c.args.command (take piece.result (drop (c.args.at + done) vs)) (drop done (tdis vs)),
        length-take piece.result (drop (c.args.at + done) vs),
      );
      noted = note_more c.args.command vs (tdis vs) c.args.at done piece.result
          (with_found (differing c.args.command (drop c.args.at vs) (tdis vs)) (found c.args.failures.now)) (found c.loop-done.failures) (found piece.new.failures) i.noted noted;
    }

pub returns : goal.returns
returns c =
    let vs = bits c.args.vector.now in
    let done = c.loop-done.done in
    let now = found c.loop-done.failures in
    sym (found-none now (omega (arith, c.len-2.ensures.fits)))
    ∙ ap (λ (l : List Mismatch). with_found l now) (sym (none-over c.args.command vs (drop done (tdis vs)) (c.args.at + done) (omega (arith, c.len.ensures, c.loop-done-test.false))))
    ∙ c.loop-done.invariant.noted

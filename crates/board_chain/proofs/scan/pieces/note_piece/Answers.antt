use Rattle.std.proofs.Common.{List, drop, sym, ap, ◌∙◌, arith}
use Rattle.scan_vectors.specs.declared.failures.Mismatch.{Mismatch}
use Rattle.scan_vectors.specs.Failures.{found, with_found}
use Rattle.scan_vectors.specs.Held.{bits}
use Rattle.scan_vectors.proofs.Listing.{found-none}
use Rattle.board_chain.proofs.Differing.{none-differ}
use Rattle.board_chain.proofs.Noting.{bad, good}
use Rattle.board_chain.proofs.scan.pieces.note_piece.Goals as goal

pub returns-in-Some-clause-noted : goal.returns-in-Some-clause-noted
returns-in-Some-clause-noted c = λ out begins.
    let r = c.wanted_run-run in
    c.note.ensures ∙ ap (λ (l : List Mismatch). with_found l (found c.args.failures.now)) (sym
    (bad (bits c.args.vector.now) c.args.at r.result.care r.result.bits c.args.word r.result.len c.args.len r.ensures.bits out begins
    c.args.command c.in-Some.bad c.part-part.result
    (omega (arith, c.if-bad-count.true, c.min-count.ensures)) (omega (arith, c.if-bad-count.true, c.min-count.ensures))
    c.in-Some.ensures.1 c.in-Some.ensures.2 c.part-part.ensures))

pub returns-in_default-clause-noted : goal.returns-in_default-clause-noted
returns-in_default-clause-noted c = λ out begins.
    let r = c.wanted_run-run in
    let old = found c.args.failures.now in
    sym (ap (λ (l : List Mismatch). with_found l old)
    (none-differ c.args.command c.min-count.result (drop c.args.at (bits c.args.vector.now)) out
    (good (bits c.args.vector.now) c.args.at r.result.care r.result.bits c.args.word r.result.len c.args.len r.ensures.bits out begins
    c.min-count.result (omega (arith, c.min-count.ensures)) (omega (arith, c.min-count.ensures))
    (λ j h. c.in-Some.ensures.2 j (omega (arith, h, c.if-bad-count.false)))))
    ∙ found-none old (omega (arith, c.len.ensures)))

pub returns-in_default-2-clause-noted : goal.returns-in_default-2-clause-noted
returns-in_default-2-clause-noted c = λ out begins.
    let r = c.wanted_run-run in
    let old = found c.args.failures.now in
    sym (ap (λ (l : List Mismatch). with_found l old)
    (none-differ c.args.command c.min-count.result (drop c.args.at (bits c.args.vector.now)) out
    (good (bits c.args.vector.now) c.args.at r.result.care r.result.bits c.args.word r.result.len c.args.len r.ensures.bits out begins
    c.min-count.result (omega (arith, c.min-count.ensures)) (omega (arith, c.min-count.ensures))
    (λ j h. c.in_default.ensures j (omega (arith, h, c.min-count.ensures, r.ensures.few)))))
    ∙ found-none old (omega (arith, c.len.ensures)))

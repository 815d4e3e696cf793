use Rattle.std.proofs.Common.{replicate, arith}
use Rattle.std.proofs.lemmas.List.{length-replicate}
use Rattle.tck_cycles.specs.Sources as source
use Rattle.bitbang.specs.Left.{left}
use Rattle.bitbang.proofs.BufferFills.{cycles-first, fills-front, most-bytes, some-bytes}
use Rattle.bitbang.proofs.step_bytes.StepBytes.fill_alike.Goals as goal

pub returns-clause-fills : goal.returns-clause-fills
returns-clause-fills c =
    let s = c.args.self.now in
    let between = c.requires.between in
    let n = c.next_alike-times.result.1 in
    let cycles = replicate n c.next_alike-times.result.0 in
    let long = length-replicate n c.next_alike-times.result.0 in
    fills-front (left s) c.args.buffer.now _ _ _ _
    (cycles-first s.line s.begun (source.left s.source) cycles _ s.closes between.0 between.1 c.next_alike-times.ensures.gives)
    c.put_cycles.ensures.count
    (omega (arith, c.put_cycles.ensures.count, most-bytes cycles, long, c.next_alike-times.ensures.most))
    c.put_cycles.ensures.filled
    (omega (arith, c.put_cycles.ensures.count, some-bytes cycles (omega (arith, long, c.if-times-eq0.false))))

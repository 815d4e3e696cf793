use Rattle.std.proofs.Common.{arith}
use Rattle.std.proofs.lemmas.List.FromFn.{length-map-range_with_len}
use Rattle.tck_cycles.specs.Shifts.{shift_cycle, shift_cycles}
use Rattle.tck_cycles.specs.Sources as source
use Rattle.bitbang.specs.Left.{left}
use Rattle.bitbang.proofs.BufferFills.{cycles-first, fills-front, most-bytes, some-bytes}
use Rattle.bitbang.proofs.step_bytes.StepBytes.fill_some.Goals as goal

pub returns-then-shifts-gt0-clause-fills : goal.returns-then-shifts-gt0-clause-fills
returns-then-shifts-gt0-clause-fills c =
    let s = c.args.self.now in
    let between = c.is_within.ensures.between c.if-is_within.false in
    let shifts = c.next_shifts-shifts.result in
    let cycles = shift_cycles shifts in
    let long = length-map-range_with_len (shift_cycle shifts) 0 shifts.len in
    fills-front (left s) c.args.buffer.now _ _ _ _
    (cycles-first s.line s.begun (source.left s.source) cycles _ s.closes between.0 between.1 c.next_shifts-shifts.ensures.gives)
    c.put_shifts.ensures.count
    (omega (arith, c.put_shifts.ensures.count, most-bytes cycles, long, c.next_shifts-shifts.ensures.most))
    c.put_shifts.ensures.filled
    (omega (arith, c.put_shifts.ensures.count, some-bytes cycles (omega (arith, long, c.if-shifts-gt0.true))))

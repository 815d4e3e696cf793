use Rattle.std.proofs.Common.{◌≡◌, ◌+◌, ◌++◌, drop, ap, ◌∙◌, arith}
use Rattle.tck_cycles.specs.Shifts.{shift_cycle, shift_cycles}
use Rattle.tck_cycles.specs.Sources.{whole}
use Rattle.tck_cycles.proofs.Places.{taken}
use Rattle.tck_cycles.proofs.source.Source.next_shifts.Goals as goal

pub returns-clause-gives : goal.returns-clause-gives
returns-clause-gives c =
    let s = c.args.self.now in
    let len = c.min-len.result in
    let first : s.at ≡ s.at + 0 = omega arith in
    let last : s.at + (0 + len) ≡ s.at + len = omega arith in
    ap (λ i. drop i (whole s)) first
    ∙ taken (shift_cycle c.shifts-shifts.result) (whole s) s.at 0 len (λ j low high. c.shifts-shifts.ensures.cycles j (omega (arith, high, c.min-len.ensures)))
    ∙ ap (λ i. shift_cycles (record c.shifts-shifts.result { len = len }) ++ drop i (whole s)) last

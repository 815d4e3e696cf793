use Rattle.std.proofs.Common.{◌≡◌, ◌<◌, ◌-◌, false, true, List, refl, sym, ap, subst, ◌∙◌, arith}
use Rattle.byte_streams.proofs.Fronts.{WritesAll-is, WritesAll-stopped, WritesAll-then}
use Rattle.jt_bits.specs.Packed.{has_bit}
use Rattle.bitbang_protocol.specs.declared.Cycle.{Cycle}
use Rattle.bitbang_protocol.specs.declared.Message.{Message}
use Rattle.bitbang_protocol.specs.declared.Message.TheVariants.{Write}
use Rattle.play_drawing.specs.Drawing.{after_drawing, after_mark, draw, mark}
use Rattle.play_drawing.specs.Pens.{Pen}
use Rattle.play_drawing.specs.Shifted.{IsShifting, edges}
use Rattle.play_drawing.proofs.Runs.{always}
use Rattle.play_drawing.proofs.Shifted.{begins_shift}
use Rattle.play_drawing.proofs.Words.{no_word, word_drawn, word_pen}
use Rattle.play_drawing.proofs.steps.draw_shifts.Goals as goal

pub returns-then-shifts-eq0-clause-writes : goal.returns-then-shifts-eq0-clause-writes
returns-then-shifts-eq0-clause-writes g c =
    let none = no_word c.args.shifts c.if-shifts-eq0.true in
    WritesAll-is (sym (ap (λ (ms : List Message). draw c.args.period ms c.args.drawing.now) none)) c.put_all.ensures.writes

pub returns-then-shifts-eq0-clause-pen : goal.returns-then-shifts-eq0-clause-pen
returns-then-shifts-eq0-clause-pen g c =
    let none = no_word c.args.shifts c.if-shifts-eq0.true in
    always c.put_all.result (sym (ap (λ (ms : List Message). after_drawing c.args.period ms c.args.drawing.now) none))

pub shift-requires-clause-shifting : goal.shift-requires-clause-shifting
shift-requires-clause-shifting g c =
    let period = c.args.period in
    let p = c.args.drawing.now in
    let tdi = has_bit c.args.shifts.tdi 0 in
    let some : 0 < c.args.shifts.len = omega (arith, c.if-shifts-eq0.false) in
    let is_low : c.level.result ≡ Write false false tdi = c.level.ensures ∙ ap (λ (k : Cycle). Write false k.tms k.tdi) c.cycle.ensures in
    subst (λ (q : Pen). IsShifting tdi q) (sym (c.in_ok-draw.ensures.pen ∙ ap (λ (m : Message). after_mark period m p) is_low))
    (begins_shift period tdi p (c.requires.alone some) (c.requires.stands some))

pub returns-in_err-draw-clause-writes : goal.returns-in_err-draw-clause-writes
returns-in_err-draw-clause-writes g c =
    let period = c.args.period in
    let p = c.args.drawing.now in
    let tdi = has_bit c.args.shifts.tdi in
    let last = c.args.shifts.len - 1 in
    let some : 0 < c.args.shifts.len = omega (arith, c.if-shifts-eq0.false) in
    let low : Message = c.level.result in
    let high : Message = Write true false (tdi last) in
    let is_low : low ≡ Write false false (tdi 0) = c.level.ensures ∙ ap (λ (k : Cycle). Write false k.tms k.tdi) c.cycle.ensures in
    let q = after_mark period low p in
    let r = after_drawing period (edges tdi 0 last) q in
    WritesAll-is (word_drawn period c.args.shifts p q r some low high is_low refl refl refl)
    (WritesAll-stopped _ c.in_err-draw.ensures.writes refl c.from_residual.ensures.0)

pub returns-in_err-shift-clause-writes : goal.returns-in_err-shift-clause-writes
returns-in_err-shift-clause-writes g c =
    let period = c.args.period in
    let p = c.args.drawing.now in
    let tdi = has_bit c.args.shifts.tdi in
    let last = c.args.shifts.len - 1 in
    let some : 0 < c.args.shifts.len = omega (arith, c.if-shifts-eq0.false) in
    let low : Message = c.level.result in
    let high : Message = Write true false (tdi last) in
    let is_low : low ≡ Write false false (tdi 0) = c.level.ensures ∙ ap (λ (k : Cycle). Write false k.tms k.tdi) c.cycle.ensures in
    let q = c.draw.new.self in
    let r = after_drawing period (edges tdi 0 last) q in
    WritesAll-is (word_drawn period c.args.shifts p q r some low high is_low refl c.in_ok-draw.ensures.pen refl)
    (WritesAll-then c.in_ok-draw.ensures.writes refl
    (WritesAll-stopped (mark high r) c.in_err-shift.ensures.writes refl c.from_residual-in_err-shift.ensures.0))

pub returns-clause-writes : goal.returns-clause-writes
returns-clause-writes g c =
    let period = c.args.period in
    let tdi = has_bit c.args.shifts.tdi in
    let last = c.args.shifts.len - 1 in
    let some : 0 < c.args.shifts.len = omega (arith, c.if-shifts-eq0.false) in
    let is_low : c.level.result ≡ Write false false (tdi 0) = c.level.ensures ∙ ap (λ (k : Cycle). Write false k.tms k.tdi) c.cycle.ensures in
    let is_high : c.level-2.result ≡ Write true false (tdi last) = c.level-2.ensures ∙ ap (λ (k : Cycle). Write true k.tms k.tdi) c.cycle-2.ensures in
    WritesAll-is
    (word_drawn period c.args.shifts c.args.drawing.now c.draw.new.self c.shift.new.self some c.level.result c.level-2.result is_low is_high
    c.in_ok-draw.ensures.pen c.in_ok-shift.ensures.pen)
    (WritesAll-then c.in_ok-draw.ensures.writes refl (WritesAll-then c.in_ok-shift.ensures.writes refl c.draw-2.ensures.writes))

pub returns-clause-pen : goal.returns-clause-pen
returns-clause-pen g c =
    let period = c.args.period in
    let tdi = has_bit c.args.shifts.tdi in
    let last = c.args.shifts.len - 1 in
    let some : 0 < c.args.shifts.len = omega (arith, c.if-shifts-eq0.false) in
    let is_low : c.level.result ≡ Write false false (tdi 0) = c.level.ensures ∙ ap (λ (k : Cycle). Write false k.tms k.tdi) c.cycle.ensures in
    let is_high : c.level-2.result ≡ Write true false (tdi last) = c.level-2.ensures ∙ ap (λ (k : Cycle). Write true k.tms k.tdi) c.cycle-2.ensures in
    always c.draw-2.result
    (word_pen period c.args.shifts c.args.drawing.now c.draw.new.self c.shift.new.self some c.level.result c.level-2.result is_low is_high
    c.in_ok-draw.ensures.pen c.in_ok-shift.ensures.pen c.draw-2.new.self c.draw-2.ensures.pen)

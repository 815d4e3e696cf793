use Rattle.std.proofs.Common.{◌≡◌, ◌+◌, ◌++◌, ◌-◌, ℕ, List, refl, sym, ap, subst, ◌∙◌, arith}
use Rattle.std.specs.Io.KnownBytes.{Appends}
use Rattle.std.proofs.KnownBytes.{Appends-trans}
use Rattle.byte_streams.proofs.Fronts.{WritesAll-done, WritesAll-is, WritesAll-lost, WritesAll-then}
use Rattle.bitbang_protocol.specs.Protocol.{cycle_messages}
use Rattle.play_drawing.specs.Drawing.{after_drawing, draw}
use Rattle.play_drawing.specs.Pens.{Pen}
use Rattle.play_drawing.specs.Settled.{IsSettled}
use Rattle.play_drawing.proofs.Cycles.{cycles_of}
use Rattle.play_drawing.proofs.Runs.{cut_here, drawn_more, on_ok_pen, pen_cut, pen_more}
use Rattle.play_drawing.proofs.Settled.{settles}
use Rattle.play_drawing.proofs.steps.draw_cycles.Goals as goal

pub loop-i-preserved : goal.loop-i-preserved
loop-i-preserved g c =
    let period = c.args.period in
    let i = c.loop-i.i in
    let p = c.args.drawing.now in
    record {
      within = omega (arith, c.loop-i-test.true);
      none_lost = c.in_ok-draw_cycle.ensures.writes.ok.0 refl;
      sent = subst (λ (l : List ℕ). Appends (g.W.Write.contents c.args.out.now.inner) (g.W.Write.contents c.draw_cycle.new.out.inner) l)
          (drawn_more period c.args.cycle i p c.loop-i.drawing c.loop-i.invariant.pen)
          (Appends-trans _ _ _ _ _ c.loop-i.invariant.sent c.in_ok-draw_cycle.ensures.writes.whole);
      pen = pen_more period c.args.cycle i p c.loop-i.drawing c.loop-i.invariant.pen c.draw_cycle.new.drawing c.in_ok-draw_cycle.ensures.pen;
    }

pub returns-in_err-draw_cycle-clause-writes : goal.returns-in_err-draw_cycle-clause-writes
returns-in_err-draw_cycle-clause-writes g c =
    let period = c.args.period in
    let i = c.loop-i.i in
    let p = c.args.drawing.now in
    let q = c.loop-i.drawing in
    WritesAll-lost (draw period (cycles_of c.args.cycle c.args.times) p) (draw period (cycles_of c.args.cycle i) p) _
    (cut_here period c.args.cycle i p q c.loop-i.invariant.pen c.args.times (omega (arith, c.loop-i-test.true)))
    c.loop-i.invariant.sent c.in_err-draw_cycle.ensures.writes refl c.from_residual.ensures.0

pub draw_rest-requires-clause-settled : goal.draw_rest-requires-clause-settled
draw_rest-requires-clause-settled g c =
    subst (λ (q : Pen). IsSettled c.args.cycle q) (sym c.in_ok-draw_cycle.ensures.pen)
    (settles c.args.period c.args.cycle c.loop-i.drawing (sym c.is_left-left.ensures ∙ c.if-left.true))

pub returns-then-left-clause-writes : goal.returns-then-left-clause-writes
returns-then-left-clause-writes g c =
    let period = c.args.period in
    let i = c.loop-i.i in
    let p = c.args.drawing.now in
    let q = c.loop-i.drawing in
    let r = c.draw_cycle.new.drawing in
    let at = c.loop-i.invariant.pen in
    let first : List ℕ = draw period (cycles_of c.args.cycle i) p ++ draw period (cycle_messages c.args.cycle) q in
    let next : r ≡ after_drawing period (cycles_of c.args.cycle (i + 1)) p = pen_more period c.args.cycle i p q at r c.in_ok-draw_cycle.ensures.pen in
    WritesAll-is
    (ap (λ (x : Pen). first ++ draw period (cycles_of c.args.cycle (c.args.times - i - 1)) x) next
    ∙ sym (cut_here period c.args.cycle i p q at c.args.times (omega (arith, c.loop-i-test.true))))
    (WritesAll-then (WritesAll-then (WritesAll-done {A = ℕ} {E = ℕ} 0 c.loop-i.invariant.none_lost c.loop-i.invariant.sent) refl
    c.in_ok-draw_cycle.ensures.writes) refl c.draw_rest.ensures.writes)

pub returns-then-left-clause-pen : goal.returns-then-left-clause-pen
returns-then-left-clause-pen g c =
    let i = c.loop-i.i in
    on_ok_pen c.draw_rest.result
    (λ at. pen_cut c.args.period c.args.cycle i c.args.drawing.now c.loop-i.drawing c.loop-i.invariant.pen c.args.times (omega (arith, c.loop-i-test.true))
    c.draw_cycle.new.drawing c.draw_rest.new.drawing c.in_ok-draw_cycle.ensures.pen at)
    c.draw_rest.ensures.pen

pub returns-clause-writes : goal.returns-clause-writes
returns-clause-writes g c =
    let all : c.loop-i.i ≡ c.args.times = omega (arith, c.loop-i.invariant.within, c.loop-i-test.false) in
    WritesAll-done tt c.loop-i.invariant.none_lost
    (subst (λ (n : ℕ). Appends (g.W.Write.contents c.args.out.now.inner) (g.W.Write.contents c.loop-i.out.inner) (draw c.args.period (cycles_of c.args.cycle n) c.args.drawing.now)) all
    c.loop-i.invariant.sent)

pub returns-clause-pen : goal.returns-clause-pen
returns-clause-pen g c =
    let all : c.loop-i.i ≡ c.args.times = omega (arith, c.loop-i.invariant.within, c.loop-i-test.false) in
    c.loop-i.invariant.pen ∙ ap (λ (n : ℕ). after_drawing c.args.period (cycles_of c.args.cycle n) c.args.drawing.now) all

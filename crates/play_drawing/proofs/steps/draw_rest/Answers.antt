use Rattle.std.proofs.Common.{◌≡◌, ◌-◌, ◌*◌, ℕ, List, refl, sym, ap, subst, ◌∙◌, arith}
use Rattle.std.specs.Io.KnownBytes.{Appends}
use Rattle.std.proofs.KnownBytes.{Appends-nil, Appends-trans}
use Rattle.byte_streams.proofs.Fronts.{WritesAll-done, WritesAll-lost}
use Rattle.play_drawing.specs.Drawing.{after_drawing, draw, lasting}
use Rattle.play_drawing.specs.Pens.{Pen}
use Rattle.play_drawing.specs.Settled.{IsSettled}
use Rattle.play_drawing.proofs.Cycles.{cycles_of}
use Rattle.play_drawing.proofs.Runs.{cut_here, drawn_all, drawn_more, pen_all, pen_more}
use Rattle.play_drawing.proofs.Settled.{still_settled}
use Rattle.play_drawing.proofs.steps.draw_rest.Goals as goal

pub loop-i-preserved : goal.loop-i-preserved
loop-i-preserved g c =
    let period = c.args.period in
    let i = c.loop-i.i in
    let p = c.args.drawing.now in
    record {
      within = omega (arith, c.loop-i-test.true);
      none_lost = (c.in_ok-rest.ensures.writes c.args.cycle c.loop-i.invariant.settled).ok.0 refl;
      sent = subst (λ (l : List ℕ). Appends (g.W.Write.contents c.args.out.now.inner) (g.W.Write.contents c.rest.new.out.inner) l)
          (drawn_more period c.args.cycle i p c.loop-i.drawing c.loop-i.invariant.pen)
          (Appends-trans _ _ _ _ _ c.loop-i.invariant.sent (c.in_ok-rest.ensures.writes c.args.cycle c.loop-i.invariant.settled).whole);
      pen = pen_more period c.args.cycle i p c.loop-i.drawing c.loop-i.invariant.pen c.rest.new.self (c.in_ok-rest.ensures.pen c.args.cycle c.loop-i.invariant.settled);
      settled = subst (λ (q : Pen). IsSettled c.args.cycle q) (sym (c.in_ok-rest.ensures.pen c.args.cycle c.loop-i.invariant.settled))
          (still_settled period c.args.cycle c.loop-i.drawing c.loop-i.invariant.settled);
    }

pub loop-i-init : goal.loop-i-init
loop-i-init g c = record {
  within = omega arith;
  none_lost = c.requires.none_lost;
  sent = Appends-nil _;
  pen = refl;
  settled = c.requires.settled;
}

pub returns-in_err-rest-clause-writes : goal.returns-in_err-rest-clause-writes
returns-in_err-rest-clause-writes g c =
    let period = c.args.period in
    let i = c.loop-i.i in
    let p = c.args.drawing.now in
    let q = c.loop-i.drawing in
    WritesAll-lost (draw period (cycles_of c.args.cycle c.args.times) p) (draw period (cycles_of c.args.cycle i) p) _
    (cut_here period c.args.cycle i p q c.loop-i.invariant.pen c.args.times (omega (arith, c.loop-i-test.true)))
    c.loop-i.invariant.sent (c.in_err-rest.ensures.writes c.args.cycle c.loop-i.invariant.settled) refl c.from_residual.ensures.0

pub returns-then-held-clause-writes : goal.returns-then-held-clause-writes
returns-then-held-clause-writes g c =
    let period = c.args.period in
    let i = c.loop-i.i in
    let p = c.args.drawing.now in
    let q = c.loop-i.drawing in
    WritesAll-done tt ((c.in_ok-rest.ensures.writes c.args.cycle c.loop-i.invariant.settled).ok.0 refl)
    (subst (λ (l : List ℕ). Appends (g.W.Write.contents c.args.out.now.inner) (g.W.Write.contents c.rest.new.out.inner) l)
    (drawn_all period c.args.cycle i p q c.loop-i.invariant.pen c.args.times (omega (arith, c.loop-i-test.true)) (sym c.holds-held.ensures ∙ c.if-held.true))
    (Appends-trans _ _ _ _ _ c.loop-i.invariant.sent (c.in_ok-rest.ensures.writes c.args.cycle c.loop-i.invariant.settled).whole))

pub returns-then-held-clause-pen : goal.returns-then-held-clause-pen
returns-then-held-clause-pen g c =
    let period = c.args.period in
    let i = c.loop-i.i in
    let p = c.args.drawing.now in
    let q = c.loop-i.drawing in
    c.wait.ensures
    ∙ ap (λ (x : Pen). lasting ((c.args.times - i - 1) * period) x) (c.in_ok-rest.ensures.pen c.args.cycle c.loop-i.invariant.settled)
    ∙ pen_all period c.args.cycle i p q c.loop-i.invariant.pen c.args.times (omega (arith, c.loop-i-test.true)) (sym c.holds-held.ensures ∙ c.if-held.true)

pub returns-clause-writes : goal.returns-clause-writes
returns-clause-writes g c =
    let all : c.loop-i.i ≡ c.args.times = omega (arith, c.loop-i.invariant.within, c.loop-i-test.false) in
    WritesAll-done tt c.loop-i.invariant.none_lost
    (subst (λ (n : ℕ). Appends (g.W.Write.contents c.args.out.now.inner) (g.W.Write.contents c.loop-i.out.inner) (draw c.args.period (cycles_of c.args.cycle n) c.args.drawing.now)) all
    c.loop-i.invariant.sent)

pub returns-clause-pen : goal.returns-clause-pen
returns-clause-pen g c =
    let all : c.loop-i.i ≡ c.args.times = omega (arith, c.loop-i.invariant.within, c.loop-i-test.false) in
    c.loop-i.invariant.pen ∙ ap (λ (n : ℕ). after_drawing c.args.period (cycles_of c.args.cycle n) c.args.drawing.now) all

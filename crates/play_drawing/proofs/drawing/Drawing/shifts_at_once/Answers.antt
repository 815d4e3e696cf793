use Rattle.std.proofs.Common.{sym, ap, subst, ◌∙◌, arith}
use Rattle.play_drawing.specs.Pens.{Pen}
use Rattle.play_drawing.specs.Shifted.{StandsInShift}
use Rattle.play_drawing.proofs.drawing.Drawing.shifts_at_once.Goals as goal

pub returns-then-self-clause-stands : goal.returns-then-self-clause-stands
returns-then-self-clause-stands c = λ some. absurd (omega (arith, some))

pub returns-then-self-clause-alone : goal.returns-then-self-clause-alone
returns-then-self-clause-alone c = λ some. absurd (omega (arith, some))

pub returns-then-not-stands_in_shift-clause-alone : goal.returns-then-not-stands_in_shift-clause-alone
returns-then-not-stands_in_shift-clause-alone c = λ some. absurd (omega (arith, some))

pub returns-clause-alone : goal.returns-clause-alone
returns-clause-alone c = λ some. sym (ap (λ (p : Pen). p.extras.tdos) c.self.view_is) ∙ c.if-self.false

pub returns-then-not-stands_in_shift-clause-stands : goal.returns-then-not-stands_in_shift-clause-stands
returns-then-not-stands_in_shift-clause-stands c = λ some. absurd (omega (arith, some))

pub returns-clause-stands : goal.returns-clause-stands
returns-clause-stands c = λ some.
    subst (λ (p : Pen). StandsInShift p.board) c.self.view_is
    (record {
      stands = sym c.stands_in_shift.ensures ∙ c.if-not-stands_in_shift.false;
      some = omega (arith, c.devices.ensures.count, c.devices.ensures.some);
      sound = c.devices.ensures.sound;
    })

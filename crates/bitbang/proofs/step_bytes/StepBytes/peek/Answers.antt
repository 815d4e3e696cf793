use Rattle.std.proofs.Common.{◌∙◌, sym, refl}
use Rattle.tck_cycles.specs.Sources as source
use Rattle.bitbang.proofs.CycleBytes.{first_cycle, first_none, last_left}
use Rattle.bitbang.proofs.step_bytes.StepBytes.peek.Goals as goal

pub returns-in-Some-peek-2 : goal.returns-in-Some-peek-2
returns-in-Some-peek-2 c =
    let s = c.args.self.now in
    c.peek-in-Some-peek-2.ensures.byte
    ∙ first_cycle s.line s.begun (source.left s.source) s.closes c.in-Some-peek-2.cycle c.in_default.is
    (sym c.peek.ensures.byte ∙ c.in_default-peek.is) (sym c.peek-2.ensures ∙ c.in-Some-peek-2.is)

pub returns-in-None : goal.returns-in-None
returns-in-None c =
    let s = c.args.self.now in
    let cs = source.left s.source in
    let none = first_none cs (sym c.peek-2.ensures ∙ c.in-None.is) in
    rw (last_left s.line s.begun cs s.closes c.in_default.is (sym c.peek.ensures.byte ∙ c.in_default-peek.is) none, c.if-self.true, c.low.ensures) refl

pub returns-in-None-2 : goal.returns-in-None-2
returns-in-None-2 c =
    let s = c.args.self.now in
    let cs = source.left s.source in
    let none = first_none cs (sym c.peek-2.ensures ∙ c.in-None-2.is) in
    rw (last_left s.line s.begun cs s.closes c.in_default.is (sym c.peek.ensures.byte ∙ c.in_default-peek.is) none, c.if-self.false) refl

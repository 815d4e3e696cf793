use Rattle.std.proofs.Common.{◌∙◌, sym, refl}
use Rattle.tck_cycles.specs.Sources as source
use Rattle.bitbang.proofs.CycleBytes.{last_left}
use Rattle.bitbang.proofs.step_bytes.StepBytes.next_byte.Goals as goal

pub returns-in-None-clause-gives : goal.returns-in-None-clause-gives
returns-in-None-clause-gives c =
    let s = c.args.self.now in
    let b = sym c.peek.ensures.byte ∙ c.in_default-peek.is in
    let done = c.in-None.ensures.gives in
    rw (
      last_left s.line s.begun (source.left s.source) s.closes c.in_default.is b done.0,
      c.if-self.true,
      c.low.ensures,
      last_left s.line s.begun (source.left c.next_cycle.new.self) _ c.in_default.is b done.1,
    ) refl

pub returns-in-None-2-clause-gives : goal.returns-in-None-2-clause-gives
returns-in-None-2-clause-gives c =
    let s = c.args.self.now in
    let b = sym c.peek.ensures.byte ∙ c.in_default-peek.is in
    let done = c.in-None-2.ensures.gives in (
      last_left s.line s.begun (source.left s.source) s.closes c.in_default.is b done.0 ∙ rw c.if-self.false refl,
      last_left s.line s.begun (source.left c.next_cycle.new.self) s.closes c.in_default.is b done.1 ∙ rw c.if-self.false refl,
    )

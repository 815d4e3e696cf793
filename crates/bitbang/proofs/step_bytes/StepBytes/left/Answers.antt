use Rattle.std.proofs.Common.{ℕ, ap, ◌∙◌, arith, min}
use Rattle.std.specs.Int.{from_bool}
use Rattle.tck_cycles.specs.Sources as source
use Rattle.bitbang.proofs.CycleBytes.{length-left}
use Rattle.bitbang.proofs.step_bytes.StepBytes.left.Goals as goal

pub returns : goal.returns
returns c =
    let s = c.args.self.now in
    let all = length-left s.line s.begun (source.left s.source) s.closes in
    c.fitted.ensures
    ∙ ap (λ (n : ℕ). min n 18446744073709551615)
    (omega (arith, all, c.left.ensures, c.from.ensures, c.reads.ensures, c.from-2.ensures, c.from-3.ensures ∙ ap from_bool c.is_some.ensures, c.left-2.ensures, c.from-4.ensures, c.from-5.ensures))

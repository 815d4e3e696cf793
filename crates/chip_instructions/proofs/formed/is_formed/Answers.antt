use Rattle.std.proofs.Common.{◌<◌, length, refl, ap, ◌∙◌, arith}
use Rattle.std.proofs.lemmas.Bool.Decides.{nat_tests}
use Rattle.chip_instructions.proofs.formed.is_formed.Goals as goal

pub returns-clause-formed : goal.returns-clause-formed
returns-clause-formed c = λ t.
    let cells = ap length c.cells.ensures in
    let some : 0 < length c.cells.result.now = grind (arith, nat_tests, c.if-is_empty.ensures) in
    record {
      instruction = omega (arith, c.if-instruction-eq0.false, c.instruction_length-instruction.ensures);
      capture = omega (arith, ap length c.capture.ensures, c.len.ensures, c.if-len-instruction.false, c.instruction_length-instruction.ensures);
      cells = omega (arith, some, cells);
      reset = c.if-not-resets_whole.ensures.fits refl;
      idcode = λ code e. c.if-not-is_long.ensures.fits refl code (c.idcode.ensures ∙ e);
      usercode = λ code e. c.if-not-is_long-2.ensures.fits refl code (c.usercode.ensures ∙ e);
      accesses = c.accesses_fit.ensures.fits t;
    }

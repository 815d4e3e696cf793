use Rattle.std.proofs.Common.{arith}
use Rattle.bsdl_device.specs.declared.Cell.{Cell}
use Rattle.boundary.specs.Masks.{inner_cells, is_inner, is_sighted, sighted_cells}
use Rattle.boundary.specs.Plain.{has_no_control, plain_cells}
use Rattle.boundary.specs.Resets.{is_reset, reset_cells}
use Rattle.boundary.proofs.MaskLaws.{next_mark, no_marks}
use Rattle.boundary.proofs.captures.mask_words.Goals as goal

pub loop-j-init : goal.loop-j-init
loop-j-init c =
    let cells = c.args.cells.now in
    record {
      sighted = no_marks (sighted_cells cells);
      inner = no_marks (inner_cells cells);
      plain = no_marks (plain_cells cells);
      reset = no_marks (reset_cells cells);
    }

pub loop-j-preserved : goal.loop-j-preserved
loop-j-preserved c =
    let cells = c.args.cells.now in
    let j = c.loop-j.j in
    let inside = c.loop-j-test.true in
    let was = c.loop-j.invariant in
    record {
      sighted = next_mark (λ (x : Cell). is_sighted x.port x.function) cells j c.loop-j.words.sighted c.with_mark.result _
          c.marks-sees.result.0 was.sighted inside (omega arith) c.marks-sees.ensures.sighted c.with_mark.ensures.here
          c.with_mark.ensures.others;
      inner = next_mark (λ (x : Cell). is_inner x.function) cells j c.loop-j.words.inner c.with_mark-in-loop-j.result _
          c.marks-sees.result.1 was.inner inside (omega arith) c.marks-sees.ensures.inner
          c.with_mark-in-loop-j.ensures.here c.with_mark-in-loop-j.ensures.others;
      plain = next_mark (λ (x : Cell). has_no_control x.control) cells j c.loop-j.words.plain
          c.with_mark-in-loop-j-2.result _ c.has_no_control.result was.plain inside (omega arith)
          c.has_no_control.ensures c.with_mark-in-loop-j-2.ensures.here c.with_mark-in-loop-j-2.ensures.others;
      reset = next_mark (λ (x : Cell). is_reset x.function) cells j c.loop-j.words.reset c.with_mark-in-loop-j-3.result
          _ c.is_reset.result was.reset inside (omega arith) c.is_reset.ensures c.with_mark-in-loop-j-3.ensures.here
          c.with_mark-in-loop-j-3.ensures.others;
    }

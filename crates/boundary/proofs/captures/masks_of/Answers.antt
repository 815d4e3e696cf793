use Rattle.std.proofs.Common.{◌+◌, ◌≤◌, length, arith}
use Rattle.bsdl_device.specs.declared.Cell.{Cell}
use Rattle.boundary.specs.Masks.{is_inner, is_sighted}
use Rattle.boundary.specs.Plain.{has_no_control}
use Rattle.boundary.specs.Resets.{is_reset}
use Rattle.boundary.proofs.MaskLaws.{mask_more, mask_of_all}
use Rattle.boundary.proofs.captures.masks_of.Goals as goal

pub loop-at-preserved : goal.loop-at-preserved
loop-at-preserved c =
    let cells = c.args.list.now in
    let at = c.loop-at.at in
    let n = c.min-n.result in
    let room : at + n ≤ length cells = omega arith in
    let was = c.loop-at.invariant in
    let words = c.mask_words-words in
    record {
      within = room;
      sighted = mask_more (λ (x : Cell). is_sighted x.port x.function) cells at n words.result.sighted c.loop-at.sighted
          c.put_run.new.self room was.sighted words.ensures.sighted c.put_run.ensures;
      inner = mask_more (λ (x : Cell). is_inner x.function) cells at n words.result.inner c.loop-at.inner
          c.put_run-in-loop-at.new.self room was.inner words.ensures.inner c.put_run-in-loop-at.ensures;
      plain = mask_more (λ (x : Cell). has_no_control x.control) cells at n words.result.plain c.loop-at.plain
          c.put_run-in-loop-at-2.new.self room was.plain words.ensures.plain c.put_run-in-loop-at-2.ensures;
      reset = mask_more (λ (x : Cell). is_reset x.function) cells at n words.result.reset c.loop-at.reset
          c.put_run-in-loop-at-3.new.self room was.reset words.ensures.reset c.put_run-in-loop-at-3.ensures;
    }

pub returns-clause-masks : goal.returns-clause-masks
returns-clause-masks c =
    let cells = c.args.list.now in
    record {
      sighted = mask_of_all (λ (x : Cell). is_sighted x.port x.function) cells c.loop-at.at c.loop-at.sighted
          c.loop-at.invariant.sighted (omega arith);
      inner = mask_of_all (λ (x : Cell). is_inner x.function) cells c.loop-at.at c.loop-at.inner
          c.loop-at.invariant.inner (omega arith);
    }

pub returns-clause-plain : goal.returns-clause-plain
returns-clause-plain c =
    mask_of_all (λ (x : Cell). has_no_control x.control) c.args.list.now c.loop-at.at c.loop-at.plain
    c.loop-at.invariant.plain (omega arith)

pub returns-clause-reset : goal.returns-clause-reset
returns-clause-reset c =
    mask_of_all (λ (x : Cell). is_reset x.function) c.args.list.now c.loop-at.at c.loop-at.reset
    c.loop-at.invariant.reset (omega arith)

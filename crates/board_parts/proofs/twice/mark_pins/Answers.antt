use Rattle.std.proofs.Common.{◌∙◌, ◌++◌, ◌+◌, sym, ap, length-set, length, take, drop, get_or, subst}
use Rattle.std.proofs.lemmas.List.{take_all}
use Rattle.board_parts.specs.Twice.{IsWithin, Marks, is_some_twice}
use Rattle.board_parts.proofs.TwiceLaws.{each_at, mark_more, passed, with_more}
use Rattle.board_parts.proofs.twice.mark_pins.Goals as goal

pub loop-pin-preserved : goal.loop-pin-preserved
loop-pin-preserved c =
    let i = c.loop-pin.pin-index in
    let pins = c.args.pins.now in
    let x = get_or pins i (record { device = 0; port = 0 }) in
    let inside : IsWithin c.args.ports (length c.loop-pin.seen) x =
    subst (λ n. IsWithin c.args.ports n x) (sym c.loop-pin.invariant.long) (each_at (IsWithin c.args.ports (length c.args.seen.now)) pins i _ c.loop-pin-test.true c.requires) in
    record {
      long = length-set c.loop-pin.seen _ _ ∙ c.loop-pin.invariant.long;
      judged = λ before marks.
          ap (λ b. is_some_twice b (drop (i + 1) pins)) (sym (with_more before pins i _ c.loop-pin-test.true))
          ∙ passed (before ++ take i pins) pins i _ c.loop-pin-test.true (sym (c.loop-pin.invariant.added before marks x inside) ∙ c.if-seen-place.false)
          ∙ c.loop-pin.invariant.judged before marks;
      added = λ before marks. mark_more c.args.ports before pins i _ c.loop-pin.seen c.loop-pin-test.true inside (c.loop-pin.invariant.added before marks);
    }

pub returns-clause-added : goal.returns-clause-added
returns-clause-added c none before marks =
    subst (λ ps. Marks c.args.ports (before ++ ps) c.loop-pin.seen) (take_all c.loop-pin.pin-index c.args.pins.now c.loop-pin-test.false) (c.loop-pin.invariant.added before marks)

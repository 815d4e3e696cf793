use Rattle.std.proofs.Common.{◌≡◌, ◌+◌, [], ◌∷◌, ◌++◌, List, false, take, get_or, ap, subst, ◌∙◌, ⊎_elim}
use Rattle.std.specs.BTreeSet.{contains_by}
use Rattle.std.specs.List.{Contains}
use Rattle.std.specs.Ordering.{nat_cmp}
use Rattle.std.proofs.lemmas.List.{take_more}
use Rattle.std.proofs.lemmas.List.Elements.{Contains-push_cases}
use Rattle.board_chips.specs.declared.driving.DrivingPin.{DrivingPin}
use Rattle.board_chips.proofs.PartLaws.{first_more, second_more}
use Rattle.board_chips.proofs.driving.divide.Goals.{then-goes_alone+in_ok-push, else-goes_alone+in_ok-push-2}
use Rattle.board_chips.proofs.driving.divide.Goals as goal

abbrev none : DrivingPin
none = record { device = 0; cell = 0; pin = 0 }

pub loop-it-preserved : goal.loop-it-preserved
loop-it-preserved c =
    let all = c.args.all.now in
    let i = c.loop-it.it-index in
    let x = get_or all i none in
    let close = c.loop-it.close.items in
    let rest = c.loop-it.rest.items in
    let more : take (i + 1) all ≡ take i all ++ x ∷ [] = take_more all i none c.loop-it-test.true in
    elim c.if-goes_alone.branch [
      | then-goes_alone+in_ok-push w ↦ record {
        parts = second_more (take i all) close rest (take (i + 1) all) c.if-goes_alone.close.items c.if-goes_alone.rest.items x more
            (ap (λ v. v.items) w.close-is) (ap (λ v. v.items) w.rest-is ∙ w.in_ok-push.ensures.items) c.loop-it.invariant.parts;
        apart = λ e has. c.loop-it.invariant.apart e (subst (λ (l : List DrivingPin). Contains l e) (ap (λ v. v.items) w.close-is) has);
      }
      | else-goes_alone+in_ok-push-2 w ↦ record {
        parts = first_more (take i all) close rest (take (i + 1) all) c.if-goes_alone.close.items c.if-goes_alone.rest.items x more
            (ap (λ v. v.items) w.close-is ∙ w.in_ok-push-2.ensures.items) (ap (λ v. v.items) w.rest-is) c.loop-it.invariant.parts;
        apart = λ e has. ⊎_elim
            (λ (old : Contains close e). c.loop-it.invariant.apart e old)
            (λ (same : x ≡ e).
            subst (λ (y : DrivingPin). contains_by (nat_cmp y.pin) c.args.taken.now ≡ false) same (c.goes_alone.ensures w.if-goes_alone.false))
            (Contains-push_cases close x e
            (subst (λ (l : List DrivingPin). Contains l e) (ap (λ v. v.items) w.close-is ∙ w.in_ok-push-2.ensures.items) has));
      }
    ]

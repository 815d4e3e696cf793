use Rattle.std.proofs.Common.{◌≡◌, ◌<◌, ◌+◌, ◌∷◌, List, length, drop, map, sym, ap, subst, ◌∙◌, arith}
use Rattle.std.specs.Global.{Vec}
use Rattle.std.proofs.lemmas.List.{drop_all, drop_more}
use Rattle.pin_nets.specs.Wired.{Net}
use Rattle.board_plan.specs.View.{net as planned_net}
use Rattle.board_faults.specs.declared.kinds.Way.TheVariants as way
use Rattle.board_faults.specs.declared.kinds.Winner.TheVariants.{Zeros}
use Rattle.fault_events.specs.Pulls.{pulls_of}
use Rattle.fault_serving.specs.declared.planing.NoteWords.{NoteWords}
use Rattle.fault_serving.specs.Planes.{IsToldAt}
use Rattle.fault_serving.proofs.SiftingLaws.{IsSoFar, so_far, so_far_more, told_of_all, told_of_each}
use Rattle.fault_serving.proofs.planing.failing_ways.Goals as goal

pub loop-words-init : goal.loop-words-init
loop-words-init c = λ ns are. so_far (map planned_net c.args.nets.now) ns c.args.first c.args.second c.args.blocks.now are

pub loop-words-preserved : goal.loop-words-preserved
loop-words-preserved c = λ ns are.
    let nets : List Net = map planned_net c.args.nets.now in
    let bs = c.args.blocks.now in
    let k = c.loop-words.words-index in
    let b = c.words-item.result in
    let first = c.args.first in
    let second = c.args.second in
    let inside : k < length bs = omega (arith, c.loop-words-test.true) in
    let here : drop k bs ≡ b ∷ drop (k + 1) bs = drop_more bs k b inside ∙ ap (λ (x : Vec NoteWords). x ∷ drop (k + 1) bs) (sym c.words-item.is) in
    let f = c.loop-words.failing in
    let g = c.in_ok-failing.failing in
    let pulls : c.pulls_of-pulls.result ≡ pulls_of nets (way.Short first second Zeros) =
    λ i. record { first = c.pulls_of-pulls.ensures.first i; second = c.pulls_of-pulls.ensures.second i } in
    so_far_more nets ns first second f g b (drop (k + 1) bs) c.pulls_of-pulls.result pulls
    (subst (λ (ws : List NoteWords). IsToldAt f c.pulls_of-pulls.result ws first second g) c.deref.ensures.value c.in_ok-failing.ensures)
    (subst (λ (l : List (Vec NoteWords)). IsSoFar nets ns first second f l) here (c.loop-words.invariant ns are))

pub returns-then-is_each_failing : goal.returns-then-is_each_failing
returns-then-is_each_failing c = λ ns are winner.
    let nets : List Net = map planned_net c.args.nets.now in
    let bs = c.args.blocks.now in
    let k = c.loop-words.words-index in
    let b = c.words-item.result in
    let first = c.args.first in
    let second = c.args.second in
    let inside : k < length bs = omega (arith, c.loop-words-test.true) in
    let here : drop k bs ≡ b ∷ drop (k + 1) bs = drop_more bs k b inside ∙ ap (λ (x : Vec NoteWords). x ∷ drop (k + 1) bs) (sym c.words-item.is) in
    let f = c.loop-words.failing in
    let g = c.in_ok-failing.failing in
    let pulls : c.pulls_of-pulls.result ≡ pulls_of nets (way.Short first second Zeros) =
    λ i. record { first = c.pulls_of-pulls.ensures.first i; second = c.pulls_of-pulls.ensures.second i } in
    let more = so_far_more nets ns first second f g b (drop (k + 1) bs) c.pulls_of-pulls.result pulls
    (subst (λ (ws : List NoteWords). IsToldAt f c.pulls_of-pulls.result ws first second g) c.deref.ensures.value c.in_ok-failing.ensures)
    (subst (λ (l : List (Vec NoteWords)). IsSoFar nets ns first second f l) here (c.loop-words.invariant ns are)) in
    told_of_each nets ns first second c.args.whole g (drop (k + 1) bs) more (sym c.is_each_failing.ensures ∙ c.if-is_each_failing.true) winner

pub returns-then-whole : goal.returns-then-whole
returns-then-whole c = λ ns are winner.
    let bs = c.args.blocks.now in
    let k = c.loop-words.words-index in
    told_of_all (map planned_net c.args.nets.now) ns c.args.first c.args.second c.args.whole c.loop-words.failing (drop k bs) (c.loop-words.invariant ns are)
    (drop_all k bs (omega (arith, c.loop-words-test.false))) c.if-whole.true winner

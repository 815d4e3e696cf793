use Rattle.std.proofs.Common.{◌≡◌, ◌≤◌, ◌++◌, ◌∷◌, [], List, length, map, refl, sym, ap, subst, ◌∙◌, append_assoc, arith}
use Rattle.std.specs.Global.{Vec}
use Rattle.std.proofs.lemmas.Bool.{false≢true}
use Rattle.std.proofs.lemmas.List.{length-map, map-append}
use Rattle.svf_programs.specs.Sizes.{program_of}
use Rattle.board_plan.specs.declared.plan.PlannedNet.{PlannedNet}
use Rattle.board_plan.specs.Planned.{all_pins}
use Rattle.board_plan.specs.View.{net as planned_net, wiring}
use Rattle.fault_events.specs.declared.nets.NetCapture.{NetCapture}
use Rattle.fault_events.specs.Captures.{Noted, captures}
use Rattle.fault_events.specs.Nets.{seen, with_nets_noted}
use Rattle.fault_serving.specs.declared.planing.NoteWords.{NoteWords}
use Rattle.fault_serving.specs.Planes.{AreBlocksOf, AreNetWords}
use Rattle.fault_serving.specs.Serving.{BeginsNoted}
use Rattle.fault_serving.proofs.Fronts.{blocks_more, none_mapped}
use Rattle.fault_serving.proofs.OnePlay.{none_there, some_there}
use Rattle.fault_serving.proofs.serving.planes_of.Goals as goal

pub rounds-init : goal.rounds-init
rounds-init c =
    let w = wiring c.args.plan.now in
    record {
      done = [];
      rest = captures (program_of c.args.program.now) w;
      all = refl;
      leaves = c.in_ok-play.ensures;
      words = subst (λ (bs : List (Vec NoteWords)). AreBlocksOf w.nets [] (map (λ b. b.items) bs)) (sym c.new-blocks.ensures.items) refl;
    }

pub next_nets-requires : goal.next_nets-requires
next_nets-requires c = c.rounds.invariant.leaves.way

pub returns-then-is_empty : goal.returns-then-is_empty
returns-then-is_empty c =
    let i = c.rounds.invariant in
    let b = c.in_ok-next.ensures i.rest (all_pins (wiring c.args.plan.now).nets) i.leaves in
    let empty = none_there c.in_ok-next.next.items _ c.is_empty.result c.is_empty.ensures c.in_ok-next.next.ok.0 c.if-is_empty.true in
    let none : b.first ≡ [] = none_mapped (with_nets_noted (map planned_net c.deref.result.now)) b.first (sym b.by_net ∙ (λ j. map seen (empty j))) in
    record { first = i.done; rest = i.rest; are = i.all; words = i.words; over = λ is. b.are ∙ (λ j. none j ++ b.over empty j) }

pub returns-then-is_long : goal.returns-then-is_long
returns-then-is_long c =
    let i = c.rounds.invariant in
    record { first = i.done; rest = i.rest; are = i.all; words = i.words; over = λ is. absurd (false≢true is) }

pub returns : goal.returns
returns c =
    let i = c.rounds.invariant in
    record { first = i.done; rest = i.rest; are = i.all; words = i.words; over = λ is. absurd (false≢true is) }

pub rounds-preserved : goal.rounds-preserved
rounds-preserved c =
    let w = wiring c.args.plan.now in
    let pins = all_pins w.nets in
    let i = c.rounds.invariant in
    let next = c.in_ok-next.next.items in
    let play = c.next_nets.new.play in
    let b : BeginsNoted w.nets i.rest pins c.rounds.play next play =
    subst (λ (ps : List PlannedNet). BeginsNoted (map planned_net ps) i.rest pins c.rounds.play next play) c.deref.ensures.value (c.in_ok-next.ensures i.rest pins i.leaves) in
    let few : length b.first ≤ 64 =
    omega (
      arith,
      c.is_long.ensures c.if-is_long.false,
      ap (λ (l : List NetCapture). length l) c.deref-in-rounds.ensures.value,
      ap (λ (l : List Noted). length l) b.by_net,
      length-map next seen,
      length-map b.first (with_nets_noted w.nets),
    ) in
    let words : AreNetWords (map (with_nets_noted w.nets) b.first) c.in_ok-words.words.items =
    subst (λ (ns : List Noted). AreNetWords ns c.in_ok-words.words.items) (ap (map seen) c.deref-in-rounds-2.ensures.value ∙ b.by_net) c.in_ok-words.ensures in
    let items : Vec NoteWords → List NoteWords = λ v. v.items in
    let old = c.rounds.blocks.items in
    record {
      done = i.done ++ b.first;
      rest = b.rest;
      all = i.all ∙ ap (λ (l : List Noted). i.done ++ l) b.are ∙ sym (append_assoc i.done b.first b.rest);
      leaves = b.leaves;
      words = subst (λ (bs : List (List NoteWords)). AreBlocksOf w.nets (i.done ++ b.first) bs)
          (sym (ap (map items) c.in_ok-push.ensures.items ∙ map-append items old (c.in_ok-words.words ∷ [])))
          (blocks_more w.nets (map items old) i.done b.first c.in_ok-words.words.items i.words few words);
    }

pub rounds-smaller : goal.rounds-smaller
rounds-smaller c =
    let i = c.rounds.invariant in
    let b = c.in_ok-next.ensures i.rest (all_pins (wiring c.args.plan.now).nets) i.leaves in
    b.fewer (some_there c.in_ok-next.next.items _ c.is_empty.result c.is_empty.ensures c.in_ok-next.next.ok.0 c.if-is_empty.false)

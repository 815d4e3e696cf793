use Rattle.std.proofs.Common.{◌≡◌, ◌++◌, [], List, length, map, sym, ap, subst, ◌∙◌, if◌then◌else◌, arith}
use Rattle.std.proofs.lemmas.List.{append-nil, length-map}
use Rattle.svf_programs.specs.Sizes.{program_of}
use Rattle.board_plan.specs.declared.plan.PlannedNet.{PlannedNet}
use Rattle.board_plan.specs.Planned.{all_pins}
use Rattle.board_plan.specs.View.{net as planned_net, wiring}
use Rattle.fault_events.specs.declared.captures.Capture.{Capture}
use Rattle.fault_events.specs.declared.nets.NetCapture.{NetCapture}
use Rattle.fault_events.specs.Captures.{Noted, captures, seen}
use Rattle.fault_events.specs.Nets as of_nets
use Rattle.fault_events.specs.Nets.{with_nets_noted}
use Rattle.fault_serving.specs.Serving.{AreFirst, IsTelling}
use Rattle.fault_serving.proofs.Fronts.{first_if}
use Rattle.fault_serving.proofs.serving.by_one_play.Goals as goal

pub next_block-requires-clause-way : goal.next_block-requires-clause-way
next_block-requires-clause-way c = c.in_ok-play.ensures.way

pub next_block-requires-2-clause-way : goal.next_block-requires-2-clause-way
next_block-requires-2-clause-way c =
    let w = wiring c.args.plan.now in
    (c.in_ok-pins.ensures (captures (program_of c.args.program.now) w) (all_pins w.nets) c.in_ok-play.ensures).leaves.way

pub returns-then-all : goal.returns-then-all
returns-then-all c =
    let w = wiring c.args.plan.now in
    let cs = captures (program_of c.args.program.now) w in
    let pins = c.in_ok-pins.pins.items in
    let noted = c.in_ok-telling.ensures.noted in
    let one = c.in_ok-pins.ensures cs (all_pins w.nets) c.in_ok-play.ensures in
    let two = c.in_ok-more.ensures one.rest (all_pins w.nets) one.leaves in
    let empty : c.in_ok-more.more.items ≡ [] = sym c.deref-2.ensures.value ∙ c.are_all-all.ensures.over c.if-all.true in
    let none : one.rest ≡ [] = two.are ∙ (λ i. map seen (empty i) ++ two.over empty i) in (
      c.requires.serves,
      subst (λ (ns : List PlannedNet). IsTelling (map planned_net ns) c.in_ok-telling.telling) c.deref-3.ensures.value c.in_ok-telling.ensures.telling,
      noted ∙ sym (append-nil (map seen pins)) ∙ ap (λ (l : List Noted). map seen pins ++ l) (sym none) ∙ sym one.are,
      omega (arith, c.are_all-all.ensures.few c.if-all.true, ap (λ (l : List Capture). length l) c.deref.ensures.value, ap (λ (l : List Noted). length l) noted, length-map pins seen),
    )

pub returns : goal.returns
returns c =
    let program = program_of c.args.program.now in
    let w = wiring c.args.plan.now in
    let one = c.in_ok-pins.ensures (captures program w) (all_pins w.nets) c.in_ok-play.ensures in
    let t = c.in_ok-telling.telling in
    let telling = subst (λ (ns : List PlannedNet). IsTelling (map planned_net ns) t) c.deref-3.ensures.value c.in_ok-telling.ensures.telling in
    let nets : map of_nets.seen t.block.nets.items ≡ map (with_nets_noted w.nets) (map seen c.in_ok-pins.pins.items) =
    telling.block.by_net ∙ ap (map (with_nets_noted w.nets)) c.in_ok-telling.ensures.noted in
    let kept : c.kept_if-captures.result.items ≡ (if c.args.listing then t.block.nets.items else []) =
    c.kept_if-captures.ensures ∙ (λ i. if c.args.listing then (c.into_captures.ensures i).items else []) in (
      c.requires.serves,
      subst (λ (l : List NetCapture). AreFirst program w l) (sym kept)
          (first_if program w c.args.listing t.block.nets.items (map seen c.in_ok-pins.pins.items) one.rest one.are nets),
      c.in_ok-planes.ensures,
    )

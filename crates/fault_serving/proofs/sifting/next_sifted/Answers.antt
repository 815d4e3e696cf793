use Rattle.std.proofs.Common.{List, map, refl, sym, ap, subst, ◌∙◌}
use Rattle.std.specs.Prelude.{flat_map}
use Rattle.std.specs.List.{AllByRecursion}
use Rattle.svf_programs.specs.Sizes.{program_of}
use Rattle.board_plan.specs.declared.plan.PlannedNet.{PlannedNet}
use Rattle.board_plan.specs.View.{net as planned_net, wiring}
use Rattle.board_faults.specs.declared.kinds.Way.{Way}
use Rattle.board_faults.specs.Faults.{IsWayOf, ways}
use Rattle.board_faults.specs.Faulty.{CanBeJudged}
use Rattle.board_faults.specs.Listing.{left_of}
use Rattle.fault_serving.specs.declared.sifting.Sieve.{Sieve}
use Rattle.fault_serving.specs.Serving.{AreTold}
use Rattle.fault_serving.proofs.OnePlay.{all_ways}
use Rattle.fault_serving.proofs.SiftingLaws.{sifted_told}
use Rattle.fault_serving.proofs.sifting.next_sifted.Goals as goal

pub told_endings-requires-clause-ways : goal.told_endings-requires-clause-ways
told_endings-requires-clause-ways c =
    let w = wiring c.args.plan.now in
    let can : CanBeJudged w = record { ready = c.requires.ready.powers_up.ready; sound = c.requires.ready.powers_up.sound; counted = c.requires.ready.counted } in
    let s : Sieve = record { blocks = c.first_blocks.result; whole = c.is_whole.result; nets = c.deref.result; sights = c.args.sights; counting = c.args.counting } in
    let fs = c.sift.new.kept.items in
    let theirs = sifted_told (program_of c.args.program.now) c.len.ensures.sound.legal w can c.args.sights.now c.requires.sights s
    (ap (λ (ns : List PlannedNet). map planned_net ns) c.deref.ensures.value) refl c.args.serving.now c.requires.serving c.first_blocks.ensures c.is_whole.ensures
    (left_of c.args.left.now) fs c.in_ok-counts.counts (left_of c.sift.new.left) c.in_ok-counts.ensures.sifts c.requires.faults in
    subst (AllByRecursion (IsWayOf w.nets)) (sym (c.deref-3.ensures.value ∙ c.in_ok-ways.ensures ∙ ap (flat_map ways) c.deref-2.ensures.value))
    (all_ways w.nets fs theirs.theirs)

pub returns : goal.returns
returns c =
    let program = program_of c.args.program.now in
    let w = wiring c.args.plan.now in
    let can : CanBeJudged w = record { ready = c.requires.ready.powers_up.ready; sound = c.requires.ready.powers_up.sound; counted = c.requires.ready.counted } in
    let s : Sieve = record { blocks = c.first_blocks.result; whole = c.is_whole.result; nets = c.deref.result; sights = c.args.sights; counting = c.args.counting } in
    let fs = c.sift.new.kept.items in
    let theirs = sifted_told program c.len.ensures.sound.legal w can c.args.sights.now c.requires.sights s
    (ap (λ (ns : List PlannedNet). map planned_net ns) c.deref.ensures.value) refl c.args.serving.now c.requires.serving c.first_blocks.ensures c.is_whole.ensures
    (left_of c.args.left.now) fs c.in_ok-counts.counts (left_of c.sift.new.left) c.in_ok-counts.ensures.sifts c.requires.faults in
    record {
      sifts = theirs.sifts;
      counted = c.in_ok-counts.ensures.counted;
      theirs = theirs.theirs;
      others = theirs.others;
      told = subst (λ (ws : List Way). AreTold program w ws c.in_ok-endings.endings.items)
          (c.deref-3.ensures.value ∙ c.in_ok-ways.ensures ∙ ap (flat_map ways) c.deref-2.ensures.value) c.in_ok-endings.ensures;
    }

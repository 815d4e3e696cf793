use Rattle.std.proofs.Common.{List, sym, ap, subst, ◌∙◌}
use Rattle.std.specs.Prelude.{flat_map}
use Rattle.std.specs.List.{AllByRecursion}
use Rattle.svf_programs.specs.Sizes.{program_of}
use Rattle.board_plan.specs.View.{wiring}
use Rattle.board_faults.specs.declared.kinds.Way.{Way}
use Rattle.board_faults.specs.Faults.{IsFaultOf, IsWayOf, ways}
use Rattle.board_faults.specs.Listing.{left_of}
use Rattle.fault_serving.specs.Serving.{AreTold}
use Rattle.fault_serving.proofs.OnePlay.{all_ways, split_all}
use Rattle.fault_serving.proofs.serving.next_chunk.Goals as goal

pub told_endings-requires-clause-ways : goal.told_endings-requires-clause-ways
told_endings-requires-clause-ways c =
    let nets = (wiring c.args.plan.now).nets in
    let fs = c.in_ok-faults.faults.items in
    let parts = split_all (IsFaultOf nets) fs (left_of c.next_faults.new.left)
    (subst (AllByRecursion (IsFaultOf nets)) c.in_ok-faults.ensures.are c.requires.faults) in
    subst (AllByRecursion (IsWayOf nets)) (sym (c.deref-2.ensures.value ∙ c.in_ok-ways.ensures ∙ ap (flat_map ways) c.deref.ensures.value)) (all_ways nets fs parts.0)

pub returns : goal.returns
returns c =
    let w = wiring c.args.plan.now in
    let fs = c.in_ok-faults.faults.items in
    let parts = split_all (IsFaultOf w.nets) fs (left_of c.next_faults.new.left)
    (subst (AllByRecursion (IsFaultOf w.nets)) c.in_ok-faults.ensures.are c.requires.faults) in
    record {
      next = c.in_ok-faults.ensures;
      theirs = parts.0;
      others = parts.1;
      told = subst (λ (ws : List Way). AreTold (program_of c.args.program.now) w ws c.in_ok-endings.endings.items)
          (c.deref-2.ensures.value ∙ c.in_ok-ways.ensures ∙ ap (flat_map ways) c.deref.ensures.value) c.in_ok-endings.ensures;
    }

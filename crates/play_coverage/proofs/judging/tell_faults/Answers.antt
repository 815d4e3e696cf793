use Rattle.std.proofs.Common.{◌≡◌, ◌++◌, [], List, map, sym, ap, subst, ◌∙◌, append_assoc}
use Rattle.std.specs.List.{AllByRecursion}
use Rattle.std.proofs.lemmas.List.{append-nil}
use Rattle.svf_programs.specs.Sizes.{program_of}
use Rattle.board_plan.specs.declared.plan.PlannedNet.{PlannedNet}
use Rattle.board_plan.specs.View.{net as planned_net, wiring}
use Rattle.board_faults.specs.declared.kinds.Fault.{Fault}
use Rattle.board_faults.specs.Faults.{IsFaultOf, faults}
use Rattle.board_faults.specs.Faulty.{CanBeJudged}
use Rattle.board_faults.specs.Judging.{JudgesAll}
use Rattle.board_faults.specs.Listing.{left_of}
use Rattle.board_faults.proofs.JudgingLaws.{every_fault}
use Rattle.fault_serving.specs.declared.sifting.Counting.{Counting}
use Rattle.fault_serving.specs.Sifting.{AreCounted, ComesTo}
use Rattle.fault_serving.proofs.OnePlay.{judges_join, none_there, some_less, some_there}
use Rattle.fault_serving.proofs.SiftingLaws.{some_kept}
use Rattle.play_coverage.proofs.Counted.{told_with}
use Rattle.play_coverage.proofs.judging.tell_faults.Goals as goal

pub chunks-init : goal.chunks-init
chunks-init c =
    let w = wiring c.args.plan.now in
    let all : faults w.nets ≡ left_of c.of-left.result =
    ap (λ (ns : List PlannedNet). faults (map planned_net ns)) (sym c.deref.ensures.value) ∙ sym c.of-left.ensures in
    record {
      done = [];
      judged = [];
      all = all;
      theirs = subst (AllByRecursion (IsFaultOf w.nets)) all (every_fault w.nets);
      serving = c.in_ok-serving.ensures;
      bench = c.in_ok-bench.ensures;
      judges = tt;
      tells = c.tally_behind-tally.ensures c.args.listed w;
    }

pub tell_chunk-requires-clause-may : goal.tell_chunk-requires-clause-may
tell_chunk-requires-clause-may c = record { ready = c.requires.powers_up.ready; sound = c.requires.powers_up.sound; counted = c.requires.counted }

pub next_sifted-requires-clause-faults : goal.next_sifted-requires-clause-faults
next_sifted-requires-clause-faults c = c.chunks.invariant.theirs

pub next_sifted-requires-clause-serving : goal.next_sifted-requires-clause-serving
next_sifted-requires-clause-serving c = c.chunks.invariant.serving

pub next_sifted-requires-clause-sights : goal.next_sifted-requires-clause-sights
next_sifted-requires-clause-sights c = c.chunks.invariant.bench.sights

pub returns-then-is_empty : goal.returns-then-is_empty
returns-then-is_empty c =
    let program = program_of c.args.program.now in
    let w = wiring c.args.plan.now in
    let can : CanBeJudged w = record { ready = c.requires.powers_up.ready; sound = c.requires.powers_up.sound; counted = c.requires.counted } in
    let i = c.chunks.invariant in
    let fs = c.in_ok-next.next.chunk.faults.items in
    let it = c.in_ok-next.ensures.sifts in
    let counts = c.in_ok-next.next.counts in
    let some = c.in_ok-tell_chunk.ensures.tells c.args.text.items i.judged i.tells in
    let which = subst (λ (x : Counting). AreCounted x counts) c.counting_for.ensures c.in_ok-next.ensures.counted in
    let more = told_with program c.len.ensures.sound.legal w can c.args.text c.args.listed c.chunks.tally.told c.args.text.items i.judged some.0 it.first fs counts
    c.tell_chunk.new.tally c.count_more.new.tally i.tells.told which it.sifted some.1 some.2 c.in_ok-count_more.ensures in
    let none : left_of c.next_sifted.new.left ≡ [] = it.over
    (none_there fs _ c.is_empty.result c.is_empty.ensures c.in_ok-next.next.chunk.faults.ok.0 c.if-is_empty.true) in
    let all : faults w.nets ≡ i.done ++ it.first =
    i.all ∙ ap (λ (l : List Fault). i.done ++ l) (it.are ∙ ap (λ (l : List Fault). it.first ++ l) none ∙ append-nil it.first) in
    record {
      judged = i.judged ++ more.0;
      judges = subst (λ (l : List Fault). JudgesAll program w l (i.judged ++ more.0)) (sym all)
          (judges_join program w i.done it.first i.judged more.0 i.judges more.1);
      tells = more.2;
    }

pub chunks-preserved : goal.chunks-preserved
chunks-preserved c =
    let program = program_of c.args.program.now in
    let w = wiring c.args.plan.now in
    let can : CanBeJudged w = record { ready = c.requires.powers_up.ready; sound = c.requires.powers_up.sound; counted = c.requires.counted } in
    let i = c.chunks.invariant in
    let fs = c.in_ok-next.next.chunk.faults.items in
    let it = c.in_ok-next.ensures.sifts in
    let counts = c.in_ok-next.next.counts in
    let some = c.in_ok-tell_chunk.ensures.tells c.args.text.items i.judged i.tells in
    let which = subst (λ (x : Counting). AreCounted x counts) c.counting_for.ensures c.in_ok-next.ensures.counted in
    let more = told_with program c.len.ensures.sound.legal w can c.args.text c.args.listed c.chunks.tally.told c.args.text.items i.judged some.0 it.first fs counts
    c.tell_chunk.new.tally c.count_more.new.tally i.tells.told which it.sifted some.1 some.2 c.in_ok-count_more.ensures in
    record {
      done = i.done ++ it.first;
      judged = i.judged ++ more.0;
      all = i.all ∙ ap (λ (l : List Fault). i.done ++ l) it.are ∙ sym (append_assoc i.done it.first (left_of c.next_sifted.new.left));
      theirs = c.in_ok-next.ensures.others;
      serving = i.serving;
      bench = c.in_ok-tell_chunk.ensures.bench;
      judges = judges_join program w i.done it.first i.judged more.0 i.judges more.1;
      tells = more.2;
    }

pub chunks-smaller : goal.chunks-smaller
chunks-smaller c =
    let it = c.in_ok-next.ensures.sifts in
    let fs = c.in_ok-next.next.chunk.faults.items in
    some_less (left_of c.chunks.left) it.first (left_of c.next_sifted.new.left) it.are
    (some_kept (ComesTo (program_of c.args.program.now) (wiring c.args.plan.now)) it.first fs c.in_ok-next.next.counts it.sifted
    (some_there fs _ c.is_empty.result c.is_empty.ensures c.in_ok-next.next.chunk.faults.ok.0 c.if-is_empty.false))

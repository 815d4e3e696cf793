use Rattle.std.proofs.Common.{◌≡◌, ◌++◌, [], List, map, sym, ap, subst, ◌∙◌, append_assoc}
use Rattle.std.specs.List.{AllByRecursion}
use Rattle.std.proofs.lemmas.List.{append-nil}
use Rattle.svf_programs.specs.Sizes.{program_of}
use Rattle.board_plan.specs.declared.plan.PlannedNet.{PlannedNet}
use Rattle.board_plan.specs.Planned.{Wiring}
use Rattle.board_plan.specs.View.{net as planned_net, wiring}
use Rattle.board_faults.specs.declared.kinds.Fault.{Fault}
use Rattle.board_faults.specs.Faults.{IsFaultOf, faults}
use Rattle.board_faults.specs.Listing.{left_of}
use Rattle.board_faults.proofs.JudgingLaws.{every_fault}
use Rattle.fault_serving.proofs.OnePlay.{none_there, some_less, some_there}
use Rattle.play_diagnosis.specs.Diagnosis.{TellsFaults}
use Rattle.play_diagnosis.specs.Reading.{verdict_of}
use Rattle.play_diagnosis.proofs.Tried.{tells_join}
use Rattle.play_diagnosis.proofs.diagnosing.tell_faults.Goals as goal

pub chunks-init : goal.chunks-init
chunks-init c =
    let w = wiring c.args.plan.now in
    let all : faults w.nets ≡ left_of c.of-left.result =
    ap (λ (ns : List PlannedNet). faults (map planned_net ns)) (sym c.deref.ensures.value) ∙ sym c.of-left.ensures in
    record {
      done = [];
      all = all;
      theirs = subst (AllByRecursion (IsFaultOf w.nets)) all (every_fault w.nets);
      serving = c.in_ok-serving.ensures;
      bench = ap (λ (v : Wiring). v.members) c.in_ok-bench.ensures.board;
      tells = c.new-text.ensures.items;
    }

pub tell_chunk-requires-clause-may : goal.tell_chunk-requires-clause-may
tell_chunk-requires-clause-may c = record { ready = c.requires.powers_up.ready; sound = c.requires.powers_up.sound; counted = c.requires.counted }

pub next_chunk-requires-clause-faults : goal.next_chunk-requires-clause-faults
next_chunk-requires-clause-faults c = c.chunks.invariant.theirs

pub next_chunk-requires-clause-serving : goal.next_chunk-requires-clause-serving
next_chunk-requires-clause-serving c = c.chunks.invariant.serving

pub returns-then-is_empty : goal.returns-then-is_empty
returns-then-is_empty c =
    let w = wiring c.args.plan.now in
    let i = c.chunks.invariant in
    let none : left_of c.chunks.left ≡ [] = c.in_ok-chunk.ensures.next.over
    (none_there c.in_ok-chunk.chunk.faults.items _ c.is_empty.result c.is_empty.ensures c.in_ok-chunk.chunk.faults.ok.0 c.if-is_empty.true) in
    subst (λ (fs : List Fault). TellsFaults (verdict_of c.args.said.now) (program_of c.args.program.now) w fs c.chunks.text.items)
    (sym (i.all ∙ ap (λ (l : List Fault). i.done ++ l) none ∙ append-nil i.done)) i.tells

pub chunks-preserved : goal.chunks-preserved
chunks-preserved c =
    let w = wiring c.args.plan.now in
    let said = verdict_of c.args.said.now in
    let program = program_of c.args.program.now in
    let i = c.chunks.invariant in
    let chunk = c.in_ok-chunk.ensures in
    let fs = c.in_ok-chunk.chunk.faults.items in
    let more = c.in_ok-tell_chunk.ensures.tells in
    record {
      done = i.done ++ fs;
      all = i.all ∙ ap (λ (l : List Fault). i.done ++ l) chunk.next.are ∙ sym (append_assoc i.done fs (left_of c.next_chunk.new.left));
      theirs = chunk.others;
      serving = i.serving;
      bench = c.in_ok-tell_chunk.ensures.bench;
      tells = subst (λ (told : List _). TellsFaults said program w (i.done ++ fs) told) (sym more.2)
          (tells_join said program w i.done fs c.chunks.text.items more.0 i.tells more.1);
    }

pub chunks-smaller : goal.chunks-smaller
chunks-smaller c =
    some_less (left_of c.chunks.left) c.in_ok-chunk.chunk.faults.items (left_of c.next_chunk.new.left) c.in_ok-chunk.ensures.next.are
    (some_there c.in_ok-chunk.chunk.faults.items _ c.is_empty.result c.is_empty.ensures c.in_ok-chunk.chunk.faults.ok.0 c.if-is_empty.false)

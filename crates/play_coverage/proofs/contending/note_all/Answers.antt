use Rattle.std.proofs.Common.{◌≡◌, ◌<◌, ◌++◌, ℕ, Bool, List, length, map, sym, ap, ap₂, subst, ◌∙◌, append_assoc}
use Rattle.std.proofs.lemmas.List.{append-nil}
use Rattle.svf_programs.specs.Left.{left}
use Rattle.svf_programs.specs.Seen.{numbered}
use Rattle.svf_programs.specs.Sizes.{program_of}
use Rattle.svf_programs.specs.Sound.{AllWithin}
use Rattle.svf_programs.specs.Steps.{Numbered}
use Rattle.pin_nets.specs.Wired.{Net}
use Rattle.board_model.specs.Cells.{Member}
use Rattle.board_model.specs.Chain.{BoardState, ChipState, members}
use Rattle.board_model.specs.Nets.{is_opposed}
use Rattle.board_model.specs.Resting.{IsAtRest}
use Rattle.board_model.specs.Whole.{AtRest}
use Rattle.play_model.proofs.AfterOpening.{standing-members}
use Rattle.play_model.specs.DirectPlay.{opened_state}
use Rattle.play_model.specs.Meaning.{after_step}
use Rattle.board_faults.proofs.WholePlay.{opened}
use Rattle.play_coverage.specs.declared.contending.Contention.{Contention}
use Rattle.play_coverage.specs.Contending.{contending, contention, either, newly, opposed}
use Rattle.play_coverage.proofs.Marks.{either_long}
use Rattle.play_coverage.proofs.NetsKept.{step_keeps}
use Rattle.play_coverage.proofs.contending.note_all.Goals as goal

-- what is opposed on the chain of a board at rest
at_rest : (b : BoardState) (m : AtRest) (nets : List Net) (chips : List ChipState) → IsAtRest b m → nets ≡ b.nets → chips ≡ b.chips
    → map (is_opposed nets (members chips)) nets ≡ opposed m
at_rest b m nets chips rests same_nets same_chips =
    ap₂ (λ (ns : List Net) (cs : List ChipState). map (is_opposed ns (members cs)) ns)
    (same_nets ∙ ap (λ (x : BoardState). x.nets) rests) (same_chips ∙ ap (λ (x : BoardState). x.chips) rests)
    ∙ ap (λ (ms : List Member). map (is_opposed m.nets ms) m.nets) (standing-members m.place m.members)

pub loop-step-init : goal.loop-step-init
loop-step-init c =
    let b = c.args.board.now in
    let program = program_of c.args.program.now in
    let m = opened_state b in
    let some = subst (λ (n : ℕ). 0 < n) c.devices.ensures.count c.devices.ensures.some in
    let rests : IsAtRest c.play_opening.new.board m =
    subst (λ (x : BoardState). IsAtRest x m) (sym c.play_opening.ensures) (opened b c.devices.ensures.sound some).board in
    let steps-are : program.steps ≡ left c.into_iter-step-iterator.result = sym c.steps-step-items.ensures
    ∙ ap left (sym c.into_iter-step-iterator.ensures.into_iter_gives) in
    record {
      m = m;
      rests = rests;
      within = subst AllWithin steps-are c.len.ensures.sound.within;
      long = c.requires;
      told = ap (λ (l : List Numbered). c.args.found.now.items ++ contending l m c.args.marks.now) (sym steps-are);
    }

pub play-requires-clause-rests : goal.play-requires-clause-rests
play-requires-clause-rests c = record { state = c.loop-step.invariant.m; is = c.loop-step.invariant.rests }

pub play-requires-clause-within : goal.play-requires-clause-within
play-requires-clause-within c = (subst AllWithin c.in-Some.ensures.steps c.loop-step.invariant.within).0

pub note_opposed-requires : goal.note_opposed-requires
note_opposed-requires c =
    let i = c.loop-step.invariant in
    let s : Numbered = numbered c.in-Some.step in
    i.long
    ∙ sym (ap (λ (ns : List Net). length ns) (c.chain.ensures.nets ∙ ap (λ (x : BoardState). x.nets) (c.play.ensures i.m i.rests) ∙ step_keeps s.what i.m))

pub loop-step-preserved : goal.loop-step-preserved
loop-step-preserved c =
    let i = c.loop-step.invariant in
    let s : Numbered = numbered c.in-Some.step in
    let ss : List Numbered = left c.next.new.self in
    let after = after_step s.what i.m in
    let rests : IsAtRest c.play.new.board after = c.play.ensures i.m i.rests in
    let marks = c.loop-step.marks in
    let old = c.loop-step.found.items in
    let chain = c.chain.result.now in
    let now : map (is_opposed chain.nets (members chain.chips)) chain.nets ≡ opposed after =
    at_rest c.play.new.board after chain.nets chain.chips rests c.chain.ensures.nets c.chain.ensures.chips in
    let marked : c.note_opposed.new.marks ≡ either marks (opposed after) =
    c.in_ok-note_opposed.ensures.marks ∙ ap (either marks) now in
    let these = map (contention s.number) (newly 0 marks (opposed after)) in
    let found : c.note_opposed.new.found.items ≡ old ++ these =
    c.in_ok-note_opposed.ensures.found
    ∙ ap (λ (os : List Bool). old ++ map (contention s.number) (newly 0 marks os)) now in
    record {
      m = after;
      rests = rests;
      within = (subst AllWithin c.in-Some.ensures.steps i.within).1;
      long = ap (λ (l : List Bool). length l) marked ∙ either_long marks (opposed after) ∙ i.long
          ∙ sym (ap (λ (ns : List Net). length ns) (step_keeps s.what i.m));
      told = ap₂ (λ (fs : List Contention) (l : List Bool). fs ++ contending ss after l) found marked
          ∙ append_assoc old these (contending ss after (either marks (opposed after)))
          ∙ ap (λ (l : List Numbered). old ++ contending l i.m marks) (sym c.in-Some.ensures.steps)
          ∙ i.told;
    }

pub returns : goal.returns
returns c =
    let i = c.loop-step.invariant in
    let old = c.loop-step.found.items in
    sym (append-nil old)
    ∙ ap (λ (l : List Numbered). old ++ contending l i.m c.loop-step.marks) (sym c.in-None.ensures.steps.0)
    ∙ i.told

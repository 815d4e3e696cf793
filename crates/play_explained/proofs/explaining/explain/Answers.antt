use Rattle.std.proofs.Common.{◌≡◌, ◌≤◌, ◌<◌, ◌++◌, ◌∷◌, [], ℕ, List, length, take, refl, sym, ap, subst, ◌∙◌, append_assoc, arith, length-take}
use Rattle.svf_programs.specs.Left.{left}
use Rattle.svf_programs.specs.Seen.{numbered}
use Rattle.svf_programs.specs.Sizes.{program_of}
use Rattle.svf_programs.specs.Sound.{AllWithin}
use Rattle.svf_programs.specs.Steps.{Numbered}
use Rattle.board_model.specs.Chain.{BoardState, members}
use Rattle.board_model.specs.Resting.{IsAtRest}
use Rattle.play_model.specs.DirectPlay.{opened_state}
use Rattle.play_model.specs.Meaning.{after_step}
use Rattle.play_model.specs.Streams.{most_kept}
use Rattle.jt_player.proofs.WholePlay.{opened}
use Rattle.play_explained.specs.declared.explaining.Explained.{Explained}
use Rattle.play_explained.specs.Explaining.{explained, step_explained}
use Rattle.play_explained.specs.Kept.{plates}
use Rattle.play_explained.proofs.Explanations.{keep_full, keep_none, take_again}
use Rattle.play_explained.proofs.Kept.{alike_kept}
use Rattle.play_explained.proofs.Plates.{after, members_resting, step_keeps}
use Rattle.play_explained.proofs.explaining.explain.Goals as goal

pub loop-step-init : goal.loop-step-init
loop-step-init c =
    let b = c.args.board.now in
    let program = program_of c.args.program.now in
    let some = subst (λ (n : ℕ). 0 < n) c.devices.ensures.count c.devices.ensures.some in
    let rests = (opened b c.devices.ensures.sound some).board in
    let steps-are : program.steps ≡ left c.into_iter-step-iterator.result = sym c.steps-step-items.ensures
    ∙ ap left (sym c.into_iter-step-iterator.ensures.into_iter_gives) in
    record {
      m = opened_state b;
      rests = subst (λ (x : BoardState). IsAtRest x (opened_state b)) (sym c.play_opening.ensures) rests;
      within = subst AllWithin steps-are c.len.ensures.sound.within;
      told = ap (λ (l : List Explained). take (most_kept c.args.kind) (l ++ explained (left c.into_iter-step-iterator.result) (opened_state b))) c.new-list.ensures
          ∙ ap (λ (l : List Numbered). take (most_kept c.args.kind) (explained l (opened_state b))) (sym steps-are);
      listed = omega (arith, ap (λ (l : List Explained). length l) c.new-list.ensures);
      keeps = record { nets = refl; kept = refl };
    }

pub explain_step-requires-clause-rests : goal.explain_step-requires-clause-rests
explain_step-requires-clause-rests c = record { state = c.loop-step.invariant.m; is = c.loop-step.invariant.rests }

pub explain_step-requires-clause-alike : goal.explain_step-requires-clause-alike
explain_step-requires-clause-alike c =
    let i = c.loop-step.invariant in
    let before = opened_state c.args.board.now in
    let now : members c.loop-step.board.chips ≡ i.m.members =
    ap (λ (b : BoardState). members b.chips) i.rests ∙ members_resting i.m.place i.m.members in
    alike_kept c.args.devices.now before.members (members c.loop-step.board.chips) (ap plates now ∙ i.keeps.kept) c.requires

pub explain_step-requires-clause-within : goal.explain_step-requires-clause-within
explain_step-requires-clause-within c = (subst AllWithin c.in-Some.ensures.steps c.loop-step.invariant.within).0

pub explain_step-requires-clause-most : goal.explain_step-requires-clause-most
explain_step-requires-clause-most c = c.most_explained-most.ensures.room

pub explain_step-requires-clause-listed : goal.explain_step-requires-clause-listed
explain_step-requires-clause-listed c = omega (arith, c.loop-step.invariant.listed, c.most_explained-most.ensures.most)

pub loop-step-preserved : goal.loop-step-preserved
loop-step-preserved c =
    let i = c.loop-step.invariant in
    let s : Numbered = numbered c.in-Some.step in
    let ss : List Numbered = left c.next.new.self in
    let next-are = c.in-Some.ensures.steps in
    let most = most_kept c.args.kind in
    let old = c.loop-step.list.items in
    let rest = explained ss (after_step s.what i.m) in
    let step : c.explain_step.new.list.items ≡ take most (old ++ step_explained s i.m) =
    c.explain_step.ensures.explained i.m i.rests ∙ ap (λ (n : ℕ). take n (old ++ step_explained s i.m)) c.most_explained-most.ensures.most in
    record {
      m = after_step s.what i.m;
      rests = c.explain_step.ensures.board i.m i.rests;
      within = (subst AllWithin next-are i.within).1;
      told = ap (λ (l : List Explained). take most (l ++ rest)) step
          ∙ take_again most (old ++ step_explained s i.m) rest
          ∙ ap (take most) (append_assoc old (step_explained s i.m) rest)
          ∙ ap (λ (l : List Numbered). take most (old ++ explained l i.m)) (sym next-are)
          ∙ i.told;
      listed = omega (arith, ap (λ (l : List Explained). length l) step, length-take most (old ++ step_explained s i.m));
      keeps = after (opened_state c.args.board.now) i.m (after_step s.what i.m) i.keeps (step_keeps s.what i.m);
    }

-- ---- enough are listed

pub returns-then-len-most-clause-explained : goal.returns-then-len-most-clause-explained
returns-then-len-most-clause-explained c =
    let i = c.loop-step.invariant in
    sym (keep_full (most_kept c.args.kind) c.loop-step.list.items (explained (left c.loop-step.step-iterator) i.m) i.listed
    (omega (arith, c.if-len-most.true, c.len-in-loop-step.ensures.value, c.most_explained-most.ensures.most)))
    ∙ i.told

pub returns-then-len-most-clause-nets : goal.returns-then-len-most-clause-nets
returns-then-len-most-clause-nets c =
    let i = c.loop-step.invariant in
    ap (λ (b : BoardState). b.nets) i.rests ∙ i.keeps.nets

pub returns-then-len-most-clause-names : goal.returns-then-len-most-clause-names
returns-then-len-most-clause-names c =
    let i = c.loop-step.invariant in
    ap (λ (b : BoardState). plates (members b.chips)) i.rests ∙ ap plates (members_resting i.m.place i.m.members) ∙ i.keeps.kept

-- ---- it came to the end

pub returns-clause-explained : goal.returns-clause-explained
returns-clause-explained c =
    let i = c.loop-step.invariant in
    sym (keep_none (most_kept c.args.kind) c.loop-step.list.items i.listed)
    ∙ ap (λ (l : List Numbered). take (most_kept c.args.kind) (c.loop-step.list.items ++ explained l i.m)) (sym c.in-None.ensures.steps.0)
    ∙ i.told

pub returns-clause-nets : goal.returns-clause-nets
returns-clause-nets c =
    let i = c.loop-step.invariant in
    ap (λ (b : BoardState). b.nets) i.rests ∙ i.keeps.nets

pub returns-clause-names : goal.returns-clause-names
returns-clause-names c =
    let i = c.loop-step.invariant in
    ap (λ (b : BoardState). plates (members b.chips)) i.rests ∙ ap plates (members_resting i.m.place i.m.members) ∙ i.keeps.kept

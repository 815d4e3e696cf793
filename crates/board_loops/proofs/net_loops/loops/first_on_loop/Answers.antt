use Rattle.std.proofs.Common.{ℕ, get_or, below_more}
use Rattle.std.proofs.lemmas.Bool.{MatchBool-at_false, MatchBool-at_true}
use Rattle.board_loops.specs.Loops.{DependsOn, IsOnLoop}
use Rattle.board_loops.specs.declared.net_loops.Dependency.{Dependency}
use Rattle.board_loops.proofs.LoopLaws.{first_found, has_no_loop, not_on_loop}
use Rattle.board_loops.proofs.net_loops.loops.first_on_loop.Goals as goal

pub returns-then-branch : goal.returns-then-branch
returns-then-branch c =
    let strings = c.args.strings.now in
    let place = c.loop-place.place in
    let nothing : Dependency = record { target = 0; source = 0 } in
    let back = DependsOn strings (get_or strings place nothing).source (get_or strings place nothing).target in
    first_found strings place nothing c.loop-place-test.true (MatchBool-at_true back (¬ back) c.if-branch.true c.in_ok-leads_back.ensures) c.loop-place.invariant

pub loop-place-preserved : goal.loop-place-preserved
loop-place-preserved c =
    let strings = c.args.strings.now in
    let place = c.loop-place.place in
    let nothing : Dependency = record { target = 0; source = 0 } in
    let back = DependsOn strings (get_or strings place nothing).source (get_or strings place nothing).target in
    below_more (λ (k : ℕ). IsOnLoop strings k → ⊥) place c.loop-place.invariant
    (not_on_loop strings place nothing c.loop-place-test.true (MatchBool-at_false back (¬ back) c.if-branch.false c.in_ok-leads_back.ensures))

pub returns : goal.returns
returns c = has_no_loop c.args.strings.now c.loop-place.place c.loop-place-test.false c.loop-place.invariant

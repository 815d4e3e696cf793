use Rattle.std.proofs.Common.{ℕ, ◌+◌, ◌++◌, ◌∷◌, List, [], get_or, subst, sym, take, take_all, arith}
use Rattle.std.proofs.lemmas.List.{take_more}
use Rattle.board_loops.specs.declared.net_loops.Dependency.{Dependency}
use Rattle.board_loops.specs.Renumbering.{AreRenumbered}
use Rattle.board_loops.proofs.RenumberingLaws.{renumbered_more, renumbered_none}
use Rattle.board_loops.proofs.renumbering.renumber.Goals as goal

pub loop-string-init : goal.loop-string-init
loop-string-init c =
    subst (λ (nets : List ℕ). AreRenumbered [] nets c.in_ok-all.all.items) (sym c.requires)
    (subst (λ (l : List Dependency). AreRenumbered [] [] l) (sym c.in_ok-all.ensures.items) renumbered_none)

pub returns : goal.returns
returns c =
    subst (λ (l : List Dependency). AreRenumbered l c.loop-string.nets c.loop-string.all.items)
    (take_all c.loop-string.string-index c.args.strings.now (c.loop-string-test.false)) c.loop-string.invariant

pub loop-string-preserved : goal.loop-string-preserved
loop-string-preserved c =
    let strings = c.args.strings.now in
    let i = c.loop-string.string-index in
    let nothing : Dependency = record { target = 0; source = 0 } in
    let string : Dependency = record { target = c.in_ok-target.target; source = c.in_ok-source.source } in
    let nets = c.place_of-in-loop-string.new.nets in
    let more : AreRenumbered (take i strings ++ get_or strings i nothing ∷ []) nets (c.loop-string.all.items ++ string ∷ []) =
    renumbered_more (take i strings) c.loop-string.nets c.place_of.new.nets nets c.loop-string.all.items (get_or strings i nothing) string.target string.source c.loop-string.invariant
    c.in_ok-target.ensures c.in_ok-source.ensures in
    subst (λ (l : List Dependency). AreRenumbered (take (i + 1) strings) nets l) (sym c.in_ok-push.ensures.items)
    (subst (λ (l : List Dependency). AreRenumbered l nets (c.loop-string.all.items ++ string ∷ [])) (sym (take_more strings i nothing c.loop-string-test.true)) more)

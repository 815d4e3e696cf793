use Rattle.std.proofs.Common.{ℕ, List, [], ◌∷◌, ◌++◌, subst, sym, ◌∙◌}
use Rattle.board_loops.specs.Renumbering.{HasPlace}
use Rattle.board_loops.proofs.RenumberingLaws.{place_new, place_there}
use Rattle.board_loops.proofs.renumbering.place_of.Goals as goal

pub returns-in-Some : goal.returns-in-Some
returns-in-Some c = place_there c.args.nets.now c.args.net c.in-Some.place (sym c.place.ensures ∙ c.in-Some.is)

pub returns-in_ok-push-in-None : goal.returns-in_ok-push-in-None
returns-in_ok-push-in-None c =
    let old = c.args.nets.now in
    let net = c.args.net in
    let here = place_new old net (sym c.place.ensures ∙ c.in-None.is) in
    subst (λ (l : List ℕ). HasPlace old l net c.len-place.result) (sym c.in_ok-push-in-None.ensures.pushed)
    (subst (λ (p : ℕ). HasPlace old (old ++ net ∷ []) net p) (sym c.len-place.ensures) here)

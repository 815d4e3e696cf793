use Rattle.std.proofs.Common.{◌∙◌, List, length, subst, sym, ap, All}
use Rattle.std.proofs.lemmas.Result.{IfOk-weaker}
use Rattle.board_loops.specs.Loops.{IsWithin, Settles}
use Rattle.board_loops.specs.declared.net_loops.Dependency.{Dependency}
use Rattle.board_loops.specs.Depending.{dependencies, wired}
use Rattle.board_loops.specs.Renumbering.{AreRenumbered}
use Rattle.board_loops.proofs.RenumberingLaws.{settles_as}
use Rattle.board_loops.proofs.depending.settle_strings.Goals as goal

pub settle_order-requires : goal.settle_order-requires
settle_order-requires c =
    let new = c.deref-2.result.now in
    let within : All (IsWithin (length c.renumber.new.nets)) new =
    subst (λ (l : List Dependency). All (IsWithin (length c.renumber.new.nets)) l) (sym c.deref-2.ensures.value) c.in_ok-renumbered.ensures.within in
    subst (λ n. All (IsWithin n) new) (sym c.len.ensures) within

pub returns : goal.returns
returns c =
    let old = dependencies (wired c.args.nets.now c.args.devices.now) in
    let nets = c.renumber.new.nets in
    let new = c.deref-2.result.now in
    let are : AreRenumbered old nets new =
    subst (λ (l : List Dependency). AreRenumbered old nets l) (sym c.deref-2.ensures.value)
    (subst (λ (l : List Dependency). AreRenumbered l nets c.in_ok-renumbered.renumbered.items) (c.deref.ensures.value ∙ c.in_ok-strings.ensures) c.in_ok-renumbered.ensures) in
    IfOk-weaker c.settle_order.result (Settles new) (Settles old) (λ s settles. settles_as old nets new are s settles) c.settle_order.ensures

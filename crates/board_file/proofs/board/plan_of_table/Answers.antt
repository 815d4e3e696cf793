use Rattle.std.proofs.Common.{◌≡◌, map, sym, subst, ap, ◌∙◌, arith}
use Rattle.std.specs.List.{AllByRecursion}
use Rattle.std.proofs.lemmas.Option.{slice_get_within}
use Rattle.std.proofs.lemmas.Result.{err_from_is_err_and}
use Rattle.toml.specs.View.{table_view}
use Rattle.board_loops.specs.Loops.{HasNoLoop, IsFirstOnLoop, IsInOrder}
use Rattle.board_parts.specs.LibraryView.{files_of}
use Rattle.board_plan.specs.View.{member, net, wiring}
use Rattle.board_parts.specs.Strings.{HasStrings}
use Rattle.board_loops.specs.Depending.{dependencies}
use Rattle.board_file.specs.Refusals.{RefusesAt}
use Rattle.board_file.specs.Wiring.{makes, targets_in}
use Rattle.board_file.proofs.FitLaws.{board_targets}
use Rattle.board_file.proofs.LoopLaws.{loop_told, no_memory_told, wiring_told}
use Rattle.board_file.proofs.board.plan_of_table.Goals as goal

pub returns-in_err-plan-clause-told : goal.returns-in_err-plan-clause-told
returns-in_err-plan-clause-told g c =
    let t = table_view c.args.table.now in
    let stop = err_from_is_err_and c.from_residual.result c.from_residual.ensures.1 in
    rw (stop.1, stop.2) (wiring_told (RefusesAt g.R.Describe.says g.R.Describe.refuses (files_of c.args.files.now) t) (makes g.R.Describe.says (files_of c.args.files.now) t) (targets_in t) c.in_err-plan.field-0.0 c.in_err-plan.ensures.told)

pub settle_strings-requires : goal.settle_strings-requires
settle_strings-requires g c = subst (λ ds. AllByRecursion HasStrings (map member ds)) (sym c.deref-2.ensures.value) c.in_ok-plan.ensures.fits.strings

-- the nets and devices that are settled are the plan's
pub returns-in-Order-clause-told : goal.returns-in-Order-clause-told
returns-in-Order-clause-told g c = (
  c.in_ok-plan.ensures.told,
  subst (λ ds. HasNoLoop (dependencies (record { members = map member ds; nets = map net c.in_ok-plan.plan.nets.items }))) c.deref-2.ensures.value
      (subst (λ ns. HasNoLoop (dependencies (record { members = map member c.deref-2.result.now; nets = map net ns }))) c.deref.ensures.value (rw c.in-Order.is at c.in_ok-order.ensures).0),
)

pub core_loop-requires : goal.core_loop-requires
core_loop-requires g c =
    let t = table_view c.args.table.now in
    let w = wiring c.in_ok-plan.plan in
    let place = c.in-Loop.place in
    let first : IsFirstOnLoop (dependencies w) place =
    subst (λ ds. IsFirstOnLoop (dependencies (record { members = map member ds; nets = map net c.in_ok-plan.plan.nets.items })) place) c.deref-2.ensures.value
    (subst (λ ns. IsFirstOnLoop (dependencies (record { members = map member c.deref-2.result.now; nets = map net ns })) place) c.deref.ensures.value (rw c.in-Loop.is at c.in_ok-order.ensures)) in
    let long = board_targets g.R.Describe.says (files_of c.args.files.now) t w c.in_ok-plan.ensures.told in
    omega (arith, long, slice_get_within (dependencies w) place first.on_loop.string first.on_loop.stands)

pub returns-in-Loop-clause-told : goal.returns-in-Loop-clause-told
returns-in-Loop-clause-told g c =
    let t = table_view c.args.table.now in
    let w = wiring c.in_ok-plan.plan in
    let place = c.in-Loop.place in
    let first : IsFirstOnLoop (dependencies w) place =
    subst (λ ds. IsFirstOnLoop (dependencies (record { members = map member ds; nets = map net c.in_ok-plan.plan.nets.items })) place) c.deref-2.ensures.value
    (subst (λ ns. IsFirstOnLoop (dependencies (record { members = map member c.deref-2.result.now; nets = map net ns })) place) c.deref.ensures.value (rw c.in-Loop.is at c.in_ok-order.ensures)) in
    loop_told (RefusesAt g.R.Describe.says g.R.Describe.refuses (files_of c.args.files.now) t) (makes g.R.Describe.says (files_of c.args.files.now) t) (targets_in t) c.core_loop.result w place c.in_ok-plan.ensures.told first c.core_loop.ensures

pub returns-in_err-order-clause-told : goal.returns-in_err-order-clause-told
returns-in_err-order-clause-told g c =
    let t = table_view c.args.table.now in
    let stop = err_from_is_err_and c.from_residual-in_err-order.result c.from_residual-in_err-order.ensures.1 in
    rw (stop.1, stop.2) (no_memory_told (RefusesAt g.R.Describe.says g.R.Describe.refuses (files_of c.args.files.now) t) (makes g.R.Describe.says (files_of c.args.files.now) t) (targets_in t))

pub returns-in-Order-clause-loops : goal.returns-in-Order-clause-loops
returns-in-Order-clause-loops g c = (returns-in-Order-clause-told g c).1

pub returns-in-Order-clause-ordered : goal.returns-in-Order-clause-ordered
returns-in-Order-clause-ordered g c =
    let order = c.in-Order.order.items in
    subst (λ ds. IsInOrder (dependencies (record { members = map member ds; nets = map net c.in_ok-plan.plan.nets.items })) order) c.deref-2.ensures.value
    (subst (λ ns. IsInOrder (dependencies (record { members = map member c.deref-2.result.now; nets = map net ns })) order) c.deref.ensures.value (rw c.in-Order.is at c.in_ok-order.ensures).1)

use Rattle.std.proofs.Common.{◌∷◌, ◌++◌, [], List, length, set, subst, ap, refl, ◌∙◌}
use Rattle.std.proofs.lemmas.Option.{slice_get_read, slice_get_within}
use Rattle.boundary.specs.Controls.{IsAmong}
use Rattle.boundary.specs.declared.controls.Group.{Group}
use Rattle.boundary.proofs.ControlLaws.{groups_joined, groups_pushed}
use Rattle.boundary.proofs.controls.enter.Goals as goal

pub returns-in-Some : goal.returns-in-Some
returns-in-Some c = λ cells at all.
    let groups = c.args.groups.now.items in
    let i = c.in-Some.i in
    let g = c.index.result.now in
    let among : IsAmong groups i c.args.first c.args.control =
    subst (λ (l : List Group). IsAmong l i c.args.first c.args.control) c.deref.ensures.value c.in-Some.ensures in
    let there = slice_get_read groups (length groups) i g refl (slice_get_within groups i among.g among.at) c.index.ensures in
    groups_joined cells groups _ i c.args.first c.args.j c.with_cell.result.cells c.args.control g among there
    (ap (λ (x : Group). set groups i x) c.with_cell.ensures.rest) at c.with_cell.ensures.others all

pub returns-in_ok-push-in-None : goal.returns-in_ok-push-in-None
returns-in_ok-push-in-None c = λ cells at all.
    let groups = c.args.groups.now.items in
    groups_pushed cells groups c.push.new.self.items c.args.first c.args.j c.with_cell-in-None.result.cells c.args.control c.no_cells.result
    c.no_cells.ensures.of c.no_cells.ensures.none
    (c.in_ok-push-in-None.ensures.items ∙ ap (λ (x : Group). groups ++ x ∷ []) c.with_cell-in-None.ensures.rest) at
    c.with_cell-in-None.ensures.others all

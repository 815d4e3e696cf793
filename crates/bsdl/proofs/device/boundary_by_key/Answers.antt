use Rattle.std.proofs.Common.{◌≡◌, ◌<◌, ℕ, nat_eq, List, length, map, ap, sym, ◌∙◌}
use Rattle.std.specs.Prelude.{filter}
use Rattle.std.proofs.lemmas.Result.{IfOk-weaker}
use Rattle.bsdl_text.specs.NumberView.{value}
use Rattle.bsdl_values.specs.declared.cells.CellRow as declared_row
use Rattle.bsdl_values.specs.CellView.{cell_row}
use Rattle.bsdl_entity.specs.PortsView as ports_view
use Rattle.bsdl_entity.specs.declared.entity.Outline.{Outline}
use Rattle.bsdl_description.specs.declared.description.Description as declared_description
use Rattle.bsdl_description.specs.View.{description}
use Rattle.bsdl.specs.Bits.{firsts}
use Rattle.bsdl.specs.Boundary.{cells_of}
use Rattle.bsdl.proofs.device.boundary_by_key.Goals as goal

each_once : (o : Outline) (t : declared_description.Description) (rows : List declared_row.CellRow) (len : ℕ) → rows ≡ t.cells.items → len ≡ value t.boundary_length
    → ((k : ℕ) → k < (description o t).boundary_length → length (filter (λ r. nat_eq r.number k) (description o t).cells) ≡ 1)
    → (k : ℕ) → k < len → length (filter (λ r. nat_eq r.number k) (map cell_row rows)) ≡ 1
each_once o t rows len rows_are len_is once k h = ap (λ rs. length (filter (λ r. nat_eq r.number k) (map cell_row rs))) rows_are ∙ once k (rw (sym len_is) h)

pub cells_by_key-requires : goal.cells_by_key-requires
cells_by_key-requires c = record {
  once = each_once c.args.outline.now c.args.described.now c.deref-3.result.now c.in_ok-len.len c.deref-3.ensures.value c.in_ok-len.ensures.value c.requires.once;
}

pub returns : goal.returns
returns c =
    let d = description c.args.outline.now c.args.described.now in
    let bits : c.deref-2.result.now ≡ firsts 0 d.ports = c.deref-2.ensures.value ∙ c.in_ok-firsts.ensures ∙ ap (λ gs. firsts 0 (ports_view.ports gs)) c.deref.ensures.value in
    let rows : map cell_row c.deref-3.result.now ≡ d.cells = ap (map cell_row) c.deref-3.ensures.value in
    IfOk-weaker c.cells_by_key.result _ _ (λ cells listed. listed d.ports c.requires.keyed bits ∙ ap (λ rs. cells_of d.ports rs c.in_ok-len.len) rows ∙ ap (λ (n : ℕ). cells_of d.ports d.cells n) c.in_ok-len.ensures.value) c.cells_by_key.ensures

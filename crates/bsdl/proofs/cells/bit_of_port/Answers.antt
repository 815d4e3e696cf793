use Rattle.std.proofs.Common.{◌≡◌, ◌+◌, ℕ, List, ap, sym, ◌∙◌}
use Rattle.std.specs.Prelude.{Option, None, option_map, option_and_then, unwrap_or, slice_get}
use Rattle.std.proofs.lemmas.Result.{IfOk-weaker}
use Rattle.bsdl_values.specs.CellView.{port_name}
use Rattle.bsdl_entity.specs.PortBits.{bit_at}
use Rattle.bsdl_entity.specs.Ports.{Range}
use Rattle.bsdl_lookup.specs.View.{numbered_port}
use Rattle.bsdl.specs.Bits.{firsts}
use Rattle.bsdl.proofs.NumberLaws.{bit_by}
use Rattle.bsdl.proofs.cells.bit_of_port.Goals as goal

pub returns-in-Some : goal.returns-in-Some
returns-in-Some c = IfOk-weaker c.bit_in.result _ _ (λ o found ps at bits_are.
    let name = port_name c.args.port in
    let by = λ (bits : List ℕ) (x : ℕ × Option Range). option_map (λ k. unwrap_or (slice_get bits x.0) 0 + k) (bit_at x.1 name.index) in
    found ∙ ap (λ (bits : List ℕ). by bits (numbered_port c.in-Some.found)) bits_are
    ∙ ap (option_and_then (by (firsts 0 ps))) (sym (ap (option_map numbered_port) c.in-Some.is) ∙ c.port_by_key.ensures ∙ at name.name) ∙ sym (bit_by ps name)) c.bit_in.ensures

pub returns-in-None : goal.returns-in-None
returns-in-None c = λ ps at bits_are.
    let name = port_name c.args.port in
    let by = λ (bits : List ℕ) (x : ℕ × Option Range). option_map (λ k. unwrap_or (slice_get bits x.0) 0 + k) (bit_at x.1 name.index) in
    ap (option_and_then (by (firsts 0 ps))) (sym (ap (option_map numbered_port) c.in-None.is) ∙ c.port_by_key.ensures ∙ at name.name) ∙ sym (bit_by ps name)

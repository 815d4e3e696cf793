use Rattle.std.proofs.Common.{◌≡◌, ◌<◌, ℕ, List, slice_get, ap, ◌∙◌}
use Rattle.bsdl_device.specs.Device.{Pattern}
use Rattle.jt_bits.specs.Packed.{has_bit}
use Rattle.board_description.specs.Blocks.{pattern_at, x_taking}
use Rattle.board_description.specs.Covered.{takes}
use Rattle.board_description.specs.declared.blocks.Column.{Column}
use Rattle.board_description.proofs.BlockLaws.{no_first, the_first}
use Rattle.board_description.proofs.blocks.Block.first_taking.Goals as goal

pub returns-in_err-first : goal.returns-in_err-first
returns-in_err-first c =
    let columns = c.self.inside.columns.items in
    let p = c.args.pattern.now in
    let each : (k : ℕ) → k < 64 → has_bit c.taking.result k ≡ takes (pattern_at columns k) p =
    λ k h. c.taking.ensures k h ∙ ap (λ (cs : List Column). takes (pattern_at cs k) p) c.deref.ensures.value in
    c.from_residual.ensures
    ∙ no_first columns p c.taking.result each c.self.inside.places.items c.self.invariant c.in_err-first.ensures
    ∙ ap (λ (b : List (ℕ × Pattern)). x_taking b p) c.self.view_is

pub returns : goal.returns
returns c =
    let columns = c.self.inside.columns.items in
    let p = c.args.pattern.now in
    let each : (k : ℕ) → k < 64 → has_bit c.taking.result k ≡ takes (pattern_at columns k) p =
    λ k h. c.taking.ensures k h ∙ ap (λ (cs : List Column). takes (pattern_at cs k) p) c.deref.ensures.value in
    c.place_at.ensures
    ∙ ap (λ (ns : List ℕ). slice_get ns c.in_ok-first.first) c.deref-2.ensures.value
    ∙ the_first columns p c.taking.result each c.self.inside.places.items c.in_ok-first.first c.self.invariant c.in_ok-first.ensures
    ∙ ap (λ (b : List (ℕ × Pattern)). x_taking b p) c.self.view_is

use Rattle.std.proofs.Common.{◌≡◌, Bool, true, false, ◌&&◌, get_or, sym, ap, ◌∙◌, arith}
use Rattle.std.proofs.lemmas.List.Folds.{list_all_at, list_all_more}
use Rattle.std.proofs.lemmas.Option.{get_or_from_slice_get}
use Rattle.chip_instructions.proofs.decoding.all_ones.Goals as goal

pub returns-then-not-get : goal.returns-then-not-get
returns-then-not-get c =
    let bit : get_or c.args.bits.now c.loop-i.i false ≡ false = get_or_from_slice_get c.args.bits.now c.loop-i.i c.get.result false c.get.ensures ∙ c.if-not-get.true in
    sym (list_all_at (λ (b : Bool). b) c.args.bits.now c.loop-i.i false (omega (arith, c.loop-i-test.true, c.len-i-end.ensures)) bit)

pub loop-i-preserved : goal.loop-i-preserved
loop-i-preserved c =
    let bit : get_or c.args.bits.now c.loop-i.i false ≡ true = get_or_from_slice_get c.args.bits.now c.loop-i.i c.get.result false c.get.ensures ∙ c.if-not-get.false in
    list_all_more (λ (b : Bool). b) c.args.bits.now c.loop-i.i false (omega (arith, c.loop-i-test.true, c.len-i-end.ensures))
    ∙ ap (λ (x : Bool). x && get_or c.args.bits.now c.loop-i.i false) c.loop-i.invariant ∙ bit

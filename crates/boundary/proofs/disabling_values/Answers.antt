use Rattle.std.proofs.Common.{length, false, ap, ◌∙◌, arith}
use Rattle.std.proofs.lemmas.List.{length-replicate}
use Rattle.boundary.proofs.CellLaws.{none_named}
use Rattle.boundary.proofs.disabling_values.Goals as goal

pub loop-k-init : goal.loop-k-init
loop-k-init c = record {
  below = omega arith;
  long = ap length c.in_ok-bits.ensures ∙ length-replicate (length c.args.list.now) false;
  each = λ j h. none_named c.args.list.now c.in_ok-bits.bits j c.in_ok-bits.ensures h;
}

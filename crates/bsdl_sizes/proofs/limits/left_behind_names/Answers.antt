use Rattle.std.proofs.Common.{◌∙◌, sym}
use Rattle.bsdl_sizes.proofs.PortLaws.{name_left}
use Rattle.bsdl_sizes.proofs.limits.left_behind_names.Goals as goal

pub loop-name-preserved : goal.loop-name-preserved
loop-name-preserved c =
    sym (name_left c.args.width c.args.names.now c.loop-name.name-index c.loop-name.left c.in-Some.fewer c.loop-name-test.true (sym c.bits_left.ensures ∙ c.in-Some.is))
    ∙ c.loop-name.invariant

use Rattle.std.proofs.Common.{sym}
use Rattle.jt_bits.proofs.Solid.{solid_clean}
use Rattle.jt_bits.proofs.digits.bad_place.Goals as goal

pub returns-then-is_solid : goal.returns-then-is_solid
returns-then-is_solid c = sym (solid_clean c.args.digits.now (c.requires c.if-is_solid.true))

use Rattle.std.proofs.Common.{refl, ap, ◌∙◌, Some}
use Rattle.chip_instructions.specs.Fitting.{access_at}
use Rattle.chip_instructions.proofs.DecodeLaws.{user_there}
use Rattle.chip_instructions.proofs.decoding.at_place.Goals as goal

pub returns-in-AtUser-clause-fits : goal.returns-in-AtUser-clause-fits
returns-in-AtUser-clause-fits c = record {
  it = user_there c.args.device.now c.args.k c.in-AtUser.u (access_at c.args.device.now c.args.k) refl (c.requires.place ∙ ap Some c.in-AtUser.is) c.requires.formed;
}

use Rattle.play_explained.proofs.Explanations.{each_listed}
use Rattle.play_explained.proofs.laws.each_listed_bit_has_its_reason.Goals as goal

pub returns : goal.returns
returns c = each_listed

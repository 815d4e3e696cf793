use Rattle.board_faults.proofs.WordBits.{or_bit}
use Rattle.board_faults.proofs.planes.DrivenWords.together.Goals as goal

pub returns : goal.returns
returns c = λ k i. record {
  zero = or_bit c.args.self.zero c.args.other.zero k i;
  one = or_bit c.args.self.one c.args.other.one k i;
  weak = or_bit c.args.self.weak c.args.other.weak k i;
}

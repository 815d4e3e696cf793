use Rattle.board_faults.proofs.WordBits.{or_bit}
use Rattle.fault_serving.proofs.planing.Changes.or.Goals as goal

pub returns-clause-wanted : goal.returns-clause-wanted
returns-clause-wanted c = λ k. or_bit c.args.self.wanted c.args.other.wanted k

pub returns-clause-stays : goal.returns-clause-stays
returns-clause-stays c = λ k. or_bit c.args.self.stays c.args.other.stays k

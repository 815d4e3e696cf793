use Rattle.board_faults.proofs.Staying.{registers_differ}
use Rattle.board_faults.proofs.laws.registers_differ_by_what_stays.Goals as goal

pub returns : goal.returns
returns c = registers_differ

use Rattle.board_faults.proofs.Staying.{whole_scans}
use Rattle.board_faults.proofs.laws.whole_scans_leave_nothing.Goals as goal

pub returns : goal.returns
returns c = whole_scans

use Rattle.play_model.proofs.DescribedSchedules.{described_schedules}
use Rattle.play_model.proofs.schedules.every_described_board_means_it_too.Goals as goal

pub returns : goal.returns
returns c = described_schedules

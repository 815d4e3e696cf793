use Rattle.board_faults.proofs.Missed.{every_program_misses}
use Rattle.board_faults.proofs.laws.every_program_misses_what_is_invisible.Goals as goal

pub returns : goal.returns
returns c = every_program_misses

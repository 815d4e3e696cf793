use Rattle.board_loops.proofs.DependingLaws.{no_loop}
use Rattle.board_faults.specs.Judging.{wiring_with}
use Rattle.board_faults.proofs.laws.every_fault_has_a_meaning_without_strings.Goals as goal

pub returns : goal.returns
returns c = λ w plain its_way. no_loop (wiring_with its_way w) plain

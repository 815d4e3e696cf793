use Rattle.std.proofs.Common.{◌≡◌, ◌++◌, length}
use Rattle.svf_programs.specs.Left.{left}
use Rattle.svf_programs.specs.Sizes.{program_of}
use Rattle.svf_programs.specs.Sound.{AllWithin}
use Rattle.board_model.specs.Resting.{IsAtRest}
use Rattle.board_model.specs.Whole.{AtRest}
use Rattle.play_model.specs.DirectPlay.{opened_state}
use Rattle.play_coverage.specs.Contending.{contending}
use Rattle.play_coverage.proofs.contending.note_all.Given as goal

-- The board is at rest, with a mark for each of its nets. What is found, and behind it what the steps that are left find
-- from there, is what the program does.
abbrev pub invariant-loop-step : goal.invariant-loop-step
invariant-loop-step l = record {
  m : AtRest;
  rests : IsAtRest l.board m;
  within : AllWithin (left l.step-iterator);
  long : length l.marks ≡ length m.nets;
  told : l.found.items ++ contending (left l.step-iterator) m l.marks
      ≡ l.fn.found.items ++ contending (program_of l.program).steps (opened_state l.fn.board) l.fn.marks;
}

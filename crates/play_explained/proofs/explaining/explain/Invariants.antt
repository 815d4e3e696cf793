use Rattle.std.proofs.Common.{◌≡◌, ◌≤◌, ◌++◌, length, take}
use Rattle.svf_programs.specs.Left.{left}
use Rattle.svf_programs.specs.Sizes.{program_of}
use Rattle.svf_programs.specs.Sound.{AllWithin}
use Rattle.board_model.specs.Resting.{IsAtRest}
use Rattle.board_model.specs.Whole.{AtRest}
use Rattle.play_model.specs.DirectPlay.{opened_state}
use Rattle.play_model.specs.Streams.{most_kept}
use Rattle.play_explained.specs.Explaining.{explained, explained_on}
use Rattle.play_explained.proofs.Plates.{Keeps}
use Rattle.play_explained.proofs.explaining.explain.Given as goal

-- The board is at rest, with the nets and plates of before. What is listed, and behind it what the steps that are left
-- explain from there, is what the program does.
abbrev pub invariant-loop-step : goal.invariant-loop-step
invariant-loop-step l = record {
  m : AtRest;
  rests : IsAtRest l.board m;
  within : AllWithin (left l.step-iterator);
  told : take (most_kept l.fn.kind) (l.list.items ++ explained (left l.step-iterator) m) ≡ explained_on l.fn.kind (program_of l.program) l.fn.board;
  listed : length l.list.items ≤ most_kept l.fn.kind;
  keeps : Keeps (opened_state l.fn.board) m;
}

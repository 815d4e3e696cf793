-- A play to the end, whatever fails.
use Rattle.std.specs.Prelude.{List}
use Rattle.board_model.specs.Chain.{BoardState}
use Rattle.scan_vectors.specs.declared.failures.Mismatch.{Mismatch}
use Rattle.svf_programs.specs.Steps.{Program}
use Rattle.play_model.specs.declared.kind.Kind.TheVariants.{PlaysOn}
use Rattle.play_model.specs.Play.{turns}
use Rattle.play_model.specs.PlayingOn.{failures}
use Rattle.play_model.specs.ScheduleLaws.{full}

-- Every wanted bit of a program that does not come out in it, by command and then by place in the whole vector.
abbrev pub all_failures : Program → BoardState → List Mismatch
all_failures program before = failures (turns program.steps) (full PlaysOn program.steps before).answers

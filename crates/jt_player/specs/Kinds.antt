-- A play of either kind, each byte taken at once: how it ends, what it finds, and what it means.
use Rattle.std.specs.Prelude.{[], ◌∷◌}
use Rattle.board_model.specs.Chain.{BoardState}
use Rattle.play_model.specs.AllFailures.{MeansAllFromOpening}
use Rattle.play_model.specs.ScheduleLaws.{full}
use Rattle.play_model.specs.declared.ending.Ending.{Ending}
use Rattle.play_model.specs.declared.ending.Ending.TheVariants.{Fail}
use Rattle.play_model.specs.DirectPlay.{MeansFromOpening}
use Rattle.play_model.specs.Play.{play}
use Rattle.play_model.specs.declared.kind.Kind.{Kind}
use Rattle.play_model.specs.declared.kind.Kind.TheVariants.{Stops, PlaysOn}
use Rattle.play_model.specs.PlayingOn.{ending_of}
use Rattle.play_model.specs.Streams.{found_of}
use Rattle.play_direct.specs.ToTheEnd.{all_failures}
use Rattle.scan_vectors.specs.Failures.{Found, none_found}
use Rattle.svf_programs.specs.Steps.{Program}

-- what a player of this kind keeps of all wanted bits that do not come out, where the program is played to the end
abbrev pub found_in : Kind → Program → BoardState → Found
found_in kind program before = found_of kind (all_failures program before)

abbrev pub ending_in : Kind → Program → BoardState → Ending
ending_in Stops program before = (play program before).ending
ending_in PlaysOn program before = ending_of (all_failures program before)

-- what a player has found that stopped so
abbrev pub found_of_ending : Ending → Found
found_of_ending (Fail command part bit) =
    record { list = record { command = command; part = part; bit = bit } ∷ []; total = 1 }
found_of_ending ending = none_found

-- It is what the program means over whole registers, from the state after the opening.
abbrev pub MeansAsPlayed : Kind → Program → BoardState → Type 0
MeansAsPlayed Stops program before =
    MeansFromOpening program before (play program before).ending (play program before).board
MeansAsPlayed PlaysOn program before =
    MeansAllFromOpening program.steps before (all_failures program before) (full PlaysOn program.steps before).board

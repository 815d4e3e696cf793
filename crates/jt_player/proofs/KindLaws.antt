-- Plays of either kind: what a player that stops keeps is what its ending says, and each play is what its program means.
use Rattle.std.proofs.Common.{◌≡◌, List, [], ◌∷◌, length, min, refl, ap, ◌∙◌, arith}
use Rattle.board_model.specs.Chain.{BoardState}
use Rattle.board_model.specs.Sound.{HasDevice, IsSoundBoard}
use Rattle.svf_programs.specs.Legal.{IsLegalProgram}
use Rattle.play_model.proofs.DescribedPlays.{means_from_opening}
use Rattle.play_model.proofs.AllFailures.{first_of_all_played}
use Rattle.play_model.proofs.AllMeaning.{plays_all}
use Rattle.play_model.specs.Play.{play}
use Rattle.play_model.specs.declared.kind.Kind.{Kind}
use Rattle.play_model.specs.declared.kind.Kind.TheVariants.{Stops, PlaysOn}
use Rattle.play_model.specs.PlayingOn.{Mismatch, ending_of}
use Rattle.play_model.specs.Streams.{found_of}
use Rattle.svf_programs.specs.Steps.{Program}
use Rattle.play_direct.specs.ToTheEnd.{all_failures}
use Rattle.jt_player.specs.Kinds.{MeansAsPlayed, found_in, found_of_ending}

by-ending : (all : List Mismatch) → found_of Stops all ≡ found_of_ending (ending_of all)
by-ending [] = refl
by-ending (f ∷ fs) =
    let one : min 1 (length (f ∷ fs)) ≡ 1 = omega arith in
    λ i. record { list = f ∷ []; total = one i }

pub stopped : (program : Program) (before : BoardState) → found_in Stops program before ≡ found_of_ending (play program before).ending
stopped program before = by-ending (all_failures program before) ∙ ap found_of_ending (first_of_all_played program.steps before)

pub means : (kind : Kind) (program : Program) (before : BoardState) → IsSoundBoard before → HasDevice before → IsLegalProgram program.steps
    → MeansAsPlayed kind program before
means Stops program before sound some legal = means_from_opening program before sound some legal
means PlaysOn program before sound some legal = plays_all program.steps before sound some legal

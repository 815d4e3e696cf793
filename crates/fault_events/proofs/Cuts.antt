-- Captures are judged block by block.
use Rattle.std.proofs.Common.{◌≡◌, Bool, true, false, List, [], ◌∷◌, ◌++◌, Option, Some, None, if◌then◌else◌, refl, ap, ◌∙◌}
use Rattle.pin_nets.specs.Wired.{Net}
use Rattle.play_model.specs.declared.ending.Ending.{Ending}
use Rattle.play_model.specs.declared.ending.Ending.TheVariants.{Fail}
use Rattle.board_faults.specs.declared.kinds.Way.{Way}
use Rattle.fault_events.specs.declared.notes.Spot.{Spot}
use Rattle.fault_events.specs.Captures.{Noted}
use Rattle.fault_events.specs.Endings.{CapturesMayBeCut, and_then, ending_noted, first_note, second_note}
use Rattle.fault_events.specs.Notes.{way_first, way_stays}

module _ (nets : List Net) (its_way : Way) (n : Noted) (first rest : List Noted) where
  abbrev told : Option Spot → Bool → Option Ending → Option Ending
  told o stays later = elim o as (λ _. Option Ending) [ None ↦ if stays then None else later | Some s ↦ Some (Fail n.command s.part s.bit) ]

  by : (o : Option Spot) (stays : Bool)
      → told o stays (and_then (ending_noted nets its_way first) (ending_noted nets its_way rest))
      ≡ and_then (told o stays (ending_noted nets its_way first)) (ending_noted nets its_way rest)
  by None true = refl
  by None false = refl
  by (Some s) stays = refl

pub captures_may_be_cut : CapturesMayBeCut
captures_may_be_cut nets its_way [] rest = refl
captures_may_be_cut nets its_way (n ∷ first) rest =
    let one = first_note nets its_way n.notes in
    let two = second_note nets its_way n.notes in
    ap (told nets its_way n first rest (way_first nets its_way one two) (way_stays nets its_way one two)) (captures_may_be_cut nets its_way first rest)
    ∙ by nets its_way n first rest (way_first nets its_way one two) (way_stays nets its_way one two)

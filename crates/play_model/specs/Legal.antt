-- Which steps and programs are legal at a state of whole registers.
use Rattle.std.specs.Prelude.{⊤}
use Rattle.std.specs.Prelude.{◌≡◌, ◌≢◌, true, false, List, [], ◌∷◌}
use Rattle.jt_tap.specs.declared.State.TheVariants.{Reset}
use Rattle.board_model.specs.Whole.{AtRest}
use Rattle.bitbang.specs.Steps.{Step, Trst, Numbered}
use Rattle.svf_words.specs.declared.keywords.TrstWord.TheVariants.{Absent}
use Rattle.play_model.specs.Meaning.{after_step}
use Rattle.bitbang.specs.Legal.{IsFormed, leaves_reset}

-- Legal at M: formed, and while TRST is asserted no step from RESET leaves it, and none is TRST ABSENT.
pub record IsLegal (step : Step) (m : AtRest) : Type 0 where
  pub formed : IsFormed m.place step
  pub stays : m.trst ≡ true → m.place ≡ Reset → leaves_reset step ≡ false
  pub not_absent : m.trst ≡ true → step ≢ Trst Absent

-- Each step is legal at the state where it begins, which whole registers give.
abbrev pub AllLegal : List Numbered → AtRest → Type 0
AllLegal [] m = ⊤
AllLegal (s ∷ ss) m = IsLegal s.what m × AllLegal ss (after_step s.what m)

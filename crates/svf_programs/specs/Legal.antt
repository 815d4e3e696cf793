-- Which steps are legal where they begin, and which programs are.
use Rattle.std.specs.Prelude.{⊤}
use Rattle.std.specs.Prelude.{◌≡◌, ◌≢◌, ◌<◌, Bool, true, false, not, ◌&&◌, List, [], ◌∷◌, length}
use Rattle.std.specs.List.{list_all}
use Rattle.jt_tap.specs.Controller.{is_at, is_stable}
use Rattle.jt_tap.specs.declared.State.{State}
use Rattle.jt_tap.specs.declared.State.TheVariants.{Reset}
use Rattle.svf_parse.specs.TrstWord.TheVariants as word
use Rattle.jt_tap.specs.Paths.{last_of}
use Rattle.jt_tap.specs.Stated.{IsWalk}
use Rattle.svf_programs.specs.Steps.{Step, Scan, Go, Path, Run, Trst, Numbered, place_after, line_after}

-- each state one cycle from the one before, the last one stable
abbrev pub IsPath : State → List State → Type 0
IsPath s path = IsWalk s path × (is_stable (last_of s path) ≡ true)

abbrev pub is_reset : State → Bool
is_reset s = is_at Reset s

-- whether a step enters a state other than RESET
abbrev pub leaves_reset : Step → Bool
leaves_reset (Scan column v end) = true
leaves_reset (Go s) = not (is_reset s)
leaves_reset (Path path) = not (list_all is_reset path)
leaves_reset (Run run n end) = not (is_reset run && is_reset end)
leaves_reset (Trst w) = false

-- what a step asks of its place
abbrev pub IsFormed : State → Step → Type 0
IsFormed place (Scan column v end) = (0 < length v) × (is_stable end ≡ true)
IsFormed place (Go s) = is_stable s ≡ true
IsFormed place (Path path) = IsPath place path
IsFormed place (Run run n end) = (is_stable run ≡ true) × (is_stable end ≡ true)
IsFormed place (Trst w) = ⊤

-- A step is legal at a place by whether TRST is asserted there.
pub record IsLegalAt (place : State) (trst : Bool) (step : Step) : Type 0 where
  pub formed : IsFormed place step
  pub stays : trst ≡ true → place ≡ Reset → leaves_reset step ≡ false
  pub not_absent : trst ≡ true → step ≢ Trst word.Absent

abbrev pub AllLegalFrom : State → Bool → List Numbered → Type 0
AllLegalFrom place trst [] = ⊤
AllLegalFrom place trst (s ∷ ss) =
    IsLegalAt place trst s.what × AllLegalFrom (place_after place s.what) (line_after trst s.what) ss

-- A legal program: from RESET with TRST released, where the opening leaves every board.
abbrev pub IsLegalProgram : List Numbered → Type 0
IsLegalProgram steps = AllLegalFrom Reset false steps

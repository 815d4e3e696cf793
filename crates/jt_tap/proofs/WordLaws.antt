-- A text is the word of at most one state, which a search of all states finds.
use Rattle.std.proofs.Common.{◌≡◌, ℕ, Bool, true, false, cond, List, [], ◌∷◌, map, find, IfSome, Option, Some, refl, ap, ◌∙◌}
use Rattle.std.specs.Bool.{Decides}
use Rattle.std.proofs.lemmas.Slice.Eq.{bytes_eq-Decides}
use Rattle.std.specs.Char.{to_ascii_lowercase}
use Rattle.std.specs.Str.{bytes_eq}
use Rattle.jt_tap.specs.declared.State.{State}
use Rattle.jt_tap.specs.declared.State.TheVariants.{Reset, Idle, DrSelect, DrCapture, DrShift, DrExit1, DrPause, DrExit2, DrUpdate, IrSelect, IrCapture, IrShift, IrExit1, IrPause, IrExit2, IrUpdate}
use Rattle.jt_tap.specs.declared.TheConstants.{STATES}
use Rattle.jt_tap.specs.Words.{IsWordOf, reads, word}

-- the search by a text in lower case
abbrev read_by : List ℕ → State → Bool
read_by low t = bytes_eq low (map to_ascii_lowercase (word t))

found_own : (s : State) → find (read_by (map to_ascii_lowercase (word s))) STATES ≡ Some s
found_own Reset = refl
found_own Idle = refl
found_own DrSelect = refl
found_own DrCapture = refl
found_own DrShift = refl
found_own DrExit1 = refl
found_own DrPause = refl
found_own DrExit2 = refl
found_own DrUpdate = refl
found_own IrSelect = refl
found_own IrCapture = refl
found_own IrShift = refl
found_own IrExit1 = refl
found_own IrPause = refl
found_own IrExit2 = refl
found_own IrUpdate = refl

pub find-word : (text : List ℕ) (s : State) → IsWordOf s text → find (reads text) STATES ≡ Some s
find-word text s e = ap (λ low. find (read_by low) STATES) e ∙ found_own s

-- what one test of a search says of what it finds
found_here : (text : List ℕ) (s : State) (b : Bool) (later : Option State) → Decides b (IsWordOf s text) → IfSome later (λ t. IsWordOf t text) → IfSome (cond b (Some s) later) (λ t. IsWordOf t text)
found_here text s true later is h = is.0 refl
found_here text s false later is h = h

-- whatever a search finds, the text is its word
pub IfSome-find : (text : List ℕ) (states : List State) → IfSome (find (reads text) states) (λ s. IsWordOf s text)
IfSome-find text [] = tt
IfSome-find text (s ∷ states) = found_here text s (reads text s) (find (reads text) states) (bytes_eq-Decides _ _) (IfSome-find text states)

-- A string of a core that follows, as the board file writes it: `Q = D`, or `Q = !D`.
use Rattle.std.specs.Prelude.{◌≡◌, ◌↔◌, ℕ, Bool, true, false, ◌==◌, List, [], ◌∷◌, ◌++◌, reverse, replicate, Option}
use Rattle.std.specs.Prelude.{Some, None, option_map, option_and_then, if◌then◌else◌}
use Rattle.board_tables.specs.PinTexts.{PortText, IsPortText, port_text, port_of, split_at}

-- The port whose core bit follows, the port that it follows, and whether it is the opposite of what that one sees.
pub record FollowText : Type 0 where
  pub target : PortText
  pub source : PortText
  pub inverted : Bool

-- ---- as a spelling

-- so many spaces
abbrev pub spaces : ℕ → List ℕ
spaces n = replicate n 32

-- the `!` of an inverted string, and so many spaces behind it
abbrev pub mark : Bool → ℕ → List ℕ
mark false n = []
mark true n = 33 ∷ spaces n

-- The text spells this string: its target, `=`, its source behind a `!` where it is inverted, and spaces at both ends
-- and around `=` and `!`, as many as one likes.
pub record SpellsFollow (text : List ℕ) (f : FollowText) : Type 0 where
  pub before : ℕ
  pub between : ℕ
  pub after_equals : ℕ
  pub after_mark : ℕ
  pub behind : ℕ
  pub spelt : text ≡ (spaces before ++ port_text f.target ++ spaces between)
      ++ 61 ∷ (spaces after_equals ++ (mark f.inverted after_mark ++ port_text f.source) ++ spaces behind)
  pub target : IsPortText f.target
  pub source : IsPortText f.source

-- ---- as a reading

-- a text without the spaces before it, and behind it
abbrev pub without_before : List ℕ → List ℕ
without_before [] = []
without_before (c ∷ cs) = if c == 32 then without_before cs else c ∷ cs

abbrev pub without_behind : List ℕ → List ℕ
without_behind text = reverse (without_before (reverse text))

-- and without those at both ends
unfoldable pub trimmed : List ℕ → List ℕ
trimmed text = without_behind (without_before text)

-- what stands behind a `!`, if the text begins with one
abbrev pub behind_mark : List ℕ → Option (List ℕ)
behind_mark [] = None
behind_mark (c ∷ cs) = if c == 33 then Some cs else None

abbrev pub with_mark : Bool → PortText → PortText × Bool
with_mark inverted p = (p, inverted)

-- a source, and whether it is inverted
unfoldable pub source_of : List ℕ → Option (PortText × Bool)
source_of text = elim (behind_mark text) [
  | Some rest ↦ option_map (with_mark true) (port_of (trimmed rest))
  | None ↦ option_map (with_mark false) (port_of text)
]

-- a string of this target
abbrev pub with_source : PortText → PortText × Bool → FollowText
with_source target s = record { target = target; source = s.0; inverted = s.1 }

-- the string that a text spells
unfoldable pub follow_of : List ℕ → Option FollowText
follow_of text =
    option_and_then (λ (p : List ℕ × List ℕ). option_and_then
    (λ target. option_map (with_source target) (source_of (trimmed p.1))) (port_of (trimmed p.0))) (split_at 61 text)

-- the target of a string as its text spells it: what stands before the `=`, without the spaces at both ends
abbrev pub target_text : List ℕ → List ℕ
target_text text = elim (split_at 61 text) [ Some p ↦ trimmed p.0 | None ↦ trimmed text ]

-- ---- the two are one

-- A text is read as a string exactly where it spells that string.
abbrev pub FollowsAreReadAsSpelt : Type 0
FollowsAreReadAsSpelt = (text : List ℕ) (f : FollowText) → (follow_of text ≡ Some f) ↔ SpellsFollow text f

-- The target of a string, as its text spells it, is the port that it spells.
abbrev pub TargetsAreAsSpelt : Type 0
TargetsAreAsSpelt = (text : List ℕ) (f : FollowText) → SpellsFollow text f → target_text text ≡ port_text f.target

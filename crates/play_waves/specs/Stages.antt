-- A stage: the board on which a wave is drawn, as it powers up, and what kind of player plays on it.
use Rattle.std.specs.Prelude.{⊤, ◌≡◌, Option, Some, None}
use Rattle.board_model.specs.Chain.{BoardState}
use Rattle.play_model.specs.declared.kind.Kind.{Kind}
use Rattle.play_model.specs.declared.kind.Kind.TheVariants.{Stops, PlaysOn}

pub record StageValue : Type 0 where
  pub kind : Kind
  pub board : BoardState

-- A play that stops at its first failure is judged on a board of its own; one that plays on needs none.
abbrev pub judge_for : Kind → BoardState → Option BoardState
judge_for Stops b = Some b
judge_for PlaysOn b = None

-- the same, from the board on which a play is judged, if there is one
abbrev pub kind_judged : Option BoardState → Kind
kind_judged (Some b) = Stops
kind_judged None = PlaysOn

abbrev pub IsJudgeOf : Option BoardState → BoardState → Type 0
IsJudgeOf (Some judge) b = judge ≡ b
IsJudgeOf None b = ⊤

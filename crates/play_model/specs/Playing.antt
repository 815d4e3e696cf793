-- What is known of a player: its program, how many bytes it gave out, and every answer that it took.
use Rattle.std.specs.Prelude.{Bool, ℕ, List, [], ◌∷◌, if◌then◌else◌}
use Rattle.std.specs.List.{list_any}
use Rattle.bitbang.specs.Steps.{Program}
use Rattle.play_model.specs.Play.{is_bad}

-- the program, how many bytes were given out, and the answer bytes that were taken
pub record PlayerState : Type 0 where
  pub program : Program
  pub given : ℕ
  pub got : List ℕ

abbrev pub new_player : Program → PlayerState
new_player program = record { program = program; given = 0; got = [] }

-- an answer other than `0` and `1` was taken
abbrev pub has_bad_answer : PlayerState → Bool
has_bad_answer p = list_any is_bad p.got

-- up to and with the first answer other than `0` and `1`
abbrev pub up_to_bad : List ℕ → List ℕ
up_to_bad [] = []
up_to_bad (b ∷ bs) = b ∷ (if is_bad b then [] else up_to_bad bs)

-- The player that is known by all answers it took, for any window, whether it stops after a failing step or plays on.
use Rattle.std.specs.Prelude.{◌≤◌, Bool, ◌||◌, ℕ, ◌-◌, ◌==◌, List, [], map, length, take, drop}
use Rattle.std.specs.Prelude.{count_by, Option, Some, None, if◌then◌else◌}
use Rattle.std.specs.List.{list_any}
use Rattle.bitbang_protocol.specs.Protocol.{ask_byte, one_byte, quit_byte}
use Rattle.play_model.specs.declared.ending.Ending.{Ending}
use Rattle.play_model.specs.declared.ending.Ending.TheVariants.{Pass}
use Rattle.play_model.specs.Play.{Turn, ending_for, in_work, player, turns}
use Rattle.play_model.specs.Playing.{PlayerState, has_bad_answer, up_to_bad}
use Rattle.play_model.specs.declared.kind.Kind.{Kind}
use Rattle.play_model.specs.declared.kind.Kind.TheVariants.{Stops, PlaysOn}
use Rattle.play_model.specs.PlayingOn.{ending_of, failures, turns_for}

-- the bits that answer bytes tell
abbrev pub bits_told : List ℕ → List Bool
bits_told bytes = map (λ b. b == one_byte) bytes

module _ (kind : Kind) (window : ℕ) where
  abbrev pub turns_in : PlayerState → List Turn
  turns_in p = turns_for kind p.program.steps

  abbrev pub bytes_of : PlayerState → List ℕ
  bytes_of p = player window (turns_in p) (bits_told p.got)

  abbrev pub bytes_to_send : PlayerState → List ℕ
  bytes_to_send p = if has_bad_answer p then [] else drop p.given (bytes_of p)

  abbrev pub given_out : PlayerState → List ℕ
  given_out p = take p.given (bytes_of p)

  abbrev pub owed : PlayerState → ℕ
  owed p = if has_bad_answer p then 0 else count_by (λ b. b == ask_byte) (given_out p) - length p.got

  abbrev pub answers_taken : PlayerState → List ℕ → List ℕ
  answers_taken p bytes = up_to_bad (take (owed p) bytes)

  abbrev pub has_ended : PlayerState → Bool
  has_ended p = has_bad_answer p || list_any (λ b. b == quit_byte) (given_out p)

  -- One that plays on fails, once it has passed to the end, by the first of all failures.
  abbrev pub verdict_of : PlayerState → Option Ending → Option Ending
  verdict_of p (Some Pass) = Some (ending_of (failures (turns p.program.steps) (bits_told p.got)))
  verdict_of p other = other

  abbrev pub verdict : PlayerState → Option Ending
  verdict p = elim kind [
    | Stops ↦ ending_for (turns_in p) p.got
    | PlaysOn ↦ verdict_of p
        (ending_for (turns_in p) p.got)
  ]

  abbrev pub ending_of_history : PlayerState → Option Ending
  ending_of_history p = if has_ended p then verdict p else None

  abbrev pub working : PlayerState → ℕ
  working p = in_work p.program.statements (turns_in p) p.given (bits_told p.got)

  -- No answer was taken that was not asked for.
  abbrev pub WasAsked : PlayerState → Type 0
  WasAsked p = length p.got ≤ count_by (λ b. b == ask_byte) (bytes_of p)

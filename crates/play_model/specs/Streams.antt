-- The player that keeps no answers: it judges each as it comes, and keeps how many they were and what differed.
use Rattle.std.specs.Prelude.{Bool, true, false, ◌&&◌, ◌||◌, ℕ, suc, ◌+◌, ◌-◌, ◌==◌, min, nat_le, nat_lt, List, [], ◌∷◌}
use Rattle.std.specs.Prelude.{◌++◌, map, length, take, drop, count_by, is_some, Option, Some, None, if◌then◌else◌}
use Rattle.std.specs.List.{list_any}
use Rattle.bitbang_protocol.specs.declared.Message.{Message}
use Rattle.bitbang_protocol.specs.declared.Message.TheVariants.{Quit}
use Rattle.bitbang_protocol.specs.Protocol.{answer, ask_byte, encode, one_byte, quit_byte}
pub use Rattle.scan_vectors.specs.Failures.{Found, most_listed, none_found}
use Rattle.scan_vectors.specs.Vector.{VectorBit, differs}
use Rattle.play_model.specs.declared.ending.Ending.{Ending}
use Rattle.play_model.specs.declared.ending.Ending.TheVariants.{BadAnswer}
use Rattle.play_model.specs.Events.{Side}
use Rattle.play_model.specs.Play.{Turn, is_bad, turns, up_to_asks}
use Rattle.play_model.specs.Playing.{up_to_bad}
use Rattle.bitbang.specs.Steps.{Program}
use Rattle.play_model.specs.declared.kind.Kind.{Kind}
use Rattle.play_model.specs.declared.kind.Kind.TheVariants.{Stops, PlaysOn}
use Rattle.play_model.specs.PlayingOn.{Mismatch, ending_of}

-- Of all failures a player that stops keeps the first and counts no further; one that plays on counts all and lists the
-- first ones.
abbrev pub most_kept : Kind → ℕ
most_kept Stops = 1
most_kept PlaysOn = most_listed

abbrev pub count_kept : Kind → ℕ → ℕ
count_kept Stops n = min 1 n
count_kept PlaysOn n = n

-- what is kept of all that differed
abbrev pub found_of : Kind → List Mismatch → Found
found_of kind all = record { list = take (most_kept kind) all; total = count_kept kind (length all) }

abbrev pub with_more : Kind → List Mismatch → Found → Found
with_more kind more f =
    record { list = take (most_kept kind) (f.list ++ more); total = count_kept kind (f.total + length more) }

-- the program, how many bytes were given out, how many answers `0` and `1` were taken, what differed, and the other
-- byte, if one came
pub record StreamState : Type 0 where
  pub program : Program
  pub kind : Kind
  pub given : ℕ
  pub answered : ℕ
  pub found : Found
  pub bad : Option ℕ

abbrev pub new_stream : Kind → Program → StreamState
new_stream kind program = record {
  program = program;
  kind = kind;
  given = 0;
  answered = 0;
  found = none_found;
  bad = None;
}

abbrev pub turns_of : StreamState → List Turn
turns_of s = turns s.program.steps

-- a wanted bit and its command
pub record Wanted : Type 0 where
  pub command : ℕ
  pub bit : VectorBit

-- all of a play, one an answer
abbrev pub all_wanted : List Turn → List Wanted
all_wanted [] = []
all_wanted (t ∷ ts) = map (λ v. record { command = t.command; bit = v }) t.wants ++ all_wanted ts

-- what the next answer adds to that
abbrev pub mismatch_of : List Wanted → Bool → List Mismatch
mismatch_of [] b = []
mismatch_of (w ∷ ws) b = if differs w.bit.wanted b
    then record { command = w.command; part = w.bit.part; bit = w.bit.place } ∷ [] else []

-- the command that an answer belongs to, by its place among all answers
abbrev pub command_at : List Turn → ℕ → ℕ
command_at [] n = 0
command_at (t ∷ ts) n = if nat_lt n (length t.wants) then t.command else command_at ts (n - length t.wants)

-- the wanted bits that are not yet answered
abbrev pub unanswered : StreamState → List Wanted
unanswered s = drop s.answered (all_wanted (turns_of s))

-- One answer is judged. After a bad one nothing is heard.
abbrev pub hear : ℕ → StreamState → StreamState
hear byte s =
    if is_some s.bad then s else
    if is_bad byte then record s { bad = Some byte } else
    record s {
      answered = s.answered + 1;
      found = with_more s.kind (mismatch_of (unanswered s) (byte == one_byte)) s.found;
    }

abbrev pub hear_bytes : List ℕ → StreamState → StreamState
hear_bytes [] s = s
hear_bytes (byte ∷ bytes) s = hear_bytes bytes (hear byte s)

abbrev pub some_differ : List Mismatch → Bool
some_differ [] = false
some_differ (f ∷ fs) = true

-- a bit differed and the player stops for it
abbrev pub stops_for : Kind → List Mismatch → Bool
stops_for Stops found = some_differ found
stops_for PlaysOn found = false

abbrev pub stops : StreamState → Bool
stops s = stops_for s.kind s.found.list

-- What may be sent, when so many answers were taken: turns of which all answers are there, then the present one up to
-- the window. A player that stops does so after the turn of the last answer.
abbrev pub may_send : (window : ℕ) → List Turn → (answered : ℕ) → (stops : Bool) → List Message
may_send window [] n stops = Quit ∷ []
may_send window (t ∷ ts) n stops =
    let wants = length t.wants in
    if nat_lt n wants then up_to_asks t.messages (n + window) else
    t.messages ++ (if stops && nat_le n wants then Quit ∷ [] else may_send window ts (n - wants) stops)

-- the command in work
abbrev pub command_at_work : (statements : ℕ) → List Turn → (given answered : ℕ) → (stops : Bool) → ℕ
command_at_work statements [] given n stops = suc statements
command_at_work statements (t ∷ ts) given n stops =
    let wants = length t.wants in
    if nat_lt given (length t.messages) || nat_lt n wants then t.command else
    if stops && nat_le n wants then suc statements
    else command_at_work statements ts (given - length t.messages) (n - wants) stops

abbrev pub working : StreamState → ℕ
working s = command_at_work s.program.statements (turns_of s) s.given s.answered (stops s)

module _ (window : ℕ) where
  abbrev pub bytes_of : StreamState → List ℕ
  bytes_of s = map encode (may_send window (turns_of s) s.answered (stops s))

  abbrev pub bytes_to_send : StreamState → List ℕ
  bytes_to_send s = if is_some s.bad then [] else drop s.given (bytes_of s)

  abbrev pub given_out : StreamState → List ℕ
  given_out s = take s.given (bytes_of s)

  abbrev pub owed : StreamState → ℕ
  owed s = if is_some s.bad then 0 else count_by (λ b. b == ask_byte) (given_out s) - s.answered

  abbrev pub answers_taken : StreamState → List ℕ → List ℕ
  answers_taken s bytes = up_to_bad (take (owed s) bytes)

  abbrev pub ending_of_stream : StreamState → Option Ending
  ending_of_stream s = elim s.bad [
    | Some byte ↦ Some (BadAnswer (command_at (turns_of s) s.answered) byte)
    | None ↦ if list_any (λ b. b == quit_byte) (given_out s) then Some (ending_of s.found.list) else None
  ]

  -- as events see it
  abbrev pub side : Side StreamState
  side = record {
    waiting = bytes_to_send;
    give = λ n s. record s { given = s.given + n };
    hear = λ bit s. hear_bytes (answers_taken s (answer bit ∷ [])) s;
  }

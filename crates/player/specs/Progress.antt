-- What the fields of a player say of where it stands in its play.
use Rattle.std.specs.Prelude.{◌≡◌, ◌≤◌, ◌<◌, ◌+◌, ◌-◌, ℕ, suc, Bool, true, false, List, [], ◌∷◌, ◌++◌, length, take}
use Rattle.std.specs.Prelude.{drop, filter, is_some, None}
use Rattle.jt_tap.specs.Controller.{is_stable}
use Rattle.jt_tap.specs.declared.State.{State}
use Rattle.jt_tap.specs.declared.State.TheVariants.{Reset}
use Rattle.bitbang_protocol.specs.Protocol.{value}
use Rattle.bitbang_protocol.specs.Cycles.{opening}
use Rattle.bitbang.specs.Left.{behind}
use Rattle.bitbang.specs.StepMessages.{step_bytes, step_messages}
use Rattle.bitbang.specs.declared.step_bytes.Spot.{Spot}
use Rattle.scan_vectors.specs.Vector.{VectorBit}
use Rattle.svf_programs.specs.Sound.{AllWithin}
use Rattle.svf_programs.specs.Legal.{AllLegalFrom}
use Rattle.svf_programs.specs.Steps.{Step, Scan, Numbered, Program}
use Rattle.tck_cycles.specs.Cycles.{cycles}
use Rattle.play_model.specs.Play.{step_turns, turns, wants_of}
use Rattle.play_model.specs.Streams.{StreamState, bytes_to_send}
use Rattle.player.specs.declared.progress.Phase.{Phase}
use Rattle.player.specs.declared.progress.Phase.TheVariants.{Opening, Within, Over}
use Rattle.player.specs.declared.progress.Progress.{Progress}
use Rattle.player.specs.PlaceInPlay.{PlaceInPlay, reads, state_at}
use Rattle.player.specs.Window.{window}

-- how many turns are over: the opening is one, and each step
abbrev pub over : Progress → ℕ
over p = elim p.phase [ Opening n ↦ 0 | Within spot ↦ suc p.at | Over out ↦ suc p.at ]

-- how many messages the first of these steps has
abbrev pub first_step_length : State → List Numbered → ℕ
first_step_length place [] = 0
first_step_length place (s ∷ ss) = length (step_messages place s.what)

-- what is left behind a spot of the first of these steps
abbrev pub rest_of : State → List Numbered → Spot → List ℕ
rest_of place [] spot = []
rest_of place (s ∷ ss) spot = behind spot (cycles place s.what)

-- of the present turn, how many messages are out; `Quit` stands behind the turn that failed, or behind all
abbrev pub gone : List Numbered → Progress → ℕ
gone rest p = elim p.phase [
  | Opening n ↦ n
  | Within spot ↦ first_step_length p.place rest - length (rest_of p.place rest spot)
  | Over out ↦ first_step_length p.place rest + value out
]

abbrev pub standing_at : List Numbered → Progress → PlaceInPlay
standing_at steps p = record {
  over = over p;
  gone = gone (drop p.at steps) p;
  heard = p.heard;
  stopped = p.stopped;
  bad = p.bad;
}

-- the player that its fields say
abbrev pub state_of : Program → Progress → StreamState
state_of program p = state_at program (standing_at program.steps p)

-- the bits of the vector of a step
abbrev pub vector_bits : Step → List VectorBit
vector_bits (Scan column v end) = v
vector_bits _ = []

-- A step begins here, and those from it on are legal and within the limits.
pub record Rests (steps : List Numbered) (at : ℕ) (place : State) : Type 0 where
  pub stable : is_stable place ≡ true
  pub line : Bool
  pub legal : AllLegalFrom place line (drop at steps)
  pub within : AllWithin (drop at steps)
  pub turns_are : drop (suc at) (turns steps) ≡ step_turns place (drop at steps)

-- before the first step
pub record InOpening (n : ℕ) (p : Progress) : Type 0 where
  pub some : n ≤ length opening
  pub at : p.at ≡ 0
  pub place : p.place ≡ Reset
  pub heard : p.heard ≡ 0
  pub owed : p.owed ≡ 0
  pub stopped : p.stopped ≡ false
  pub bad : p.bad ≡ None

-- in a step: what is left of it, and of the answers to what is out some are heard and the others owed
pub record InStep (spot : Spot) (rest : List Numbered) (p : Progress) : Type 0 where
  pub step : Numbered
  pub later : List Numbered
  pub is : rest ≡ step ∷ later
  pub left : rest_of p.place rest spot ≡ drop (gone rest p) (step_bytes p.place step.what)
  pub some : length (rest_of p.place rest spot) ≤ first_step_length p.place rest
  pub asked : reads (take (gone rest p) (step_bytes p.place step.what)) ≡ p.heard + p.owed
  pub allowed : p.owed ≤ window
  pub judged : p.stopped ≡ false
      → filter (λ v. is_some v.wanted) (drop p.judged (vector_bits step.what)) ≡ drop p.heard (wants_of step.what)
  pub fair : p.stopped ≡ true → 0 < p.heard
  pub bad : is_some p.bad ≡ true → 0 < p.owed

-- behind the last step, or behind one that failed
pub record IsOver (rest : List Numbered) (p : Progress) : Type 0 where
  pub passed : p.stopped ≡ false → (rest ≡ []) × (p.heard ≡ 0)
  pub stopped : p.stopped ≡ true
      → (step : Numbered) × (later : List Numbered) × (rest ≡ step ∷ later) × (p.heard ≡ length (wants_of step.what))
      × (0 < p.heard)
  pub owed : p.owed ≡ 0
  pub bad : p.bad ≡ None

abbrev pub InPhase : List Numbered → Progress → Phase → Type 0
InPhase rest p phase = elim phase [
  | Opening n ↦ InOpening n p
  | Within spot ↦ InStep spot rest p
  | Over out ↦ IsOver rest p
]

-- the fields of a player of these steps
pub record IsProgressOf (steps : List Numbered) (p : Progress) : Type 0 where
  pub rests : Rests steps p.at p.place
  pub phase : InPhase (drop p.at steps) p p.phase

-- something is to be done before another turn begins: a byte to give out, or an answer to hear
abbrev pub HasWorkLeft : List Numbered → Progress → Phase → Type 0
HasWorkLeft rest p phase = elim phase [
  | Opening n ↦ n < length opening
  | Within spot ↦ (rest_of p.place rest spot ≡ []) → 0 < p.owed
  | Over out ↦ Unit {0}
]

-- the turns that are left, at most
abbrev pub ahead : List Numbered → Progress → ℕ
ahead steps p = elim p.phase [ Opening n ↦ length steps + 2 | Within spot ↦ length steps - p.at + 1 | Over out ↦ 0 ]

-- Bytes were given out to the front of a buffer: the next that wait, as many as were counted; none only where there is
-- no room or nothing waits. Where they leave room while answers are owed, nothing more waits.
pub record Gives (program : Program) (p : Progress) (buffer after : List ℕ) (next : Progress)
    (count : ℕ) : Type 0 where
  pub stands : IsProgressOf program.steps next
  pub good : next.bad ≡ None
  pub state : state_of program next ≡ record (state_of program p) { given = (state_of program p).given + count }
  pub some : count ≤ length (bytes_to_send window (state_of program p))
  pub room : count ≤ length buffer
  pub bytes : after ≡ take count (bytes_to_send window (state_of program p)) ++ drop count buffer
  pub none : 0 < length buffer → count ≡ 0 → bytes_to_send window (state_of program p) ≡ []
  pub held : count < length buffer → 0 < next.owed → bytes_to_send window (state_of program next) ≡ []

-- `Q` is out
abbrev pub is_out : Phase → Bool
is_out (Opening n) = false
is_out (Within spot) = false
is_out (Over out) = out

-- The full play of either kind, one turn after another.
use Rattle.std.proofs.Common.{◌≡◌, ℕ, List, [], ◌∷◌, ◌++◌, refl, sym, ap, ◌∙◌, append_assoc, map, Some, None}
use Rattle.jt_tap.specs.declared.State.{State}
use Rattle.bitbang_protocol.specs.declared.Message.TheVariants.{Quit}
use Rattle.jt_tap.specs.declared.State.TheVariants.{Reset}
use Rattle.bitbang_protocol.specs.declared.Message.{Message}
use Rattle.bitbang_protocol.specs.Protocol.{encode}
use Rattle.bitbang_protocol.specs.Cycles.{opening}
use Rattle.bitbang.specs.StepMessages.{step_bytes, step_messages}
use Rattle.scan_vectors.specs.declared.part.Part.{Part}
use Rattle.scan_vectors.specs.Vector.{judge}
use Rattle.svf_programs.specs.Steps.{Numbered, place_after}
use Rattle.board_model.specs.Chain.{BoardState, Heard, hear}
use Rattle.play_model.specs.declared.kind.Kind.{Kind}
use Rattle.play_model.specs.declared.kind.Kind.TheVariants.{PlaysOn, Stops}
use Rattle.play_model.specs.declared.ending.Ending.{Ending}
use Rattle.play_model.specs.declared.ending.Ending.TheVariants.{Fail, Pass}
use Rattle.play_model.specs.Play.{Played, Turn, full_play, step_turns, wants_of}
use Rattle.play_model.specs.PlayingOn.{unjudged}
use Rattle.play_model.specs.ScheduleLaws.{full}
use Rattle.play_model.proofs.AllFailures.{never}
use Rattle.play_model.proofs.Asks.{played_of}

map-append : (xs ys : List Message) → map encode (xs ++ ys) ≡ map encode xs ++ map encode ys
map-append [] ys = refl
map-append (x ∷ xs) ys = ap (λ (l : List ℕ). encode x ∷ l) (map-append xs ys)

-- the bytes of a full play
abbrev pub bytes-of : Played → List ℕ
bytes-of p = map encode p.messages

abbrev pub opening_bytes : List ℕ
opening_bytes = map encode opening

-- the turns of these steps, as a play of either kind makes them
abbrev pub turns_from : Kind → State → List Numbered → List Turn
turns_from Stops place ss = step_turns place ss
turns_from PlaysOn place ss = map unjudged (step_turns place ss)

-- These bytes of a whole play were sent, and the rest of it is this one.
pub record GoesOn (whole rest : Played) (sent : List ℕ) : Type 0 where
  pub bytes : bytes-of whole ≡ sent ++ bytes-of rest
  pub board : whole.board ≡ rest.board
  pub ending : whole.ending ≡ rest.ending

-- a play of which all is sent but `Q`
abbrev pub over : Ending → BoardState → Played
over ending board = record { messages = Quit ∷ []; answers = []; ending = ending; board = board }

-- after one more turn of it
one_turn : (whole rest next : Played) (sent : List ℕ) (messages : List Message) → GoesOn whole rest sent
    → rest.messages ≡ messages ++ next.messages → rest.board ≡ next.board → rest.ending ≡ next.ending → GoesOn whole next (sent ++ map encode messages)
one_turn whole rest next sent messages g said board ending = record {
  bytes = g.bytes ∙ ap (λ (ms : List Message). sent ++ map encode ms) said ∙ ap (λ (l : List ℕ). sent ++ l) (map-append messages next.messages)
      ∙ sym (append_assoc sent (map encode messages) (bytes-of next));
  board = g.board ∙ board;
  ending = g.ending ∙ ending;
}

-- the opening comes first
pub opens : (kind : Kind) (steps : List Numbered) (b : BoardState)
    → GoesOn (full kind steps b) (full_play (turns_from kind Reset steps) (hear opening b).board) opening_bytes
opens Stops steps b = record {
  bytes = map-append opening (full_play (step_turns Reset steps) (hear opening b).board).messages;
  board = refl;
  ending = refl;
}
opens PlaysOn steps b = record {
  bytes = map-append opening (full_play (map unjudged (step_turns Reset steps)) (hear opening b).board).messages;
  board = refl;
  ending = refl;
}

abbrev pub heard-of : State → Numbered → BoardState → Heard
heard-of place s b = hear (step_messages place s.what) b

module _ (place : State) (s : Numbered) (ss : List Numbered) (b : BoardState) (whole : Played) (sent : List ℕ) where
  abbrev turn : Turn
  turn = record { command = s.number; messages = step_messages place s.what; wants = wants_of s.what }

  abbrev later : List Turn
  later = step_turns (place_after place s.what) ss

  -- a step that a play does not stop for is followed by the others
  pub passes : (kind : Kind) → (kind ≡ Stops → judge (wants_of s.what) (heard-of place s b).answers ≡ None)
      → GoesOn whole (full_play (turns_from kind place (s ∷ ss)) b) sent
      → GoesOn whole (full_play (turns_from kind (place_after place s.what) ss) (heard-of place s b).board) (sent ++ step_bytes place s.what)
  passes Stops none g =
      let is : full_play (turn ∷ later) b ≡ played_of turn later (heard-of place s b) None = ap (played_of turn later (heard-of place s b)) (none refl) in
      one_turn whole (full_play (turn ∷ later) b) (full_play later (heard-of place s b).board) sent (step_messages place s.what) g
      (ap (λ (p : Played). p.messages) is) (ap (λ (p : Played). p.board) is) (ap (λ (p : Played). p.ending) is)
  passes PlaysOn none g =
      let t = unjudged turn in
      let ts = map unjudged later in
      let is : full_play (t ∷ ts) b ≡ played_of t ts (heard-of place s b) None = ap (played_of t ts (heard-of place s b)) (never (wants_of s.what) (heard-of place s b).answers) in
      one_turn whole (full_play (t ∷ ts) b) (full_play ts (heard-of place s b).board) sent (step_messages place s.what) g
      (ap (λ (p : Played). p.messages) is) (ap (λ (p : Played). p.board) is) (ap (λ (p : Played). p.ending) is)

  -- one that fails ends a play that stops for it
  pub fails : (f : Part × ℕ) → judge (wants_of s.what) (heard-of place s b).answers ≡ Some f → GoesOn whole (full_play (step_turns place (s ∷ ss)) b) sent
      → GoesOn whole (over (Fail s.number f.0 f.1) (heard-of place s b).board) (sent ++ step_bytes place s.what)
  fails f some g =
      let is : full_play (turn ∷ later) b ≡ played_of turn later (heard-of place s b) (Some f) = ap (played_of turn later (heard-of place s b)) some in
      one_turn whole (full_play (turn ∷ later) b) (over (Fail s.number f.0 f.1) (heard-of place s b).board) sent (step_messages place s.what) g
      (ap (λ (p : Played). p.messages) is) (ap (λ (p : Played). p.board) is) (ap (λ (p : Played). p.ending) is)

-- where no step is left, all is sent but `Q`
pub none-left : (kind : Kind) (place : State) (b : BoardState) → full_play (turns_from kind place []) b ≡ over Pass b
none-left Stops place b = refl
none-left PlaysOn place b = refl

-- Over an honest link, for any window, a player of either kind that has ended has the full play's verdict.
use Rattle.std.proofs.Common.{◌≡◌, Bool, true, false, ◌||◌, ℕ, zero, suc, ◌==◌, List, [], ◌∷◌, ◌++◌, map, take, refl, sym, ap, ◌∙◌, subst, append-nil, Some, None}
use Rattle.std.specs.Prelude.{if◌then◌else◌}
use Rattle.std.specs.List.{list_any}
use Rattle.bitbang_protocol.specs.declared.Message.{Message}
use Rattle.bitbang_protocol.specs.Protocol.{answer, encode}
use Rattle.board_model.specs.Chain.{BoardState, after_bytes, hear}
use Rattle.board_model.proofs.BytesAndMessages.{after_all-encoded}
use Rattle.play_model.specs.declared.ending.Ending.TheVariants.{Pass}
use Rattle.play_model.specs.Play.{Played, Turn, ending_for, full_play, is_bad, play, sent, turns}
use Rattle.play_model.specs.Playing.{PlayerState, has_bad_answer}
use Rattle.play_model.specs.declared.kind.Kind.{Kind}
use Rattle.play_model.specs.declared.kind.Kind.TheVariants.{Stops, PlaysOn}
use Rattle.play_model.specs.PlayingOn.{ending_of, failures, turns_for, unjudged}
use Rattle.play_model.proofs.Asks.{hear-full, sent-full, turns-ask, played_of}
use Rattle.play_model.proofs.GrowthByPrefix.{sent-grows}
use Rattle.play_model.specs.Fronts.{IsPrefix}
use Rattle.play_model.specs.ScheduleLaws.{bytes_of_full_play, full}
use Rattle.play_model.specs.Sides.{answers_to_bytes}
use Rattle.play_model.proofs.AllFailures.{first_of_all_played, never}
use Rattle.play_model.proofs.BothPlayers.{ask-for, no-quit-for}
use Rattle.play_model.proofs.Fronts.{front-take, front-trans}
use Rattle.play_model.proofs.HonestLinks.{ending-full, honest, none-bad-any, told-bits}
use Rattle.play_model.proofs.InsideFullPlay.{hear-front}
use Rattle.play_model.proofs.Quits.{full-last, has_quit, quit-append, sent-whole}
use Rattle.play_model.proofs.SafetyLaws.{answered-encoded}
use Rattle.play_model.specs.Histories.{ending_of_history, given_out, has_ended, verdict, verdict_of}
use Rattle.play_model.specs.StreamLaws.{AnHonestVerdictForAnyWindow}
use Rattle.play_model.proofs.Agree.{quit-byte}

pub take-encoded : (n : ℕ) (ms : List Message) → take n (map encode ms) ≡ map encode (take n ms)
take-encoded zero ms = refl
take-encoded (suc n) [] = refl
take-encoded (suc n) (m ∷ ms) = ap (λ l. encode m ∷ l) (take-encoded n ms)

-- Of both kinds the verdict of all answers is that of the play that stops.
verdict-full : (kind : Kind) (window : ℕ) (p : PlayerState) (b : BoardState) → p.got ≡ map answer (full kind p.program.steps b).answers
    → verdict kind window p ≡ Some (play p.program b).ending
verdict-full Stops window p b e = ap (ending_for (turns p.program.steps)) e ∙ ending-full (turns p.program.steps) b (turns-ask p.program.steps)
verdict-full PlaysOn window p b e =
    let A = (full PlaysOn p.program.steps b).answers in
    ap (verdict_of PlaysOn window p)
    (ap (ending_for (turns_for PlaysOn p.program.steps)) e ∙ ending-full (turns_for PlaysOn p.program.steps) b (ask-for PlaysOn p.program.steps)
    ∙ ap (λ v. Some v) (never-fails (turns p.program.steps) b))
    ∙ ap (λ bits. Some (ending_of (failures (turns p.program.steps) bits))) (ap (map (λ b. b == 49)) e ∙ told-bits A)
    ∙ ap (λ v. Some v) (first_of_all_played p.program.steps b)
  where
    never-fails : (ts : List Turn) (b : BoardState) → (full_play (map unjudged ts) b).ending ≡ Pass
    never-fails [] b = refl
    never-fails (t ∷ ts) b =
        ap (λ found. (played_of (unjudged t) (map unjudged ts) (hear t.messages b) found).ending) (never t.wants (hear t.messages b).answers)
        ∙ never-fails ts (hear t.messages b).board

-- an end over an honest link
pub record EndsWhole (kind : Kind) (window : ℕ) (p : PlayerState) (b : BoardState) : Type 0 where
  pub ending : ending_of_history kind window p ≡ Some (play p.program b).ending
  pub bytes : given_out kind window p ≡ bytes_of_full_play kind p.program.steps b
  pub answers : p.got ≡ map answer (full kind p.program.steps b).answers
  pub board : after_bytes (given_out kind window p) b ≡ (full kind p.program.steps b).board

-- the bits of an honest link, and where they lead
module _ (kind : Kind) (window : ℕ) (p : PlayerState) (b : BoardState) (bits : List Bool) (told : p.got ≡ map answer bits)
    (front : IsPrefix bits (answers_to_bytes (given_out kind window p) b)) where
  abbrev pub ts : List Turn
  ts = turns_for kind p.program.steps

  abbrev pub whole : Played
  whole = full kind p.program.steps b

  abbrev pub S : List Message
  S = sent window ts bits

  pub bits_are : map (λ b. b == 49) p.got ≡ bits
  bits_are = ap (map (λ b. b == 49)) told ∙ told-bits bits

  pub out_is : given_out kind window p ≡ map encode (take p.given S)
  out_is = ap (λ g. take p.given (map encode (sent window ts g))) bits_are ∙ take-encoded p.given S

  out_front : IsPrefix (take p.given S) S
  out_front = front-take p.given S

  heard : IsPrefix bits (hear S b).answers
  heard = front-trans _ _ _
      (subst (λ l. IsPrefix bits l) (ap (λ l. answers_to_bytes l b) out_is ∙ answered-encoded (take p.given S) b) front)
      (hear-front (take p.given S) S b out_front)

  pub within : IsPrefix bits whole.answers
  within = honest window ts b (ask-for kind p.program.steps) bits heard

  pub allowed : IsPrefix S whole.messages
  allowed =
      let more = sent-grows window ts bits within.0 in
      (more.0, more.1 ∙ ap (sent window ts) within.1 ∙ sent-full window ts b (ask-for kind p.program.steps))

  pub ends_whole : has_ended kind window p ≡ true → EndsWhole kind window p b
  ends_whole over =
      record {
        ending = ap (λ (e : Bool). if e then verdict kind window p else None) over ∙ verdict-full kind window p b got_is;
        bytes = out_is ∙ ap (map encode) out_all;
        answers = got_is;
        board = ap (λ l. after_bytes l b) (out_is ∙ ap (map encode) out_all) ∙ after_all-encoded whole.messages b
            ∙ ap (λ h. h.board) (hear-full ts b);
      }
    where
      not_bad : has_bad_answer p ≡ false
      not_bad = ap (list_any is_bad) told ∙ none-bad-any bits

      quit_out : has_quit (take p.given S) ≡ true
      quit_out = sym (quit-byte (take p.given S)) ∙ ap (list_any (λ b. b == 81)) (sym out_is)
          ∙ sym (ap (λ bad. bad || list_any (λ b. b == 81) (given_out kind window p)) not_bad) ∙ over

      quit_sent : has_quit S ≡ true
      quit_sent = ap has_quit (sym out_front.1) ∙ quit-append (take p.given S) out_front.0 ∙ ap (λ q. q || has_quit out_front.0) quit_out

      got_all : bits ≡ whole.answers
      got_all =
          let none = sent-whole window ts b (ask-for kind p.program.steps) (no-quit-for kind p.program.steps) bits within.0 within.1 quit_sent in
          sym (append-nil bits) ∙ ap (λ l. bits ++ l) (sym none) ∙ within.1

      got_is : p.got ≡ map answer whole.answers
      got_is = told ∙ ap (map answer) got_all

      S_is : S ≡ whole.messages
      S_is = ap (sent window ts) got_all ∙ sent-full window ts b (ask-for kind p.program.steps)

      out_all : take p.given S ≡ whole.messages
      out_all =
          let none = full-last ts b (no-quit-for kind p.program.steps) (take p.given S) out_front.0 (out_front.1 ∙ S_is) quit_out in
          sym (append-nil (take p.given S)) ∙ ap (λ l. take p.given S ++ l) (sym none) ∙ out_front.1 ∙ S_is

pub honest_verdict : AnHonestVerdictForAnyWindow
honest_verdict window p b got same front over =
    let w = ends_whole Stops window p b got same front over in
    record { ending = w.ending; bytes = w.bytes; board = w.board }

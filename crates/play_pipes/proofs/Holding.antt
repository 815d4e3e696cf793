-- What the pipes hold, by the messages that the board took and those that are on their way.
use Rattle.std.proofs.Common.{◌≡◌, Bool, true, false, ◌||◌, ℕ, ◌+◌, ◌-◌, ◌==◌, List, [], ◌∷◌, ◌++◌, count_by, map, length, take, refl, sym, ap, ◌∙◌, subst, arith, append_assoc, length-append, Option, Some, None}
use Rattle.std.specs.Prelude.{if◌then◌else◌, is_some}
use Rattle.std.specs.List.{list_any}
use Rattle.std.proofs.lemmas.List.{length-map, map-append}
use Rattle.std.proofs.Math.Seq.{take-append_seam}
use Rattle.bitbang_protocol.specs.declared.Message.{Message}
use Rattle.bitbang_protocol.specs.declared.Message.TheVariants.{Write, Ask, Quit, Light, Lines}
use Rattle.bitbang_protocol.specs.Protocol.{answer, encode}
use Rattle.svf_programs.specs.Steps.{Program}
use Rattle.board_model.specs.Chain.{BoardState, hear}
use Rattle.play_model.specs.declared.ending.Ending.{Ending}
use Rattle.play_model.specs.Events.{Event, Known, World, before_events as fresh_world, by_answers, run}
use Rattle.play_model.specs.Play.{Turn, player, sent}
use Rattle.play_model.specs.Playing.{PlayerState}
use Rattle.play_model.specs.declared.kind.Kind.{Kind}
use Rattle.play_model.specs.PlayingOn.{turns_for}
use Rattle.play_model.specs.Streams as stream
use Rattle.play_model.specs.Streams.{StreamState}
use Rattle.play_model.proofs.Asks.{asks, hear-asks}
use Rattle.play_model.specs.Fronts.{IsPrefix}
use Rattle.play_model.specs.Histories as history
use Rattle.play_model.specs.Histories.{bits_told}
use Rattle.play_model.specs.ScheduleLaws.{full}
use Rattle.play_model.specs.StreamLaws.{history_of}
use Rattle.play_model.proofs.Agree.{agree, ask-count, counts, quit-byte}
use Rattle.play_model.proofs.BothPlayers.{no-quit-for}
use Rattle.play_model.proofs.Fronts.{front-left, front-trans}
use Rattle.play_model.proofs.HonestLinks.{none-bad-any, told-bits}
use Rattle.play_model.proofs.InsideFullPlay.{sends-front}
use Rattle.play_model.proofs.Quits.{asks-append, full-last, has_quit, or-right, quit-append}
use Rattle.play_model.proofs.SafetyLaws.{In, is-play, reached}
use Rattle.play_model.proofs.ScheduleSteps.{asked}
use Rattle.play_pipes.specs.Holding.{HoldsWhatIsOwed, WhatIsJoinedHoldsWhatIsOwed}
use Rattle.play_pipes.specs.Laws.{joined_after_of}
use Rattle.play_pipes.proofs.RoundsEnd.{carries, link, world_of}

-- ---- `Quit` among messages

-- where it stands
split : (ms : List Message) → has_quit ms ≡ true → (before behind : List Message) × (ms ≡ before ++ Quit ∷ behind)
split [] e = absurd (cc)
split (Quit ∷ ms) e = ([], ms, refl)
split (Ask ∷ ms) e = let s = split ms e in (Ask ∷ s.0, s.1, ap (λ (l : List Message). Ask ∷ l) s.2)
split (Write tck tms tdi ∷ ms) e =
    let s = split ms e in (Write tck tms tdi ∷ s.0, s.1, ap (λ (l : List Message). Write tck tms tdi ∷ l) s.2)
split (Light l ∷ ms) e = let s = split ms e in (Light l ∷ s.0, s.1, ap (λ (r : List Message). Light l ∷ r) s.2)
split (Lines t r ∷ ms) e = let s = split ms e in (Lines t r ∷ s.0, s.1, ap (λ (l : List Message). Lines t r ∷ l) s.2)

first-empty : (xs ys : List Message) → xs ++ ys ≡ [] → xs ≡ []
first-empty [] ys e = refl
first-empty (x ∷ xs) ys e = absurd (cc)

has-it : (before behind : List Message) → has_quit (before ++ Quit ∷ behind) ≡ true
has-it before behind = quit-append before (Quit ∷ behind) ∙ by (has_quit before)
  where
    by : (b : Bool) → (b || true) ≡ true
    by true = refl
    by false = refl

-- ---- a play

module _ (kind : Kind) (program : Program) (b : BoardState) (down_room up_room : ℕ) (es : List Event) where
  abbrev ts : List Turn
  ts = turns_for kind program.steps

  abbrev k : World Known
  k = run (by_answers (player 256 ts)) down_room up_room es (fresh_world b)

  abbrev w : World StreamState
  w = joined_after_of kind program b down_room up_room es

  abbrev past : PlayerState
  past = history_of program k.player

  same : w ≡ world_of kind program k
  same = carries kind program b down_room up_room es

  module _ (took queued : List Message) (i : In (link kind down_room up_room) program.steps b took queued k) where
    -- what was given out
    out : history.given_out kind 256 past ≡ map encode (took ++ queued)
    out = (λ j. take (i.given j) (map encode (sent 256 ts (told-bits k.player.got j))))
        ∙ ap (λ (ms : List Message). take (length (took ++ queued)) (map encode ms)) (sym i.sent.1)
        ∙ (λ j. take (sym (length-map (took ++ queued) encode) j) (map-append encode (took ++ queued) i.sent.0 j))
        ∙ take-append_seam (map encode (took ++ queued)) (map encode i.sent.0)

    asked-for : length k.player.got + length k.up ≡ asks took
    asked-for = sym (length-append k.player.got k.up) ∙ sym (ap (λ h. length h.answers) i.told) ∙ hear-asks took b

    history-owes : history.owed kind 256 past ≡ asks queued + length k.up
    history-owes =
        (λ j. if none-bad-any k.player.got j then 0 else count_by (λ b. b == 82) (out j) - length (map answer k.player.got))
        ∙ omega (arith, counts (map encode (took ++ queued)), ask-count (took ++ queued), asks-append took queued, asked-for, length-map k.player.got answer)

    pub owes : stream.owed 256 w.player ≡ count_by (λ b. b == 82) w.down + length w.up
    owes =
        ap (λ (v : World StreamState). stream.owed 256 v.player) same
        ∙ (agree kind 256 past (asked kind 256 program b down_room up_room es)).owed
        ∙ history-owes
        ∙ (λ j. (sym (ask-count queued) ∙ sym (counts (map encode queued)) ∙ ap (count_by (λ b. b == 82)) (sym i.down)) j + length k.up)
        ∙ ap (λ (v : World StreamState). count_by (λ b. b == 82) v.down + length v.up) (sym same)

    inside : IsPrefix (took ++ queued) (full kind program.steps b).messages
    inside = front-trans _ _ _ i.sent
        (sends-front (sent 256 ts) b (full kind program.steps b).board (full kind program.steps b).messages (full kind program.steps b).answers
        down_room up_room (is-play kind 256 program.steps b) k.player.got (front-left k.player.got k.up (full kind program.steps b).answers i.answers))

    pub last-one : (before behind : List Message) → queued ≡ before ++ Quit ∷ behind → behind ≡ []
    last-one before behind is =
        let front = took ++ (before ++ (Quit ∷ [])) in
        let seam : (took ++ (before ++ (Quit ∷ []))) ++ (behind ++ inside.0) ≡ (full kind program.steps b).messages =
        append_assoc took (before ++ Quit ∷ []) (behind ++ inside.0)
        ∙ ap (λ (l : List Message). took ++ l) (append_assoc before (Quit ∷ []) (behind ++ inside.0) ∙ sym (append_assoc before (Quit ∷ behind) inside.0))
        ∙ sym (append_assoc took (before ++ Quit ∷ behind) inside.0)
        ∙ ap (λ (l : List Message). (took ++ l) ++ inside.0) (sym is)
        ∙ inside.1 in
        let some : has_quit front ≡ true = quit-append took (before ++ Quit ∷ []) ∙ ap (λ (q : Bool). has_quit took || q) (has-it before []) ∙ either (has_quit took) in
        first-empty behind inside.0 (full-last ts b (no-quit-for kind program.steps) front (behind ++ inside.0) seam some)
      where
        either : (q : Bool) → (q || true) ≡ true
        either true = refl
        either false = refl

    ended : (e : Bool) (v : Option Ending) → is_some (if e then v else None) ≡ true → e ≡ true
    ended true v some = refl
    ended false v some = absurd (cc)

    pub stands-last : is_some (stream.ending_of_stream 256 w.player) ≡ true → w.quit ≡ false → (before : List Message) × (queued ≡ before ++ Quit ∷ [])
    stands-last some quit =
        let told : is_some (history.ending_of_history kind 256 past) ≡ true =
        ap is_some (sym (agree kind 256 past (asked kind 256 program b down_room up_room es)).ended)
        ∙ ap (λ (v : World StreamState). is_some (stream.ending_of_stream 256 v.player)) (sym same) ∙ some in
        let has : has_quit (took ++ queued) ≡ true =
        sym ((λ j. none-bad-any k.player.got j || list_any (λ b. b == 81) (out j)) ∙ quit-byte (took ++ queued))
        ∙ ended (history.has_ended kind 256 past) (history.verdict kind 256 past) told in
        let taken : has_quit took ≡ false = sym i.quit ∙ ap (λ (v : World StreamState). v.quit) (sym same) ∙ quit in
        let later : has_quit queued ≡ true = sym (quit-append took queued ∙ or-right (has_quit took) (has_quit queued) taken) ∙ has in
        let s = split queued later in
        (s.0, s.2 ∙ ap (λ (l : List Message). s.0 ++ Quit ∷ l) (last-one s.0 s.1 s.2))

pub holds : WhatIsJoinedHoldsWhatIsOwed
holds kind program b down_room up_room es =
    let r = reached (link kind down_room up_room) program.steps b es in
    record {
      queued = r.queued;
      down = ap (λ (v : World StreamState). v.down) (carries kind program b down_room up_room es) ∙ r.inside.down;
      owed = owes kind program b down_room up_room es r.took r.queued r.inside;
      last = last-one kind program b down_room up_room es r.took r.queued r.inside;
      stands = stands-last kind program b down_room up_room es r.took r.queued r.inside;
    }

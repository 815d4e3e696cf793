-- Each round adds to a sum that the program bounds.
use Rattle.std.proofs.Common.{◌≡◌, Bool, true, false, ◌||◌, ℕ, ◌+◌, ◌-◌, ◌*◌, ◌<◌, ◌≤◌, List, [], ◌∷◌, ◌++◌, map, length, refl, sym, ap, ◌∙◌, subst, arith, length-append, lt-ltb, Option, Some, None}
use Rattle.bitbang_protocol.specs.declared.Message.TheVariants.{Quit}
use Rattle.board_model.specs.Chain.{BoardState, hear}
use Rattle.scan_vectors.specs.declared.part.Part.{Part}
use Rattle.scan_vectors.specs.Vector.{judge}
use Rattle.play_model.specs.Events.{Event, Put, Serve, Take, Known, World, by_answers, empty_pipes, before_events as fresh_world, run}
use Rattle.play_model.specs.Play.{Turn, Played, full_play, player, sent}
use Rattle.play_model.specs.Streams.{StreamState, new_stream}
use Rattle.bitbang_protocol.specs.Protocol.{answer}
use Rattle.play_model.specs.StreamLaws.{good, history_of, stream_of, with_player}
use Rattle.play_model.proofs.ScheduleSteps.{carry_over}
use Rattle.play_model.specs.ScheduleLaws.{Connection}
use Rattle.svf_programs.specs.Steps.{Program}
use Rattle.play_model.proofs.Asks.{AllAsk, hear-asks, played_of}
use Rattle.std.specs.List.{list_any}
use Rattle.play_model.specs.Fair.{HasNoLose, IsFair, loses}
use Rattle.play_model.specs.InWork.{answers_in, bytes_in}
use Rattle.play_model.specs.ScheduleLaws.{full}
use Rattle.play_model.specs.declared.kind.Kind.{Kind}
use Rattle.play_model.specs.PlayingOn.{turns_for}
use Rattle.play_model.proofs.BothPlayers.{ask-for}
use Rattle.play_model.proofs.MovingEvents.{total}
use Rattle.play_model.proofs.Progress.{fair-moves, moving-total, total-bound}
use Rattle.play_model.proofs.Quits.{sent-eager}
use Rattle.play_model.proofs.Runs.{run-append}
use Rattle.play_model.proofs.SafetyLaws.{is-play, reached}
use Rattle.play_pipes.specs.Finishing.{IsReached, afresh}
use Rattle.play_pipes.specs.Standing.{is_over}
use Rattle.play_pipes.specs.Joining.{JoinedState, side}

-- bytes given out, bytes taken, answers taken
abbrev pub sum_of : World StreamState → ℕ
sum_of w = w.player.given + (w.player.given - length w.down) + w.player.answered

-- the most that it can be for a player, whatever the board answers
abbrev pub most : StreamState → ℕ
most p = let ts = turns_for p.kind p.program.steps in 2 * (bytes_in ts + 1) + answers_in ts

-- as much as may be, each way
abbrev pub a_round : ℕ → List Event
a_round n = Put n ∷ Serve n ∷ Take n ∷ []

-- whatever the board answers, a play has no more than the program's bytes and `Q`, and no more than its answers
pub record IsWithin (ts : List Turn) (p : Played) : Type 0 where
  pub bytes : length p.messages ≤ bytes_in ts + 1
  pub answers : length p.answers ≤ answers_in ts

within : (ts : List Turn) (b : BoardState) → AllAsk ts → IsWithin ts (full_play ts b)
within [] b all = record { bytes = omega arith; answers = omega arith }
within (t ∷ ts) b all = one (judge t.wants (hear t.messages b).answers) (within ts (hear t.messages b).board all.1)
  where
    H : List Bool
    H = (hear t.messages b).answers

    long : length H ≡ length t.wants
    long = hear-asks t.messages b ∙ all.0

    one : (found : Option (Part × ℕ)) → IsWithin ts (full_play ts (hear t.messages b).board)
        → IsWithin (t ∷ ts) (played_of t ts (hear t.messages b) found)
    one None rest = record {
      bytes = omega (arith, rest.bytes, length-append t.messages (full_play ts (hear t.messages b).board).messages);
      answers = omega (arith, rest.answers, long, length-append H (full_play ts (hear t.messages b).board).answers);
    }
    one (Some f) rest = record {
      bytes = omega (arith, length-append t.messages (Quit ∷ []));
      answers = omega (arith, long);
    }

abbrev pub link : Kind → ℕ → ℕ → Connection
link kind down_room up_room = record { kind = kind; window = 256; down_room = down_room; up_room = up_room }

-- the player, as what is known of it says
abbrev pub world_of : Kind → Program → World Known → World StreamState
world_of kind program w = with_player (λ p. stream_of kind (history_of program p)) w

pub carries : (kind : Kind) (program : Program) (b : BoardState) (down_room up_room : ℕ) (es : List Event)
    → run side down_room up_room es (empty_pipes (new_stream kind program) b)
    ≡ world_of kind program (run (by_answers (player 256 (turns_for kind program.steps))) down_room up_room es (fresh_world b))
carries kind program b down_room up_room es = carry_over kind 256 program b down_room up_room es

-- every answer that a board gives is one
pub good-all : (got : List Bool) → good (map answer got) ≡ map answer got
good-all [] = refl
good-all (true ∷ got) = ap (λ l. answer true ∷ l) (good-all got)
good-all (false ∷ got) = ap (λ l. answer false ∷ l) (good-all got)

pub good-answers : (got : List Bool) → length (good (map answer got)) ≡ length got
good-answers [] = refl
good-answers (true ∷ got) = let rest = good-answers got in omega (arith, rest)
good-answers (false ∷ got) = let rest = good-answers got in omega (arith, rest)

sum-same : (kind : Kind) (program : Program) (k : World Known) → sum_of (world_of kind program k) ≡ total k
sum-same kind program k = omega (arith, good-answers k.player.got)

pub neither : (q l : Bool) → (q || l) ≡ false → (q ≡ false) × (l ≡ false)
neither true l e = absurd (cc)
neither false l e = (refl, e)

module _ (kind : Kind) (program : Program) (b : BoardState) (down_room up_room : ℕ) where
  abbrev start : World StreamState
  start = empty_pipes (new_stream kind program) b

  abbrev known : List Event → World Known
  known es = run (by_answers (player 256 (turns_for kind program.steps))) down_room up_room es (fresh_world b)

  abbrev at : List Event → World StreamState
  at es = run side down_room up_room es start

  -- its kind and its program stay
  pub afresh-kept : (es : List Event) → afresh (at es).player ≡ new_stream kind program
  afresh-kept es = ap (λ (w : World StreamState). afresh w.player) (carries kind program b down_room up_room es)

  pub sum-bounded : (es : List Event) → sum_of (at es) ≤ most (new_stream kind program)
  sum-bounded es =
      let r = reached (link kind down_room up_room) program.steps b es in
      let limit = total-bound (sent 256 (turns_for kind program.steps)) b (full kind program.steps b).board (full kind program.steps b).messages
      (full kind program.steps b).answers down_room up_room (is-play kind 256 program.steps b) r.took r.queued (known es) r.inside in
      let w = within (turns_for kind program.steps) b (ask-for kind program.steps) in
      omega (arith, limit, w.bytes, w.answers, ap sum_of (carries kind program b down_room up_room es), sum-same kind program (known es))

  a-round-fair : (n : ℕ) → 0 < n → IsFair (a_round n)
  a-round-fair n some =
      let yes = lt-ltb 0 n some in
      record {
        put = λ i. yes i || false;
        serve = λ i. yes i || false;
        take = λ i. yes i || false;
        kept = refl;
      }

  pub round-adds : (es : List Event) (n : ℕ) → 0 < n → 0 < down_room → 0 < up_room → is_over (at es) ≡ false
      → sum_of (at es) < sum_of (run side down_room up_room (a_round n) (at es))
  round-adds es n some down_some up_some going =
      let k = known es in
      let same = carries kind program b down_room up_room es in
      let parts = neither k.quit k.lost (ap is_over (sym same) ∙ going) in
      let r = reached (link kind down_room up_room) program.steps b es in
      let S = sent 256 (turns_for kind program.steps) in
      let f = full kind program.steps b in
      let play = is-play kind 256 program.steps b in
      let moves = fair-moves S b f.board f.messages f.answers down_room up_room play
      (λ got none. sent-eager 256 (omega arith) (turns_for kind program.steps) (ask-for kind program.steps) got none)
      down_some up_some (a_round n) r.took r.queued k r.inside parts.0 parts.1 (a-round-fair n some) in
      let adds = moving-total S b f.board f.messages f.answers down_room up_room play (a_round n) r.took r.queued k r.inside in
      let next : run side down_room up_room (a_round n) (at es) ≡ world_of kind program (run (by_answers (player 256 (turns_for kind program.steps))) down_room up_room (a_round n) k) =
      sym (run-append side down_room up_room es (a_round n) start)
      ∙ carries kind program b down_room up_room (es ++ a_round n)
      ∙ ap (world_of kind program) (run-append (by_answers (player 256 (turns_for kind program.steps))) down_room up_room es (a_round n) (fresh_world b)) in
      omega (
        arith,
        moves,
        adds,
        ap sum_of same,
        sum-same kind program k,
        ap sum_of next,
        sum-same kind program (run (by_answers (player 256 (turns_for kind program.steps))) down_room up_room (a_round n) k),
      )

-- what is reached stays reached
pub reached-more : (s t : JoinedState) (es : List Event) → IsReached s → t ≡ record s { world = run side s.down_room s.up_room es s.world } → IsReached t
reached-more s t es r e = subst (λ (u : JoinedState). IsReached u) (sym e) (record {
  start = r.start;
  events = r.events ++ es;
  down_room = r.down_room;
  up_room = r.up_room;
  world = there ∙ ap (λ p. run side s.down_room s.up_room (r.events ++ es) (empty_pipes p r.start)) (sym kept);
})
  where
    P : StreamState
    P = afresh s.world.player

    there : run side s.down_room s.up_room es s.world ≡ run side s.down_room s.up_room (r.events ++ es) (empty_pipes P r.start)
    there = ap (run side s.down_room s.up_room es) r.world ∙ sym (run-append side s.down_room s.up_room r.events es (empty_pipes P r.start))

    kept : afresh (run side s.down_room s.up_room es s.world).player ≡ P
    kept = ap (λ (w : World StreamState). afresh w.player) there ∙ afresh-kept P.kind P.program r.start s.down_room s.up_room (r.events ++ es)

-- One round of `finish`: it adds to the sum, which stays bounded by the player's kind and program.
pub record IsRound (s t : JoinedState) : Type 0 where
  pub more : sum_of s.world < sum_of t.world
  pub less : sum_of t.world ≤ most s.world.player
  pub most_same : most t.world.player ≡ most s.world.player

pub one-round : (s t : JoinedState) (n : ℕ) → 0 < n → IsReached s → is_over s.world ≡ false
    → t ≡ record s { world = run side s.down_room s.up_room (a_round n) s.world } → IsRound s t
one-round s t n some r going e = subst (λ (u : JoinedState). IsRound s u) (sym e) (record {
  more = subst (λ (w : World StreamState). sum_of w < sum_of (run side s.down_room s.up_room (a_round n) w)) (sym r.world)
      (round-adds P.kind P.program r.start s.down_room s.up_room r.events n some r.down_room r.up_room (ap is_over (sym r.world) ∙ going));
  less = subst (λ (w : World StreamState). sum_of w ≤ most P) (sym there)
      (sum-bounded P.kind P.program r.start s.down_room s.up_room (r.events ++ a_round n));
  most_same = ap (λ (w : World StreamState). most (afresh w.player)) there
      ∙ ap most (afresh-kept P.kind P.program r.start s.down_room s.up_room (r.events ++ a_round n));
})
  where
    P : StreamState
    P = afresh s.world.player

    there : run side s.down_room s.up_room (a_round n) s.world ≡ run side s.down_room s.up_room (r.events ++ a_round n) (empty_pipes P r.start)
    there = ap (run side s.down_room s.up_room (a_round n)) r.world ∙ sym (run-append side s.down_room s.up_room r.events (a_round n) (empty_pipes P r.start))

abbrev pub after_events : List Event → JoinedState → JoinedState
after_events es s = record s { world = run side s.down_room s.up_room es s.world }

pub finish-smaller : (start now next : JoinedState) (es : List Event) (n : ℕ) → 0 < n → IsReached start → now ≡ after_events es start
    → is_over now.world ≡ false → next ≡ after_events (a_round n) now
    → most next.world.player - sum_of next.world < most now.world.player - sum_of now.world
finish-smaller start now next es n some r e going f =
    let round = one-round now next n some (reached-more start now es r e) going f in
    omega (arith, round.more, round.less, round.most_same)

kept-more : (es fs : List Event) → HasNoLose es → HasNoLose fs → HasNoLose (es ++ fs)
kept-more [] fs p q = q
kept-more (e ∷ es) fs p q = one (loses e) p (λ r. kept-more es fs r q)
  where
    one : (l : Bool) → (l || list_any loses es) ≡ false → (list_any loses es ≡ false → list_any loses (es ++ fs) ≡ false)
        → (l || list_any loses (es ++ fs)) ≡ false
    one true p rest = absurd (cc)
    one false p rest = rest p

pub finish-keeps : (start now next : JoinedState) (es : List Event) (n : ℕ) → HasNoLose es → now ≡ after_events es start → next ≡ after_events (a_round n) now
    → (fs : List Event) × HasNoLose fs × (next ≡ after_events fs start)
finish-keeps start now next es n kept e f = (
  es ++ a_round n,
  kept-more es (a_round n) kept refl,
  f ∙ ap (after_events (a_round n)) e
      ∙ (λ i. record start { world = sym (run-append side start.down_room start.up_room es (a_round n) start.world) i }),
)

pub reached-new : (p : StreamState) (b : BoardState) (down_room up_room : ℕ) (s : JoinedState) → p ≡ afresh p → 0 < down_room → 0 < up_room
    → s ≡ record { world = empty_pipes p b; down_room = down_room; up_room = up_room } → IsReached s
reached-new p b down_room up_room s first down up e = subst (λ (u : JoinedState). IsReached u) (sym e) (record {
  start = b;
  events = [];
  down_room = down;
  up_room = up;
  world = ap (λ q. empty_pipes q b) first;
})

-- What the laws of every schedule say of the player that knows all answers, said of the one that keeps none.
use Rattle.std.proofs.Common.{◌≡◌, ◌⊎◌, inl, inr, Bool, true, ◌||◌, ℕ, ◌+◌, ◌-◌, ◌<◌, List, [], ◌∷◌, ◌++◌, length, take, drop, refl, sym, ap, ◌∙◌, subst, arith, length-append, Some, None}
use Rattle.std.specs.Prelude.{◌≤◌, ◌^◌, min, nat_lt, if◌then◌else◌}
use Rattle.std.proofs.Math.Seq.{drop-append_seam}
use Rattle.svf_programs.specs.Steps.{Program}
use Rattle.board_model.specs.Chain.{BoardState, after_bytes}
use Rattle.play_model.specs.declared.ending.Ending.TheVariants.{Lost}
use Rattle.play_model.specs.Events.{Event, Put, Serve, Take, Lose, Known, World, by_answers, bytes_moved, empty_pipes, happens, moving, run, taken_at, taken_over}
use Rattle.play_model.specs.Events.{before_events as fresh_world}
use Rattle.play_model.specs.Play.{in_work, player, verdict}
use Rattle.play_model.specs.declared.kind.Kind.{Kind}
use Rattle.play_model.specs.PlayingOn.{turns_for}
use Rattle.play_model.specs.Streams as stream
use Rattle.play_model.specs.Streams.{StreamState, new_stream}
use Rattle.play_model.specs.Fronts.{IsPrefix}
use Rattle.play_model.specs.InWork.{IsInWork, turns_made}
use Rattle.play_model.specs.ScheduleLaws.{IsOpen, bytes_of_full_play, full}
use Rattle.play_model.specs.Sides.{answers_to_bytes}
use Rattle.play_model.proofs.Ends.{moving_bounded, something_can_move}
use Rattle.play_model.proofs.HonestLinks.{none-bad-any, told-bits}
use Rattle.play_model.proofs.Losses.{a_loss_names, lost_by_a_lose}
use Rattle.play_model.proofs.Runs.{run-append}
use Rattle.play_model.proofs.SafetyLaws.{every_schedule_inside}
use Rattle.play_model.specs.StreamLaws.{history_of}
use Rattle.play_model.proofs.Agree.{agree}
use Rattle.play_model.proofs.ScheduleSteps.{asked}
use Rattle.play_pipes.specs.Inside.{ALossNamesWhatIsInWork, FewEventsMoveSomething, OnlyALoseLoses, SomethingCanMoveUntilItIsOver, WhatIsJoinedStaysInsideTheFullPlay}
use Rattle.play_pipes.specs.Joining.{side}
use Rattle.play_pipes.specs.Standing.{is_over}
use Rattle.play_pipes.specs.Laws.{joined_after_of}
use Rattle.play_pipes.proofs.RoundsEnd.{carries, good-answers, link, neither, world_of}

module _ (kind : Kind) (program : Program) (b : BoardState) (down_room up_room : ℕ) where
  abbrev at : List Event → World StreamState
  at es = joined_after_of kind program b down_room up_room es

  abbrev known : List Event → World Known
  known es = run (by_answers (player 256 (turns_for kind program.steps))) down_room up_room es (fresh_world b)

  same : (es : List Event) → at es ≡ world_of kind program (known es)
  same es = carries kind program b down_room up_room es

  down-same : (es : List Event) → (at es).down ≡ (known es).down
  down-same es = ap (λ (w : World StreamState). w.down) (same es)

  up-same : (es : List Event) → (at es).up ≡ (known es).up
  up-same es = ap (λ (w : World StreamState). w.up) (same es)

  -- ---- one event more

  at-next : (es : List Event) (e : Event) → happens side down_room up_room e (at es) ≡ at (es ++ e ∷ [])
  at-next es e = sym (run-append side down_room up_room es (e ∷ []) (empty_pipes (new_stream kind program) b))

  known-next : (es : List Event) (e : Event)
      → happens (by_answers (player 256 (turns_for kind program.steps))) down_room up_room e (known es) ≡ known (es ++ e ∷ [])
  known-next es e = sym (run-append (by_answers (player 256 (turns_for kind program.steps))) down_room up_room es (e ∷ []) (fresh_world b))

  down-next : (es : List Event) (e : Event) → (happens side down_room up_room e (at es)).down
      ≡ (happens (by_answers (player 256 (turns_for kind program.steps))) down_room up_room e (known es)).down
  down-next es e = ap (λ (w : World StreamState). w.down) (at-next es e) ∙ down-same (es ++ e ∷ [])
      ∙ ap (λ (w : World Known). w.down) (sym (known-next es e))

  up-next : (es : List Event) (e : Event) → (happens side down_room up_room e (at es)).up
      ≡ (happens (by_answers (player 256 (turns_for kind program.steps))) down_room up_room e (known es)).up
  up-next es e = ap (λ (w : World StreamState). w.up) (at-next es e) ∙ up-same (es ++ e ∷ [])
      ∙ ap (λ (w : World Known). w.up) (sym (known-next es e))

  moved-same : (es : List Event) (e : Event) → bytes_moved side down_room up_room e (at es)
      ≡ bytes_moved (by_answers (player 256 (turns_for kind program.steps))) down_room up_room e (known es)
  moved-same es (Put n) = λ i. length (down-next es (Put n) i) - length (down-same es i)
  moved-same es (Serve n) = λ i. length (down-same es i) - length (down-next es (Serve n) i)
  moved-same es (Take n) = λ i. length (up-same es i) - length (up-next es (Take n) i)
  moved-same es Lose = refl

  -- ---- a whole schedule, behind another

  moving-same : (before es : List Event) → moving side down_room up_room es (at before)
      ≡ moving (by_answers (player 256 (turns_for kind program.steps))) down_room up_room es (known before)
  moving-same before [] = refl
  moving-same before (e ∷ es) =
      (λ i. (if nat_lt 0 (moved-same before e i) then 1 else 0) + moving side down_room up_room es (at-next before e i))
      ∙ (λ i. (if nat_lt 0 (bytes_moved (by_answers (player 256 (turns_for kind program.steps))) down_room up_room e (known before)) then 1 else 0)
      + moving-same (before ++ e ∷ []) es i)
      ∙ (λ i. (if nat_lt 0 (bytes_moved (by_answers (player 256 (turns_for kind program.steps))) down_room up_room e (known before)) then 1 else 0)
      + moving (by_answers (player 256 (turns_for kind program.steps))) down_room up_room es (sym (known-next before e) i))

  taken-same : (es : List Event) (e : Event) → taken_at side down_room up_room e (at es)
      ≡ taken_at (by_answers (player 256 (turns_for kind program.steps))) down_room up_room e (known es)
  taken-same es (Put n) = refl
  taken-same es (Serve n) = λ i. take (moved-same es (Serve n) i) (down-same es i)
  taken-same es (Take n) = refl
  taken-same es Lose = refl

  all-taken : (before es : List Event) → taken_over side down_room up_room es (at before)
      ≡ taken_over (by_answers (player 256 (turns_for kind program.steps))) down_room up_room es (known before)
  all-taken before [] = refl
  all-taken before (e ∷ es) =
      (λ i. taken-same before e i ++ taken_over side down_room up_room es (at-next before e i))
      ∙ (λ i. taken_at (by_answers (player 256 (turns_for kind program.steps))) down_room up_room e (known before) ++ all-taken (before ++ e ∷ []) es i)
      ∙ (λ i. taken_at (by_answers (player 256 (turns_for kind program.steps))) down_room up_room e (known before)
      ++ taken_over (by_answers (player 256 (turns_for kind program.steps))) down_room up_room es (sym (known-next before e) i))

pub few_move : FewEventsMoveSomething
few_move kind program b down_room up_room es =
    let bounded = moving_bounded (link kind down_room up_room) program.steps b es in
    omega (arith, bounded, moving-same kind program b down_room up_room [] es)

pub can_move : SomethingCanMoveUntilItIsOver
can_move kind program b down_room up_room es down_some up_some going =
    let k = known kind program b down_room up_room es in
    let is = same kind program b down_room up_room es in
    let has-room : IsOpen (link kind down_room up_room) = record { window = omega arith; down_room = down_some; up_room = up_some } in
    let not-over = neither k.quit k.lost (ap is_over (sym is) ∙ going) in
    carried (something_can_move (link kind down_room up_room) has-room program.steps b es not-over.0 not-over.1)
  where
    moves : Event → ℕ
    moves e = bytes_moved (by_answers (player 256 (turns_for kind program.steps))) down_room up_room e (known kind program b down_room up_room es)

    moves_here : Event → ℕ
    moves_here e = bytes_moved side down_room up_room e (joined_after_of kind program b down_room up_room es)

    here : (e : Event) → 0 < moves e → 0 < moves_here e
    here e some = subst (λ (n : ℕ). 0 < n) (sym (moved-same kind program b down_room up_room es e)) some

    carried : (0 < moves (Put 1)) ⊎ (0 < moves (Serve 1)) ⊎ (0 < moves (Take 1))
        → (0 < moves_here (Put 1)) ⊎ (0 < moves_here (Serve 1)) ⊎ (0 < moves_here (Take 1))
    carried (inl p) = inl (here (Put 1) p)
    carried (inr (inl s)) = inr (inl (here (Serve 1) s))
    carried (inr (inr t)) = inr (inr (here (Take 1) t))

pub lost_by : OnlyALoseLoses
lost_by kind program b down_room up_room es lost =
    let is = same kind program b down_room up_room es in
    let gone = ap (λ (w : World StreamState). w.lost) (sym is) ∙ lost in
    let at = lost_by_a_lose (link kind down_room up_room) program.steps b es gone in
    let was = same kind program b down_room up_room at.before in
    record {
      before = at.before;
      later = at.later;
      split = at.split;
      going = ap is_over was ∙ (λ i. at.going i || at.unlost i);
      stands = is ∙ ap (world_of kind program) at.stands ∙ (λ i. record (sym was i) { lost = true });
    }

pub inside : WhatIsJoinedStaysInsideTheFullPlay
inside kind program b down_room up_room es =
    let k = known kind program b down_room up_room es in
    let is = same kind program b down_room up_room es in
    let took = all-taken kind program b down_room up_room [] es in
    let h = every_schedule_inside (link kind down_room up_room) program.steps b es in
    let answered : (joined_after_of kind program b down_room up_room es).player.answered ≡ length k.player.got =
    ap (λ (w : World StreamState). w.player.answered) is ∙ good-answers k.player.got in
    record {
      given = ap (λ (w : World StreamState). w.player.given) is ∙ h.given ∙ (λ i. length (sym took i ++ sym (down-same kind program b down_room up_room es) i));
      bytes = subst (λ (bytes : List ℕ). IsPrefix bytes (bytes_of_full_play kind program.steps b)) (λ i. sym took i ++ sym (down-same kind program b down_room up_room es) i) h.bytes;
      answers = subst (λ (bits : List Bool). IsPrefix bits (full kind program.steps b).answers) (h.answered ∙ (λ i. answers_to_bytes (sym took i) b)) h.answers;
      counted = (λ i. answered i + length (up-same kind program b down_room up_room es i)) ∙ sym (length-append k.player.got k.up)
          ∙ ap length (h.answered ∙ (λ i. answers_to_bytes (sym took i) b));
      up = up-same kind program b down_room up_room es ∙ sym (drop-append_seam k.player.got k.up)
          ∙ (λ i. drop (sym answered i) ((h.answered ∙ (λ j. answers_to_bytes (sym took j) b)) i));
      board = ap (λ (w : World StreamState). w.board) is ∙ h.board ∙ (λ i. after_bytes (sym took i) b);
      down_fits = subst (λ (bytes : List ℕ). length bytes ≤ down_room) (sym (down-same kind program b down_room up_room es)) h.down_fits;
      up_fits = subst (λ (bits : List Bool). length bits ≤ up_room) (sym (up-same kind program b down_room up_room es)) h.up_fits;
    }

pub loss_names : ALossNamesWhatIsInWork
loss_names kind program b down_room up_room es lost =
    let k = known kind program b down_room up_room es in
    let is = same kind program b down_room up_room es in
    let w = joined_after_of kind program b down_room up_room es in
    let command = in_work program.statements (turns_for kind program.steps) k.player.given k.player.got in
    let gone : k.lost ≡ true = ap (λ (w : World StreamState). w.lost) (sym is) ∙ lost in
    let named = a_loss_names (link kind down_room up_room) program.steps b es program.statements command gone
    (ap (λ (q : Bool). if q then Some (Lost command) else if k.quit then Some (verdict (turns_for kind program.steps) k.player.got) else None) gone) in
    let works : stream.working w.player ≡ command =
    ap (λ (w : World StreamState). stream.working w.player) is
    ∙ (agree kind 256 (history_of program k.player) (asked kind 256 program b down_room up_room es)).working (none-bad-any k.player.got)
    ∙ ap (λ (got : List Bool). in_work program.statements (turns_for kind program.steps) k.player.given got) (told-bits k.player.got) in
    let given : k.player.given ≡ w.player.given = ap (λ (w : World StreamState). w.player.given) (sym is) in
    let answered : length k.player.got ≡ w.player.answered = sym (ap (λ (w : World StreamState). w.player.answered) is ∙ good-answers k.player.got) in (
      command,
      subst (λ (n : ℕ). IsInWork program.statements (turns_made (turns_for kind program.steps) b) w.player.given n command) answered
          (subst (λ (n : ℕ). IsInWork program.statements (turns_made (turns_for kind program.steps) b) n (length k.player.got) command) given named),
      (λ i. if lost i then Some (Lost (min (stream.working w.player) (2 ^ 64 - 1))) else if w.quit then stream.ending_of_stream 256 w.player else None)
          ∙ ap (λ (n : ℕ). Some (Lost (min n (2 ^ 64 - 1)))) works,
    )

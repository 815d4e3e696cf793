-- The laws of losses.
use Rattle.std.proofs.Common.{◌≡◌, Bool, true, false, ℕ, ◌<◌, List, [], ◌∷◌, ◌++◌, length, refl, sym, ap, ◌∙◌, subst, Option, Some, None}
use Rattle.std.specs.Prelude.{if◌then◌else◌}
use Rattle.board_model.specs.Chain.{after_bytes}
use Rattle.play_model.specs.declared.ending.Ending.{Ending}
use Rattle.play_model.specs.declared.ending.Ending.TheVariants.{Lost}
use Rattle.play_model.specs.Events.{Event, Put, Serve, Take, Lose, World, Side, before_events, happens, run}
use Rattle.play_model.specs.Play.{in_work, verdict}
use Rattle.board_model.specs.Sound.{HasDevice, IsSoundBoard}
use Rattle.board_model.proofs.SoundEdges.{count-bytes, sound-bytes}
use Rattle.play_model.specs.InWork.{IsInWork, turns_made}
use Rattle.play_model.specs.PlayingOn.{turns_for}
use Rattle.play_model.proofs.BothPlayers.{ask-for}
use Rattle.play_model.specs.ScheduleLaws.{side, after_events, full, taken_in, LostOnlyByALose, ALoseLoses, ALossNamesTheCommandInWork, ANewPlayMeansFromItsOpening}
use Rattle.play_model.proofs.Endings.{work-is}
use Rattle.play_model.proofs.Fronts.{front-left}
use Rattle.play_model.proofs.Runs.{happens-kept, run-append, run-lost, run-over}
use Rattle.play_model.proofs.SafetyLaws.{every_schedule_inside, means_from_its_opening}

clash : true ≡ false → ⊥
clash p = cc

-- where a run was lost
record LostAt {P : Type 0} (send : Side P) (down_room up_room : ℕ) (es : List Event) (w : World P) : Type 0 where
  before : List Event
  later : List Event
  split : es ≡ before ++ Lose ∷ later
  going : (run send down_room up_room before w).quit ≡ false
  unlost : (run send down_room up_room before w).lost ≡ false
  stands : run send down_room up_room es w ≡ record (run send down_room up_room before w) { lost = true }

module _ {P : Type 0} (send : Side P) (down_room up_room : ℕ) where
  next-lost : (e : Event) (es : List Event) (w : World P) → w.lost ≡ false → LostAt send down_room up_room es (happens send down_room up_room e w)
      → LostAt send down_room up_room (e ∷ es) w
  next-lost e es w unlost at = record {
    before = e ∷ at.before;
    later = at.later;
    split = ap (λ l. e ∷ l) at.split;
    going = at.going;
    unlost = at.unlost;
    stands = at.stands;
  }

  -- after another event than a Lose
  lost-later : (e : Event) (es : List Event) (w : World P) → w.lost ≡ false → (happens send down_room up_room e w).lost ≡ false
      → ((happens send down_room up_room e w).lost ≡ false → LostAt send down_room up_room es (happens send down_room up_room e w))
      → LostAt send down_room up_room (e ∷ es) w
  lost-later e es w unlost kept rest = next-lost e es w unlost (rest kept)

  find-loss : (es : List Event) (w : World P) → w.lost ≡ false → (run send down_room up_room es w).lost ≡ true → LostAt send down_room up_room es w
  find-loss [] w unlost lost = absurd (clash (sym lost ∙ unlost))
  find-loss (Put n ∷ es) w unlost lost =
      let kept = happens-kept send down_room up_room (Put n) w refl ∙ unlost in
      next-lost (Put n) es w unlost (find-loss es (happens send down_room up_room (Put n) w) kept lost)
  find-loss (Serve n ∷ es) w unlost lost =
      let kept = happens-kept send down_room up_room (Serve n) w refl ∙ unlost in
      next-lost (Serve n) es w unlost (find-loss es (happens send down_room up_room (Serve n) w) kept lost)
  find-loss (Take n ∷ es) w unlost lost =
      let kept = happens-kept send down_room up_room (Take n) w refl ∙ unlost in
      next-lost (Take n) es w unlost (find-loss es (happens send down_room up_room (Take n) w) kept lost)
  find-loss (Lose ∷ es) w unlost lost = one w.quit refl
    where
      one : (q : Bool) → w.quit ≡ q → LostAt send down_room up_room (Lose ∷ es) w
      one true q = absurd (clash (sym lost ∙ ap (λ v. v.lost) (run-over send down_room up_room (Lose ∷ es) w q) ∙ unlost))
      one false q =
          let now : happens send down_room up_room Lose w ≡ record w { lost = true } = ap (λ b. if b then w else record w { lost = true }) q in
          record {
            before = [];
            later = es;
            split = refl;
            going = q;
            unlost = unlost;
            stands = ap (run send down_room up_room es) now ∙ run-lost send down_room up_room es (record w { lost = true }) refl;
          }

pub lost_by_a_lose : LostOnlyByALose
lost_by_a_lose l steps b es lost =
    let at = find-loss (side l steps) l.down_room l.up_room es (before_events b) refl lost in
    record { before = at.before; later = at.later; split = at.split; going = at.going; unlost = at.unlost; stands = at.stands }

pub a_lose_loses : ALoseLoses
a_lose_loses l steps b before later going =
    let v = after_events l steps b before in
    let now : happens (side l steps) l.down_room l.up_room Lose v ≡ record v { lost = true } = ap (λ q. if q then v else record v { lost = true }) going in
    ap (λ w. w.lost) (run-append (side l steps) l.down_room l.up_room before (Lose ∷ later) (before_events b)
    ∙ ap (run (side l steps) l.down_room l.up_room later) now
    ∙ run-lost (side l steps) l.down_room l.up_room later (record v { lost = true }) refl)

lost-same : {x y : ℕ} → Some (Lost x) ≡ Some (Lost y) → x ≡ y
lost-same {x} e = ap of e
  where
    of : Option Ending → ℕ
    of (Some (Ending.Lost c)) = c
    of _ = x

pub a_loss_names : ALossNamesTheCommandInWork
a_loss_names l steps b es statements command lost e =
    let w = after_events l steps b es in
    let inside = every_schedule_inside l steps b es in
    let named : Some (Lost (in_work statements (turns_for l.kind steps) w.player.given w.player.got)) ≡ Some (Lost command) =
    sym (ap (λ q. if q then Some (Lost (in_work statements (turns_for l.kind steps) w.player.given w.player.got)) else if w.quit then Some (verdict (turns_for l.kind steps) w.player.got) else None) lost) ∙ e in
    subst (λ c. IsInWork statements (turns_made (turns_for l.kind steps) b) w.player.given (length w.player.got) c) (lost-same named)
    (work-is statements (turns_for l.kind steps) b (ask-for l.kind steps) w.player.given w.player.got (front-left w.player.got w.up (full l.kind steps b).answers inside.answers))

pub a_new_play_means : ANewPlayMeansFromItsOpening
a_new_play_means l steps b es sound device again stops program more legal ending unlost e =
    let w = after_events l steps b es in
    let stands : w.board ≡ after_bytes (taken_in l steps b es) b = (every_schedule_inside l steps b es).board in
    let still_sound : IsSoundBoard w.board = subst (λ c. IsSoundBoard c) (sym stands) (sound-bytes (taken_in l steps b es) b sound) in
    let still_device : HasDevice w.board = subst (λ (n : ℕ). 0 < n) (sym (ap (λ c. length c.chips) stands ∙ count-bytes (taken_in l steps b es) b)) device in
    means_from_its_opening again stops program w.board more still_sound still_device legal ending unlost e

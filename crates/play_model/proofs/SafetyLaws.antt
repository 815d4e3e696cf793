-- The laws of safety: inside the full play, whole at the end, and so the program's meaning.
use Rattle.std.proofs.Common.{◌≡◌, Bool, true, false, ℕ, List, [], ◌∷◌, ◌++◌, map, length, refl, sym, ap, ◌∙◌, subst, Option, Some, None}
use Rattle.std.proofs.lemmas.List.{map-append}
use Rattle.std.specs.Prelude.{if◌then◌else◌}
use Rattle.bitbang_protocol.specs.declared.Message.{Message}
use Rattle.bitbang_protocol.specs.Protocol.{encode}
use Rattle.bitbang_protocol.proofs.Bytes.{decode-encode}
use Rattle.board_model.specs.Chain.{BoardState, after_bytes, answers, hear, after_message}
use Rattle.board_model.proofs.BytesAndMessages.{after_all-encoded}
use Rattle.play_model.specs.declared.ending.Ending.{Ending}
use Rattle.play_model.specs.declared.ending.Ending.TheVariants.{Lost}
use Rattle.play_model.specs.Events.{Event, World, Known, ending_of_world, before_events}
use Rattle.play_model.specs.Play.{Turn, in_work, sent, verdict}
use Rattle.bitbang.specs.Steps.{Numbered}
use Rattle.play_model.proofs.Asks.{hear-full, sent-full}
use Rattle.play_model.proofs.GrowthByPrefix.{sent-grows}
use Rattle.play_model.proofs.DescribedPlays.{means_from_opening}
use Rattle.play_model.specs.Fronts.{IsPrefix}
use Rattle.play_model.specs.declared.kind.Kind.{Kind}
use Rattle.play_model.specs.PlayingOn.{turns_for}
use Rattle.play_model.specs.Sides.{answers_to_bytes}
use Rattle.play_model.specs.ScheduleLaws.{Connection, may_send, side, after_events, taken_in, full, bytes_of_full_play, IsInside, EveryScheduleIsInsideTheFullPlay, WhatEndsIsTheFullPlay, NoOtherVerdictIsGiven, EveryScheduleMeansFromOpening}
use Rattle.play_model.proofs.Fronts.{front-left, front-map, front-trans}
use Rattle.play_model.proofs.Quits.{full-last, full-quits, sent-whole}
use Rattle.play_model.proofs.BothPlayers.{ask-for, no-quit-for}
use Rattle.play_model.proofs.InsideFullPlay.{Inside, IsPlay, Reached, complete, inside-fresh, length-encoded, reaches, sends-front}
use Rattle.play_model.proofs.Endings.{verdict-full}
use Rattle.play_model.proofs.Runs.{run-apart, unlost-if-quit}

-- a board's answers to bytes that spell messages
pub answered-encoded : (ms : List Message) (b : BoardState) → answers_to_bytes (map encode ms) b ≡ (hear ms b).answers
answered-encoded [] b = refl
answered-encoded (m ∷ ms) b =
    ap (λ (o : Option Message). elim o [ Some n ↦ answers n b | None ↦ [] ] ++ answers_to_bytes (map encode ms) (elim o [ Some n ↦ after_message n b | None ↦ b ])) (decode-encode m)
    ∙ ap (λ l. answers m b ++ l) (answered-encoded ms (after_message m b))

-- the full play of a program is a play of its player, whatever the window
pub is-play : (kind : Kind) (window : ℕ) (steps : List Numbered) (b : BoardState)
    → IsPlay (sent window (turns_for kind steps)) b (full kind steps b).board (full kind steps b).messages (full kind steps b).answers
is-play kind window steps b = record {
  grows = λ got more. sent-grows window (turns_for kind steps) got more;
  sent = sent-full window (turns_for kind steps) b (ask-for kind steps);
  heard = hear-full (turns_for kind steps) b;
  whole = λ got more e q. sent-whole window (turns_for kind steps) b (ask-for kind steps) (no-quit-for kind steps) got more e q;
  last = λ ms rest e q. full-last (turns_for kind steps) b (no-quit-for kind steps) ms rest e q;
  quits = full-quits (turns_for kind steps) b (no-quit-for kind steps);
}

abbrev pub In : Connection → List Numbered → BoardState → List Message → List Message → World Known → Type 0
In l steps b took queued w =
    Inside (sent l.window (turns_for l.kind steps)) b (full l.kind steps b).board (full l.kind steps b).messages (full l.kind steps b).answers l.down_room l.up_room took queued w

pub from-fresh : (l : Connection) (steps : List Numbered) (b : BoardState) → In l steps b [] [] (before_events b)
from-fresh l steps b =
    inside-fresh (sent l.window (turns_for l.kind steps)) b (full l.kind steps b).board (full l.kind steps b).messages (full l.kind steps b).answers l.down_room l.up_room (is-play l.kind l.window steps b)
    ((full l.kind steps b).answers, refl)

pub reached : (l : Connection) (steps : List Numbered) (b : BoardState) (es : List Event)
    → Reached (sent l.window (turns_for l.kind steps)) b (full l.kind steps b).board (full l.kind steps b).messages (full l.kind steps b).answers l.down_room l.up_room (is-play l.kind l.window steps b) [] es (before_events b)
reached l steps b es =
    reaches (sent l.window (turns_for l.kind steps)) b (full l.kind steps b).board (full l.kind steps b).messages (full l.kind steps b).answers l.down_room l.up_room (is-play l.kind l.window steps b)
    es [] [] (before_events b) (from-fresh l steps b)

inside-is : (l : Connection) (steps : List Numbered) (b : BoardState) (bytes : List ℕ) (took queued : List Message) (w : World Known)
    → bytes ≡ map encode took → In l steps b took queued w → IsInside l steps b bytes w
inside-is l steps b bytes took queued w same i =
    let pipe : bytes ++ w.down ≡ map encode (took ++ queued) = (λ j. same j ++ i.down j) ∙ sym (map-append encode took queued) in
    let allowed : IsPrefix (map encode (took ++ queued)) (may_send l steps w.player.got) = front-map encode (took ++ queued) (sent l.window (turns_for l.kind steps) w.player.got) i.sent in
    let play = is-play l.kind l.window steps b in
    let inside : IsPrefix (sent l.window (turns_for l.kind steps) w.player.got) (full l.kind steps b).messages =
    sends-front (sent l.window (turns_for l.kind steps)) b (full l.kind steps b).board (full l.kind steps b).messages (full l.kind steps b).answers l.down_room l.up_room play
    w.player.got (front-left w.player.got w.up (full l.kind steps b).answers i.answers) in
    record {
      given = i.given ∙ sym (length-encoded (took ++ queued)) ∙ ap length (sym pipe);
      allowed = subst (λ bs. IsPrefix bs (may_send l steps w.player.got)) (sym pipe) allowed;
      bytes = subst (λ bs. IsPrefix bs (bytes_of_full_play l.kind steps b)) (sym pipe) (front-trans _ _ _ allowed (front-map encode _ _ inside));
      answered = sym (ap (λ bs. answers_to_bytes bs b) same ∙ answered-encoded took b ∙ ap (λ h. h.answers) i.told);
      answers = i.answers;
      board = sym (ap (λ bs. after_bytes bs b) same ∙ after_all-encoded took b ∙ ap (λ h. h.board) i.told);
      down_fits = i.down_fits;
      up_fits = i.up_fits;
    }

pub every_schedule_inside : EveryScheduleIsInsideTheFullPlay
every_schedule_inside l steps b es =
    let r = reached l steps b es in
    inside-is l steps b (taken_in l steps b es) r.took r.queued (after_events l steps b es) r.history r.inside

pub whole_at_end : WhatEndsIsTheFullPlay
whole_at_end l steps b es quit =
    let w = after_events l steps b es in
    let r = reached l steps b es in
    let c = complete (sent l.window (turns_for l.kind steps)) b (full l.kind steps b).board (full l.kind steps b).messages (full l.kind steps b).answers l.down_room l.up_room (is-play l.kind l.window steps b)
    r.took r.queued w r.inside quit in
    let unlost : w.lost ≡ false = unlost-if-quit w (run-apart (side l steps) l.down_room l.up_room es (before_events b) refl) quit in
    record {
      bytes = r.history ∙ ap (map encode) c.took_all;
      answers = c.got_all;
      down = r.inside.down ∙ ap (map encode) c.none_queued;
      up = c.none_up;
      board = c.board;
      unlost = unlost;
      ending = λ statements.
          (λ i. if unlost i then Some (Lost (in_work statements (turns_for l.kind steps) w.player.given w.player.got)) else if quit i then Some (verdict (turns_for l.kind steps) (c.got_all i)) else None)
          ∙ ap (λ e. Some e) (verdict-full (turns_for l.kind steps) b (ask-for l.kind steps));
    }

some-same : {x y : Ending} → Some x ≡ Some y → x ≡ y
some-same {x} e = ap of e
  where
    of : Option Ending → Ending
    of (Some z) = z
    of None = x

-- an ending that is no loss is there once the board took `Quit` alone
pub ended-quit : (statements : ℕ) (ts : List Turn) (w : World Known) (ending : Ending) → w.lost ≡ false → ending_of_world statements ts w ≡ Some ending → w.quit ≡ true
ended-quit statements ts w ending unlost e = one w.quit refl
  where
    none : (if w.quit then Some (verdict ts w.player.got) else None) ≡ Some ending
    none = sym (ap (λ l. if l then Some (Lost (in_work statements ts w.player.given w.player.got)) else if w.quit then Some (verdict ts w.player.got) else None) unlost) ∙ e

    clash : None ≡ Some ending → ⊥
    clash p = cc

    one : (q : Bool) → w.quit ≡ q → q ≡ true
    one true p = refl
    one false p = absurd (clash (sym (ap (λ q. if q then Some (verdict ts w.player.got) else None) p) ∙ none))

pub no_other_verdict : NoOtherVerdictIsGiven
no_other_verdict l steps b es statements ending unlost e =
    let w = after_events l steps b es in
    let whole = whole_at_end l steps b es (ended-quit statements (turns_for l.kind steps) w ending unlost e) in
    some-same (sym e ∙ whole.ending statements)

pub means_from_its_opening : EveryScheduleMeansFromOpening
means_from_its_opening l stops program b es sound device legal ending unlost e =
    let w = after_events l program.steps b es in
    let quit = ended-quit program.statements (turns_for l.kind program.steps) w ending unlost e in
    let whole = whole_at_end l program.steps b es quit in
    let same : ending ≡ (full l.kind program.steps b).ending = some-same (sym e ∙ whole.ending program.statements) in
    let meant = means_from_opening program b sound device legal in (
      meant.0,
      same ∙ ap (λ k. (full k program.steps b).ending) stops ∙ meant.1,
      whole.board ∙ ap (λ k. (full k program.steps b).board) stops ∙ meant.2,
    )

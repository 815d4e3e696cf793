-- The player that keeps no answers goes, over every schedule, as the player of the laws.
use Rattle.std.proofs.Common.{ℕ, List, [], ◌∷◌, refl, sym, ap, subst, ◌∙◌}
use Rattle.bitbang_protocol.specs.Protocol.{answer}
use Rattle.board_model.specs.Chain.{BoardState}
use Rattle.play_model.specs.Events.{Event, World, before_events as fresh_world, by_answers, empty_pipes, run}
use Rattle.play_model.specs.Play.{player}
use Rattle.play_model.specs.Playing as playing
use Rattle.play_model.specs.Playing.{PlayerState}
use Rattle.bitbang.specs.Steps.{Program}
use Rattle.play_model.specs.declared.kind.Kind.{Kind}
use Rattle.play_model.specs.PlayingOn.{turns_for}
use Rattle.play_model.specs.Histories as history
use Rattle.play_model.specs.Histories.{WasAsked}
use Rattle.play_model.specs.StreamLaws.{CallsGoAlike, SchedulesCarryOver, history_of, stream_of, with_player}
use Rattle.play_model.specs.Streams as stream
use Rattle.play_model.specs.Streams.{hear_bytes}
use Rattle.play_model.proofs.Agree.{agree, stays_asked}
use Rattle.play_model.proofs.Alike.{IsAlike, run-alike, run-ok}
use Rattle.play_model.proofs.Carried.{carried, side}
use Rattle.play_model.proofs.Hearing.{fresh_agrees, hearing}

alike : (kind : Kind) (window : ℕ) → IsAlike (side kind window) (stream.side window) (stream_of kind) (WasAsked kind window)
alike kind window = record {
  waiting = λ p ok. (agree kind window p ok).waiting;
  give = λ n p ok. refl;
  hear = λ bit p ok. ap (λ l. hear_bytes l (stream_of kind p)) ((agree kind window p ok).taken (answer bit ∷ []))
      ∙ hearing kind p (history.answers_taken kind window p (answer bit ∷ []));
  gave = λ n p ok. (stays_asked kind window).give p n ok;
  heard = λ bit p ok. (stays_asked kind window).answer p (answer bit ∷ []) ok;
}

pub carry_over : SchedulesCarryOver
carry_over kind window program b down_room up_room es =
    (λ i. run (stream.side window) down_room up_room es (empty_pipes (sym (fresh_agrees kind program) i) b))
    ∙ run-alike (side kind window) (stream.side window) (stream_of kind) (WasAsked kind window) (alike kind window) down_room up_room es
    (empty_pipes (playing.new_player program) b) ((stays_asked kind window).fresh program)
    ∙ ap (with_player (stream_of kind)) (carried kind window program b down_room up_room es)

pub calls_alike : CallsGoAlike
calls_alike kind window p asked = record {
  give = λ n. refl;
  answers = λ bytes. ap (λ l. hear_bytes l (stream_of kind p)) ((agree kind window p asked).taken bytes)
      ∙ hearing kind p (history.answers_taken kind window p bytes);
}

-- whatever events happen, no answer was taken that was not asked for
pub asked : (kind : Kind) (window : ℕ) (program : Program) (b : BoardState) (down_room up_room : ℕ) (es : List Event)
    → WasAsked kind window
    (history_of program (run (by_answers (player window (turns_for kind program.steps))) down_room up_room es (fresh_world b)).player)
asked kind window program b down_room up_room es =
    subst (λ (w : World PlayerState). WasAsked kind window w.player) (carried kind window program b down_room up_room es)
    (run-ok (side kind window) (stream.side window) (stream_of kind) (WasAsked kind window) (alike kind window) down_room up_room es
    (empty_pipes (playing.new_player program) b) ((stays_asked kind window).fresh program))

-- The headline: an accepted program is legal, and a board in use is sound.
use Rattle.svf_programs.specs.Steps.{Program}
use Rattle.svf_programs.specs.Legal.{IsLegalProgram}
use Rattle.std.proofs.Common.{◌≡◌, inl, inr, ℕ, List, [], ◌∷◌, ◌++◌, refl, sym, ap, subst, ◌∙◌, Option, Some, None}
use Rattle.svf_settings.proofs.FirstRefusals.{accepted_is_sound}
use Rattle.board_model.specs.Chain.{BoardState, after_byte, after_bytes, hear}
use Rattle.board_model.proofs.BytesAndMessages.{after_all-encoded}
use Rattle.play_model.specs.ScheduleLaws.{bytes_of_full_play, full}
use Rattle.play_direct.proofs.InUse.{every_board}
use Rattle.play_model.proofs.DescribedPlays.{means_from_opening}
use Rattle.play_direct.specs.Accepting.{Accepts}
use Rattle.play_model.specs.declared.kind.Kind.{Kind}
use Rattle.play_model.specs.declared.kind.Kind.TheVariants.{Stops, PlaysOn}
use Rattle.play_model.specs.Endings.{status_of}
use Rattle.play_model.specs.Play.{Turn, full_play, turns}
use Rattle.play_model.specs.PlayingOn.{Mismatch, ending_of, turns_for}
use Rattle.play_model.proofs.Asks.{hear-full, played_of}
use Rattle.scan_vectors.specs.Vector.{judge}
use Rattle.scan_vectors.specs.declared.part.Part.{Part}
use Rattle.play_pipes.proofs.Ends.{means, means_all}
use Rattle.play_pipes.proofs.Inside.{inside}
use Rattle.play_pipes.specs.Inside.{taken_by_board}
use Rattle.play_pipes.specs.Laws.{joined_after_of}
use Rattle.play_direct.specs.InUse.{IsInUse}
use Rattle.jt_player.specs.Headline.{DirectPlayMeansWhatTheTextMeans, EveryScheduleMeansWhatTheTextMeans}
use Rattle.jt_player.specs.Headline.{DirectPlaysPassOrFail, EndsIn, EveryRunEnds, PassesOrFails, passes, fails, is_refused, wants_memory}
use Rattle.jt_player.specs.Headline.{DirectPlayOfEitherKind, EveryScheduleOfEitherKind, WhatEventsOfEitherKindLeaveIsInUse}
use Rattle.jt_player.specs.Headline.{WhatDirectPlaysLeaveIsInUse, WhatEventsLeaveIsInUse, WhatRunsLeaveIsInUse}
use Rattle.jt_player.specs.Kinds.{ending_in}
use Rattle.jt_player.specs.Running.{no_memory, played, refused}
use Rattle.play_direct.specs.ToTheEnd.{all_failures}
use Rattle.jt_player.proofs.KindLaws.{means as means_of_kind}

pub legal : (text : List ℕ) (program : Program) → Accepts text program → IsLegalProgram program.steps
legal text program (statements, spelt, resolved) = (accepted_is_sound statements program resolved).legal

pub joined : EveryScheduleMeansWhatTheTextMeans
joined text program accepted start met down_room up_room events ending unlost ended =
    let chain = every_board start met in
    means program start down_room up_room events ending (legal text program accepted) chain.sound chain.some unlost ended

pub directly : DirectPlayMeansWhatTheTextMeans
directly text program accepted start met =
    let chain = every_board start met in
    means_from_opening program start chain.sound chain.some (legal text program accepted)

pub joined_of_kind : EveryScheduleOfEitherKind
joined_of_kind Stops text program accepted start met down_room up_room events ending unlost ended =
    joined text program accepted start met down_room up_room events ending unlost ended
joined_of_kind PlaysOn text program accepted start met down_room up_room events ending unlost ended =
    let chain = every_board start met in
    means_all program start down_room up_room events ending (legal text program accepted) chain.sound chain.some unlost ended

pub directly_of_kind : DirectPlayOfEitherKind
directly_of_kind kind text program accepted start met =
    let chain = every_board start met in means_of_kind kind program start chain.sound chain.some (legal text program accepted)

more_bytes : (before more : List ℕ) (b : BoardState) → after_bytes (before ++ more) b ≡ after_bytes more (after_bytes before b)
more_bytes [] more b = refl
more_bytes (byte ∷ before) more b = more_bytes before more (after_byte byte b)

-- a board in use is one after more bytes
pub in_use_after : (start after : BoardState) → IsInUse start → (took : List ℕ) → after ≡ after_bytes took start → IsInUse after
in_use_after start after met took is = record {
  at_first = met.at_first;
  made = met.made;
  taken = met.taken ++ took;
  now = is ∙ ap (after_bytes took) met.now ∙ sym (more_bytes met.taken took met.at_first);
}

pub in_use_of_kind : WhatEventsOfEitherKindLeaveIsInUse
in_use_of_kind kind program start met down_room up_room events =
    in_use_after start (joined_after_of kind program start down_room up_room events).board met
    (taken_by_board kind program start down_room up_room events) (inside kind program start down_room up_room events).board

pub in_use_again : WhatEventsLeaveIsInUse
in_use_again program start met down_room up_room events = in_use_of_kind Stops program start met down_room up_room events

pub directly_in_use : WhatDirectPlaysLeaveIsInUse
directly_in_use kind program start met =
    let took = bytes_of_full_play kind program.steps start in
    let messages = (full kind program.steps start).messages in
    let heard : (full kind program.steps start).board ≡ (hear messages start).board =
    sym (ap (λ h. h.board) (hear-full (turns_for kind program.steps) start)) in
    in_use_after start (full kind program.steps start).board met took (heard ∙ sym (after_all-encoded messages start))

pub runs_in_use : WhatRunsLeaveIsInUse
runs_in_use kind text bytes start met run (played program accepted means) = directly_in_use kind program start met
runs_in_use kind text bytes start met run (refused fault refuses) = met
runs_in_use kind text bytes start met run no_memory = met

stopping : (ts : List Turn) (b : BoardState) → PassesOrFails (full_play ts b).ending
stopping [] b = inl refl
stopping (t ∷ ts) b = by (judge t.wants (hear t.messages b).answers) (stopping ts (hear t.messages b).board)
  where
    by : (found : Option (Part × ℕ))
        → PassesOrFails (full_play ts (hear t.messages b).board).ending
        → PassesOrFails (played_of t ts (hear t.messages b) found).ending
    by None later = later
    by (Some f) later = inr (t.command, f.0, f.1, refl)

to_the_end : (found : List Mismatch) → PassesOrFails (ending_of found)
to_the_end [] = inl refl
to_the_end (f ∷ found) = inr (f.command, f.part, f.bit, refl)

pub pass_or_fail : DirectPlaysPassOrFail
pass_or_fail Stops program start = stopping (turns program.steps) start
pass_or_fail PlaysOn program start = to_the_end (all_failures program start)

pub run_ends : EveryRunEnds
run_ends kind text bytes start run (played program accepted means) = by (pass_or_fail kind program start)
  where
    by : PassesOrFails (ending_in kind program start) → EndsIn kind text start (status_of (ending_in kind program start))
    by (inl e) = subst (EndsIn kind text start) (sym (ap status_of e)) (passes program accepted e)
    by (inr (command, part, bit, e)) = subst (EndsIn kind text start) (sym (ap status_of e)) (fails program accepted command part bit e)
run_ends kind text bytes start run (refused fault refuses) = is_refused fault refuses
run_ends kind text bytes start run no_memory = wants_memory

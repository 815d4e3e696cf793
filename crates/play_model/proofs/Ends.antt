-- The laws of progress, over the play of a program.
use Rattle.std.proofs.Common.{◌≡◌, Bool, true, false, ◌⊎◌, inl, inr, ℕ, zero, suc, ◌+◌, ◌*◌, ◌<◌, List, [], ◌∷◌, ◌++◌, length, replicate, refl, sym, ap, ◌∙◌, arith}
use Rattle.std.proofs.lemmas.List.{length-replicate}
use Rattle.std.specs.List.{AllByRecursion}
use Rattle.board_model.specs.Chain.{BoardState}
use Rattle.play_model.specs.Events.{Event, Put, Serve, Take, World, Known, ending_of_world, before_events}
use Rattle.play_model.specs.Play.{sent}
use Rattle.bitbang.specs.Steps.{Numbered}
use Rattle.play_model.proofs.Asks.{asks}
use Rattle.play_model.specs.Fair.{IsFair, in_a_row, one_each}
use Rattle.play_model.specs.ScheduleLaws.{Connection, IsOpen, goes_on, side, after_events, full, moves_in, bound, IsWhole, SomethingCanMove, MovingEventsAreBounded, FairDriversEnd, OneByteEachWayEnds, SeveralCallsAreOne}
use Rattle.play_model.specs.PlayingOn.{turns_for}
use Rattle.play_model.proofs.BothPlayers.{ask-for}
use Rattle.play_model.proofs.Quits.{has_quit, sent-eager}
use Rattle.play_model.proofs.InsideFullPlay.{length-encoded}
use Rattle.play_model.proofs.Progress.{fair-ends, moving-total, one-moves, total-bound}
use Rattle.play_model.proofs.Runs.{run-append}
use Rattle.play_model.proofs.SafetyLaws.{from-fresh, is-play, reached, whole_at_end}

pub several_calls : SeveralCallsAreOne
several_calls l steps w es more = run-append (side l steps) l.down_room l.up_room es more w

eager : (l : Connection) → IsOpen l → (steps : List Numbered) → (got : List Bool)
    → has_quit (sent l.window (turns_for l.kind steps) got) ≡ false → length got < asks (sent l.window (turns_for l.kind steps) got)
eager l is steps got none = sent-eager l.window is.window (turns_for l.kind steps) (ask-for l.kind steps) got none

zero-or-more : (n : ℕ) → (n ≡ 0) ⊎ (0 < n)
zero-or-more zero = inl refl
zero-or-more (suc n) = inr (omega arith)

pub something_can_move : SomethingCanMove
something_can_move l is steps b es quit lost =
    one (zero-or-more (moves_in l steps (Put 1) w)) (zero-or-more (moves_in l steps (Serve 1) w)) (zero-or-more (moves_in l steps (Take 1) w))
  where
    w : World Known
    w = after_events l steps b es

    one : (moves_in l steps (Put 1) w ≡ 0) ⊎ (0 < moves_in l steps (Put 1) w)
        → (moves_in l steps (Serve 1) w ≡ 0) ⊎ (0 < moves_in l steps (Serve 1) w)
        → (moves_in l steps (Take 1) w ≡ 0) ⊎ (0 < moves_in l steps (Take 1) w)
        → (0 < moves_in l steps (Put 1) w) ⊎ (0 < moves_in l steps (Serve 1) w) ⊎ (0 < moves_in l steps (Take 1) w)
    one (inr p) s t = inl p
    one (inl p) (inr s) t = inr (inl s)
    one (inl p) (inl s) (inr t) = inr (inr t)
    one (inl p) (inl s) (inl t) =
        let r = reached l steps b es in
        absurd (one-moves (sent l.window (turns_for l.kind steps)) b (full l.kind steps b).board (full l.kind steps b).messages (full l.kind steps b).answers l.down_room l.up_room
        (eager l is steps) is.down_room is.up_room 1 1 1 (omega arith) (omega arith) (omega arith) r.took r.queued w r.inside quit lost p s t)

bound-is : (l : Connection) (steps : List Numbered) (b : BoardState) → bound l steps b ≡ 2 * length (full l.kind steps b).messages + length (full l.kind steps b).answers
bound-is l steps b = ap (λ n. 2 * n + length (full l.kind steps b).answers) (length-encoded (full l.kind steps b).messages)

pub moving_bounded : MovingEventsAreBounded
moving_bounded l steps b es =
    let r = reached l steps b es in
    let w = after_events l steps b es in
    let grown = moving-total (sent l.window (turns_for l.kind steps)) b (full l.kind steps b).board (full l.kind steps b).messages (full l.kind steps b).answers l.down_room l.up_room (is-play l.kind l.window steps b)
    es [] [] (before_events b) (from-fresh l steps b) in
    let limit = total-bound (sent l.window (turns_for l.kind steps)) b (full l.kind steps b).board (full l.kind steps b).messages (full l.kind steps b).answers l.down_room l.up_room (is-play l.kind l.window steps b)
    r.took r.queued w r.inside in
    omega (arith, grown, limit, bound-is l steps b)

pub fair_drivers_end : FairDriversEnd
fair_drivers_end l is steps b es rounds lost fair enough =
    let r = reached l steps b es in
    fair-ends (sent l.window (turns_for l.kind steps)) b (full l.kind steps b).board (full l.kind steps b).messages (full l.kind steps b).answers l.down_room l.up_room (is-play l.kind l.window steps b)
    (eager l is steps) is.down_room is.up_room rounds r.took r.queued (after_events l steps b es) r.inside lost fair (omega (arith, enough, bound-is l steps b))

-- the simplest driver is fair
abbrev each : List Event
each = Put 1 ∷ Serve 1 ∷ Take 1 ∷ []

each-fair : IsFair each
each-fair = record { put = refl; serve = refl; take = refl; kept = refl }

all-fair : (n : ℕ) → AllByRecursion (λ r. IsFair r) (replicate n each)
all-fair zero = tt
all-fair (suc n) = (each-fair, all-fair n)

row-is : (n : ℕ) → in_a_row (replicate n each) ≡ one_each n
row-is zero = refl
row-is (suc n) = ap (λ es. Put 1 ∷ Serve 1 ∷ Take 1 ∷ es) (row-is n)

pub one_each_ends : OneByteEachWayEnds
one_each_ends l is steps b es statements lost =
    let n = bound l steps b in
    let w = after_events l steps b es in
    let quit : (goes_on l steps (one_each n) w).quit ≡ true =
    ap (λ r. (goes_on l steps r w).quit) (sym (row-is n))
    ∙ fair_drivers_end l is steps b es (replicate n each) lost (all-fair n) (omega (arith, length-replicate n each)) in
    let joined : after_events l steps b (es ++ one_each n) ≡ goes_on l steps (one_each n) w = several_calls l steps (before_events b) es (one_each n) in
    let whole : IsWhole l steps b _ (after_events l steps b (es ++ one_each n)) = whole_at_end l steps b (es ++ one_each n) (ap (λ v. v.quit) joined ∙ quit) in
    ap (ending_of_world statements (turns_for l.kind steps)) (sym joined) ∙ whole.ending statements

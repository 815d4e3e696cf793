-- Every legal step plays as it means, and leaves the board at rest with sound registers.
use Rattle.std.proofs.Common.{◌≡◌, Bool, true, false, ℕ, zero, suc, ◌<◌, List, [], ◌∷◌, ◌++◌, length, map, replicate, refl, sym, ap, ◌∙◌, subst, arith}
use Rattle.std.specs.Prelude.{if◌then◌else◌, not}
use Rattle.std.specs.List.{AllByRecursion, list_all}
use Rattle.jt_tap.specs.declared.Column.{Column}
use Rattle.jt_tap.specs.declared.Column.TheVariants.{Dr, Ir}
use Rattle.jt_tap.specs.declared.State.{State}
use Rattle.jt_tap.specs.declared.State.TheVariants.{Reset, Idle, DrPause, IrPause}
use Rattle.jt_tap.specs.Controller.{is_stable}
use Rattle.bitbang_protocol.specs.declared.Cycle.{Cycle}
use Rattle.board_model.specs.Cells.{Member}
use Rattle.pin_nets.specs.Wired.{Net}
use Rattle.scan_vectors.specs.Vector.{VectorBit, tdis, judge}
use Rattle.board_model.specs.Chain.{hear, is_held}
use Rattle.board_model.specs.Whole.{AtRest, reset_member, out, capture, settle, along, trst_member, settled_member}
use Rattle.bitbang.specs.Steps.{Step, Scan, Go, Path, Run, Trst, place_after}
use Rattle.svf_words.specs.declared.keywords.TrstWord.TheVariants.{On, Off, Z, Absent}
use Rattle.play_model.specs.Meaning.{after_step, move_unless_there}
use Rattle.bitbang_protocol.specs.Cycles.{entering, closed_messages}
use Rattle.bitbang.specs.StepMessages.{step_messages}
use Rattle.jt_tap.specs.Paths.{last_of}
use Rattle.jt_tap.specs.Stated.{IsWalk}
use Rattle.board_model.specs.Resting.{board_at_rest, IsRest}
use Rattle.bitbang.specs.Legal.{IsPath, IsFormed, is_reset, leaves_reset}
use Rattle.play_model.specs.Legal.{IsLegal}
use Rattle.board_model.proofs.OneCycle.{Free}
use Rattle.board_model.proofs.Walks.{at_rest, go-law}
use Rattle.play_model.proofs.Scan.{scan-law}
use Rattle.play_model.proofs.PathsAndRuns.{IsTrip, StaysReset, path-law, run-law}
use Rattle.board_model.proofs.Resets.{reset-twice, trst-on-law}
use Rattle.play_model.proofs.HeldInReset.{held-law}
use Rattle.board_model.specs.Sound.{AllSound, IsSound}
use Rattle.board_model.proofs.Sound.{Sound-Full, Sound-reset, Sound-update}
use Rattle.play_model.proofs.Vectors.{picked}
use Rattle.play_model.specs.Play.{wants_of}
use Rattle.play_model.proofs.Direct.{IsPlayed, asked_of, judged-of}
use Rattle.play_model.specs.LegalPlays.{EachLegalStepPlaysAsItMeans}
use Rattle.play_model.proofs.KeptByActions.{IsReady, Ready, IsEnd, end-is-rest, move-end, maybe-end, scan-rests, along-rests, ready-to-shift, count-map}

-- what one step's law says, and what it keeps
pub record IsDone (step : Step) (m : AtRest) : Type 0 where
  pub answers : List Bool
  pub played : IsPlayed step m answers
  pub rest : IsRest (after_step step m)
  pub sound : AllSound (after_step step m).members
  pub count : length (after_step step m).members ≡ length m.members

-- a step that ends in a state
done-at : (step : Step) (m : AtRest) (answers : List Bool) (to : State) → is_stable to ≡ true → place_after m.place step ≡ to
    → hear (step_messages m.place step) (board_at_rest m) ≡ record { answers = answers; board = board_at_rest (after_step step m) }
    → answers ≡ asked_of step m → IsEnd to (length m.members) (after_step step m) → IsDone step m
done-at step m answers to stable after heard said end = record {
  answers = answers;
  played = record { heard = heard; said = said; place = end.place ∙ sym after };
  rest = end-is-rest to (length m.members) (after_step step m) stable end;
  sound = end.ready.sound;
  count = end.ready.count;
}

trip : (path : List State) (s : State) → IsWalk s path → IsTrip s path
trip [] s walk = tt
trip (t ∷ path) s walk = (walk.0, trip path t walk.1)

pub path-stable : (path : List State) (s : State) → IsPath s path → is_stable (last_of s path) ≡ true
path-stable path s legal = legal.1

-- a scan of a nonempty vector
scan-done : (column : Column) (v : List VectorBit) (end place : State) (trst : Bool) (nets : List Net) (ms : List Member)
    → is_stable place ≡ true → is_stable end ≡ true → 0 < length v → 0 < length ms → IsReady trst (length ms) ms
    → IsDone (Scan column v end) (at_rest place trst nets ms)
scan-done column [] end place trst nets ms here there long some ready = absurd (omega arith)
scan-done column (v ∷ vs) end place trst nets ms here there long some ready =
    let m = at_rest place trst nets ms in
    let found = capture column (settle m) in
    let at_shift : Ready (length ms) found = ready-to-shift column place trst nets ms (length ms) here ready in
    let devices : 0 < length found.members = subst (λ (n : ℕ). 0 < n) (sym at_shift.count) some in
    let heard = scan-law column v vs place end trst nets ms here there ready.free devices (Sound-Full column found.members at_shift.sound) in
    done-at (Scan column (v ∷ vs) end) m (picked (v ∷ vs) (out column (tdis (v ∷ vs)) found)) end there refl heard refl
    (scan-rests column (tdis (v ∷ vs)) place end trst nets ms (length ms) here there ready)

go-done : (to place : State) (trst : Bool) (nets : List Net) (ms : List Member) → is_stable place ≡ true → is_stable to ≡ true
    → IsReady trst (length ms) ms → IsDone (Go to) (at_rest place trst nets ms)
go-done to place trst nets ms here there ready =
    done-at (Go to) (at_rest place trst nets ms) [] to there refl (go-law place to trst nets ms here there ready.free) refl
    (move-end place to trst nets ms (length ms) here there ready)

path-done : (path : List State) (place : State) (trst : Bool) (nets : List Net) (ms : List Member) → is_stable place ≡ true → IsPath place path
    → StaysReset place ms → IsReady trst (length ms) ms → IsDone (Path path) (at_rest place trst nets ms)
path-done path place trst nets ms here legal kept ready =
    let (walk, there) = legal in
    done-at (Path path) (at_rest place trst nets ms) [] (last_of place path) there refl
    (path-law path place trst nets ms here there (trip path place walk) ready.sound ready.free) refl
    (along-rests path (length ms) (at_rest place trst nets ms) ready kept)

run-done : (run end : State) (n : ℕ) (place : State) (trst : Bool) (nets : List Net) (ms : List Member) → is_stable place ≡ true
    → is_stable run ≡ true → is_stable end ≡ true → StaysReset place ms → IsReady trst (length ms) ms → IsDone (Run run n end) (at_rest place trst nets ms)
run-done run end n place trst nets ms here there last kept ready =
    let m = move_unless_there run (at_rest place trst nets ms) in
    let first : IsEnd run (length ms) m = maybe-end place run trst nets ms (length ms) here there ready kept in
    done-at (Run run n end) (at_rest place trst nets ms) [] end last refl (run-law run end n place trst nets ms here there last kept ready.free) refl
    (maybe-end m.place end m.trst m.nets m.members (length ms) (ap is_stable first.place ∙ there) last first.ready first.kept)

-- a step that is none of TRST
abbrev moves : Step → Bool
moves (Trst word) = false
moves _ = true

-- a step that moves, from a place where no device is held
free-done : (step : Step) (place : State) (trst : Bool) (nets : List Net) (ms : List Member) → moves step ≡ true
    → is_stable place ≡ true → StaysReset place ms → 0 < length ms → IsFormed place step → IsReady trst (length ms) ms
    → IsDone step (at_rest place trst nets ms)
free-done (Scan column v end) place trst nets ms leaves here kept some formed ready = scan-done column v end place trst nets ms here formed.1 formed.0 some ready
free-done (Go s) place trst nets ms leaves here kept some formed ready = go-done s place trst nets ms here formed ready
free-done (Path path) place trst nets ms leaves here kept some formed ready = path-done path place trst nets ms here formed kept ready
free-done (Run run n end) place trst nets ms leaves here kept some formed ready = run-done run end n place trst nets ms here formed.0 formed.1 kept ready
free-done (Trst word) place trst nets ms leaves here kept some formed ready = absurd (cc)

-- A step that changes nothing.
done-same : (step : Step) (m : AtRest) → after_step step m ≡ m → hear (step_messages m.place step) (board_at_rest m) ≡ record { answers = []; board = board_at_rest m }
    → [] ≡ asked_of step m → place_after m.place step ≡ m.place → IsRest m → AllSound m.members → IsDone step m
done-same step m same heard said after rest sound = record {
  answers = [];
  played = record {
    heard = heard ∙ (λ i. record { answers = []; board = board_at_rest (sym same i) });
    said = said;
    place = ap (λ (n : AtRest). n.place) same ∙ sym after;
  };
  rest = subst (λ (n : AtRest). IsRest n) (sym same) rest;
  sound = subst (λ (n : AtRest). AllSound n.members) (sym same) sound;
  count = ap (λ (n : AtRest). length n.members) same;
}

-- a path of RESET alone
all-resets : (path : List State) → list_all is_reset path ≡ true → path ≡ replicate (length path) Reset
all-resets [] all = refl
all-resets (Reset ∷ path) all = ap (λ r. Reset ∷ r) (all-resets path all)
all-resets (s ∷ path) all = absurd (cc)

walk-resets : (n : ℕ) → map entering (replicate n Reset) ≡ replicate n (entering Reset)
walk-resets zero = refl
walk-resets (suc n) = ap (λ r. entering Reset ∷ r) (walk-resets n)

last-resets : (n : ℕ) → last_of Reset (replicate n Reset) ≡ Reset
last-resets zero = refl
last-resets (suc n) = last-resets n

along-resets : (n : ℕ) (trst : Bool) (nets : List Net) (ms : List Member) → map reset_member ms ≡ ms
    → along (replicate n Reset) (at_rest Reset trst nets ms) ≡ at_rest Reset trst nets ms
along-resets zero trst nets ms kept = refl
along-resets (suc n) trst nets ms kept =
    (λ i. along (replicate n Reset) (at_rest Reset trst nets (kept i))) ∙ along-resets n trst nets ms kept

append-nil : (cs : List Cycle) → cs ++ [] ≡ cs
append-nil [] = refl
append-nil (c ∷ cs) = ap (λ r. c ∷ r) (append-nil cs)

not-not : (b : Bool) → not b ≡ false → b ≡ true
not-not true e = refl
not-not false e = absurd (cc)

-- a path of RESETs, from RESET
path-stays : (path : List State) (trst : Bool) (nets : List Net) (ms : List Member) → list_all is_reset path ≡ true
    → IsRest (at_rest Reset trst nets ms) → AllSound ms → IsDone (Path path) (at_rest Reset trst nets ms)
path-stays path trst nets ms all rest sound =
    let n = length path in
    let same : path ≡ replicate n Reset = all-resets path all in
    done-same (Path path) (at_rest Reset trst nets ms)
    ((λ i. along (same i) (at_rest Reset trst nets ms)) ∙ along-resets n trst nets ms (rest.at_reset refl))
    ((λ i. hear (closed_messages (map entering (same i))) (board_at_rest (at_rest Reset trst nets ms)))
    ∙ (λ i. hear (closed_messages (walk-resets n i)) (board_at_rest (at_rest Reset trst nets ms)))
    ∙ held-law n trst nets ms (rest.at_reset refl))
    refl ((λ i. last_of Reset (same i)) ∙ last-resets n) rest sound

-- a run in RESET, from RESET
run-stays : (n : ℕ) (trst : Bool) (nets : List Net) (ms : List Member)
    → IsRest (at_rest Reset trst nets ms) → AllSound ms → IsDone (Run Reset n Reset) (at_rest Reset trst nets ms)
run-stays n trst nets ms rest sound =
    done-same (Run Reset n Reset) (at_rest Reset trst nets ms) refl
    ((λ i. hear (closed_messages (append-nil (replicate n (entering Reset)) i)) (board_at_rest (at_rest Reset trst nets ms)))
    ∙ held-law n trst nets ms (rest.at_reset refl))
    refl refl rest sound

go-stays : (trst : Bool) (nets : List Net) (ms : List Member) → IsRest (at_rest Reset trst nets ms) → AllSound ms → IsDone (Go Reset) (at_rest Reset trst nets ms)
go-stays trst nets ms rest sound =
    let kept : map reset_member ms ≡ ms = rest.at_reset refl in
    done-same (Go Reset) (at_rest Reset trst nets ms) (λ i. at_rest Reset trst nets (kept i)) (held-law 1 trst nets ms kept) refl refl rest sound

-- While a step stays in RESET nothing changes.
stays-done : (step : Step) (trst : Bool) (nets : List Net) (ms : List Member) → moves step ≡ true → leaves_reset step ≡ false
    → IsRest (at_rest Reset trst nets ms) → AllSound ms → IsDone step (at_rest Reset trst nets ms)
stays-done (Scan column v end) trst nets ms moving stays rest sound = absurd (cc)
stays-done (Go Reset) trst nets ms moving stays rest sound = go-stays trst nets ms rest sound
stays-done (Go _) trst nets ms moving stays rest sound = absurd (cc)
stays-done (Path path) trst nets ms moving stays rest sound = path-stays path trst nets ms (not-not (list_all is_reset path) stays) rest sound
stays-done (Run Reset n Reset) trst nets ms moving stays rest sound = run-stays n trst nets ms rest sound
stays-done (Run Reset n _) trst nets ms moving stays rest sound = absurd (cc)
stays-done (Run _ n end) trst nets ms moving stays rest sound = absurd (cc)
stays-done (Trst word) trst nets ms moving stays rest sound = absurd (cc)

-- TRST

reset-trst : (settled : Member → Member) (ms : List Member) → map reset_member (map (trst_member settled) ms) ≡ map (trst_member settled) ms
reset-trst settled [] = refl
reset-trst settled (m ∷ ms) = λ i. reset-twice (if m.device.has_trst then m else settled m) i ∷ reset-trst settled ms i

sound-either : (which : Bool) (m n : Member) → IsSound m → IsSound n → IsSound (if which then m else n)
sound-either true m n first second = first
sound-either false m n first second = second

sound-trst : (settled : Member → Member) (ms : List Member) → AllSound ms → ((m : Member) → IsSound m → IsSound (settled m))
    → AllSound (map (trst_member settled) ms)
sound-trst settled [] sound keeps = tt
sound-trst settled (m ∷ ms) sound keeps =
    let chosen = if m.device.has_trst then m else settled m in
    let kept : IsSound chosen = sound-either m.device.has_trst m (settled m) sound.0 (keeps m sound.0) in
    ((Sound-reset (chosen ∷ []) (kept, tt)).0, sound-trst settled ms sound.1 keeps)

sound-settled : (place : State) → is_stable place ≡ true → (m : Member) → IsSound m → IsSound (settled_member place m)
sound-settled Reset stable m sound = sound
sound-settled Idle stable m sound = sound
sound-settled DrPause stable m sound = (Sound-update Dr (m ∷ []) (sound, tt)).0
sound-settled IrPause stable m sound = (Sound-update Ir (m ∷ []) (sound, tt)).0
sound-settled _ stable m sound = absurd (cc)

held-reset : (trst : Bool) (ms : List Member) → AllByRecursion (λ d. is_held trst d ≡ true → Reset ≡ Reset) ms
held-reset trst [] = tt
held-reset trst (m ∷ ms) = (λ held. refl, held-reset trst ms)

held-none : (place : State) (ms : List Member) → AllByRecursion (λ d. is_held false d ≡ true → place ≡ Reset) ms
held-none place [] = tt
held-none place (m ∷ ms) = (λ held. absurd (cc), held-none place ms)

on-done : (place : State) (trst : Bool) (nets : List Net) (ms : List Member) → is_stable place ≡ true → AllSound ms
    → IsDone (Trst On) (at_rest place trst nets ms)
on-done place trst nets ms here sound = record {
  answers = [];
  played = record { heard = trst-on-law place trst nets ms here; said = refl; place = refl };
  rest = record {
    stable = refl;
    at_reset = λ e. reset-trst (settled_member place) ms;
    held = held-reset true (map (trst_member (settled_member place)) ms);
  };
  sound = sound-trst (settled_member place) ms sound (sound-settled place here);
  count = count-map (trst_member (settled_member place)) ms;
}

released-rest : (place : State) (trst : Bool) (nets : List Net) (ms : List Member) → IsRest (at_rest place trst nets ms) → IsRest (at_rest place false nets ms)
released-rest place trst nets ms rest = record { stable = rest.stable; at_reset = rest.at_reset; held = held-none place ms }

off-done : (place : State) (trst : Bool) (nets : List Net) (ms : List Member) → IsRest (at_rest place trst nets ms) → AllSound ms
    → IsDone (Trst Off) (at_rest place trst nets ms)
off-done place trst nets ms rest sound = record {
  answers = [];
  played = record { heard = refl; said = refl; place = refl };
  rest = released-rest place trst nets ms rest;
  sound = sound;
  count = refl;
}

z-done : (place : State) (trst : Bool) (nets : List Net) (ms : List Member) → IsRest (at_rest place trst nets ms) → AllSound ms
    → IsDone (Trst Z) (at_rest place trst nets ms)
z-done place trst nets ms rest sound = record {
  answers = [];
  played = record { heard = refl; said = refl; place = refl };
  rest = released-rest place trst nets ms rest;
  sound = sound;
  count = refl;
}

-- No device is held where TRST is released, or asserted outside RESET.
released : (ms : List Member) → Free false ms
released [] = tt
released (m ∷ ms) = (refl, released ms)

free-port : (port : Bool) (place : State) → (port ≡ true → place ≡ Reset) → (place ≡ Reset → ⊥) → port ≡ false
free-port true place held outside = absurd (outside (held refl))
free-port false place held outside = refl

outside-free : (place : State) (ms : List Member) → (place ≡ Reset → ⊥) → AllByRecursion (λ d. is_held true d ≡ true → place ≡ Reset) ms → Free true ms
outside-free place [] outside held = tt
outside-free place (m ∷ ms) outside held = (free-port m.device.has_trst place held.0 outside, outside-free place ms outside held.1)

-- a step that moves, from rest
moving-done : (step : Step) (place : State) (trst : Bool) (nets : List Net) (ms : List Member) → moves step ≡ true
    → IsRest (at_rest place trst nets ms) → AllSound ms → 0 < length ms → IsLegal step (at_rest place trst nets ms)
    → IsDone step (at_rest place trst nets ms)
moving-done step place false nets ms moving rest sound some legal =
    free-done step place false nets ms moving rest.stable rest.at_reset some legal.formed (record { sound = sound; free = released ms; count = refl })
moving-done step Reset true nets ms moving rest sound some legal = stays-done step true nets ms moving (legal.stays refl refl) rest sound
moving-done step place true nets ms moving rest sound some legal =
    free-done step place true nets ms moving rest.stable rest.at_reset some legal.formed
    (record { sound = sound; free = outside-free place ms (λ e. cc) rest.held; count = refl })

-- every legal step
pub step-done : (step : Step) (place : State) (trst : Bool) (nets : List Net) (ms : List Member)
    → IsRest (at_rest place trst nets ms) → AllSound ms → 0 < length ms → IsLegal step (at_rest place trst nets ms)
    → IsDone step (at_rest place trst nets ms)
step-done (Trst On) place trst nets ms rest sound some legal = on-done place trst nets ms rest.stable sound
step-done (Trst Off) place trst nets ms rest sound some legal = off-done place trst nets ms rest sound
step-done (Trst Z) place trst nets ms rest sound some legal = z-done place trst nets ms rest sound
step-done (Trst Absent) place trst nets ms rest sound some legal = done-same (Trst Absent) (at_rest place trst nets ms) refl refl refl refl rest sound
step-done (Scan column v end) place trst nets ms rest sound some legal = moving-done (Scan column v end) place trst nets ms refl rest sound some legal
step-done (Go s) place trst nets ms rest sound some legal = moving-done (Go s) place trst nets ms refl rest sound some legal
step-done (Path path) place trst nets ms rest sound some legal = moving-done (Path path) place trst nets ms refl rest sound some legal
step-done (Run run n end) place trst nets ms rest sound some legal = moving-done (Run run n end) place trst nets ms refl rest sound some legal

pub step_means : EachLegalStepPlaysAsItMeans
step_means step m rest sound some legal =
    let done = step-done step m.place m.trst m.nets m.members rest sound some legal in
    record {
      board = ap (λ h. h.board) done.played.heard;
      judged = ap (λ h. judge (wants_of step) h.answers) done.played.heard ∙ judged-of step m done.answers done.played.said;
      rest = done.rest;
      sound = done.sound;
      devices = done.count;
    }

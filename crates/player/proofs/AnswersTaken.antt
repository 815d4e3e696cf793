-- Answers taken.
use Rattle.std.proofs.Common.{◌≡◌, Bool, true, false, ℕ, zero, suc, ◌+◌, ◌-◌, ◌^◌, ◌<◌, ◌≤◌, ◌*◌, List, [], ◌∷◌, ◌++◌, map, length, take, drop, refl, sym, ap, subst, ◌∙◌, arith, length-append, count_by, Option, Some, None}
use Rattle.std.proofs.lemmas.Bool.{eqb-true}
use Rattle.std.proofs.lemmas.List.{length-take}
use Rattle.std.specs.Option.{option_to_list}
use Rattle.std.specs.Prelude.{◌==◌, not, filter, is_some, slice_get, if◌then◌else◌}
use Rattle.jt_tap.specs.declared.State.{State}
use Rattle.jt_tap.specs.declared.State.TheVariants.{Reset}
use Rattle.bitbang_protocol.specs.Protocol.{read_answer}
use Rattle.bitbang_protocol.specs.declared.Message.{Message}
use Rattle.bitbang_protocol.specs.declared.Message.TheVariants.{Quit}
use Rattle.bitbang.specs.declared.step_bytes.Spot.{Spot}
use Rattle.bitbang.specs.StepMessages.{step_messages}
use Rattle.scan_vectors.specs.Vector.{VectorBit, differs}
use Rattle.svf_programs.specs.Sound.{AllWithin, IsSound, IsWithin, step_limit, vector_limit}
use Rattle.svf_programs.specs.Steps.{Step, Scan, Go, Path, Run, Trst, Numbered, Program, place_after}
use Rattle.play_model.specs.Play.{Turn, is_bad, step_turns, turns, wants_of}
use Rattle.play_model.specs.Playing.{up_to_bad}
use Rattle.play_model.specs.declared.kind.Kind.{Kind}
use Rattle.play_model.specs.declared.kind.Kind.TheVariants.{Stops, PlaysOn}
use Rattle.play_model.specs.PlayingOn.{Mismatch}
use Rattle.play_model.specs.Streams as stream
use Rattle.play_model.specs.Streams.{Found, StreamState, Wanted, all_wanted, count_kept, hear, answers_taken, mismatch_of, some_differ, stops_for, unanswered, with_more}
use Rattle.play_model.proofs.Asks.{asks, asks-step}
use Rattle.play_model.proofs.Quits.{asks-append}
use Rattle.player.specs.declared.progress.Phase.{Phase}
use Rattle.player.specs.declared.progress.Phase.TheVariants.{Opening, Within, Over}
use Rattle.player.specs.declared.progress.Progress.{Progress}
use Rattle.play_model.specs.InWork.{answers_in}
use Rattle.player.specs.Findings.{IsKeptOf, Keeping, keeping}
use Rattle.player.specs.Progress.{InPhase, InStep, IsOver, IsProgressOf, over, standing_at, state_of, vector_bits}
use Rattle.player.specs.PlaceInPlay.{PlaceInPlay, differing_bit, finding_of}
use Rattle.player.proofs.Ahead.{ahead, owes}
use Rattle.player.proofs.Ends.{judged-one, next-unanswered, of-turn, quits, quits-behind}
use Rattle.player.proofs.TurnPlaces.{owed-is, reached}
use Rattle.player.proofs.Pieced.{fair-end, first, is-over, opened, start, stops-is, turns-end}
use Rattle.player.proofs.Steps.{cut, same-first, wants-of-vector}
use Rattle.player.proofs.Window.{asks-split}
use Rattle.player.proofs.PlayerPlaces.{in-opening, in-step, is-in, later, opens, turn}

asks-take : (n : ℕ) (ms : List Message) → asks (take n ms) ≤ asks ms
asks-take n ms = omega (arith, asks-split n ms)

-- how many answers are owed, as the fields say
module _ (program : Program) (p : Progress) (stands : IsProgressOf program.steps p) (good : p.bad ≡ None) where
  over-owes : (out : Bool) → p.phase ≡ Over out → stream.owed 256 (state_of program p) ≡ 0
  over-owes out is = by p.stopped refl
    where
      i : IsOver (drop p.at program.steps) p
      i = is-over program p out is stands

      s : PlaceInPlay
      s = standing_at program.steps p

      none : (a h : ℕ) → a ≤ h → a - h ≡ 0
      none a h le = omega (arith, le)

      by : (b : Bool) → p.stopped ≡ b → stream.owed 256 (state_of program p) ≡ 0
      by false e =
          let passed = i.passed e in
          let nothing = turns-end program p out is stands ∙ ap (step_turns p.place) passed.0 in
          let few : asks (ahead program s (fair-end program p out is stands)) ≡ 0 = ap asks (quits program s (fair-end program p out is stands) nothing) in
          owes program s (fair-end program p out is stands) good
          ∙ none _ p.heard (omega (arith, few, asks-take s.gone (ahead program s (fair-end program p out is stands))))
      by true e =
          let some = i.stopped e in
          let ms = step_messages p.place some.0.what in
          let t : Turn = record { command = some.0.number; messages = ms; wants = wants_of some.0.what } in
          let here = turns-end program p out is stands ∙ ap (step_turns p.place) some.2 in
          let few : asks (ahead program s (fair-end program p out is stands)) ≡ length (wants_of some.0.what) =
          ap asks (quits-behind program s (fair-end program p out is stands) t (step_turns (place_after p.place some.0.what) some.1) here some.3
          (stops-is program p out is stands true e))
          ∙ asks-append ms (Quit ∷ []) ∙ omega (arith, asks-step p.place some.0.what) in
          owes program s (fair-end program p out is stands) good
          ∙ none _ p.heard (omega (arith, few, some.3, asks-take s.gone (ahead program s (fair-end program p out is stands))))

  pub owed-so : stream.owed 256 (state_of program p) ≡ p.owed
  owed-so = by p.phase refl
    where
      by : (phase : Phase) → p.phase ≡ phase → stream.owed 256 (state_of program p) ≡ p.owed
      by (Opening n) is =
          ap (stream.owed 256) (opens program p n is stands)
          ∙ owed-is program (start program p n is stands) (first program p n is stands) (step_turns Reset program.steps) 0 (opened program p n is stands) refl
          ∙ sym (in-opening program p n is stands).owed
      by (Within spot) is = owed-is program (standing_at program.steps p) (turn program p spot is stands) (later program p spot is stands) p.owed (is-in program p spot is stands) good
      by (Over out) is = over-owes out is ∙ sym (is-over program p out is stands).owed

-- a step is at work where answers are owed
pub where-owed : (program : Program) (p : Progress) (stands : IsProgressOf program.steps p) → 0 < p.owed → (spot : Spot) × (p.phase ≡ Within spot)
where-owed program p stands some = by p.phase refl
  where
    by : (phase : Phase) → p.phase ≡ phase → (spot : Spot) × (p.phase ≡ Within spot)
    by (Opening n) is = absurd (omega (arith, some, (in-opening program p n is stands).owed))
    by (Within spot) is = (spot, is)
    by (Over out) is = absurd (omega (arith, some, (is-over program p out is stands).owed))

-- nothing is taken where nothing is owed
pub takes-none : (s : StreamState) (bytes : List ℕ) → stream.owed 256 s ≡ 0 → answers_taken 256 s bytes ≡ []
takes-none s bytes none = ap (λ (n : ℕ). up_to_bad (take n bytes)) none

pub bad-owes : (s : StreamState) → is_some s.bad ≡ true → stream.owed 256 s ≡ 0
bad-owes s bad = ap (λ (b : Bool). if b then 0 else count_by (λ b. b == 82) (stream.given_out 256 s) - s.answered) bad

-- one is taken, and then the others
pub takes-one : (s t : StreamState) (byte : ℕ) (bytes : List ℕ) (n : ℕ) → stream.owed 256 s ≡ n + 1 → (is_bad byte ≡ false → stream.owed 256 t ≡ n)
    → (is_bad byte ≡ true → stream.owed 256 t ≡ 0) → answers_taken 256 s (byte ∷ bytes) ≡ byte ∷ answers_taken 256 t bytes
takes-one s t byte bytes n owed good bad =
    let next : n + 1 ≡ suc n = omega arith in
    ap (λ (k : ℕ). up_to_bad (take k (byte ∷ bytes))) (owed ∙ next) ∙ by (is_bad byte) refl
  where
    by : (b : Bool) → is_bad byte ≡ b → byte ∷ (if b then [] else up_to_bad (take n bytes)) ≡ byte ∷ up_to_bad (take (stream.owed 256 t) bytes)
    by true is = ap (λ (k : ℕ). byte ∷ up_to_bad (take k bytes)) (sym (bad is))
    by false is = ap (λ (k : ℕ). byte ∷ up_to_bad (take k bytes)) (sym (good is))

-- what a byte says
pub reads-bit : (byte : ℕ) (bit : Bool) → read_answer byte ≡ Some bit → ((byte == 49) ≡ bit) × (is_bad byte ≡ false)
reads-bit byte bit e = by (byte == 48) refl (byte == 49) refl e
  where
    by : (a : Bool) → (byte == 48) ≡ a → (b : Bool) → (byte == 49) ≡ b → (if a then Some false else if b then Some true else None) ≡ Some bit
        → (b ≡ bit) × (not (is_some (if a then Some false else if b then Some true else None)) ≡ false)
    by true p true q e = let n : byte ≡ 48 = eqb-true byte 48 p in let m : byte ≡ 49 = eqb-true byte 49 q in absurd (omega (arith, n, m))
    by true p false q e = (cc, refl)
    by false p true q e = (cc, refl)
    by false p false q e = absurd (cc)

-- the next of a list
pub record IsNext (n : ℕ) (vs : List VectorBit) : Type 0 where
  pub first : VectorBit
  pub others : List VectorBit
  pub is : drop n vs ≡ first ∷ others
  pub then_is : drop (n + 1) vs ≡ others

pub next-of : (n : ℕ) (vs : List VectorBit) → n < length vs → IsNext n vs
next-of n [] less = absurd (omega (arith, less))
next-of zero (v ∷ vs) less = let one-more : 0 + 1 ≡ suc 0 = omega arith in
    record { first = v; others = vs; is = refl; then_is = ap (λ k. drop k (v ∷ vs)) one-more }
next-of (suc n) (v ∷ vs) less =
    let rest = next-of n vs (omega (arith, less)) in
    let one-more : suc n + 1 ≡ suc (n + 1) = omega arith in
    record { first = rest.first; others = rest.others; is = rest.is; then_is = ap (λ k. drop k (v ∷ vs)) one-more ∙ rest.then_is }

-- it stops where a bit is noted that it stops for
pub noted-stops : (b : Bool) → some_differ (finding_of b).list ≡ b
noted-stops true = refl
noted-stops false = refl

-- an answer is counted
module _ (program : Program) (p : Progress) (spot : Spot) (is : p.phase ≡ Within spot) (stands : IsProgressOf program.steps p) (good : p.bad ≡ None)
    (some : 0 < p.owed) (j : ℕ) (f : Bool) where
  abbrev i : InStep spot (drop p.at program.steps) p
  i = in-step program p spot is stands

  abbrev wants : List VectorBit
  wants = wants_of i.step.what

  abbrev next : Progress
  next = record p { heard = p.heard + 1; owed = p.owed - 1; judged = j; stopped = f }

  pub heard-below : p.heard < length wants
  heard-below = omega (arith, some, reached program (standing_at program.steps p) (turn program p spot is stands) (later program p spot is stands) p.owed (is-in program p spot is stands))

  pub n : IsNext p.heard wants
  n = next-of p.heard wants heard-below

  pub hears-on : (f ≡ false → filter (λ v. is_some v.wanted) (drop j (vector_bits i.step.what)) ≡ n.others) → IsProgressOf program.steps next
  hears-on judged = record {
    rests = stands.rests;
    phase = subst (InPhase (drop p.at program.steps) next) (sym is) in-next;
  }
    where
      in-next : InStep spot (drop p.at program.steps) next
      in-next = record {
        step = i.step;
        later = i.later;
        is = i.is;
        left = i.left;
        some = i.some;
        asked = i.asked ∙ omega (arith, some);
        allowed = omega (arith, i.allowed);
        judged = λ e. judged e ∙ sym n.then_is;
        fair = λ s. omega arith;
        bad = λ s. let clash : false ≡ true = sym (ap is_some good) ∙ s in absurd (cc);
      }

  pub hears-same : state_of program next ≡ record (state_of program p) { answered = (state_of program p).answered + 1; found = finding_of f }
  hears-same =
      let s = standing_at program.steps p in
      let count : answers_in (take s.over (turns program.steps)) + (p.heard + 1) ≡ (state_of program p).answered + 1 = omega arith in
      (λ k. record (state_of program p) { answered = count k; found = finding_of f })

  pub next-is : unanswered (state_of program p) ≡ record { command = i.step.number; bit = n.first } ∷ (map (of-turn (turn program p spot is stands)) n.others ++ all_wanted (later program p spot is stands))
  next-is = next-unanswered program (standing_at program.steps p) (turn program p spot is stands) (later program p spot is stands)
      (is-in program p spot is stands).here n.first n.others n.is

-- a vector has no more wanted bits than bits
pub wanted-most : (v : List VectorBit) → length (filter (λ v. is_some v.wanted) v) ≤ length v
wanted-most [] = omega arith
wanted-most (b ∷ v) = by (is_some b.wanted) (wanted-most v)
  where
    by : (q : Bool) → length (filter (λ v. is_some v.wanted) v) ≤ length v
        → length (if q then b ∷ filter (λ v. is_some v.wanted) v else filter (λ v. is_some v.wanted) v) ≤ suc (length v)
    by true le = omega (arith, le)
    by false le = omega (arith, le)

-- what an answer adds is one at most
adds-one : (l : List Wanted) (b : Bool) → length (mismatch_of l b) ≤ 1
adds-one [] b = omega arith
adds-one (w ∷ l) b = by (differs w.bit.wanted b)
  where
    by : (q : Bool) → length {A = Mismatch} (if q then record { command = w.command; part = w.bit.part; bit = w.bit.place } ∷ [] else []) ≤ 1
    by true = omega arith
    by false = omega arith

counted-most : (kind : Kind) (n : ℕ) → count_kept kind n ≤ n
counted-most Stops n = omega arith
counted-most PlaysOn n = omega arith

counted-more : (kind : Kind) (more : List Mismatch) (f : Found) → length f.list ≤ f.total
    → length (with_more kind more f).list ≤ (with_more kind more f).total
counted-more Stops more f le = omega (arith, le, length-take 1 (f.list ++ more), length-append f.list more)
counted-more PlaysOn more f le = omega (arith, le, length-take 256 (f.list ++ more), length-append f.list more)

-- A bit was judged by the code, of the step at work: so the answer is heard.
module _ (program : Program) (p r : Progress) (stands : IsProgressOf program.steps p) (good : p.bad ≡ None) (some : 0 < p.owed) (byte : ℕ) (bit : Bool)
    (told : read_answer byte ≡ Some bit) (s : Numbered) (first : slice_get program.steps p.at ≡ Some s) (v : List VectorBit) (scans : vector_bits s.what ≡ v)
    (k l : Keeping) (keeps : IsKeptOf (state_of program p) k)
    (rest : r ≡ record p { judged = r.judged; stopped = r.stopped })
    (stops_then : stops_for l.kind l.found.list ≡ r.stopped)
    (full : stops_for k.kind k.found.list ≡ true → (r ≡ p) × (l ≡ k) × ((more : List Mismatch) → with_more k.kind more k.found ≡ k.found))
    (one : stops_for k.kind k.found.list ≡ false → (w : VectorBit) (ws : List VectorBit) → filter (λ v. is_some v.wanted) (drop p.judged v) ≡ w ∷ ws
    → (filter (λ v. is_some v.wanted) (drop r.judged v) ≡ ws)
    × (l ≡ record k { found = with_more k.kind (option_to_list (differing_bit s.number w bit)) k.found })) where
  abbrev at : (spot : Spot) × (p.phase ≡ Within spot)
  at = where-owed program p stands some

  abbrev work : InStep at.0 (drop p.at program.steps) p
  work = in-step program p at.0 at.1 stands

  same : s ≡ work.step
  same = same-first (drop p.at program.steps) s work.step (drop (suc p.at) program.steps) work.later (cut program.steps p.at s first) work.is

  bits-same : v ≡ vector_bits work.step.what
  bits-same = sym scans ∙ ap (λ (x : Numbered). vector_bits x.what) same

  abbrev now : IsNext p.heard (wants_of work.step.what)
  now = n program p at.0 at.1 stands good some r.judged r.stopped

  stopped : p.stopped ≡ stops_for k.kind k.found.list
  stopped = sym (noted-stops p.stopped) ∙ sym keeps.stops

  -- where it does not stop, the next bit is judged
  judges : stops_for k.kind k.found.list ≡ false
      → (filter (λ v. is_some v.wanted) (drop r.judged v) ≡ now.others)
      × (l ≡ record k { found = with_more k.kind (option_to_list (differing_bit s.number now.first bit)) k.found })
  judges e = one e now.first now.others
      (ap (λ (x : List VectorBit). filter (λ v. is_some v.wanted) (drop p.judged x)) bits-same ∙ work.judged (stopped ∙ e) ∙ now.is)

  judged-next : (b : Bool) → stops_for k.kind k.found.list ≡ b → r.stopped ≡ false
      → filter (λ v. is_some v.wanted) (drop r.judged (vector_bits work.step.what)) ≡ now.others
  judged-next false e none = ap (λ (x : List VectorBit). filter (λ v. is_some v.wanted) (drop r.judged x)) (sym bits-same) ∙ (judges e).0
  judged-next true e none =
      let clash : false ≡ true = sym none ∙ ap (λ (x : Progress). x.stopped) (full e).0 ∙ stopped ∙ e in absurd (cc)

  abbrev counted : Progress → Progress
  counted x = record x { heard = x.heard + 1; owed = x.owed - 1 }

  pub counts-on : IsProgressOf program.steps (counted r)
  counts-on = subst (IsProgressOf program.steps) (sym (ap counted rest))
      (hears-on program p at.0 at.1 stands good some r.judged r.stopped (judged-next (stops_for k.kind k.found.list) refl))

  then-is : state_of program (counted r) ≡ record (state_of program p) { answered = (state_of program p).answered + 1; found = finding_of r.stopped }
  then-is = ap (λ (x : Progress). state_of program (counted x)) rest ∙ hears-same program p at.0 at.1 stands good some r.judged r.stopped

  abbrev adds : List Mismatch
  adds = mismatch_of (unanswered (state_of program p)) (byte == 49)

  adds-is : adds ≡ option_to_list (differing_bit s.number now.first bit)
  adds-is =
      ap (λ (x : List Wanted). mismatch_of x (byte == 49)) (next-is program p at.0 at.1 stands good some r.judged r.stopped)
      ∙ judged-one work.step.number now.first (map (of-turn (turn program p at.0 at.1 stands)) now.others ++ all_wanted (later program p at.0 at.1 stands)) (byte == 49)
      ∙ ap (λ (b : Bool). option_to_list (differing_bit work.step.number now.first b)) (reads-bit byte bit told).0
      ∙ ap (λ (x : Numbered). option_to_list (differing_bit x.number now.first bit)) (sym same)

  noted : (b : Bool) → stops_for k.kind k.found.list ≡ b → l ≡ record k { found = with_more k.kind adds k.found }
  noted true e = (full e).1 ∙ ap (λ (x : Found). record k { found = x }) (sym ((full e).2 adds))
  noted false e = (judges e).1 ∙ ap (λ (x : List Mismatch). record k { found = with_more k.kind x k.found }) (sym adds-is)

  pub counts-same : keeping l (state_of program (counted r)) ≡ hear byte (keeping k (state_of program p))
  counts-same =
      let answers = (reads-bit byte bit told).1 in
      let s = keeping k (state_of program p) in
      ap (keeping l) then-is
      ∙ ap (λ (x : Keeping). keeping x (record (state_of program p) { answered = (state_of program p).answered + 1 })) (noted (stops_for k.kind k.found.list) refl)
      ∙ sym ((λ i. if is_some (good i) then s else if answers i then record s { bad = Some byte } else
      record s { answered = s.answered + 1; found = with_more s.kind (mismatch_of (unanswered s) (byte == 49)) s.found }))

  pub counts-keeps : IsKeptOf (state_of program (counted r)) l
  counts-keeps = record {
    stops = stops_then ∙ sym (noted-stops r.stopped) ∙ sym (ap stream.stops then-is);
    few = omega (
      arith,
      keeps.few,
      ap (λ (x : Keeping). x.found.total) (noted (stops_for k.kind k.found.list) refl),
      counted-most k.kind (k.found.total + length adds),
      adds-one (unanswered (state_of program p)) (byte == 49),
      ap (λ (x : StreamState). x.answered) then-is,
    );
    counted = subst (λ (x : Keeping). length x.found.list ≤ x.found.total) (sym (noted (stops_for k.kind k.found.list) refl))
        (counted-more k.kind adds k.found keeps.counted);
  }

  pub counts-below : r.heard < length v
  counts-below = omega (
    arith,
    heard-below program p at.0 at.1 stands good some r.judged r.stopped,
    ap length (wants-of-vector work.step.what),
    ap length (ap (filter (λ v. is_some v.wanted)) bits-same),
    wanted-most v,
    ap (λ (x : Progress). x.heard) rest,
  )

-- a program wants no more bits than its steps may have
wants-most : (s : Step) → IsWithin s → length (wants_of s) ≤ vector_limit
wants-most (Scan column v end) within = omega (arith, within, wanted-most v)
wants-most (Go s) within = omega arith
wants-most (Path path) within = omega arith
wants-most (Run run n end) within = omega arith
wants-most (Trst w) within = omega arith

answers-most : (n : ℕ) (place : State) (steps : List Numbered) → AllWithin steps → answers_in (take n (step_turns place steps)) ≤ vector_limit * length steps
answers-most zero place steps all = omega arith
answers-most (suc n) place [] all = omega arith
answers-most (suc n) place (s ∷ steps) all =
    let one-step = wants-most s.what all.0 in
    let others = answers-most n (place_after place s.what) steps all.1 in
    omega (arith, one-step, others)

pub answered-most : (program : Program) (p : Progress) → IsSound program.steps → p.heard < vector_limit
    → (state_of program p).answered < vector_limit * (length program.steps + 1)
answered-most program p sound few = by (over p)
  where
    by : (n : ℕ) → answers_in (take n (turns program.steps)) + p.heard < vector_limit * (length program.steps + 1)
    by zero = omega (arith, few)
    by (suc n) = let most = answers-most n Reset program.steps sound.within in omega (arith, few, most)

-- another failure can be counted
pub has-room : (program : Program) (p : Progress) → IsProgressOf program.steps p → p.bad ≡ None → 0 < p.owed → IsSound program.steps → (k : Keeping)
    → IsKeptOf (state_of program p) k → length program.steps ≤ step_limit → k.found.total + 1 < 2 ^ 64
has-room program p stands good some sound k keeps few =
    let at = where-owed program p stands some in
    let work = in-step program p at.0 at.1 stands in
    let within : AllWithin (work.step ∷ work.later) = subst AllWithin work.is stands.rests.within in
    let below = heard-below program p at.0 at.1 stands good some p.judged p.stopped in
    let all = answered-most program p sound (omega (arith, below, wants-most work.step.what within.0)) in
    omega (arith, all, keeps.few, few)

pub is-none : {A : Type 0} (o : Option A) → is_some o ≡ false → o ≡ None
is-none None e = refl
is-none (Some x) e = absurd (cc)

-- an answer is heard, and then those that are left
pub takes-on : (program : Program) (p q : Progress) (byte : ℕ) (bytes : List ℕ) → IsProgressOf program.steps p → p.bad ≡ None → 0 < p.owed → IsProgressOf program.steps q
    → (is_bad byte ≡ false → (q.owed + 1 ≡ p.owed) × (q.bad ≡ None)) → (is_bad byte ≡ true → q.bad ≡ Some byte)
    → answers_taken 256 (state_of program p) (byte ∷ bytes) ≡ byte ∷ answers_taken 256 (state_of program q) bytes
takes-on program p q byte bytes stands good some then_stands taken_one bad_one =
    takes-one (state_of program p) (state_of program q) byte bytes (p.owed - 1) (owed-so program p stands good ∙ omega (arith, some))
    (λ e. owed-so program q then_stands (taken_one e).1 ∙ omega (arith, (taken_one e).0)) (λ e. bad-owes (state_of program q) (ap is_some (bad_one e)))

-- nothing is owed, or a byte that was no answer was taken
pub takes-nothing : (program : Program) (p : Progress) (bytes : List ℕ) → IsProgressOf program.steps p → p.bad ≡ None → p.owed ≡ 0 → answers_taken 256 (state_of program p) bytes ≡ []
takes-nothing program p bytes stands good none = takes-none (state_of program p) bytes (owed-so program p stands good ∙ none)

-- a step without a vector asks for nothing
pub asks-nothing : (program : Program) (p : Progress) (s : Numbered) → IsProgressOf program.steps p → slice_get program.steps p.at ≡ Some s → vector_bits s.what ≡ []
    → 0 < p.owed → ⊥
asks-nothing program p s stands first none some =
    let at = where-owed program p stands some in
    let work = in-step program p at.0 at.1 stands in
    let same : s ≡ work.step = same-first (drop p.at program.steps) s work.step (drop (suc p.at) program.steps) work.later (cut program.steps p.at s first) work.is in
    let wants : wants_of work.step.what ≡ [] =
    ap (λ (x : Numbered). wants_of x.what) (sym same) ∙ sym (wants-of-vector s.what) ∙ ap (filter (λ v. is_some v.wanted)) none in
    omega (
      arith,
      some,
      ap length wants,
      reached program (standing_at program.steps p) (turn program p at.0 at.1 stands) (later program p at.0 at.1 stands) p.owed
          (is-in program p at.0 at.1 stands),
    )

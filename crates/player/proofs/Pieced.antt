-- Bytes of a play given out.
use Rattle.std.proofs.Common.{slice_index_or, ◌≡◌, Bool, true, false, ℕ, zero, suc, ◌+◌, ◌-◌, ◌<◌, ◌≤◌, List, [], ◌∷◌, ◌++◌, map, length, take, drop, set, refl, sym, ap, subst, ◌∙◌, arith, length-append, length-drop, min, None}
use Rattle.std.proofs.Math.Seq.{drop-append-add, take-append-le}
use Rattle.std.proofs.lemmas.List.{append-nil, drop-drop, drop-map}
use Rattle.std.specs.Prelude.{◌==◌, is_some, if◌then◌else◌}
use Rattle.jt_tap.specs.declared.State.TheVariants.{Reset}
use Rattle.bitbang_protocol.specs.Cycles.{opening}
use Rattle.bitbang_protocol.specs.declared.Message.TheVariants.{Quit}
use Rattle.bitbang_protocol.specs.Protocol.{encode, value}
use Rattle.bitbang.specs.StepMessages.{step_bytes, step_messages}
use Rattle.bitbang.specs.declared.step_bytes.Spot.{Spot}
use Rattle.svf_programs.specs.Steps.{Numbered, Program, place_after}
use Rattle.play_model.specs.Play.{Turn, step_turns, turns, wants_of}
use Rattle.play_model.specs.Streams.{StreamState, some_differ, bytes_to_send}
use Rattle.play_model.proofs.Asks.{asks}
use Rattle.player.specs.declared.progress.Phase.{Phase}
use Rattle.player.specs.declared.progress.Phase.TheVariants.{Opening, Within, Over}
use Rattle.player.specs.declared.progress.Progress.{Progress}
use Rattle.player.specs.Progress.{Gives, InPhase, InStep, IsOver, HasWorkLeft, IsProgressOf, gone, over, first_step_length, rest_of, standing_at, state_of}
use Rattle.player.specs.PlaceInPlay.{PlaceInPlay, finding_of, messages_in, reads, state_at, up_to_reads}
use Rattle.player.proofs.Ahead.{ahead, stops_at, waits}
use Rattle.player.proofs.Ends.{quits, quits-behind}
use Rattle.player.proofs.TurnPlaces.{IsIn, Waits, waits-so}
use Rattle.player.proofs.Window.{asks-split, in-bytes, up-to-all}
use Rattle.player.proofs.PlayerPlaces.{no-elements, stops-some, in-opening, in-step, is-in, left-is, opens, over-is, turn, later}

-- of what the window lets through
pub through-front : (n : ℕ) (l : List ℕ) (k : ℕ) → n ≤ length (up_to_reads l k) → take n (up_to_reads l k) ≡ take n l
through-front zero l k le = refl
through-front (suc n) [] k le = refl
through-front (suc n) (b ∷ l) k le = by (b == 82) k le (λ m h. through-front n l m h)
  where
    by : (q : Bool) (k : ℕ) → suc n ≤ length (if q then elim k [ zero ↦ [] | suc m ↦ b ∷ up_to_reads l m ] else b ∷ up_to_reads l k)
        → ((m : ℕ) → n ≤ length (up_to_reads l m) → take n (up_to_reads l m) ≡ take n l)
        → take (suc n) (if q then elim k [ zero ↦ [] | suc m ↦ b ∷ up_to_reads l m ] else b ∷ up_to_reads l k) ≡ b ∷ take n l
    by true zero le rest = absurd (omega (arith, le))
    by true (suc m) le rest = ap (λ r. b ∷ r) (rest m (omega (arith, le)))
    by false k le rest = ap (λ r. b ∷ r) (rest k (omega (arith, le)))

pub through-most : (l : List ℕ) (k : ℕ) → length (up_to_reads l k) ≤ length l
through-most [] k = omega arith
through-most (b ∷ l) k = by (b == 82) k (λ m. through-most l m)
  where
    by : (q : Bool) (k : ℕ) → ((m : ℕ) → length (up_to_reads l m) ≤ length l)
        → length (if q then elim k [ zero ↦ [] | suc m ↦ b ∷ up_to_reads l m ] else b ∷ up_to_reads l k) ≤ suc (length l)
    by true zero rest = omega arith
    by true (suc m) rest = let le = rest m in omega (arith, le)
    by false k rest = let le = rest k in omega (arith, le)

-- where something is left and nothing is owed, something is let through
pub through-some : (l : List ℕ) (k : ℕ) → 0 < k → length (up_to_reads l k) ≡ 0 → l ≡ []
through-some [] k some none = refl
through-some (b ∷ l) k some none = absurd (by (b == 82) k some none)
  where
    by : (q : Bool) (k : ℕ) → 0 < k → length (if q then elim k [ zero ↦ [] | suc m ↦ b ∷ up_to_reads l m ] else b ∷ up_to_reads l k) ≡ 0 → ⊥
    by true zero some none = omega (arith, some)
    by true (suc m) some none = omega (arith, none)
    by false k some none = omega (arith, none)

-- of what is behind that, nothing is let through
pub through-rest : (l : List ℕ) (k j : ℕ) → j + reads (take (length (up_to_reads l k)) l) ≡ k → up_to_reads (drop (length (up_to_reads l k)) l) j ≡ []
through-rest [] k j e = refl
through-rest (b ∷ l) k j e = by (b == 82) refl k j (λ m n. through-rest l m n) e
  where
    by : (q : Bool) → (b == 82) ≡ q → (k j : ℕ)
        → ((m n : ℕ) → n + reads (take (length (up_to_reads l m)) l) ≡ m → up_to_reads (drop (length (up_to_reads l m)) l) n ≡ [])
        → j + reads (take (length (if q then elim k [ zero ↦ [] | suc m ↦ b ∷ up_to_reads l m ] else b ∷ up_to_reads l k)) (b ∷ l)) ≡ k
        → up_to_reads (drop (length (if q then elim k [ zero ↦ [] | suc m ↦ b ∷ up_to_reads l m ] else b ∷ up_to_reads l k)) (b ∷ l)) j ≡ []
    by true is zero j rest e =
        let none : j ≡ 0 = omega (arith, e) in
        ap (λ (n : ℕ). up_to_reads (b ∷ l) n) none ∙ ap (λ (q : Bool). if q then [] else b ∷ up_to_reads l 0) is
    by true is (suc m) j rest e =
        let n = length (up_to_reads l m) in
        let one : reads (b ∷ take n l) ≡ suc (reads (take n l)) = ap (λ (q : Bool). if q then suc (reads (take n l)) else reads (take n l)) is in
        rest m j (omega (arith, e, one))
    by false is k j rest e =
        let n = length (up_to_reads l k) in
        let none : reads (b ∷ take n l) ≡ reads (take n l) = ap (λ (q : Bool). if q then suc (reads (take n l)) else reads (take n l)) is in
        rest k j (omega (arith, e, none))

no-reads : (n : ℕ) → reads (take n []) ≡ 0
no-reads zero = refl
no-reads (suc n) = refl

pub reads-append : (n : ℕ) (g : ℕ) (l : List ℕ) → reads (take (g + n) l) ≡ reads (take g l) + reads (take n (drop g l))
reads-append n zero l = let same : 0 + n ≡ n = omega arith in ap (λ k. reads (take k l)) same ∙ let z : reads (take n l) ≡ 0 + reads (take n l) = omega arith in z
reads-append n (suc g) [] = omega (arith, no-reads (suc g + n), no-reads n)
reads-append n (suc g) (b ∷ l) =
    let same : suc g + n ≡ suc (g + n) = omega arith in
    ap (λ k. reads (take k (b ∷ l))) same ∙ by (b == 82) (reads-append n g l)
  where
    by : (q : Bool) → reads (take (g + n) l) ≡ reads (take g l) + reads (take n (drop g l))
        → (if q then suc (reads (take (g + n) l)) else reads (take (g + n) l))
        ≡ (if q then suc (reads (take g l)) else reads (take g l)) + reads (take n (drop g l))
    by true e = omega (arith, e)
    by false e = e

-- more of the present turn is out
pub given-more : (program : Program) (s : PlaceInPlay) (n : ℕ)
    → state_at program (record s { gone = s.gone + n }) ≡ record (state_at program s) { given = (state_at program s).given + n }
given-more program s n =
    let before = length (messages_in (take s.over (turns program.steps))) in
    let same : before + (s.gone + n) ≡ before + s.gone + n = omega arith in
    (λ k. record (state_at program s) { given = same k })

-- nothing is given out
pub gives-none : (program : Program) (p : Progress) (buffer : List ℕ) → IsProgressOf program.steps p → p.bad ≡ None
    → p.owed ≡ 0 → (0 < length buffer → bytes_to_send 256 (state_of program p) ≡ []) → Gives program p buffer buffer p 0
gives-none program p buffer stands good unowed none = record {
  stands = stands;
  good = good;
  state = let same : (state_of program p).given ≡ (state_of program p).given + 0 = omega arith in (λ k. record (state_of program p) { given = same k });
  some = omega arith;
  room = omega arith;
  bytes = refl;
  none = λ room e. none room;
  held = λ room owed. absurd (omega (arith, unowed, owed));
}

-- one byte is given out
pub gives-one : (program : Program) (p next : Progress) (buffer after : List ℕ) (b : ℕ) (more : List ℕ) → IsProgressOf program.steps next → next.bad ≡ None → next.owed ≡ 0
    → state_of program next ≡ record (state_of program p) { given = (state_of program p).given + 1 }
    → bytes_to_send 256 (state_of program p) ≡ b ∷ more → 0 < length buffer → after ≡ set buffer 0 b → Gives program p buffer after next 1
gives-one program p next [] after b more stands good unowed state waits room is = absurd (omega (arith, room))
gives-one program p next (x ∷ xs) after b more stands good unowed state waits room is = record {
  stands = stands;
  good = good;
  state = state;
  some = omega (arith, ap length waits);
  room = omega arith;
  bytes = is ∙ ap (λ (l : List ℕ). take 1 l ++ xs) (sym waits);
  none = λ room e. absurd (omega (arith, e));
  held = λ room owed. absurd (omega (arith, unowed, owed));
}

-- the opening
module _ (program : Program) (p : Progress) (n : ℕ) (is : p.phase ≡ Opening n) (stands : IsProgressOf program.steps p) where
  abbrev pub start : PlaceInPlay
  start = record { over = 0; gone = n; heard = 0; stopped = false; bad = None }

  abbrev pub first : Turn
  first = record { command = 0; messages = opening; wants = [] }

  nothing-asked : asks (take n opening) ≡ 0
  nothing-asked = omega (arith, asks-split n opening)

  pub opened : IsIn program start first (step_turns Reset program.steps) 0
  opened = record {
    here = refl;
    within = (in-opening program p n is stands).some;
    asked = nothing-asked;
    allowed = omega arith;
    fair = λ e. absurd (cc);
  }

  pub opening-waits : (tail : List ℕ) × (bytes_to_send 256 (state_of program p) ≡ drop n (map encode opening) ++ tail)
  opening-waits =
      let w = waits-so program start first (step_turns Reset program.steps) 0 opened refl in
      let free : asks (drop n opening) ≤ 256 - 0 = omega (arith, asks-split n opening) in (
        w.tail,
        ap (bytes_to_send 256) (opens program p n is stands) ∙ w.is
            ∙ ap (λ (l : List ℕ). l ++ w.tail) (in-bytes (drop n opening) (256 - 0) ∙ ap (map encode) (up-to-all (drop n opening) (256 - 0) free)
            ∙ sym (drop-map encode n opening)),
      )

  pub opening-on : n < length opening → IsProgressOf program.steps (record p { phase = Opening (n + 1) })
  opening-on less =
      let i = in-opening program p n is stands in
      record { rests = stands.rests; phase = record { some = omega (arith, less); at = i.at; place = i.place; heard = i.heard; owed = i.owed; stopped = i.stopped; bad = i.bad } }

  pub opening-state : n < length opening
      → state_of program (record p { phase = Opening (n + 1) }) ≡ record (state_of program p) { given = (state_of program p).given + 1 }
  opening-state less =
      let same : 0 + (n + 1) ≡ 0 + n + 1 = omega arith in
      opens program (record p { phase = Opening (n + 1) }) (n + 1) refl (opening-on less)
      ∙ (λ k. record (state_at program start) { given = same k })
      ∙ (λ k. record (sym (opens program p n is stands) k) { given = (sym (opens program p n is stands) k).given + 1 })

-- what waits within a step
module _ (program : Program) (p : Progress) (spot : Spot) (is : p.phase ≡ Within spot) (stands : IsProgressOf program.steps p) (good : p.bad ≡ None) where
  abbrev its-bytes : List ℕ
  its-bytes = rest_of p.place (drop p.at program.steps) spot

  step-waits : Waits (bytes_to_send 256 (state_of program p)) (map encode (drop (gone (drop p.at program.steps) p) (turn program p spot is stands).messages)) p.owed
  step-waits = waits-so program (standing_at program.steps p) (turn program p spot is stands) (later program p spot is stands) p.owed (is-in program p spot is stands) good

  record StepWaits : Type 0 where
    tail : List ℕ
    waits : bytes_to_send 256 (state_of program p) ≡ up_to_reads its-bytes (256 - p.owed) ++ tail
    none : 0 < p.owed → tail ≡ []

  in-bytes-left : StepWaits
  in-bytes-left =
      let w = step-waits in record {
        tail = w.tail;
        waits = w.is ∙ ap (λ (l : List ℕ). up_to_reads l (256 - p.owed) ++ w.tail) (sym (left-is program p spot is stands));
        none = w.none;
      }

-- a step
module _ (program : Program) (p : Progress) (spot : Spot) (is : p.phase ≡ Within spot) (stands : IsProgressOf program.steps p) (good : p.bad ≡ None) where
  abbrev rest : List Numbered
  rest = drop p.at program.steps

  abbrev left : List ℕ
  left = rest_of p.place (drop p.at program.steps) spot

  -- so many of its bytes are given out, up to another spot
  module _ (buffer after : List ℕ) (then_spot : Spot) (count owed : ℕ) (counted : count ≡ min (length buffer) (length (up_to_reads left (256 - p.owed))))
      (filled : after ≡ take count left ++ drop count buffer) (then_left : rest_of p.place rest then_spot ≡ drop count left)
      (owes : owed ≡ p.owed + reads (take count left)) (allowed : owed ≤ 256) where
    abbrev next : Progress
    next = record p { phase = Within then_spot; owed = owed }

    abbrev i : InStep spot (drop p.at program.steps) p
    i = in-step program p spot is stands

    abbrev all : List ℕ
    all = step_bytes p.place i.step.what

    some-left : count ≤ length left
    some-left = omega (arith, counted, through-most left (256 - p.owed))

    gone-then : gone rest next ≡ gone rest p + count
    gone-then = omega (
      arith,
      some-left,
      i.some,
      ap length then_left,
      length-drop count left,
      ap (λ (ph : Phase). gone rest (record p { phase = ph })) is,
    )

    step-on : IsProgressOf program.steps next
    step-on = record {
      rests = stands.rests;
      phase = record {
        step = i.step;
        later = i.later;
        is = i.is;
        left = then_left ∙ ap (drop count) i.left ∙ drop-drop count (gone rest p) all ∙ ap (λ (n : ℕ). drop n all) (sym gone-then);
        some = omega (arith, ap length then_left, length-drop count left, i.some);
        asked = ap (λ (n : ℕ). reads (take n all)) gone-then ∙ reads-append count (gone rest p) all
            ∙ omega (arith, i.asked, owes, ap (λ (l : List ℕ). reads (take count l)) i.left);
        allowed = allowed;
        judged = i.judged;
        fair = i.fair;
        bad = λ some. let clash : false ≡ true = sym (ap is_some good) ∙ some in absurd (cc);
      };
    }

    step-state : state_of program next ≡ record (state_of program p) { given = (state_of program p).given + count }
    step-state =
        (λ k. state_at program (record (standing_at program.steps p) { over = suc p.at; gone = gone-then k }))
        ∙ given-more program (record (standing_at program.steps p) { over = suc p.at }) count
        ∙ (λ k. let s = state_at program (record (standing_at program.steps p) { over = sym (over-is program p spot is stands) k }) in
        record s { given = s.given + count })

    nothing : (w : StepWaits program p spot is stands good) → length (up_to_reads left (256 - p.owed)) ≡ 0 → HasWorkLeft rest p (Within spot) → bytes_to_send 256 (state_of program p) ≡ []
    nothing w none ready = by p.owed refl
      where
        by : (o : ℕ) → p.owed ≡ o → bytes_to_send 256 (state_of program p) ≡ []
        by zero e =
            let empty : left ≡ [] = through-some left (256 - p.owed) (omega (arith, e)) none in
            let more : 0 < p.owed = ready empty in absurd (omega (arith, e))
        by (suc o) e = w.waits ∙ (λ k. no-elements (up_to_reads left (256 - p.owed)) none k ++ w.none (omega (arith, e)) k)

    -- while answers are owed, bytes that leave room are all that wait
    nothing-more : count < length buffer → 0 < owed → bytes_to_send 256 (state_of program next) ≡ []
    nothing-more room some =
        let w = in-bytes-left program next then_spot refl step-on good in
        let n = length (up_to_reads left (256 - p.owed)) in
        let whole : count ≡ n = omega (arith, counted, room) in
        let left-then : rest_of p.place rest then_spot ≡ drop n left = then_left ∙ ap (λ (k : ℕ). drop k left) whole in
        let free : 256 - owed + reads (take n left) ≡ 256 - p.owed = omega (arith, owes, allowed, ap (λ (k : ℕ). reads (take k left)) whole) in
        w.waits ∙ (λ k. up_to_reads (left-then k) (256 - owed) ++ w.none some k) ∙ append-nil (up_to_reads (drop n left) (256 - owed))
        ∙ through-rest left (256 - p.owed) (256 - owed) free

    pub gives-step : (count ≡ 0 → HasWorkLeft rest p (Within spot)) → Gives program p buffer after next count
    gives-step ready =
        let w = in-bytes-left program p spot is stands good in
        let through = up_to_reads left (256 - p.owed) in
        let fits : count ≤ length through = omega (arith, counted) in
        let front : take count (bytes_to_send 256 (state_of program p)) ≡ take count left =
        ap (take count) w.waits ∙ take-append-le count through w.tail fits ∙ through-front count left (256 - p.owed) fits in
        record {
          stands = step-on;
          good = good;
          state = step-state;
          some = omega (arith, fits, ap length w.waits, length-append through w.tail);
          room = omega (arith, counted);
          bytes = filled ∙ ap (λ (l : List ℕ). l ++ drop count buffer) (sym front);
          none = λ room zero-count. nothing w (omega (arith, counted, zero-count, room)) (ready zero-count);
          held = nothing-more;
        }

-- the end
module _ (program : Program) (p : Progress) (out : Bool) (is : p.phase ≡ Over out) (stands : IsProgressOf program.steps p) where
  abbrev pub is-over : IsOver (drop p.at program.steps) p
  is-over = subst (InPhase (drop p.at program.steps) p) is stands.phase

  pub over-end : over p ≡ suc p.at
  over-end = ap (λ (ph : Phase). elim ph [ Opening n ↦ 0 | Within spot ↦ suc p.at | Over out ↦ suc p.at ]) is

  pub gone-end : gone (drop p.at program.steps) p ≡ first_step_length p.place (drop p.at program.steps) + value out
  gone-end = ap (λ (ph : Phase). gone (drop p.at program.steps) (record p { phase = ph })) is

  pub turns-end : drop (over p) (turns program.steps) ≡ step_turns p.place (drop p.at program.steps)
  turns-end = ap (λ (n : ℕ). drop n (turns program.steps)) over-end ∙ stands.rests.turns_are

  pub stops-is : (b : Bool) → p.stopped ≡ b → stops_at (standing_at program.steps p) ≡ b
  stops-is b e = by p.stopped b e
    where
      by : (stopped b : Bool) → stopped ≡ b → some_differ (finding_of stopped).list ≡ b
      by false b e = e
      by true b e = e

  pub fair-end : stops_at (standing_at program.steps p) ≡ true → 0 < p.heard
  fair-end stops = (is-over.stopped (stops-some p.stopped true stops)).4

  -- what is ahead, behind what is out
  pub ahead-end : drop (gone (drop p.at program.steps) p) (ahead program (standing_at program.steps p) fair-end) ≡ drop (value out) (Quit ∷ [])
  ahead-end = by p.stopped refl
    where
      by : (b : Bool) → p.stopped ≡ b
          → drop (gone (drop p.at program.steps) p) (ahead program (standing_at program.steps p) fair-end) ≡ drop (value out) (Quit ∷ [])
      by false e =
          let none = is-over.passed e in
          let nothing : drop (over p) (turns program.steps) ≡ [] = turns-end ∙ ap (step_turns p.place) none.0 in
          let g : gone (drop p.at program.steps) p ≡ value out = gone-end ∙ ap (λ (l : List Numbered). first_step_length p.place l + value out) none.0 ∙ omega arith in
          (λ k. drop (g k) (quits program (standing_at program.steps p) fair-end nothing k))
      by true e =
          let some = is-over.stopped e in
          let ms = step_messages p.place some.0.what in
          let t : Turn = record { command = some.0.number; messages = ms; wants = wants_of some.0.what } in
          let here : drop (over p) (turns program.steps) ≡ t ∷ step_turns (place_after p.place some.0.what) some.1 =
          turns-end ∙ ap (step_turns p.place) some.2 in
          let g : gone (drop p.at program.steps) p ≡ length ms + value out = gone-end ∙ ap (λ (l : List Numbered). first_step_length p.place l + value out) some.2 in
          (λ k. drop (g k) (quits-behind program (standing_at program.steps p) fair-end t _ here some.3 (stops-is true e) k))
          ∙ drop-append-add ms (Quit ∷ []) (value out)

  pub quit-waits : bytes_to_send 256 (state_of program p) ≡ map encode (drop (value out) (Quit ∷ []))
  quit-waits = waits program (standing_at program.steps p) fair-end is-over.bad ∙ ap (map encode) ahead-end

  -- `Q` is given out
  pub quit-on : IsProgressOf program.steps (record p { phase = Over true })
  quit-on = record {
    rests = stands.rests;
    phase = record { passed = is-over.passed; stopped = is-over.stopped; owed = is-over.owed; bad = is-over.bad };
  }

  pub quit-state : out ≡ false → state_of program (record p { phase = Over true }) ≡ record (state_of program p) { given = (state_of program p).given + 1 }
  quit-state none =
      let P = first_step_length p.place (drop p.at program.steps) in
      let g : P + value true ≡ gone (drop p.at program.steps) p + 1 = omega (arith, gone-end, ap value none) in
      (λ k. state_at program (record (standing_at program.steps p) { over = suc p.at; gone = g k }))
      ∙ given-more program (record (standing_at program.steps p) { over = suc p.at }) 1
      ∙ (λ k. let s = state_at program (record (standing_at program.steps p) { over = sym over-end k }) in record s { given = s.given + 1 })

-- the first of what is left
pub drop-index : (n : ℕ) (l : List ℕ) → n < length l → drop n l ≡ slice_index_or l n 0 ∷ drop (suc n) l
drop-index n [] less = absurd (omega (arith, less))
drop-index zero (x ∷ l) less = refl
drop-index (suc n) (x ∷ l) less = drop-index n l (omega (arith, less))

-- what is said of where it stands is said of where it goes on
pub gives-same : (program : Program) (p q : Progress) (buffer after : List ℕ) (now : Progress) (count : ℕ) → state_of program q ≡ state_of program p
    → Gives program q buffer after now count → Gives program p buffer after now count
gives-same program p q buffer after now count same g = record {
  stands = g.stands;
  good = g.good;
  state = g.state ∙ ap (λ (s : StreamState). record s { given = s.given + count }) same;
  some = subst (λ (s : StreamState). count ≤ length (bytes_to_send 256 s)) same g.some;
  room = g.room;
  bytes = subst (λ (s : StreamState). after ≡ take count (bytes_to_send 256 s) ++ drop count buffer) same g.bytes;
  none = subst (λ (s : StreamState). 0 < length buffer → count ≡ 0 → bytes_to_send 256 s ≡ []) same g.none;
  held = g.held;
}

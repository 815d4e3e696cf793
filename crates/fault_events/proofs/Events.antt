-- The captures of a run tell how it ends with other nets.
use Rattle.std.proofs.Common.{◌≡◌, ℕ, zero, suc, ◌+◌, Bool, true, false, ◌&&◌, ◌||◌, List, [], ◌∷◌, ◌++◌, length, take, drop, map, Option, Some, None, if◌then◌else◌, refl, sym, ap, ap₂, ◌∙◌}
use Rattle.std.specs.Prelude.{⊤, is_some}
use Rattle.std.specs.List.{list_any}
use Rattle.std.proofs.lemmas.Bool.{false≢true}
use Rattle.jt_tap.specs.declared.Column.{Column}
use Rattle.jt_tap.specs.declared.Column.TheVariants.{Dr, Ir}
use Rattle.jt_tap.specs.declared.State.{State}
use Rattle.jt_tap.specs.declared.State.TheVariants as state
use Rattle.jt_tap.specs.declared.Work.{Work}
use Rattle.jt_tap.specs.declared.Work.TheVariants.{Captures}
use Rattle.jt_tap.specs.Controller.{is_at, pause, work}
use Rattle.scan_vectors.specs.declared.failures.Mismatch.{Mismatch}
use Rattle.scan_vectors.specs.declared.part.Part.{Part}
use Rattle.scan_vectors.specs.Vector.{VectorBit, differs, judge, tdis}
use Rattle.svf_programs.specs.Steps.{Numbered, Step, Scan, Go, Path, Run, Trst}
use Rattle.pin_nets.specs.Wired.{Net}
use Rattle.board_plan.specs.Planned as planned
use Rattle.board_model.specs.Cells.{Member}
use Rattle.board_model.specs.Nets.{strings}
use Rattle.board_model.specs.Planned.{members_of}
use Rattle.board_model.specs.Whole.{AtRest, capture, pass, reset_member, settle, shift, update}
use Rattle.play_model.specs.declared.ending.Ending.{Ending}
use Rattle.play_model.specs.declared.ending.Ending.TheVariants.{Pass, Fail}
use Rattle.play_model.specs.DirectPlay.{opened_state}
use Rattle.play_model.specs.Meaning.{after_step, failure, move_to, move_unless_there, outcome}
use Rattle.board_faults.specs.Faults.{with_way}
use Rattle.board_faults.specs.Made.{board_of}
use Rattle.board_faults.specs.Staying.{captured, kept_along, kept_arriving, kept_ending, kept_moving, kept_passing, staying, with_nets}
use Rattle.board_faults.specs.Together.{unlike}
use Rattle.board_faults.proofs.OnePlay.{means, means_with, opened-members, pick, picked}
use Rattle.board_faults.proofs.Staying.{captured-instructions, registers_differ, settle-same}
use Rattle.fault_events.specs.Events.{Event, EventsTellOfFaults, EventsTellOfRuns, caught_at, ending_by, events, events_along, events_arriving, events_ending, events_moving, events_of_step, events_passing, first_other, reads_other, stays_other}
use Rattle.fault_events.specs.Firsts.{firsts_by}
use Rattle.fault_events.specs.Sources.{Source, sources, taken}
use Rattle.fault_events.specs.Parts.{planned_parts}
use Rattle.fault_events.proofs.PartsKept.{capture_keeps, map_keeps, move_keeps, pass_keeps, settle_keeps, shift_keeps, step_keeps, update_keeps}
use Rattle.fault_events.proofs.Sources.{captures_take}

-- ---- the devices have no strings before and behind each step

abbrev pub count : AtRest → ℕ
count m = strings m.members

abbrev planned-strings : List planned.Member → ℕ
planned-strings [] = 0
planned-strings (p ∷ ps) = length p.follows + planned-strings ps

strings-planned : (ms : List Member) → strings ms ≡ planned-strings (planned_parts ms)
strings-planned [] = refl
strings-planned (m ∷ ms) = ap (λ (n : ℕ). length m.follows + n) (strings-planned ms)

counted : (ms ns : List Member) → planned_parts ms ≡ planned_parts ns → strings ms ≡ strings ns
counted ms ns same = strings-planned ms ∙ ap planned-strings same ∙ sym (strings-planned ns)

settle-count : (m : AtRest) → count (settle m) ≡ count m
settle-count m = counted (settle m).members m.members (settle_keeps m)

update-count : (column : Column) (m : AtRest) → count (update column m) ≡ count m
update-count column m = counted (update column m).members m.members (update_keeps column m)

pass-count : (w : Work) (m : AtRest) → count (pass w m) ≡ count m
pass-count w m = counted (pass w m).members m.members (pass_keeps w m)

scanned-count : (column : Column) (t : List Bool) (m : AtRest) → count (shift column t (capture column m)) ≡ count m
scanned-count column t m = counted (shift column t (capture column m)).members m.members (shift_keeps column t (capture column m) ∙ capture_keeps column m)

move-count : (s : State) (m : AtRest) → count (move_unless_there s m) ≡ count m
move-count s m = counted (move_unless_there s m).members m.members (move_keeps s m)

pub step_count : (step : Step) (m : AtRest) → count (after_step step m) ≡ count m
step_count step m = counted (after_step step m).members m.members (step_keeps step m)

-- ---- bits and tests

or-false : (a b : Bool) → (a || b) ≡ false → (a ≡ false) × (b ≡ false)
or-false true b e = absurd (false≢true (sym e))
or-false false b e = (refl, e)

like : (a b : Bool) → unlike a b ≡ false → a ≡ b
like true true e = refl
like true false e = absurd (false≢true (sym e))
like false true e = absurd (false≢true (sym e))
like false false e = refl

drop-map : (f : Source → Bool) (n : ℕ) (ss : List Source) → drop n (map f ss) ≡ map f (drop n ss)
drop-map f zero ss = refl
drop-map f (suc n) [] = refl
drop-map f (suc n) (s ∷ ss) = drop-map f n ss

any-both : (test : Event → Bool) (xs ys : List Event) → list_any test (xs ++ ys) ≡ false → (list_any test xs ≡ false) × (list_any test ys ≡ false)
any-both test [] ys e = (refl, e)
any-both test (x ∷ xs) ys e =
    let one = or-false (test x) (list_any test (xs ++ ys)) e in
    let rest = any-both test xs ys one.1 in
    (ap₂ (λ (a b : Bool). a || b) one.0 rest.0, rest.1)

-- either of two reasons
either-none : {A : Type 0} (a b : Bool) (o : Option A) → (if a then None else (if b then None else o)) ≡ (if a || b then None else o)
either-none true b o = refl
either-none false b o = refl

either-empty : {A : Type 0} (a b : Bool) (l : List A) → (if a then [] else (if b then [] else l)) ≡ (if a || b then [] else l)
either-empty true b l = refl
either-empty false b l = refl

-- a wanted bit that is right where these are read differs with others where they are other
wanted-other : (w : Option Bool) (good bad : Bool) → differs w good ≡ false → differs w bad ≡ (is_some w && unlike good bad)
wanted-other None good bad e = refl
wanted-other (Some true) true true e = refl
wanted-other (Some true) true false e = refl
wanted-other (Some true) false bad e = absurd (false≢true (sym e))
wanted-other (Some false) true bad e = absurd (false≢true (sym e))
wanted-other (Some false) false true e = refl
wanted-other (Some false) false false e = refl

not-first : (b : Bool) (f : Part × ℕ) (o : Option (Part × ℕ)) → (if b then Some f else o) ≡ None → (b ≡ false) × (o ≡ None)
not-first true f o e = absurd (cc)
not-first false f o e = (refl, e)

judged-others : (good bad : Source → Bool) (v : List VectorBit) (ss : List Source) (t : List Bool)
    → judge v (take (length (tdis v)) (map good ss ++ t)) ≡ None
    → judge v (take (length (tdis v)) (map bad ss ++ t)) ≡ first_other (λ s. unlike (good s) (bad s)) v ss
judged-others good bad [] ss t e = refl
judged-others good bad (v ∷ vs) [] t e = e
judged-others good bad (v ∷ vs) (s ∷ ss) t e =
    let first = not-first (differs v.wanted (good s)) (v.part, v.place) (judge vs (take (length (tdis vs)) (map good ss ++ t))) e in
    ap₂ (λ (b : Bool) (o : Option (Part × ℕ)). if b then Some (v.part, v.place) else o)
    (wanted-other v.wanted (good s) (bad s) first.0) (judged-others good bad vs ss t first.1)

-- ---- what captures tell of other nets

abbrev tell : ℕ → Option (Part × ℕ) → Option Ending → Option Ending
tell c None rest = rest
tell c (Some f) rest = Some (Fail c f.0 f.1)

abbrev pub failed : ℕ → Part × ℕ → Mismatch
failed c f = record { command = c; part = f.0; bit = f.1 }

-- the first bit that fails, if one does, before others
abbrev pub put_first : ℕ → Option (Part × ℕ) → List Mismatch → List Mismatch
put_first c None rest = rest
put_first c (Some f) rest = failed c f ∷ rest

module _ (nets : List Net) where
  abbrev other : AtRest → AtRest
  other m = with_nets nets m

  abbrev stays : List Event → Bool
  stays es = list_any (stays_other nets) es

  first-tells : (e : Event) (es : List Event) → ending_by (e ∷ es) nets ≡ tell e.command (caught_at nets e) (if stays_other nets e then None else ending_by es nets)
  first-tells e es = by (caught_at nets e)
    where
      by : (o : Option (Part × ℕ))
          → (elim o as (λ _. Option Ending) [
            | None ↦ if stays_other nets e then None else ending_by es nets
            | Some f ↦ Some (Fail e.command f.0 f.1)
          ]) ≡ tell e.command o (if stays_other nets e then None else ending_by es nets)
      by None = refl
      by (Some f) = refl

  first-lists : (e : Event) (es : List Event) → firsts_by (e ∷ es) nets ≡ put_first e.command (caught_at nets e) (if stays_other nets e then [] else firsts_by es nets)
  first-lists e es = by (caught_at nets e)
    where
      by : (o : Option (Part × ℕ))
          → (elim o as (λ _. List Mismatch) [
            | None ↦ if stays_other nets e then [] else firsts_by es nets
            | Some f ↦ failed e.command f ∷ (if stays_other nets e then [] else firsts_by es nets)
          ]) ≡ put_first e.command o (if stays_other nets e then [] else firsts_by es nets)
      by None = refl
      by (Some f) = refl

  -- nothing is wanted of these
  abbrev AreQuiet : List Event → Type 0
  AreQuiet [] = ⊤
  AreQuiet (e ∷ es) = (caught_at nets e ≡ None) × AreQuiet es

  quiet-both : (xs ys : List Event) → AreQuiet xs → AreQuiet ys → AreQuiet (xs ++ ys)
  quiet-both [] ys one more = more
  quiet-both (x ∷ xs) ys one more = (one.0, quiet-both xs ys one.1 more)

  quiet-tell : (es rest : List Event) → AreQuiet es → ending_by (es ++ rest) nets ≡ (if stays es then None else ending_by rest nets)
  quiet-tell [] rest quiet = refl
  quiet-tell (e ∷ es) rest quiet =
      first-tells e (es ++ rest)
      ∙ ap₂ (λ (o : Option (Part × ℕ)) (r : Option Ending). tell e.command o (if stays_other nets e then None else r)) quiet.0 (quiet-tell es rest quiet.1)
      ∙ either-none (stays_other nets e) (stays es) (ending_by rest nets)

  quiet-list : (es rest : List Event) → AreQuiet es → firsts_by (es ++ rest) nets ≡ (if stays es then [] else firsts_by rest nets)
  quiet-list [] rest quiet = refl
  quiet-list (e ∷ es) rest quiet =
      first-lists e (es ++ rest)
      ∙ ap₂ (λ (o : Option (Part × ℕ)) (r : List Mismatch). put_first e.command o (if stays_other nets e then [] else r)) quiet.0 (quiet-list es rest quiet.1)
      ∙ either-empty (stays_other nets e) (stays es) (firsts_by rest nets)

  -- ---- the same bits where none is another

  same-taken : (m : AtRest) (ss : List Source) → list_any (reads_other nets m) ss ≡ false → map (taken m.nets m.members) ss ≡ map (taken nets m.members) ss
  same-taken m [] e = refl
  same-taken m (s ∷ ss) e =
      let both = or-false (reads_other nets m s) (list_any (reads_other nets m) ss) e in
      ap₂ (λ (b : Bool) (bs : List Bool). b ∷ bs) (like (taken m.nets m.members s) (taken nets m.members s) both.0) (same-taken m ss both.1)

  same-behind : (n : ℕ) (m : AtRest) → count m ≡ 0 → list_any (reads_other nets m) (drop n (sources m.members)) ≡ false
      → drop n (captured Dr m) ≡ drop n (captured Dr (other m))
  same-behind n m none e =
      ap (drop n) (captures_take m none m.nets) ∙ drop-map (taken m.nets m.members) n (sources m.members)
      ∙ same-taken m (drop n (sources m.members)) e
      ∙ sym (ap (drop n) (captures_take m none nets) ∙ drop-map (taken nets m.members) n (sources m.members))

  -- what fails of a scan is the least wanted bit that is another
  scan-fails : (v : List VectorBit) (m : AtRest) → count m ≡ 0 → judge v (take (length (tdis v)) (captured Dr m ++ tdis v)) ≡ None
      → judge v (take (length (tdis v)) (captured Dr (other m) ++ tdis v)) ≡ first_other (reads_other nets m) v (sources m.members)
  scan-fails v m none passes =
      let line = λ (bits : List Bool). judge v (take (length (tdis v)) (bits ++ tdis v)) in
      ap line (captures_take m none nets)
      ∙ judged-others (taken m.nets m.members) (taken nets m.members) v (sources m.members) (tdis v) (sym (ap line (captures_take m none m.nets)) ∙ passes)

  -- ---- arriving and moving

  arriving-quiet : (c : ℕ) (s : State) (m : AtRest) → AreQuiet (events_arriving c s m)
  arriving-quiet c state.DrPause m = (refl, tt)
  arriving-quiet c s m = tt

  arriving-same : (c : ℕ) (s : State) (m : AtRest) → count m ≡ 0 → stays (events_arriving c s m) ≡ false → kept_arriving s m ≡ kept_arriving s (other m)
  arriving-same c state.DrPause m none e = same-behind 0 m none (or-false (list_any (reads_other nets m) (sources m.members)) false e).0
  arriving-same c state.IrPause m none e = captured-instructions nets m
  arriving-same c s m none e = refl

  moving-quiet : (c : ℕ) (s : State) (m : AtRest) → AreQuiet (events_moving c s m)
  moving-quiet c s m = by (is_at m.place s)
    where
      by : (b : Bool) → AreQuiet (if b then [] else events_arriving c s (settle m))
      by true = tt
      by false = arriving-quiet c s (settle m)

  go-same : (c : ℕ) (s : State) (m : AtRest) → count m ≡ 0 → stays (events_arriving c s (settle m)) ≡ false
      → kept_arriving s (settle m) ≡ kept_arriving s (settle (other m))
  go-same c s m none e = arriving-same c s (settle m) (settle-count m ∙ none) e ∙ sym (ap (kept_arriving s) (settle-same nets m))

  moving-same : (c : ℕ) (s : State) (m : AtRest) → count m ≡ 0 → stays (events_moving c s m) ≡ false → kept_moving s m ≡ kept_moving s (other m)
  moving-same c s m none = by (is_at m.place s)
    where
      by : (b : Bool) → stays (if b then [] else events_arriving c s (settle m)) ≡ false
          → (if b then [] else kept_arriving s (settle m)) ≡ (if b then [] else kept_arriving s (settle (other m)))
      by true e = refl
      by false e = go-same c s m none e

  moved-same : (s : State) (m : AtRest) → kept_moving s m ≡ kept_moving s (other m) → move_unless_there s (other m) ≡ other (move_unless_there s m)
  moved-same s m = by (is_at m.place s)
    where
      by : (b : Bool) → (if b then [] else kept_arriving s (settle m)) ≡ (if b then [] else kept_arriving s (settle (other m)))
          → (if b then other m else move_to s (other m)) ≡ other (if b then m else move_to s m)
      by true e = refl
      by false e = registers_differ (Go s) m nets e

  -- ---- along a path

  passing-quiet : (c : ℕ) (w : Work) (m : AtRest) → AreQuiet (events_passing c w m)
  passing-quiet c (Captures Dr) m = (refl, tt)
  passing-quiet c w m = tt

  passing-same : (c : ℕ) (w : Work) (m : AtRest) → count m ≡ 0 → stays (events_passing c w m) ≡ false → kept_passing w m ≡ kept_passing w (other m)
  passing-same c (Captures Dr) m none e = same-behind 0 m none (or-false (list_any (reads_other nets m) (sources m.members)) false e).0
  passing-same c (Captures Ir) m none e = captured-instructions nets m
  passing-same c w m none e = refl

  along-quiet : (c : ℕ) (path : List State) (m : AtRest) → AreQuiet (events_along c path m)
  along-quiet c [] m = tt
  along-quiet c (s ∷ path) m =
      quiet-both (events_passing c (work s) m) (events_along c path (record (pass (work s) m) { place = s }))
      (passing-quiet c (work s) m) (along-quiet c path (record (pass (work s) m) { place = s }))

  along-same : (c : ℕ) (path : List State) (m : AtRest) → count m ≡ 0 → stays (events_along c path m) ≡ false → kept_along path m ≡ kept_along path (other m)
  along-same c [] m none e = refl
  along-same c (s ∷ path) m none e =
      let next = record (pass (work s) m) { place = s } in
      let both = any-both (stays_other nets) (events_passing c (work s) m) (events_along c path next) e in
      let first = passing-same c (work s) m none both.0 in
      let moved = registers_differ (Path (s ∷ [])) m nets (ap (λ (bits : List Bool). bits ++ []) first) in
      ap₂ (λ (a b : List Bool). a ++ b) first
      (along-same c path next (pass-count (work s) m ∙ none) both.1 ∙ sym (ap (kept_along path) moved))

  -- ---- scans

  ending-quiet : (c : ℕ) (column : Column) (end : State) (m : AtRest) → AreQuiet (events_ending c column end m)
  ending-quiet c column end m = by (is_at end (pause column))
    where
      by : (b : Bool) → AreQuiet (if b then [] else events_arriving c end (update column m))
      by true = tt
      by false = arriving-quiet c end (update column m)

  ending-same : (c : ℕ) (column : Column) (end : State) (m : AtRest) → count m ≡ 0 → stays (events_ending c column end m) ≡ false
      → kept_ending column end m ≡ kept_ending column end (other m)
  ending-same c column end m none = by (is_at end (pause column))
    where
      by : (b : Bool) → stays (if b then [] else events_arriving c end (update column m)) ≡ false
          → (if b then [] else kept_arriving end (update column m)) ≡ (if b then [] else kept_arriving end (update column (other m)))
      by true e = refl
      by false e = arriving-same c end (update column m) (update-count column m ∙ none) e

  -- a scan shifts the same in where the same stays
  shifted-same : (column : Column) (v : List VectorBit) (m : AtRest) → drop (length v) (captured column m) ≡ drop (length v) (captured column (other m))
      → shift column (tdis v) (capture column (other m)) ≡ other (shift column (tdis v) (capture column m))
  shifted-same Dr v m e =
      ap (λ (x : AtRest). record x { place = m.place })
      (registers_differ (Scan Dr v state.DrPause) (record m { place = state.Idle }) nets (ap (λ (bits : List Bool). bits ++ []) e))
  shifted-same Ir v m e =
      ap (λ (x : AtRest). record x { place = m.place })
      (registers_differ (Scan Ir v state.IrPause) (record m { place = state.Idle }) nets (ap (λ (bits : List Bool). bits ++ []) e))

  -- what stays of a scan from a settled board
  scanning-same : (c : ℕ) (column : Column) (v : List VectorBit) (end : State) (m : AtRest) → count m ≡ 0
      → drop (length v) (captured column m) ≡ drop (length v) (captured column (other m))
      → stays (events_ending c column end (shift column (tdis v) (capture column m))) ≡ false
      → drop (length v) (captured column m) ++ kept_ending column end (shift column (tdis v) (capture column m))
      ≡ drop (length v) (captured column (other m)) ++ kept_ending column end (shift column (tdis v) (capture column (other m)))
  scanning-same c column v end m none front e =
      ap₂ (λ (a b : List Bool). a ++ b) front
      (ending-same c column end (shift column (tdis v) (capture column m)) (scanned-count column (tdis v) m ∙ none) e
      ∙ sym (ap (kept_ending column end) (shifted-same column v m front)))

  -- ---- every step

  pub record Tells (c : ℕ) (step : Step) (m : AtRest) : Type 0 where
    pub told : (rest : List Event)
        → ending_by (events_of_step c step m ++ rest) nets
        ≡ tell c (failure step (other m)) (if stays (events_of_step c step m) then None else ending_by rest nets)
    pub listed : (rest : List Event)
        → firsts_by (events_of_step c step m ++ rest) nets
        ≡ put_first c (failure step (other m)) (if stays (events_of_step c step m) then [] else firsts_by rest nets)
    pub same : stays (events_of_step c step m) ≡ false → staying step m ≡ staying step (other m)

  scan-tells : (c : ℕ) (column : Column) (v : List VectorBit) (end : State) (m : AtRest) → count m ≡ 0 → failure (Scan column v end) m ≡ None
      → Tells c (Scan column v end) m
  scan-tells c Dr v end m none passes =
      let s = settle m in
      let clear : count s ≡ 0 = settle-count m ∙ none in
      let e : Event = record { command = c; board = s; vector = v } in
      let last = events_ending c Dr end (shift Dr (tdis v) (capture Dr s)) in
      let settled = ap (λ (x : AtRest). judge v (take (length (tdis v)) (captured Dr x ++ tdis v))) (settle-same nets m) in
      let caught : failure (Scan Dr v end) (other m) ≡ caught_at nets e = settled ∙ scan-fails v s clear passes in
      record {
        told = λ rest.
            first-tells e (last ++ rest)
            ∙ ap (λ (r : Option Ending). tell c (caught_at nets e) (if stays_other nets e then None else r))
            (quiet-tell last rest (ending-quiet c Dr end (shift Dr (tdis v) (capture Dr s))))
            ∙ ap (tell c (caught_at nets e)) (either-none (stays_other nets e) (stays last) (ending_by rest nets))
            ∙ ap (λ (o : Option (Part × ℕ)). tell c o (if stays (e ∷ last) then None else ending_by rest nets)) (sym caught);
        listed = λ rest.
            first-lists e (last ++ rest)
            ∙ ap (λ (r : List Mismatch). put_first c (caught_at nets e) (if stays_other nets e then [] else r))
            (quiet-list last rest (ending-quiet c Dr end (shift Dr (tdis v) (capture Dr s))))
            ∙ ap (put_first c (caught_at nets e)) (either-empty (stays_other nets e) (stays last) (firsts_by rest nets))
            ∙ ap (λ (o : Option (Part × ℕ)). put_first c o (if stays (e ∷ last) then [] else firsts_by rest nets)) (sym caught);
        same = λ quiet.
            let both = or-false (stays_other nets e) (stays last) quiet in
            scanning-same c Dr v end s clear (same-behind (length v) s clear both.0) both.1
            ∙ sym (ap (λ (x : AtRest). drop (length v) (captured Dr x) ++ kept_ending Dr end (shift Dr (tdis v) (capture Dr x))) (settle-same nets m));
      }
  scan-tells c Ir v end m none passes =
      let s = settle m in
      let clear : count s ≡ 0 = settle-count m ∙ none in
      let last = events_ending c Ir end (shift Ir (tdis v) (capture Ir s)) in
      let line = λ (bits : List Bool). judge v (take (length (tdis v)) (bits ++ tdis v)) in
      let fails : failure (Scan Ir v end) (other m) ≡ None =
      ap (λ (x : AtRest). line (captured Ir x)) (settle-same nets m) ∙ sym (ap line (captured-instructions nets s)) ∙ passes in
      record {
        told = λ rest.
            quiet-tell last rest (ending-quiet c Ir end (shift Ir (tdis v) (capture Ir s)))
            ∙ ap (λ (o : Option (Part × ℕ)). tell c o (if stays last then None else ending_by rest nets)) (sym fails);
        listed = λ rest.
            quiet-list last rest (ending-quiet c Ir end (shift Ir (tdis v) (capture Ir s)))
            ∙ ap (λ (o : Option (Part × ℕ)). put_first c o (if stays last then [] else firsts_by rest nets)) (sym fails);
        same = λ quiet.
            scanning-same c Ir v end s clear (ap (drop (length v)) (captured-instructions nets s)) quiet
            ∙ sym (ap (λ (x : AtRest). drop (length v) (captured Ir x) ++ kept_ending Ir end (shift Ir (tdis v) (capture Ir x))) (settle-same nets m));
      }

  pub step_tells : (c : ℕ) (step : Step) (m : AtRest) → count m ≡ 0 → failure step m ≡ None → Tells c step m
  step_tells c (Scan column v end) m none passes = scan-tells c column v end m none passes
  step_tells c (Go s) m none passes = record {
    told = λ rest. quiet-tell (events_arriving c s (settle m)) rest (arriving-quiet c s (settle m));
    listed = λ rest. quiet-list (events_arriving c s (settle m)) rest (arriving-quiet c s (settle m));
    same = go-same c s m none;
  }
  step_tells c (Path path) m none passes = record {
    told = λ rest. quiet-tell (events_along c path m) rest (along-quiet c path m);
    listed = λ rest. quiet-list (events_along c path m) rest (along-quiet c path m);
    same = along-same c path m none;
  }
  step_tells c (Run run n end) m none passes =
      let next = move_unless_there run m in
      let one = events_moving c run m in
      let two = events_moving c end next in
      record {
        told = λ rest. quiet-tell (one ++ two) rest (quiet-both one two (moving-quiet c run m) (moving-quiet c end next));
        listed = λ rest. quiet-list (one ++ two) rest (quiet-both one two (moving-quiet c run m) (moving-quiet c end next));
        same = λ quiet.
            let both = any-both (stays_other nets) one two quiet in
            let first = moving-same c run m none both.0 in
            ap₂ (λ (a b : List Bool). a ++ b) first
            (moving-same c end next (move-count run m ∙ none) both.1 ∙ sym (ap (kept_moving end) (moved-same run m first)));
      }
  step_tells c (Trst w) m none passes = record { told = λ rest. refl; listed = λ rest. refl; same = λ quiet. refl }

-- ---- programs

some-same : (a b : Ending) → Some a ≡ Some b → a ≡ b
some-same a b e = cc

none-some : {A : Type 0} (b : Ending) → None ≡ Some b → A
none-some b e = absurd (cc)

-- of a program that passes the first step and the others do
pub record Passing (s : Numbered) (ss : List Numbered) (m : AtRest) : Type 0 where
  pub first : failure s.what m ≡ None
  pub others : (outcome ss (after_step s.what m)).ending ≡ Pass

pub pass_parts : (s : Numbered) (ss : List Numbered) (m : AtRest) → (outcome (s ∷ ss) m).ending ≡ Pass → Passing s ss m
pass_parts s ss m e = by (failure s.what m) refl (sym (picked s ss m) ∙ e)
  where
    by : (o : Option (Part × ℕ)) → failure s.what m ≡ o → pick s.number o (outcome ss (after_step s.what m)).ending ≡ Pass → Passing s ss m
    by None is h = record { first = is; others = h }
    by (Some f) is h = absurd (cc)

-- what the captures of all steps but the first tell
abbrev rest-of : List Net → Numbered → List Numbered → AtRest → Option Ending
rest-of nets s ss m = ending_by (events ss (after_step s.what m)) nets

runs-told : (nets : List Net) (ending : Ending) (steps : List Numbered) (m : AtRest) → count m ≡ 0 → (outcome steps m).ending ≡ Pass
    → ending_by (events steps m) nets ≡ Some ending → (outcome steps (with_nets nets m)).ending ≡ ending
runs-told nets ending [] m none passes e = some-same Pass ending e
runs-told nets ending (s ∷ ss) m none passes e =
    let its = pass_parts s ss m passes in
    let tells = step_tells nets s.number s.what m none its.first in
    let after = after_step s.what m in
    let later = runs-told nets ending ss after (step_count s.what m ∙ none) its.others in
    by (failure s.what (with_nets nets m)) refl (list_any (stays_other nets) (events_of_step s.number s.what m)) refl later tells.same
    (sym (tells.told (events ss after)) ∙ e)
  where
    by : (o : Option (Part × ℕ)) → failure s.what (with_nets nets m) ≡ o
        → (b : Bool) → list_any (stays_other nets) (events_of_step s.number s.what m) ≡ b
        → (rest-of nets s ss m ≡ Some ending → (outcome ss (with_nets nets (after_step s.what m))).ending ≡ ending)
        → (list_any (stays_other nets) (events_of_step s.number s.what m) ≡ false → staying s.what m ≡ staying s.what (with_nets nets m))
        → tell s.number (failure s.what (with_nets nets m)) (if list_any (stays_other nets) (events_of_step s.number s.what m) then None else rest-of nets s ss m) ≡ Some ending
        → (outcome (s ∷ ss) (with_nets nets m)).ending ≡ ending
    by (Some f) fails b is later same told =
        picked s ss (with_nets nets m)
        ∙ ap (λ (o : Option (Part × ℕ)). pick s.number o (outcome ss (after_step s.what (with_nets nets m))).ending) fails
        ∙ some-same (Fail s.number f.0 f.1) ending
        (sym (ap (λ (o : Option (Part × ℕ)). tell s.number o (if list_any (stays_other nets) (events_of_step s.number s.what m) then None else rest-of nets s ss m)) fails) ∙ told)
    by None fails true is later same told =
        none-some ending (sym (ap₂ (λ (o : Option (Part × ℕ)) (b : Bool). tell s.number o (if b then None else rest-of nets s ss m)) fails is) ∙ told)
    by None fails false is later same told =
        picked s ss (with_nets nets m)
        ∙ ap (λ (o : Option (Part × ℕ)). pick s.number o (outcome ss (after_step s.what (with_nets nets m))).ending) fails
        ∙ ap (λ (x : AtRest). (outcome ss x).ending) (registers_differ s.what m nets (same is))
        ∙ later (sym (ap₂ (λ (o : Option (Part × ℕ)) (b : Bool). tell s.number o (if b then None else rest-of nets s ss m)) fails is) ∙ told)

pub runs_are_told : EventsTellOfRuns
runs_are_told steps m none passes nets ending e = runs-told nets ending steps m none passes e

-- ---- from power-up

pub opened_count : (w : planned.Wiring) → strings (members_of w) ≡ 0 → count (opened_state (board_of w)) ≡ 0
opened_count w none =
    ap strings (opened-members w.nets (members_of w)) ∙ counted (map reset_member (members_of w)) (members_of w) (map_keeps reset_member (λ x. refl) (members_of w)) ∙ none

pub faults_are_told : EventsTellOfFaults
faults_are_told program legal w sound none passes its_way ending e =
    means_with program legal w sound its_way
    ∙ runs-told (with_way its_way w.nets) ending program.steps (opened_state (board_of w)) (opened_count w none)
    (sym (means program legal w sound) ∙ passes) e

-- What is noted of every pin tells how a program ends with a fault.
use Rattle.std.proofs.Common.{◌≡◌, ℕ, zero, suc, Bool, true, false, ◌&&◌, ◌||◌, ◌==◌, List, [], ◌∷◌, ◌++◌, length, map, take, drop, Option, Some, None, if◌then◌else◌, refl, sym, ap, ap₂, ◌∙◌}
use Rattle.std.specs.Prelude.{⊤, option_map}
use Rattle.std.specs.List.{list_any, remove}
use Rattle.jt_tap.specs.declared.Column.{Column}
use Rattle.jt_tap.specs.declared.Column.TheVariants.{Dr, Ir}
use Rattle.jt_tap.specs.declared.State.{State}
use Rattle.jt_tap.specs.declared.State.TheVariants as state
use Rattle.jt_tap.specs.declared.Work.{Work}
use Rattle.jt_tap.specs.declared.Work.TheVariants.{Resets, Captures, Shifts, Updates, Waits}
use Rattle.jt_tap.specs.Controller.{is_at, pause, work}
use Rattle.svf_words.specs.declared.keywords.TrstWord.TheVariants.{On, Off, Z, Absent}
use Rattle.scan_vectors.specs.declared.part.Part.{Part}
use Rattle.scan_vectors.specs.Vector.{VectorBit, tdis}
use Rattle.svf_programs.specs.Steps.{Numbered, Step, Scan, Go, Path, Run, Trst}
use Rattle.pin_nets.specs.declared.Pin.{Pin}
use Rattle.pin_nets.specs.Wired.{Net, has_port_bit}
use Rattle.board_plan.specs.Planned.{Wiring, all_pins}
use Rattle.board_model.specs.Cells.{Member}
use Rattle.board_model.specs.Nets.{pin_drive}
use Rattle.board_model.specs.Whole.{AtRest, along, arrive, capture, pass, settle, shift, update}
use Rattle.play_model.specs.declared.ending.Ending.{Ending}
use Rattle.play_model.specs.declared.ending.Ending.TheVariants.{Fail}
use Rattle.play_model.specs.DirectPlay.{opened_state}
use Rattle.play_model.specs.Meaning.{after_step, move_to, move_unless_there, scan_end}
use Rattle.board_faults.specs.declared.kinds.Way.{Way}
use Rattle.board_faults.specs.declared.kinds.Way.TheVariants as way
use Rattle.board_faults.specs.Faults.{IsWayOf, with_way}
use Rattle.board_faults.specs.Made.{board_of}
use Rattle.board_faults.specs.Sight.{MayHaveFaults}
use Rattle.board_faults.specs.Together.{driven}
use Rattle.board_faults.proofs.Driving.{driven_both}
use Rattle.fault_events.specs.declared.notes.Note.{Note}
use Rattle.fault_events.specs.declared.notes.Spot.{Spot}
use Rattle.fault_events.specs.Captures.{Noted, noted_at}
use Rattle.fault_events.specs.Endings.{NotesTellOfFaults, all_of, both, ending_noted, first_note, notes_of, second_note}
use Rattle.fault_events.specs.Events.{Event, caught_at, ending_by, events, events_along, events_arriving, events_ending, events_moving, events_of_step, events_passing, stays_other}
use Rattle.fault_events.specs.Notes.{first_from, first_pins, net_at, note_in, note_of, noted, second_pins, way_first, way_stays}
use Rattle.fault_events.specs.Sources.{Source, Fixed, Seen, is_from, sources}
use Rattle.fault_events.proofs.Events.{faults_are_told}
use Rattle.fault_events.proofs.Telling.{any_either, any_none, first_either, first_none, named, notes_tell}

-- ---- pins together

module _ (ms : List Member) (v : List VectorBit) where
  abbrev note : List Pin → Note
  note pins = note_in ms v pins

  one-more : (p : Pin) (ps : List Pin) (s : Source) → is_from (p ∷ ps) s ≡ (is_from (p ∷ []) s || is_from ps s)
  one-more p ps (Fixed b) = refl
  one-more p ps (Seen q) = or-none ((p.device == q.device) && (p.port == q.port)) (has_port_bit q.device q.port ps)
    where
      or-none : (a b : Bool) → (a || b) ≡ ((a || false) || b)
      or-none true b = refl
      or-none false b = refl

  none-from : (s : Source) → is_from [] s ≡ false
  none-from (Fixed b) = refl
  none-from (Seen q) = refl

  together-noted : (ps : List Pin) → all_of (map (λ p. note (p ∷ [])) ps) ≡ note ps
  together-noted [] = λ i. record {
    made = driven [];
    first = sym (ap (λ (t : Source → Bool). first_from t 0 v (sources ms)) (λ j s. none-from s j) ∙ first_none 0 v (sources ms)) i;
    stays = sym (ap (λ (t : Source → Bool). list_any t (drop (length v) (sources ms))) (λ j s. none-from s j) ∙ any_none (drop (length v) (sources ms))) i;
  }
  together-noted (p ∷ ps) =
      ap (both (note (p ∷ []))) (together-noted ps)
      ∙ (λ i. record {
        made = sym (driven_both (pin_drive ms p ∷ []) (map (pin_drive ms) ps)) i;
        first = sym (ap (λ (t : Source → Bool). first_from t 0 v (sources ms)) (λ j s. one-more p ps s j)
            ∙ first_either (is_from (p ∷ [])) (is_from ps) 0 v (sources ms)) i;
        stays = sym (ap (λ (t : Source → Bool). list_any t (drop (length v) (sources ms))) (λ j s. one-more p ps s j)
            ∙ any_either (is_from (p ∷ [])) (is_from ps) (drop (length v) (sources ms))) i;
      })

-- ---- those of a net

module _ {X Y : Type 0} (f : X → Y) where
  take-map : (xs ys : List X) → take (length xs) (map f (xs ++ ys)) ≡ map f xs
  take-map [] ys = refl
  take-map (x ∷ xs) ys = ap (λ (l : List Y). f x ∷ l) (take-map xs ys)

  drop-map : (xs ys : List X) → drop (length xs) (map f (xs ++ ys)) ≡ map f ys
  drop-map [] ys = refl
  drop-map (x ∷ xs) ys = drop-map xs ys

  one-map : (k : ℕ) (xs : List X) → take 1 (drop k (map f xs)) ≡ map f (take 1 (drop k xs))
  one-map zero [] = refl
  one-map (suc k) [] = refl
  one-map zero (x ∷ xs) = refl
  one-map (suc k) (x ∷ xs) = one-map k xs

  remove-map : (xs : List X) (k : ℕ) → remove (map f xs) k ≡ map f (remove xs k)
  remove-map [] zero = refl
  remove-map [] (suc k) = refl
  remove-map (x ∷ xs) zero = refl
  remove-map (x ∷ xs) (suc k) = ap (λ (l : List Y). f x ∷ l) (remove-map xs k)

net-notes : (f : Pin → Note) (nets : List Net) (k : ℕ) → notes_of nets k (map f (all_pins nets)) ≡ map f (net_at nets k).pins
net-notes f [] k = refl
net-notes f (n ∷ nets) zero = take-map f n.pins (all_pins nets)
net-notes f (n ∷ nets) (suc k) = ap (notes_of nets k) (drop-map f n.pins (all_pins nets)) ∙ net-notes f nets k

pub first_noted : (nets : List Net) (its_way : Way) (ms : List Member) (v : List VectorBit)
    → first_note nets its_way (noted (all_pins nets) ms v) ≡ note_in ms v (first_pins nets its_way)
first_noted nets its_way ms v = by its_way
  where
    whole : (k : ℕ) → all_of (notes_of nets k (noted (all_pins nets) ms v)) ≡ note_in ms v (net_at nets k).pins
    whole k = ap all_of (net-notes (λ p. note_in ms v (p ∷ [])) nets k) ∙ together-noted ms v (net_at nets k).pins

    by : (its_way : Way) → first_note nets its_way (noted (all_pins nets) ms v) ≡ note_in ms v (first_pins nets its_way)
    by (way.Open net pin bit) =
        ap (λ (l : List Note). all_of (take 1 (drop pin l))) (net-notes (λ p. note_in ms v (p ∷ [])) nets net)
        ∙ ap all_of (one-map (λ p. note_in ms v (p ∷ [])) pin (net_at nets net).pins)
        ∙ together-noted ms v (take 1 (drop pin (net_at nets net).pins))
    by (way.Pull net) = whole net
    by (way.Stuck net bit) = whole net
    by (way.Short first second winner) = whole first

pub second_noted : (nets : List Net) (its_way : Way) (ms : List Member) (v : List VectorBit)
    → second_note nets its_way (noted (all_pins nets) ms v) ≡ note_in ms v (second_pins nets its_way)
second_noted nets (way.Open net pin bit) ms v =
    ap (λ (l : List Note). all_of (remove l pin)) (net-notes (λ p. note_in ms v (p ∷ [])) nets net)
    ∙ ap all_of (remove-map (λ p. note_in ms v (p ∷ [])) (net_at nets net).pins pin)
    ∙ together-noted ms v (remove (net_at nets net).pins pin)
second_noted nets (way.Pull net) ms v = together-noted ms v []
second_noted nets (way.Stuck net bit) ms v = together-noted ms v []
second_noted nets (way.Short first second winner) ms v =
    ap all_of (net-notes (λ p. note_in ms v (p ∷ [])) nets second) ∙ together-noted ms v (net_at nets second).pins

-- ---- the nets stay

abbrev pub AllOn : List Net → List Event → Type 0
AllOn nets [] = ⊤
AllOn nets (e ∷ es) = (e.board.nets ≡ nets) × AllOn nets es

on-both : (nets : List Net) (xs ys : List Event) → AllOn nets xs → AllOn nets ys → AllOn nets (xs ++ ys)
on-both nets [] ys one more = more
on-both nets (x ∷ xs) ys one more = (one.0, on-both nets xs ys one.1 more)

settle-at : (s : State) (trst : Bool) (nets : List Net) (ms : List Member) → (settle (record { place = s; trst = trst; nets = nets; members = ms })).nets ≡ nets
settle-at state.DrPause trst nets ms = refl
settle-at state.IrPause trst nets ms = refl
settle-at s trst nets ms = refl

settle-nets : (m : AtRest) → (settle m).nets ≡ m.nets
settle-nets m = settle-at m.place m.trst m.nets m.members

arrive-nets : (s : State) (m : AtRest) → (arrive s m).nets ≡ m.nets
arrive-nets state.Reset m = refl
arrive-nets state.DrPause m = refl
arrive-nets state.IrPause m = refl
arrive-nets s m = refl

pass-nets : (w : Work) (m : AtRest) → (pass w m).nets ≡ m.nets
pass-nets Resets m = refl
pass-nets (Captures column) m = refl
pass-nets (Shifts column) m = refl
pass-nets (Updates column) m = refl
pass-nets Waits m = refl

along-nets : (path : List State) (m : AtRest) → (along path m).nets ≡ m.nets
along-nets [] m = refl
along-nets (s ∷ path) m = along-nets path (record (pass (work s) m) { place = s }) ∙ pass-nets (work s) m

end-nets : (column : Column) (end : State) (m : AtRest) → (scan_end column end m).nets ≡ m.nets
end-nets column end m = by (is_at end (pause column))
  where
    by : (b : Bool) → (if b then record m { place = end } else arrive end (update column m)).nets ≡ m.nets
    by true = refl
    by false = arrive-nets end (update column m)

move-nets : (s : State) (m : AtRest) → (move_unless_there s m).nets ≡ m.nets
move-nets s m = by (is_at m.place s)
  where
    by : (b : Bool) → (if b then m else move_to s m).nets ≡ m.nets
    by true = refl
    by false = arrive-nets s (settle m) ∙ settle-nets m

step-nets : (step : Step) (m : AtRest) → (after_step step m).nets ≡ m.nets
step-nets (Scan column v end) m = end-nets column end (shift column (tdis v) (capture column (settle m))) ∙ settle-nets m
step-nets (Go s) m = arrive-nets s (settle m) ∙ settle-nets m
step-nets (Path path) m = along-nets path m
step-nets (Run run n end) m = move-nets end (move_unless_there run m) ∙ move-nets run m
step-nets (Trst On) m = refl
step-nets (Trst Off) m = refl
step-nets (Trst Z) m = refl
step-nets (Trst Absent) m = refl

module _ (nets : List Net) where
  arriving-on : (c : ℕ) (s : State) (m : AtRest) → m.nets ≡ nets → AllOn nets (events_arriving c s m)
  arriving-on c state.DrPause m e = (e, tt)
  arriving-on c s m e = tt

  moving-on : (c : ℕ) (s : State) (m : AtRest) → m.nets ≡ nets → AllOn nets (events_moving c s m)
  moving-on c s m e = by (is_at m.place s)
    where
      by : (b : Bool) → AllOn nets (if b then [] else events_arriving c s (settle m))
      by true = tt
      by false = arriving-on c s (settle m) (settle-nets m ∙ e)

  passing-on : (c : ℕ) (w : Work) (m : AtRest) → m.nets ≡ nets → AllOn nets (events_passing c w m)
  passing-on c (Captures Dr) m e = (e, tt)
  passing-on c w m e = tt

  along-on : (c : ℕ) (path : List State) (m : AtRest) → m.nets ≡ nets → AllOn nets (events_along c path m)
  along-on c [] m e = tt
  along-on c (s ∷ path) m e =
      on-both nets (events_passing c (work s) m) (events_along c path (record (pass (work s) m) { place = s })) (passing-on c (work s) m e)
      (along-on c path (record (pass (work s) m) { place = s }) (pass-nets (work s) m ∙ e))

  ending-on : (c : ℕ) (column : Column) (end : State) (m : AtRest) → m.nets ≡ nets → AllOn nets (events_ending c column end m)
  ending-on c column end m e = by (is_at end (pause column))
    where
      by : (b : Bool) → AllOn nets (if b then [] else events_arriving c end (update column m))
      by true = tt
      by false = arriving-on c end (update column m) e

  step-on : (c : ℕ) (step : Step) (m : AtRest) → m.nets ≡ nets → AllOn nets (events_of_step c step m)
  step-on c (Scan Dr v end) m e =
      (settle-nets m ∙ e, ending-on c Dr end (shift Dr (tdis v) (capture Dr (settle m))) (settle-nets m ∙ e))
  step-on c (Scan Ir v end) m e = ending-on c Ir end (shift Ir (tdis v) (capture Ir (settle m))) (settle-nets m ∙ e)
  step-on c (Go s) m e = arriving-on c s (settle m) (settle-nets m ∙ e)
  step-on c (Path path) m e = along-on c path m e
  step-on c (Run run n end) m e =
      on-both nets (events_moving c run m) (events_moving c end (move_unless_there run m)) (moving-on c run m e)
      (moving-on c end (move_unless_there run m) (move-nets run m ∙ e))
  step-on c (Trst w) m e = tt

  pub all_on : (steps : List Numbered) (m : AtRest) → m.nets ≡ nets → AllOn nets (events steps m)
  all_on [] m e = tt
  all_on (s ∷ ss) m e =
      on-both nets (events_of_step s.number s.what m) (events ss (after_step s.what m)) (step-on s.number s.what m e)
      (all_on ss (after_step s.what m) (step-nets s.what m ∙ e))

-- ---- the ending

abbrev told : ℕ → Option Spot → Option Ending → Option Ending
told c None rest = rest
told c (Some s) rest = Some (Fail c s.part s.bit)

by-first : (e : Event) (es : List Event) (faulty : List Net) (o : Option Spot) (b : Bool) → caught_at faulty e ≡ option_map named o → stays_other faulty e ≡ b
    → ending_by (e ∷ es) faulty ≡ told e.command o (if b then None else ending_by es faulty)
by-first e es faulty o b caught stays =
    ap₂ (λ (f : Option (Part × ℕ)) (s : Bool). elim f as (λ _. Option Ending) [ None ↦ if s then None else ending_by es faulty | Some f ↦ Some (Fail e.command f.0 f.1) ]) caught stays
    ∙ by o
  where
    by : (o : Option Spot)
        → (elim (option_map named o) as (λ _. Option Ending) [ None ↦ if b then None else ending_by es faulty | Some f ↦ Some (Fail e.command f.0 f.1) ])
        ≡ told e.command o (if b then None else ending_by es faulty)
    by None = refl
    by (Some s) = refl

by-notes : (nets : List Net) (its_way : Way) (n : Noted) (ns : List Noted)
    → ending_noted nets its_way (n ∷ ns)
    ≡ told n.command (way_first nets its_way (first_note nets its_way n.notes) (second_note nets its_way n.notes))
    (if way_stays nets its_way (first_note nets its_way n.notes) (second_note nets its_way n.notes) then None else ending_noted nets its_way ns)
by-notes nets its_way n ns = by (way_first nets its_way (first_note nets its_way n.notes) (second_note nets its_way n.notes))
  where
    by : (o : Option Spot)
        → (elim o as (λ _. Option Ending) [
          | None ↦ if way_stays nets its_way (first_note nets its_way n.notes) (second_note nets its_way n.notes) then None else ending_noted nets its_way ns
          | Some s ↦ Some (Fail n.command s.part s.bit)
        ])
        ≡ told n.command o (if way_stays nets its_way (first_note nets its_way n.notes) (second_note nets its_way n.notes) then None else ending_noted nets its_way ns)
    by None = refl
    by (Some s) = refl

same-ending : (w : Wiring) → MayHaveFaults w → (its_way : Way) → IsWayOf w.nets its_way → (es : List Event) → AllOn w.nets es
    → ending_by es (with_way its_way w.nets) ≡ ending_noted w.nets its_way (map (noted_at (all_pins w.nets)) es)
same-ending w may its_way its [] on = refl
same-ending w may its_way its (e ∷ es) on =
    let nets = w.nets in
    let tells = notes_tell w may its_way its e on.0 in
    let one = note_of e (first_pins nets its_way) in
    let two = note_of e (second_pins nets its_way) in
    let n = noted_at (all_pins nets) e in
    let first : first_note nets its_way n.notes ≡ one = first_noted nets its_way e.board.members e.vector in
    let second : second_note nets its_way n.notes ≡ two = second_noted nets its_way e.board.members e.vector in
    by-first e es (with_way its_way nets) (way_first nets its_way one two) (way_stays nets its_way one two) tells.0 tells.1
    ∙ ap (λ (r : Option Ending). told e.command (way_first nets its_way one two) (if way_stays nets its_way one two then None else r)) (same-ending w may its_way its es on.1)
    ∙ ap₂ (λ (a b : Note). told e.command (way_first nets its_way a b) (if way_stays nets its_way a b then None else ending_noted nets its_way (map (noted_at (all_pins nets)) es))) (sym first) (sym second)
    ∙ sym (by-notes nets its_way n (map (noted_at (all_pins nets)) es))

pub noted_faults : NotesTellOfFaults
noted_faults program legal w sound may none passes its_way its ending e =
    faults_are_told program legal w sound none passes its_way ending
    (same-ending w may its_way its (events program.steps (opened_state (board_of w))) (all_on w.nets program.steps (opened_state (board_of w)) refl) ∙ e)

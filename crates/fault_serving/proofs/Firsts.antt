-- The first bit that fails at each capture, by one play, fails in a play to the end on the board with the fault.
use Rattle.std.proofs.Common.{arith, ◌≡◌, ℕ, Bool, true, false, ◌&&◌, ◌==◌, List, [], ◌∷◌, ◌++◌, map, Option, Some, None, if◌then◌else◌, refl, sym, ap, ap₂, subst, ◌∙◌, inl, inr}
use Rattle.std.specs.Prelude.{option_map}
use Rattle.std.specs.List.{list_any}
use Rattle.std.proofs.lemmas.Bool.{false≢true, or_parts}
use Rattle.std.proofs.lemmas.Bool.Decides.{nat_tests}
use Rattle.std.proofs.lemmas.Option.{same_Some}
use Rattle.scan_vectors.specs.declared.failures.Mismatch.{Mismatch}
use Rattle.scan_vectors.specs.declared.part.Part.{Part}
use Rattle.scan_vectors.specs.declared.part.Part.TheVariants.{Header, Data, Trailer}
use Rattle.scan_vectors.specs.Failures.{differing}
use Rattle.scan_vectors.specs.Vector.{VectorBit, differs, judge, tdis}
use Rattle.svf_programs.specs.Legal.{IsLegalProgram}
use Rattle.svf_programs.specs.Steps.{Numbered, Program, Step, Scan, Go, Path, Run, Trst}
use Rattle.pin_nets.specs.Wired.{Net}
use Rattle.board_plan.specs.Planned.{Wiring, all_pins}
use Rattle.board_model.specs.Following.{IsAmong}
use Rattle.board_model.specs.Whole.{AtRest, capture, out, settle}
use Rattle.play_model.specs.declared.ending.Ending.TheVariants.{Pass}
use Rattle.play_model.specs.DirectPlay.{opened_state}
use Rattle.play_model.specs.Meaning.{after_step, failure, outcome}
use Rattle.play_model.specs.PlayingOn.{outcome_of_all, step_failures}
use Rattle.play_direct.specs.ToTheEnd.{all_failures}
use Rattle.play_direct.specs.Made.{IsSoundWiring, board_of}
use Rattle.play_direct.proofs.Bares.{sound_chain}
use Rattle.play_direct.proofs.WholePlay.{meant_all}
use Rattle.board_faults.specs.declared.kinds.Way.{Way}
use Rattle.board_faults.specs.declared.kinds.Way.TheVariants as way
use Rattle.board_faults.specs.Faults.{IsWayOf, with_way}
use Rattle.board_faults.specs.Judging.{wiring_with}
use Rattle.board_faults.specs.Sight.{MayHaveFaults}
use Rattle.board_faults.specs.Staying.{staying, with_nets}
use Rattle.board_faults.specs.Together.{first_of, second_of}
use Rattle.board_faults.proofs.OnePlay.{means, opened-same}
use Rattle.board_faults.proofs.Staying.{registers_differ}
use Rattle.board_faults.proofs.Wires.{among_first, among_second}
use Rattle.fault_events.specs.declared.differing.Pulls.{Pulls}
use Rattle.fault_events.specs.declared.notes.Note.{Note}
use Rattle.fault_events.specs.declared.notes.Spot.{Spot}
use Rattle.fault_events.specs.Captures.{Noted, noted_at}
use Rattle.fault_events.specs.Endings.{first_note, second_note}
use Rattle.fault_events.specs.Events.{Event, caught_at, events, events_of_step, stays_other}
use Rattle.fault_events.specs.Firsts.{firsts_by}
use Rattle.fault_events.specs.Nets.{note_at, with_nets_noted}
use Rattle.fault_events.specs.Notes.{first_pins, note_of, second_pins, way_first, way_stays}
use Rattle.fault_events.specs.Pulls.{first_by, pulls_of, stays_by}
use Rattle.fault_events.proofs.ByNets.{IsOfNets, first_same, stays_same}
use Rattle.fault_events.proofs.Events.{count, failed, opened_count, pass_parts, put_first, step_count, step_tells}
use Rattle.fault_events.proofs.NotedEndings.{AllOn, all_on, first_noted, second_noted}
use Rattle.fault_events.proofs.Telling.{named, notes_tell}
use Rattle.fault_serving.specs.Firsts.{FirstsAreFailures, HasOther, OthersAreTold, firsts_by_nets, firsts_noted, is_among, is_listed, is_part, is_same_bit, lists_firsts}

-- ---- the first bit of a scan that fails is among those that fail

judged-first : (c : ℕ) (v : List VectorBit) (bits : List Bool) (f : Part × ℕ) → judge v bits ≡ Some f → IsAmong (failed c f) (differing c v bits)
judged-first c [] bits f e = absurd (cc)
judged-first c (v ∷ vs) [] f e = absurd (cc)
judged-first c (v ∷ vs) (b ∷ bits) f e = by (differs v.wanted b) e (judged-first c vs bits f)
  where
    by : (d : Bool) → (if d then Some (v.part, v.place) else judge vs bits) ≡ Some f
        → (judge vs bits ≡ Some f → IsAmong (failed c f) (differing c vs bits))
        → IsAmong (failed c f) (if d then failed c (v.part, v.place) ∷ differing c vs bits else differing c vs bits)
    by true e later = inl (ap (failed c) (same_Some (v.part, v.place) f e))
    by false e later = later e

first-fails : (c : ℕ) (step : Step) (m : AtRest) (f : Part × ℕ) → failure step m ≡ Some f
    → IsAmong (failed c f) (step_failures (record { number = c; what = step }) m)
first-fails c (Scan column v end) m f e = judged-first c v (out column (tdis v) (capture column (settle m))) f e
first-fails c (Go s) m f e = absurd (cc)
first-fails c (Path path) m f e = absurd (cc)
first-fails c (Run run n end) m f e = absurd (cc)
first-fails c (Trst w) m f e = absurd (cc)

-- ---- programs

-- what the captures of the steps behind the first tell
abbrev later : List Net → Numbered → List Numbered → AtRest → List Mismatch
later nets s ss m = firsts_by (events ss (after_step s.what m)) nets

firsts-fail : (nets : List Net) (x : Mismatch) (steps : List Numbered) (m : AtRest) → count m ≡ 0 → (outcome steps m).ending ≡ Pass
    → IsAmong x (firsts_by (events steps m) nets) → IsAmong x (outcome_of_all steps (with_nets nets m)).failures
firsts-fail nets x [] m none passes among = among
firsts-fail nets x (s ∷ ss) m none passes among =
    let its = pass_parts s ss m passes in
    let tells = step_tells nets s.number s.what m none its.first in
    let after = after_step s.what m in
    by (failure s.what (with_nets nets m)) refl (list_any (stays_other nets) (events_of_step s.number s.what m)) refl tells.same
    (firsts-fail nets x ss after (step_count s.what m ∙ none) its.others)
    (subst (IsAmong x) (tells.listed (events ss after)) among)
  where
    rest : List Mismatch
    rest = (outcome_of_all ss (after_step s.what (with_nets nets m))).failures

    behind : (b : Bool) → list_any (stays_other nets) (events_of_step s.number s.what m) ≡ b
        → (list_any (stays_other nets) (events_of_step s.number s.what m) ≡ false → staying s.what m ≡ staying s.what (with_nets nets m))
        → (IsAmong x (later nets s ss m) → IsAmong x (outcome_of_all ss (with_nets nets (after_step s.what m))).failures)
        → IsAmong x (if b then [] else later nets s ss m)
        → IsAmong x (step_failures s (with_nets nets m) ++ rest)
    behind true is same go among = absurd among
    behind false is same go among =
        among_second x (step_failures s (with_nets nets m)) rest
        (subst (λ (a : AtRest). IsAmong x (outcome_of_all ss a).failures) (sym (registers_differ s.what m nets (same is))) (go among))

    by : (o : Option (Part × ℕ)) → failure s.what (with_nets nets m) ≡ o
        → (b : Bool) → list_any (stays_other nets) (events_of_step s.number s.what m) ≡ b
        → (list_any (stays_other nets) (events_of_step s.number s.what m) ≡ false → staying s.what m ≡ staying s.what (with_nets nets m))
        → (IsAmong x (later nets s ss m) → IsAmong x (outcome_of_all ss (with_nets nets (after_step s.what m))).failures)
        → IsAmong x (put_first s.number (failure s.what (with_nets nets m))
        (if list_any (stays_other nets) (events_of_step s.number s.what m) then [] else later nets s ss m))
        → IsAmong x (step_failures s (with_nets nets m) ++ rest)
    by o fails b is same go among =
        split o fails (subst (λ (p : Option (Part × ℕ) × Bool). IsAmong x (put_first s.number p.0 (if p.1 then [] else later nets s ss m))) (λ i. (fails i, is i)) among)
      where
        split : (q : Option (Part × ℕ)) → failure s.what (with_nets nets m) ≡ q
            → IsAmong x (put_first s.number q (if b then [] else later nets s ss m)) → IsAmong x (step_failures s (with_nets nets m) ++ rest)
        split None e among = behind b is same go among
        split (Some f) e (inl here) =
            among_first x (step_failures s (with_nets nets m)) rest
            (subst (λ (y : Mismatch). IsAmong y (step_failures s (with_nets nets m))) here (first-fails s.number s.what (with_nets nets m) f e))
        split (Some f) e (inr among) = behind b is same go among

-- ---- by what is noted

-- a spot, if there is one, before others
abbrev put_spot : ℕ → Option Spot → List Mismatch → List Mismatch
put_spot c None rest = rest
put_spot c (Some s) rest = record { command = c; part = s.part; bit = s.bit } ∷ rest

by-first : (e : Event) (es : List Event) (faulty : List Net) (o : Option Spot) (b : Bool) → caught_at faulty e ≡ option_map named o → stays_other faulty e ≡ b
    → firsts_by (e ∷ es) faulty ≡ put_spot e.command o (if b then [] else firsts_by es faulty)
by-first e es faulty o b caught stays =
    ap₂ (λ (f : Option (Part × ℕ)) (s : Bool). elim f as (λ _. List Mismatch) [
      | None ↦ if s then [] else firsts_by es faulty
      | Some f ↦ record { command = e.command; part = f.0; bit = f.1 } ∷ (if s then [] else firsts_by es faulty)
    ]) caught stays
    ∙ by o
  where
    by : (o : Option Spot)
        → (elim (option_map named o) as (λ _. List Mismatch) [
          | None ↦ if b then [] else firsts_by es faulty
          | Some f ↦ record { command = e.command; part = f.0; bit = f.1 } ∷ (if b then [] else firsts_by es faulty)
        ])
        ≡ put_spot e.command o (if b then [] else firsts_by es faulty)
    by None = refl
    by (Some s) = refl

by-notes : (nets : List Net) (its_way : Way) (n : Noted) (ns : List Noted)
    → firsts_noted nets its_way (n ∷ ns)
    ≡ put_spot n.command (way_first nets its_way (first_note nets its_way n.notes) (second_note nets its_way n.notes))
    (if way_stays nets its_way (first_note nets its_way n.notes) (second_note nets its_way n.notes) then [] else firsts_noted nets its_way ns)
by-notes nets its_way n ns = by (way_first nets its_way (first_note nets its_way n.notes) (second_note nets its_way n.notes))
  where
    rest : List Mismatch
    rest = if way_stays nets its_way (first_note nets its_way n.notes) (second_note nets its_way n.notes) then [] else firsts_noted nets its_way ns

    by : (o : Option Spot)
        → (elim o as (λ _. List Mismatch) [
          | None ↦ rest
          | Some s ↦ record { command = n.command; part = s.part; bit = s.bit } ∷ rest
        ])
        ≡ put_spot n.command o rest
    by None = refl
    by (Some s) = refl

same-firsts : (w : Wiring) → MayHaveFaults w → (its_way : Way) → IsWayOf w.nets its_way → (es : List Event) → AllOn w.nets es
    → firsts_by es (with_way its_way w.nets) ≡ firsts_noted w.nets its_way (map (noted_at (all_pins w.nets)) es)
same-firsts w may its_way its [] on = refl
same-firsts w may its_way its (e ∷ es) on =
    let nets = w.nets in
    let tells = notes_tell w may its_way its e on.0 in
    let one = note_of e (first_pins nets its_way) in
    let two = note_of e (second_pins nets its_way) in
    let n = noted_at (all_pins nets) e in
    let first : first_note nets its_way n.notes ≡ one = first_noted nets its_way e.board.members e.vector in
    let second : second_note nets its_way n.notes ≡ two = second_noted nets its_way e.board.members e.vector in
    by-first e es (with_way its_way nets) (way_first nets its_way one two) (way_stays nets its_way one two) tells.0 tells.1
    ∙ ap (λ (r : List Mismatch). put_spot e.command (way_first nets its_way one two) (if way_stays nets its_way one two then [] else r)) (same-firsts w may its_way its es on.1)
    ∙ ap₂ (λ (a b : Note). put_spot e.command (way_first nets its_way a b) (if way_stays nets its_way a b then [] else firsts_noted nets its_way (map (noted_at (all_pins nets)) es))) (sym first) (sym second)
    ∙ sym (by-notes nets its_way n (map (noted_at (all_pins nets)) es))

-- ---- from power-up

means-all-with : (program : Program) → IsLegalProgram program.steps → (w : Wiring) → IsSoundWiring w → (its_way : Way)
    → (outcome_of_all program.steps (with_nets (with_way its_way w.nets) (opened_state (board_of w)))).failures
    ≡ all_failures program (board_of (wiring_with its_way w))
means-all-with program legal w sound its_way =
    let chain = sound_chain (wiring_with its_way w) (record { some = sound.some; most = sound.most; sound = sound.sound }) in
    sym (ap (λ (m : AtRest). (outcome_of_all program.steps m).failures) (opened-same w its_way))
    ∙ meant_all program (board_of (wiring_with its_way w)) chain.sound chain.some legal

pub firsts_are_failures : FirstsAreFailures
firsts_are_failures program legal w sound may none passes its_way its m among =
    let opened = opened_state (board_of w) in
    let nets = with_way its_way w.nets in
    subst (IsAmong m) (means-all-with program legal w sound its_way)
    (firsts-fail nets m program.steps opened (opened_count w none) (sym (means program legal w sound) ∙ passes)
    (subst (IsAmong m) (sym (same-firsts w may its_way its (events program.steps opened) (all_on w.nets program.steps opened refl))) among))

-- ---- by what is noted of nets

one-by-nets : (its_way : Way) (p : Pulls) (first second : ℕ) (n : Noted) (ns : List Noted)
    → firsts_by_nets its_way p first second (n ∷ ns)
    ≡ put_spot n.command (first_by its_way p (note_at first n.notes) (note_at second n.notes))
    (if stays_by its_way p (note_at first n.notes) (note_at second n.notes) then [] else firsts_by_nets its_way p first second ns)
one-by-nets its_way p first second n ns = by (first_by its_way p (note_at first n.notes) (note_at second n.notes))
  where
    rest : List Mismatch
    rest = if stays_by its_way p (note_at first n.notes) (note_at second n.notes) then [] else firsts_by_nets its_way p first second ns

    by : (o : Option Spot)
        → (elim o as (λ _. List Mismatch) [
          | None ↦ rest
          | Some s ↦ record { command = n.command; part = s.part; bit = s.bit } ∷ rest
        ])
        ≡ put_spot n.command o rest
    by None = refl
    by (Some s) = refl

pub firsts_by_net : (nets : List Net) (its_way : Way) → IsOfNets its_way → (ns : List Noted)
    → firsts_by_nets its_way (pulls_of nets its_way) (first_of its_way) (second_of its_way) (map (with_nets_noted nets) ns) ≡ firsts_noted nets its_way ns
firsts_by_net nets its_way of [] = refl
firsts_by_net nets its_way of (n ∷ ns) =
    one-by-nets its_way (pulls_of nets its_way) (first_of its_way) (second_of its_way) (with_nets_noted nets n) (map (with_nets_noted nets) ns)
    ∙ ap₂ (λ (o : Option Spot) (b : Bool). put_spot n.command o (if b then [] else firsts_by_nets its_way (pulls_of nets its_way) (first_of its_way) (second_of its_way) (map (with_nets_noted nets) ns)))
    (first_same nets its_way of n.notes) (stays_same nets its_way of n.notes)
    ∙ ap (λ (r : List Mismatch). put_spot n.command (way_first nets its_way (first_note nets its_way n.notes) (second_note nets its_way n.notes))
    (if way_stays nets its_way (first_note nets its_way n.notes) (second_note nets its_way n.notes) then [] else r)) (firsts_by_net nets its_way of ns)
    ∙ sym (by-notes nets its_way n ns)

-- ---- at the first captures of more

more-put : (m : Mismatch) (c : ℕ) (o : Option Spot) (b : Bool) (xs ys : List Mismatch) → (IsAmong m xs → IsAmong m ys)
    → IsAmong m (put_spot c o (if b then [] else xs)) → IsAmong m (put_spot c o (if b then [] else ys))
more-put m c None true xs ys more among = among
more-put m c None false xs ys more among = more among
more-put m c (Some s) b xs ys more (inl is) = inl is
more-put m c (Some s) true xs ys more (inr among) = inr among
more-put m c (Some s) false xs ys more (inr among) = inr (more among)

firsts-kept : (nets : List Net) (its_way : Way) (ns more : List Noted) (m : Mismatch) → IsAmong m (firsts_noted nets its_way ns)
    → IsAmong m (firsts_noted nets its_way (ns ++ more))
firsts-kept nets its_way [] more m among = absurd among
firsts-kept nets its_way (n ∷ ns) more m among =
    let one = first_note nets its_way n.notes in
    let two = second_note nets its_way n.notes in
    subst (IsAmong m) (sym (by-notes nets its_way n (ns ++ more)))
    (more-put m n.command (way_first nets its_way one two) (way_stays nets its_way one two) (firsts_noted nets its_way ns) (firsts_noted nets its_way (ns ++ more))
    (firsts-kept nets its_way ns more m) (subst (IsAmong m) (by-notes nets its_way n ns) among))

pub other_kept : (bits : List Mismatch) (nets : List Net) (its_way : Way) (ns more : List Noted) → HasOther bits (firsts_noted nets its_way ns)
    → HasOther bits (firsts_noted nets its_way (ns ++ more))
other_kept bits nets its_way ns more h = record { other = h.other; there = firsts-kept nets its_way ns more h.other h.there; missing = h.missing }

-- ---- whether these are among some bits

pub number_is : (a : ℕ) → (a == a) ≡ true
number_is a = grind (arith, nat_tests)

pub part_is : (a : Part) → is_part a a ≡ true
part_is Header = refl
part_is Data = refl
part_is Trailer = refl

pub both : (a b : Bool) → a ≡ true → b ≡ true → (a && b) ≡ true
both true true p q = refl
both true false p q = absurd cc
both false b p q = absurd cc

pub bit_is : (m : Mismatch) → is_same_bit m m ≡ true
bit_is m = both (m.command == m.command) (is_part m.part m.part && m.bit == m.bit) (number_is m.command) (both (is_part m.part m.part) (m.bit == m.bit) (part_is m.part) (number_is m.bit))

missing : (bits : List Mismatch) (m : Mismatch) → is_among bits m ≡ false → IsAmong m bits → ⊥
missing [] m none among = among
missing (b ∷ bits) m none among =
    let parts = or_parts (is_same_bit m b) (list_any (is_same_bit m) bits) none in
    by parts.0 (missing bits m parts.1) among
  where
    by : is_same_bit m b ≡ false → (IsAmong m bits → ⊥) → IsAmong m (b ∷ bits) → ⊥
    by other rest (inl e) = false≢true (sym other ∙ ap (is_same_bit m) e ∙ bit_is m)
    by other rest (inr later) = rest later

other-more : (bits : List Mismatch) (x : Mismatch) (xs : List Mismatch) → HasOther bits xs → HasOther bits (x ∷ xs)
other-more bits x xs h = record { other = h.other; there = inr h.there; missing = h.missing }

other-told : (bits : List Mismatch) (its_way : Way) (p : Pulls) (first second : ℕ) (ns : List Noted)
    → lists_firsts bits its_way p first second ns ≡ false → HasOther bits (firsts_by_nets its_way p first second ns)
other-told bits its_way p first second [] e = absurd (cc)
other-told bits its_way p first second (n ∷ ns) e =
    subst (HasOther bits) (sym (one-by-nets its_way p first second n ns))
    (by (first_by its_way p (note_at first n.notes) (note_at second n.notes)) (stays_by its_way p (note_at first n.notes) (note_at second n.notes))
    (other-told bits its_way p first second ns) e)
  where
    by : (o : Option Spot) (s : Bool)
        → (lists_firsts bits its_way p first second ns ≡ false → HasOther bits (firsts_by_nets its_way p first second ns))
        → (if is_listed bits n.command o then (if s then true else lists_firsts bits its_way p first second ns) else false) ≡ false
        → HasOther bits (put_spot n.command o (if s then [] else firsts_by_nets its_way p first second ns))
    by None true later e = absurd (cc)
    by None false later e = later e
    by (Some x) s later e = here (is_among bits (record { command = n.command; part = x.part; bit = x.bit })) refl s later e
      where
        its : Mismatch
        its = record { command = n.command; part = x.part; bit = x.bit }

        here : (b : Bool) → is_among bits its ≡ b → (s : Bool)
            → (lists_firsts bits its_way p first second ns ≡ false → HasOther bits (firsts_by_nets its_way p first second ns))
            → (if b then (if s then true else lists_firsts bits its_way p first second ns) else false) ≡ false
            → HasOther bits (its ∷ (if s then [] else firsts_by_nets its_way p first second ns))
        here false is s later e = record { other = its; there = inl refl; missing = missing bits its is }
        here true is true later e = absurd (cc)
        here true is false later e = other-more bits its (firsts_by_nets its_way p first second ns) (later e)

pub others_are_told : OthersAreTold
others_are_told bits nets first second winner ns e =
    let its_way = way.Short first second winner in
    subst (HasOther bits) (firsts_by_net nets its_way tt ns)
    (other-told bits its_way (pulls_of nets its_way) first second (map (with_nets_noted nets) ns) e)

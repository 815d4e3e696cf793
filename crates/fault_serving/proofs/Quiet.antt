-- Captures that tell nothing are passed over.
use Rattle.std.proofs.Common.{◌≡◌, ◌<◌, ℕ, zero, suc, Bool, true, false, ◌&&◌, ◌||◌, List, [], ◌∷◌, drop, slice_get, Option, Some, None, if◌then◌else◌, refl, sym, ap, ap₂, subst, ◌∙◌, arith}
use Rattle.std.specs.Prelude.{is_some, nat_lt}
use Rattle.std.proofs.lemmas.Option.{same_Some}
use Rattle.board_faults.specs.declared.together.Driven.{Driven}
use Rattle.pin_nets.specs.Wired.{Net}
use Rattle.fault_serving.specs.declared.planing.NoteWords.{NoteWords}
use Rattle.fault_events.specs.declared.differing.Pulls.{Pulls}
use Rattle.board_faults.specs.declared.kinds.Way.{Way}
use Rattle.board_faults.specs.declared.kinds.Way.TheVariants as way
use Rattle.board_faults.specs.declared.kinds.Winner.{Winner}
use Rattle.play_model.specs.declared.ending.Ending.{Ending}
use Rattle.play_model.specs.declared.ending.Ending.TheVariants.{Fail}
use Rattle.fault_events.specs.declared.notes.Note.{Note}
use Rattle.fault_events.specs.declared.notes.Spot.{Spot}
use Rattle.board_faults.specs.Together.{short_differs}
use Rattle.fault_events.specs.Captures.{Noted}
use Rattle.fault_events.specs.Nets.{ending_by_nets, note_at}
use Rattle.fault_events.specs.Notes.{earlier, some_if}
use Rattle.fault_events.specs.Pulls.{first_by, pulls_of, stays_by}
use Rattle.fault_serving.specs.Planes.{AreQuiet, Fails, IsNoteAt, fails_at, tells, tells_at}

-- ---- what words tell is what notes do

is-earlier : (a b : Option Spot) → is_some (earlier a b) ≡ (is_some a || is_some b)
is-earlier None b = refl
is-earlier (Some a) None = refl
is-earlier (Some a) (Some b) = by (nat_lt b.index a.index)
  where
    by : (t : Bool) → is_some (if t then Some b else Some a) ≡ true
    by true = refl
    by false = refl

is-if : (b : Bool) (o : Option Spot) → is_some (some_if b o) ≡ (b && is_some o)
is-if true o = refl
is-if false o = refl

-- by what both nets' pins drive, and which of them are wanted and stay
abbrev told_by : Winner → Pulls → (f g : Driven) → (wanted wanted' stays stays' : Bool) → Bool
told_by winner p f g wanted wanted' stays stays' =
    let first = short_differs winner p.first p.second true false f g in
    let second = short_differs winner p.first p.second false true f g in
    ((first && wanted) || (second && wanted')) || ((stays && first) || (stays' && second))

pub words_tell : (net other : ℕ) (winner : Winner) (p : Pulls) (k : ℕ) (a b : Note) (one two : NoteWords) → IsNoteAt k a one → IsNoteAt k b two
    → tells_at winner p one two k ≡ tells (way.Short net other winner) p a b
words_tell net other winner p k a b one two of of' =
    let first = short_differs winner p.first p.second true false a.made b.made in
    let second = short_differs winner p.first p.second false true a.made b.made in
    (λ i. told_by winner p (of.made i) (of'.made i) (of.wanted i) (of'.wanted i) (of.stays i) (of'.stays i))
    ∙ ap (λ (x : Bool). x || stays_by (way.Short net other winner) p a b)
    (sym (is-earlier (some_if first a.first) (some_if second b.first) ∙ ap₂ (λ (x y : Bool). x || y) (is-if first a.first) (is-if second b.first)))

-- by what both nets' pins drive, and which of them are wanted
abbrev failed_by : Winner → Pulls → (f g : Driven) → (wanted wanted' : Bool) → Bool
failed_by winner p f g wanted wanted' =
    let first = short_differs winner p.first p.second true false f g in
    let second = short_differs winner p.first p.second false true f g in
    (first && wanted) || (second && wanted')

pub words_fail : (net other : ℕ) (winner : Winner) (p : Pulls) (k : ℕ) (a b : Note) (one two : NoteWords) → IsNoteAt k a one → IsNoteAt k b two
    → fails_at winner p one two k ≡ is_some (first_by (way.Short net other winner) p a b)
words_fail net other winner p k a b one two of of' =
    let first = short_differs winner p.first p.second true false a.made b.made in
    let second = short_differs winner p.first p.second false true a.made b.made in
    (λ i. failed_by winner p (of.made i) (of'.made i) (of.wanted i) (of'.wanted i))
    ∙ sym (is-earlier (some_if first a.first) (some_if second b.first) ∙ ap₂ (λ (x y : Bool). x || y) (is-if first a.first) (is-if second b.first))

-- ---- the ending

module _ (its_way : Way) (p : Pulls) (first second : ℕ) where
  one-quiet : (n : Noted) (ns : List Noted) → tells its_way p (note_at first n.notes) (note_at second n.notes) ≡ false
      → ending_by_nets its_way p first second (n ∷ ns) ≡ ending_by_nets its_way p first second ns
  one-quiet n ns quiet =
      by (first_by its_way p (note_at first n.notes) (note_at second n.notes)) (stays_by its_way p (note_at first n.notes) (note_at second n.notes)) quiet
    where
      by : (o : Option Spot) (s : Bool) → (is_some o || s) ≡ false
          → (elim o as (λ _. Option Ending) [
            | None ↦ if s then None else ending_by_nets its_way p first second ns
            | Some x ↦ Some (Fail n.command x.part x.bit)
          ])
          ≡ ending_by_nets its_way p first second ns
      by None false e = refl
      by None true e = absurd (cc)
      by (Some x) s e = absurd (cc)

  passed-over : (m : ℕ) (ns : List Noted)
      → ((k : ℕ) (n : Noted) → k < m → slice_get ns k ≡ Some n → tells its_way p (note_at first n.notes) (note_at second n.notes) ≡ false)
      → ending_by_nets its_way p first second ns ≡ ending_by_nets its_way p first second (drop m ns)
  passed-over zero ns quiet = refl
  passed-over (suc m) [] quiet = refl
  passed-over (suc m) (n ∷ ns) quiet =
      one-quiet n ns (quiet 0 n (omega arith) refl) ∙ passed-over m ns (λ k x below is. quiet (suc k) x (omega (arith, below)) is)

  at-first : (n : Noted) (ns : List Noted) → is_some (first_by its_way p (note_at first n.notes) (note_at second n.notes)) ≡ true
      → Fails (ending_by_nets its_way p first second (n ∷ ns))
  at-first n ns some =
      by (first_by its_way p (note_at first n.notes) (note_at second n.notes)) (stays_by its_way p (note_at first n.notes) (note_at second n.notes)) some
    where
      by : (o : Option Spot) (s : Bool) → is_some o ≡ true
          → Fails (elim o as (λ _. Option Ending) [
            | None ↦ if s then None else ending_by_nets its_way p first second ns
            | Some x ↦ Some (Fail n.command x.part x.bit)
          ])
      by None s e = absurd (cc)
      by (Some x) s e = record { command = n.command; part = x.part; bit = x.bit; is = refl }

  -- a wanted bit is another at a capture before which nothing is told
  pub fails_there : (m : ℕ) (n : Noted) (ns : List Noted) → slice_get ns m ≡ Some n
      → is_some (first_by its_way p (note_at first n.notes) (note_at second n.notes)) ≡ true
      → ((k : ℕ) (x : Noted) → k < m → slice_get ns k ≡ Some x → tells its_way p (note_at first x.notes) (note_at second x.notes) ≡ false)
      → Fails (ending_by_nets its_way p first second ns)
  fails_there m n [] is some quiet = absurd (cc)
  fails_there zero n (x ∷ ns) is some quiet =
      subst (λ (y : Noted). Fails (ending_by_nets its_way p first second (y ∷ ns))) (sym (same_Some x n is)) (at-first n ns some)
  fails_there (suc m) n (x ∷ ns) is some quiet =
      subst Fails (sym (one-quiet x ns (quiet 0 x (omega arith) refl)))
      (fails_there m n ns is some (λ k y below at. quiet (suc k) y (omega (arith, below)) at))

-- of a bridge
pub passed_over : (nets : List Net) (first second : ℕ) (winner : Winner) (m : ℕ) (ns : List Noted) → AreQuiet nets (way.Short first second winner) ns m
    → ending_by_nets (way.Short first second winner) (pulls_of nets (way.Short first second winner)) first second ns
    ≡ ending_by_nets (way.Short first second winner) (pulls_of nets (way.Short first second winner)) first second (drop m ns)
passed_over nets first second winner m ns quiet =
    passed-over (way.Short first second winner) (pulls_of nets (way.Short first second winner)) first second m ns quiet

-- What is noted of nets at up to 64 captures at once: bit k of each word is of the k-th. What a bridge tells by it.
use Rattle.std.specs.Prelude.{◌≡◌, ◌<◌, ◌≤◌, Bool, true, false, ◌&&◌, ◌||◌, ℕ, List, [], ◌∷◌, ◌++◌, length, map}
use Rattle.std.specs.Prelude.{slice_get, slice_index_or, Option, Some, is_some}
use Rattle.jt_bits.specs.Packed.{has_bit}
use Rattle.scan_vectors.specs.declared.part.Part.{Part}
use Rattle.play_model.specs.declared.ending.Ending.{Ending}
use Rattle.play_model.specs.declared.ending.Ending.TheVariants.{Fail, Pass}
use Rattle.board_faults.specs.declared.kinds.Way.{Way}
use Rattle.board_faults.specs.Planes.{driven_at}
use Rattle.board_faults.specs.declared.kinds.Winner.{Winner}
use Rattle.board_faults.specs.declared.kinds.Winner.TheVariants.{Zeros, Ones, First, Second}
use Rattle.pin_nets.specs.Wired.{Net}
use Rattle.board_faults.specs.Together.{first_of, second_of, short_differs}
use Rattle.fault_events.specs.declared.differing.Pulls.{Pulls}
use Rattle.fault_events.specs.declared.notes.Note.{Note}
use Rattle.fault_serving.specs.declared.planing.Changes.{Changes}
use Rattle.fault_serving.specs.declared.planing.Failing.{Failing}
use Rattle.fault_serving.specs.declared.planing.NoteWords.{NoteWords}
use Rattle.fault_events.specs.Captures.{Noted}
use Rattle.fault_events.specs.Endings.{ending_noted}
use Rattle.fault_events.specs.Marks.{nothing_noted}
use Rattle.fault_events.specs.Nets.{note_at, with_nets_noted}
use Rattle.fault_events.specs.Pulls.{first_by, pulls_of, stays_by}

abbrev pub no_words : NoteWords
no_words = record { made = record { zero = 0; one = 0; weak = 0 }; wanted = 0; stays = 0 }

-- the k-th bits are what is noted of a net at a capture
pub record IsNoteAt (k : ℕ) (n : Note) (w : NoteWords) : Type 0 where
  pub made : driven_at w.made k ≡ n.made
  pub wanted : has_bit w.wanted k ≡ is_some n.first
  pub stays : has_bit w.stays k ≡ n.stays

-- of a net at the first 64 of these captures; nothing behind the last of them
pub record AreWordsOf (net : ℕ) (ns : List Noted) (w : NoteWords) : Type 0 where
  pub noted : (k : ℕ) (n : Noted) → k < 64 → slice_get ns k ≡ Some n → IsNoteAt k (note_at net n.notes) w
  pub behind : (k : ℕ) → k < 64 → length ns ≤ k → IsNoteAt k nothing_noted w

-- of each net
abbrev pub AreNetWords : List Noted → List NoteWords → Type 0
AreNetWords ns ws = (net : ℕ) → net < length ws → AreWordsOf net ns (slice_index_or ws net no_words)

-- Of each net at these captures, block after block of up to 64.
abbrev pub AreBlocksOf : List Net → List Noted → List (List NoteWords) → Type 0
AreBlocksOf nets ns [] = ns ≡ []
AreBlocksOf nets ns (ws ∷ blocks) =
    (first : List Noted) × (rest : List Noted) × (ns ≡ first ++ rest) × (length first ≤ 64)
    × AreNetWords (map (with_nets_noted nets) first) ws × AreBlocksOf nets rest blocks

-- ---- what a bridge tells

-- a wanted bit is another at the k-th capture
abbrev pub fails_at : Winner → Pulls → (one two : NoteWords) → (k : ℕ) → Bool
fails_at winner p one two k =
    let f = driven_at one.made k in
    let g = driven_at two.made k in
    let first = short_differs winner p.first p.second true false f g in
    let second = short_differs winner p.first p.second false true f g in
    (first && has_bit one.wanted k) || (second && has_bit two.wanted k)

-- one that stays is
abbrev pub stays_at : Winner → Pulls → (one two : NoteWords) → (k : ℕ) → Bool
stays_at winner p one two k =
    let f = driven_at one.made k in
    let g = driven_at two.made k in
    let first = short_differs winner p.first p.second true false f g in
    let second = short_differs winner p.first p.second false true f g in
    (has_bit one.stays k && first) || (has_bit two.stays k && second)

-- one of both is
abbrev pub tells_at : Winner → Pulls → (one two : NoteWords) → (k : ℕ) → Bool
tells_at winner p one two k = fails_at winner p one two k || stays_at winner p one two k

-- a wanted bit is another, and at no capture before it anything is told
pub record IsFailing (winner : Winner) (p : Pulls) (one two : NoteWords) : Type 0 where
  pub at : ℕ
  pub early : at < 64
  pub fails : fails_at winner p one two at ≡ true
  pub before : (k : ℕ) → k < at → tells_at winner p one two k ≡ false

-- nothing is told at any of the 64
abbrev pub IsQuiet : Winner → Pulls → (one two : NoteWords) → Type 0
IsQuiet winner p one two = (k : ℕ) → k < 64 → tells_at winner p one two k ≡ false

-- Where this one wins, a bridge fails by these captures too: it failed before, or a wanted bit is another. If it does
-- neither, it tells nothing at them.
abbrev pub IsToldOn : (before fails : Bool) → Winner → Pulls → (one two : NoteWords) → Type 0
IsToldOn true fails winner p one two = fails ≡ true
IsToldOn false true winner p one two = IsFailing winner p one two
IsToldOn false false winner p one two = IsQuiet winner p one two

-- the same by what changes at each capture
pub record IsFirstWanted (c : Changes) : Type 0 where
  pub at : ℕ
  pub early : at < 64
  pub wanted : has_bit c.wanted at ≡ true
  pub before : (k : ℕ) → k < at → (has_bit c.wanted k ≡ false) × (has_bit c.stays k ≡ false)

abbrev pub IsUntold : Changes → Type 0
IsUntold c = (k : ℕ) → k < 64 → (has_bit c.wanted k ≡ false) × (has_bit c.stays k ≡ false)

abbrev pub ChangesTell : (before : Bool) → Changes → (fails : Bool) → Type 0
ChangesTell true c fails = fails ≡ true
ChangesTell false c true = IsFirstWanted c
ChangesTell false c false = IsUntold c

abbrev pub failing_at : Failing → Winner → Bool
failing_at f Zeros = f.zeros
failing_at f Ones = f.ones
failing_at f First = f.first
failing_at f Second = f.second

abbrev pub words_at : (net : ℕ) → List NoteWords → NoteWords
words_at net ws = slice_index_or ws net no_words

-- the same of each way of a bridge of two of these nets
pub record IsToldAt (before : Failing) (p : Pulls) (ws : List NoteWords) (first second : ℕ) (f : Failing) : Type 0 where
  pub one : first < length ws
  pub other : second < length ws
  pub told : (winner : Winner)
      → IsToldOn (failing_at before winner) (failing_at f winner) winner p (words_at first ws) (words_at second ws)

-- a bit that fails is told
pub record Fails (told : Option Ending) : Type 0 where
  pub command : ℕ
  pub part : Part
  pub bit : ℕ
  pub is : told ≡ Some (Fail command part bit)

-- a way fails at captures; or they are the whole play, and it passes
abbrev pub IsToldIn : (whole : Bool) → List Net → List Noted → (fails : Bool) → Way → Type 0
IsToldIn whole nets ns true its_way = Fails (ending_noted nets its_way ns)
IsToldIn whole nets ns false its_way = (whole ≡ true) × (ending_noted nets its_way ns ≡ Some Pass)

-- the same by the notes of two nets, of any way
abbrev pub tells : Way → Pulls → (one two : Note) → Bool
tells its_way p one two = is_some (first_by its_way p one two) || stays_by its_way p one two

-- the first captures, so many, tell nothing
abbrev pub AreQuiet : List Net → Way → List Noted → ℕ → Type 0
AreQuiet nets its_way ns m =
    (k : ℕ) (n : Noted) → k < m → slice_get ns k ≡ Some n
    → tells its_way (pulls_of nets its_way) (note_at (first_of its_way) n.notes) (note_at (second_of its_way) n.notes)
    ≡ false

-- The parts of a RUNTEST: each is read if it stands there.
use Rattle.std.specs.Prelude.{if◌then◌else◌, ◌&&◌, List, [], ◌∷◌, codes, Option, Some, None}
use Rattle.jt_tap.specs.declared.State.{State}
use Rattle.svf_words.specs.declared.keywords.Clock.{Clock}
use Rattle.svf_words.specs.Words.{Word, reads, is_number}
use Rattle.svf_words.specs.Keywords.{state_of, clock_of}

-- a RUNTEST as it is written: each number as its word
pub record RunTest : Type 0 where
  pub run : Option State
  pub count : Option (Word × Clock)
  pub min : Option Word
  pub max : Option Word
  pub end : Option State

abbrev pub state_or : Option State → List Word → List Word → Option State × List Word
state_or (Some s) rest all = (Some s, rest)
state_or None rest all = (None, all)

-- [state], and what stands after it
unfoldable pub take_state : List Word → Option State × List Word
take_state [] = (None, [])
take_state (w ∷ ws) = state_or (state_of w) ws (w ∷ ws)

abbrev pub count_or : Word → Option Clock → List Word → List Word → Option (Word × Clock) × List Word
count_or n (Some c) rest all = (Some (n, c), rest)
count_or n None rest all = (None, all)

-- [number TCK or SCK]
unfoldable pub take_count : List Word → Option (Word × Clock) × List Word
take_count [] = (None, [])
take_count (n ∷ []) = (None, n ∷ [])
take_count (n ∷ u ∷ ws) = if is_number n then count_or n (clock_of u) ws (n ∷ u ∷ ws) else (None, n ∷ u ∷ ws)

-- [number SEC]
unfoldable pub take_time : List Word → Option Word × List Word
take_time [] = (None, [])
take_time (n ∷ []) = (None, n ∷ [])
take_time (n ∷ u ∷ ws) = if is_number n && reads u (codes "SEC") then (Some n, ws) else (None, n ∷ u ∷ ws)

abbrev pub maximum_or : Option Word → List Word → List Word → Option Word × List Word
maximum_or (Some n) rest all = (Some n, rest)
maximum_or None rest all = (None, all)

-- [MAXIMUM number SEC]
unfoldable pub take_maximum : List Word → Option Word × List Word
take_maximum [] = (None, [])
take_maximum (k ∷ ws) = if reads k (codes "MAXIMUM") then maximum_or (take_time ws).0 (take_time ws).1 (k ∷ ws)
    else (None, k ∷ ws)

-- [ENDSTATE state]
unfoldable pub take_end : List Word → Option State × List Word
take_end [] = (None, [])
take_end (k ∷ []) = (None, k ∷ [])
take_end (k ∷ w ∷ ws) = if reads k (codes "ENDSTATE") then state_or (state_of w) ws (k ∷ w ∷ ws) else (None, k ∷ w ∷ ws)

-- a RUNTEST gives a count or a time, a maximum only behind a time, and nothing is left
abbrev pub whole_run_test : Option State → Option (Word × Clock) → Option Word → Option Word → Option State → List Word
    → Option RunTest
whole_run_test run count min max end (w ∷ ws) = None
whole_run_test run None None max end [] = None
whole_run_test run (Some c) None max end [] =
    Some (record { run = run; count = Some c; min = None; max = max; end = end })
whole_run_test run count (Some n) max end [] =
    Some (record { run = run; count = count; min = Some n; max = max; end = end })

-- the maximum stands only behind a time
abbrev pub maximum_behind : Option Word → List Word → Option Word × List Word
maximum_behind None ws = (None, ws)
maximum_behind (Some n) ws = take_maximum ws

abbrev pub run_test_behind : Option State × List Word → Option RunTest
run_test_behind s =
    let c = take_count s.1 in
    let t = take_time c.1 in
    let m = maximum_behind t.0 t.1 in
    let e = take_end m.1 in
    whole_run_test s.0 c.0 t.0 m.0 e.0 e.1

unfoldable pub run_test_of : List Word → Option RunTest
run_test_of ws = run_test_behind (take_state ws)

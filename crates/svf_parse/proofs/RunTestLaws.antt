-- The parts of a RUNTEST are read where they stand.
use Rattle.std.proofs.Common.{◌≡◌, ℕ, Bool, true, false, cond, ◌&&◌, nat_le, List, [], ◌∷◌, ◌++◌, Option, Some, None, refl, sym, ap, subst, ◌∙◌, inl, inr, ◌⊎◌, arith}
use Rattle.std.specs.Prelude.{codes, IsSome, slice_index}
use Rattle.std.proofs.lemmas.Bool.Decides.{nat_tests}
use Rattle.std.proofs.lemmas.List.{append-nil}
use Rattle.std.specs.Str.{bytes_eq}
use Rattle.jt_tap.specs.declared.State.{State}
use Rattle.jt_tap.specs.declared.State.TheVariants as st
use Rattle.jt_tap.specs.Words as states
use Rattle.svf_words.specs.declared.keywords.Clock.{Clock}
use Rattle.svf_words.specs.Words.{Word, lower, reads, is_number}
use Rattle.svf_words.specs.Keywords.{state_of, clock_of}
use Rattle.svf_parse.specs.RunTests.{RunTest, state_or, count_or, maximum_or, take_state, take_count, take_time, take_maximum, take_end, whole_run_test, maximum_behind, run_test_behind, run_test_of}
use Rattle.svf_parse.specs.Grammar.{Reads, IsNumber, IsState, IsCount, IsTime, IsMaximum, IsEnd, IsRunTest}
use Rattle.svf_words.proofs.KeywordLaws.{lowered, state_read, state_found, clock_read, clock_found, seconds_are_no_clock}

-- ---- numbers begin with no letter

abbrev begins_with_letter : List ℕ → Bool
begins_with_letter w = nat_le 97 (slice_index w 0)

number_begins : (n : Word) → is_number n ≡ true → begins_with_letter (lower n) ≡ false
number_begins [] h = refl
number_begins (c ∷ cs) h = grind (arith, nat_tests)

no_number_by : (k : Word) (b : Bool) → is_number k ≡ b → begins_with_letter (lower k) ≡ true → b ≡ false
no_number_by k true is letter = absurd (let e : begins_with_letter (lower k) ≡ false = number_begins k is in cc)
no_number_by k false is letter = refl

-- a word that reads a keyword is no number
no_number : (k : Word) (key : List ℕ) → Reads k key → begins_with_letter (lower key) ≡ true → is_number k ≡ false
no_number k key h letter = no_number_by k (is_number k) refl (ap begins_with_letter (lowered k key h) ∙ letter)

state_begins : (s : State) → begins_with_letter (lower (states.word s)) ≡ true
state_begins st.Reset = refl
state_begins st.Idle = refl
state_begins st.DrSelect = refl
state_begins st.DrCapture = refl
state_begins st.DrShift = refl
state_begins st.DrExit1 = refl
state_begins st.DrPause = refl
state_begins st.DrExit2 = refl
state_begins st.DrUpdate = refl
state_begins st.IrSelect = refl
state_begins st.IrCapture = refl
state_begins st.IrShift = refl
state_begins st.IrExit1 = refl
state_begins st.IrPause = refl
state_begins st.IrExit2 = refl
state_begins st.IrUpdate = refl

number_is_no_state : (n : Word) → IsNumber n → state_of n ≡ None
number_is_no_state n h = by (state_of n) refl
  where
    by : (o : Option State) → state_of n ≡ o → o ≡ None
    by None e = refl
    by (Some s) e = absurd (let f : is_number n ≡ false = no_number n (states.word s) (state_found n s e) (state_begins s) in cc)

-- ---- what was read stands there

pub record Taken {A : Type 0} (Is : Option A → List Word → Type 0) (ws : List Word) (p : Option A × List Word) : Type 0 where
  pub words : List Word
  pub is : Is p.0 words
  pub split : ws ≡ words ++ p.1

state_by : (w : Word) (ws : List Word) (o : Option State) → state_of w ≡ o → Taken IsState (w ∷ ws) (state_or o ws (w ∷ ws))
state_by w ws (Some s) e = record { words = w ∷ []; is = (w, refl, state_found w s e); split = refl }
state_by w ws None e = record { words = []; is = refl; split = refl }

pub state_taken : (ws : List Word) → Taken IsState ws (take_state ws)
unfolding take_state
state_taken [] = record { words = []; is = refl; split = refl }
state_taken (w ∷ ws) = state_by w ws (state_of w) refl

count_by : (n u : Word) (ws : List Word) (b : Bool) (o : Option Clock) → is_number n ≡ b → clock_of u ≡ o → Taken IsCount (n ∷ u ∷ ws) (cond b (count_or n o ws (n ∷ u ∷ ws)) (None, n ∷ u ∷ ws))
count_by n u ws true (Some c) number e = record { words = n ∷ u ∷ []; is = (u, refl, number, clock_found u c e); split = refl }
count_by n u ws true None number e = record { words = []; is = refl; split = refl }
count_by n u ws false o number e = record { words = []; is = refl; split = refl }

pub count_taken : (ws : List Word) → Taken IsCount ws (take_count ws)
unfolding take_count
count_taken [] = record { words = []; is = refl; split = refl }
count_taken (n ∷ []) = record { words = []; is = refl; split = refl }
count_taken (n ∷ u ∷ ws) = count_by n u ws (is_number n) (clock_of u) refl refl

time_by : (n u : Word) (ws : List Word) (a b : Bool) → is_number n ≡ a → reads u (codes "SEC") ≡ b → Taken IsTime (n ∷ u ∷ ws) (cond (a && b) (Some n, ws) (None, n ∷ u ∷ ws))
time_by n u ws true true number unit = record { words = n ∷ u ∷ []; is = (u, refl, number, unit); split = refl }
time_by n u ws true false number unit = record { words = []; is = refl; split = refl }
time_by n u ws false b number unit = record { words = []; is = refl; split = refl }

pub time_taken : (ws : List Word) → Taken IsTime ws (take_time ws)
unfolding take_time
time_taken [] = record { words = []; is = refl; split = refl }
time_taken (n ∷ []) = record { words = []; is = refl; split = refl }
time_taken (n ∷ u ∷ ws) = time_by n u ws (is_number n) (reads u (codes "SEC")) refl refl

maximum_found : (k : Word) (ws : List Word) (t : Option Word × List Word) → Reads k (codes "MAXIMUM") → Taken IsTime ws t → Taken IsMaximum (k ∷ ws) (maximum_or t.0 t.1 (k ∷ ws))
maximum_found k ws (Some n, rest) word t = record { words = k ∷ t.words; is = (k, t.words, refl, word, t.is); split = ap (λ (x : List Word). k ∷ x) t.split }
maximum_found k ws (None, rest) word t = record { words = []; is = refl; split = refl }

maximum_by : (k : Word) (ws : List Word) (b : Bool) → reads k (codes "MAXIMUM") ≡ b → Taken IsMaximum (k ∷ ws) (cond b (maximum_or (take_time ws).0 (take_time ws).1 (k ∷ ws)) (None, k ∷ ws))
maximum_by k ws true word = maximum_found k ws (take_time ws) word (time_taken ws)
maximum_by k ws false word = record { words = []; is = refl; split = refl }

maximum_taken : (ws : List Word) → Taken IsMaximum ws (take_maximum ws)
unfolding take_maximum
maximum_taken [] = record { words = []; is = refl; split = refl }
maximum_taken (k ∷ ws) = maximum_by k ws (reads k (codes "MAXIMUM")) refl

behind_taken : (min : Option Word) (ws : List Word) → Taken IsMaximum ws (maximum_behind min ws) × (IsSome (maximum_behind min ws).0 → IsSome min)
behind_taken None ws = (record { words = []; is = refl; split = refl }, λ h. h)
behind_taken (Some n) ws = (maximum_taken ws, λ h. refl)

end_by : (k w : Word) (ws : List Word) (b : Bool) (o : Option State) → reads k (codes "ENDSTATE") ≡ b → state_of w ≡ o → Taken IsEnd (k ∷ w ∷ ws) (cond b (state_or o ws (k ∷ w ∷ ws)) (None, k ∷ w ∷ ws))
end_by k w ws true (Some s) word e = record { words = k ∷ w ∷ []; is = (k, w, refl, word, state_found w s e); split = refl }
end_by k w ws true None word e = record { words = []; is = refl; split = refl }
end_by k w ws false o word e = record { words = []; is = refl; split = refl }

end_taken : (ws : List Word) → Taken IsEnd ws (take_end ws)
unfolding take_end
end_taken [] = record { words = []; is = refl; split = refl }
end_taken (k ∷ []) = record { words = []; is = refl; split = refl }
end_taken (k ∷ w ∷ ws) = end_by k w ws (reads k (codes "ENDSTATE")) (state_of w) refl refl

pub record WholeFound (run : Option State) (count : Option (Word × Clock)) (min max : Option Word) (end : Option State) (rest : List Word) (r : RunTest) : Type 0 where
  pub run-is : run ≡ r.run
  pub count-is : count ≡ r.count
  pub min-is : min ≡ r.min
  pub max-is : max ≡ r.max
  pub end-is : end ≡ r.end
  pub nothing : rest ≡ []
  pub some : IsSome count ⊎ IsSome min

whole_found : (run : Option State) (count : Option (Word × Clock)) (min max : Option Word) (end : Option State) (rest : List Word) (r : RunTest) → whole_run_test run count min max end rest ≡ Some r → WholeFound run count min max end rest r
whole_found run count min max end (w ∷ ws) r e = absurd cc
whole_found run None None max end [] r e = absurd cc
whole_found run (Some c) None max end [] r e =
    let is : record { run = run; count = Some c; min = None; max = max; end = end } ≡ r = cc in
    record { run-is = ap (λ x. x.run) is; count-is = ap (λ x. x.count) is; min-is = ap (λ x. x.min) is; max-is = ap (λ x. x.max) is; end-is = ap (λ x. x.end) is; nothing = refl; some = inl refl }
whole_found run count (Some n) max end [] r e =
    let is : record { run = run; count = count; min = Some n; max = max; end = end } ≡ r = cc in
    record { run-is = ap (λ x. x.run) is; count-is = ap (λ x. x.count) is; min-is = ap (λ x. x.min) is; max-is = ap (λ x. x.max) is; end-is = ap (λ x. x.end) is; nothing = refl; some = inr refl }

pub run_test_found : (ws : List Word) (r : RunTest) → run_test_of ws ≡ Some r → IsRunTest ws r
unfolding run_test_of
run_test_found ws r e =
    let s = take_state ws in
    let c = take_count s.1 in
    let t = take_time c.1 in
    let m = maximum_behind t.0 t.1 in
    let d = take_end m.1 in
    let f = whole_found s.0 c.0 t.0 m.0 d.0 d.1 r e in
    let a = state_taken ws in
    let b = count_taken s.1 in
    let g = time_taken c.1 in
    let h = behind_taken t.0 t.1 in
    let i = end_taken m.1 in
    let last : m.1 ≡ i.words = i.split ∙ ap (λ (x : List Word). i.words ++ x) f.nothing ∙ append-nil i.words in
    let split : ws ≡ a.words ++ (b.words ++ (g.words ++ (h.0.words ++ i.words))) =
    a.split ∙ ap (λ (x : List Word). a.words ++ x) (b.split ∙ ap (λ (x : List Word). b.words ++ x) (g.split ∙ ap (λ (x : List Word). g.words ++ x) (h.0.split ∙ ap (λ (x : List Word). h.0.words ++ x) last))) in (
      a.words,
      b.words,
      g.words,
      h.0.words,
      i.words,
      split,
      subst (λ x. IsState x a.words) f.run-is a.is,
      subst (λ x. IsCount x b.words) f.count-is b.is,
      subst (λ x. IsTime x g.words) f.min-is g.is,
      subst (λ x. IsMaximum x h.0.words) f.max-is h.0.is,
      subst (λ x. IsEnd x i.words) f.end-is i.is,
      (some_of c.0 r.count t.0 r.min f.count-is f.min-is f.some, λ x. subst IsSome f.min-is (h.1 (subst IsSome (sym f.max-is) x))),
    )
  where
    some_of : (c d : Option (Word × Clock)) (m n : Option Word) → c ≡ d → m ≡ n → IsSome c ⊎ IsSome m → IsSome d ⊎ IsSome n
    some_of c d m n p q (inl x) = inl (subst IsSome p x)
    some_of c d m n p q (inr x) = inr (subst IsSome q x)

-- ---- what stands there is read

-- nothing of a RUNTEST but a state is read from these words
pub record Unread (ws : List Word) : Type 0 where
  pub count : take_count ws ≡ (None, ws)
  pub time : take_time ws ≡ (None, ws)

keyword_is_no_count : (k : Word) (ws : List Word) → is_number k ≡ false → take_count (k ∷ ws) ≡ (None, k ∷ ws)
unfolding take_count
keyword_is_no_count k [] h = refl
keyword_is_no_count k (u ∷ ws) h = rw h refl

keyword_is_no_time : (k : Word) (ws : List Word) → is_number k ≡ false → take_time (k ∷ ws) ≡ (None, k ∷ ws)
unfolding take_time
keyword_is_no_time k [] h = refl
keyword_is_no_time k (u ∷ ws) h = rw h refl

keyword_unread : (k : Word) (ws : List Word) → is_number k ≡ false → Unread (k ∷ ws)
keyword_unread k ws h = record { count = keyword_is_no_count k ws h; time = keyword_is_no_time k ws h }

nothing_unread : Unread []
unfolding take_count take_time
nothing_unread = record { count = refl; time = refl }

end_unread : (end : Option State) (ws : List Word) → IsEnd end ws → Unread ws
end_unread None ws h = subst Unread (sym h) nothing_unread
end_unread (Some s) ws h = subst Unread (sym h.2) (keyword_unread h.0 (h.1 ∷ []) (no_number h.0 (codes "ENDSTATE") h.3 refl))

maximum_unread : (max : Option Word) (ws rest : List Word) → IsMaximum max ws → Unread rest → Unread (ws ++ rest)
maximum_unread None ws rest h u = subst (λ (x : List Word). Unread (x ++ rest)) (sym h) u
maximum_unread (Some n) ws rest h u = subst (λ (x : List Word). Unread (x ++ rest)) (sym h.2) (keyword_unread h.0 (h.1 ++ rest) (no_number h.0 (codes "MAXIMUM") h.3 refl))

end_read : (end : Option State) (ws : List Word) → IsEnd end ws → take_end ws ≡ (end, [])
unfolding take_end
end_read None ws h = ap take_end h
end_read (Some s) ws h = ap take_end h.2 ∙ rw (h.3, state_read h.1 s h.4) refl

-- an end is no maximum
end_is_no_maximum : (end : Option State) (ws : List Word) → IsEnd end ws → take_maximum ws ≡ (None, ws)
unfolding take_maximum
end_is_no_maximum None ws h = subst (λ (x : List Word). take_maximum x ≡ (None, x)) (sym h) refl
end_is_no_maximum (Some s) ws h = subst (λ (x : List Word). take_maximum x ≡ (None, x)) (sym h.2) (rw (other h.0 h.3) refl)
  where
    other : (k : Word) → Reads k (codes "ENDSTATE") → reads k (codes "MAXIMUM") ≡ false
    other k h = ap (λ (l : List ℕ). bytes_eq l (lower (codes "MAXIMUM"))) (lowered k (codes "ENDSTATE") h)

time_read : (min : Option Word) (ws rest : List Word) → IsTime min ws → Unread rest → take_time (ws ++ rest) ≡ (min, rest)
unfolding take_time
time_read None ws rest h u = subst (λ (x : List Word). take_time (x ++ rest) ≡ (None, rest)) (sym h) u.time
time_read (Some n) ws rest h u = subst (λ (x : List Word). take_time (x ++ rest) ≡ (Some n, rest)) (sym h.1) (rw (h.2, h.3) refl)

maximum_read : (max : Option Word) (end : Option State) (ws rest : List Word) → IsMaximum max ws → IsEnd end rest → take_maximum (ws ++ rest) ≡ (max, rest)
unfolding take_maximum
maximum_read None end ws rest h e = subst (λ (x : List Word). take_maximum (x ++ rest) ≡ (None, rest)) (sym h) (end_is_no_maximum end rest e)
maximum_read (Some n) end ws rest h e =
    subst (λ (x : List Word). take_maximum (x ++ rest) ≡ (Some n, rest)) (sym h.2) (rw (h.3, time_read (Some n) h.1 rest h.4 (end_unread end rest e)) refl)

behind_read : (min max : Option Word) (end : Option State) (ws rest : List Word) → IsMaximum max ws → IsEnd end rest → (IsSome max → IsSome min) → maximum_behind min (ws ++ rest) ≡ (max, rest)
behind_read (Some n) max end ws rest h e some = maximum_read max end ws rest h e
behind_read None None end ws rest h e some = ap (λ (x : List Word). (None, x ++ rest)) h
behind_read None (Some n) end ws rest h e some = absurd (let x : IsSome {T = Word} None = some refl in cc)

-- a time is no count
time_is_no_count : (min : Option Word) (ws rest : List Word) → IsTime min ws → Unread rest → take_count (ws ++ rest) ≡ (None, ws ++ rest)
unfolding take_count
time_is_no_count None ws rest h u = subst (λ (x : List Word). take_count (x ++ rest) ≡ (None, x ++ rest)) (sym h) u.count
time_is_no_count (Some n) ws rest h u = subst (λ (x : List Word). take_count (x ++ rest) ≡ (None, x ++ rest)) (sym h.1) (rw (h.2, seconds_are_no_clock h.0 h.3) refl)

count_read : (count : Option (Word × Clock)) (ws rest : List Word) → IsCount count ws → take_count rest ≡ (None, rest) → take_count (ws ++ rest) ≡ (count, rest)
unfolding take_count
count_read None ws rest h u = subst (λ (x : List Word). take_count (x ++ rest) ≡ (None, rest)) (sym h) u
count_read (Some c) ws rest h u = subst (λ (x : List Word). take_count (x ++ rest) ≡ (Some c, rest)) (sym h.1) (rw (h.2, clock_read h.0 c.1 h.3) refl)

number_first : (n : Word) (ws : List Word) → IsNumber n → take_state (n ∷ ws) ≡ (None, n ∷ ws)
unfolding take_state
number_first n ws h = rw (number_is_no_state n h) refl

-- a count or a time is no state
no_state_first : (count : Option (Word × Clock)) (min : Option Word) (c t rest : List Word) → IsCount count c → IsTime min t → IsSome count ⊎ IsSome min → take_state (c ++ (t ++ rest)) ≡ (None, c ++ (t ++ rest))
no_state_first (Some x) min c t rest h k some = subst (λ (y : List Word). take_state (y ++ (t ++ rest)) ≡ (None, y ++ (t ++ rest))) (sym h.1) (number_first x.0 (h.0 ∷ (t ++ rest)) h.2)
no_state_first None (Some n) c t rest h k some =
    subst (λ (y : List Word). take_state (y ++ (t ++ rest)) ≡ (None, y ++ (t ++ rest))) (sym h)
    (subst (λ (y : List Word). take_state (y ++ rest) ≡ (None, y ++ rest)) (sym k.1) (number_first n (k.0 ∷ rest) k.2))
no_state_first None None c t rest h k (inl x) = absurd (let y : IsSome {T = Word × Clock} None = x in cc)
no_state_first None None c t rest h k (inr x) = absurd (let y : IsSome {T = Word} None = x in cc)

state_first : (run : Option State) (ws rest : List Word) → IsState run ws → take_state rest ≡ (None, rest) → take_state (ws ++ rest) ≡ (run, rest)
unfolding take_state
state_first None ws rest h u = subst (λ (x : List Word). take_state (x ++ rest) ≡ (None, rest)) (sym h) u
state_first (Some s) ws rest h u = subst (λ (x : List Word). take_state (x ++ rest) ≡ (Some s, rest)) (sym h.1) (rw (state_read h.0 s h.2) refl)

whole : (run : Option State) (count : Option (Word × Clock)) (min max : Option Word) (end : Option State) → IsSome count ⊎ IsSome min
    → whole_run_test run count min max end [] ≡ Some (record { run = run; count = count; min = min; max = max; end = end })
whole run (Some c) None max end some = refl
whole run count (Some n) max end some = refl
whole run None None max end (inl x) = absurd (let y : IsSome {T = Word × Clock} None = x in cc)
whole run None None max end (inr x) = absurd (let y : IsSome {T = Word} None = x in cc)

pub run_test_read : (ws : List Word) (r : RunTest) → IsRunTest ws r → run_test_of ws ≡ Some r
unfolding run_test_of
run_test_read ws r h =
    let a = h.0 in
    let b = h.1 in
    let t = h.2 in
    let m = h.3 in
    let d = h.4 in
    let unread = maximum_unread r.max m d h.9 (end_unread r.end d h.10) in
    let state = state_first r.run a (b ++ (t ++ (m ++ d))) h.6 (no_state_first r.count r.min b t (m ++ d) h.7 h.8 h.11.0) in
    let count = count_read r.count b (t ++ (m ++ d)) h.7 (time_is_no_count r.min t (m ++ d) h.8 unread) in
    let time = time_read r.min t (m ++ d) h.8 unread in
    let maximum = behind_read r.min r.max r.end m d h.9 h.10 h.11.1 in
    let end = end_read r.end d h.10 in
    ap (λ (x : List Word). run_test_behind (take_state x)) h.5 ∙ ap run_test_behind state ∙ rw (count, time, maximum, end) (whole r.run r.count r.min r.max r.end h.11.0)

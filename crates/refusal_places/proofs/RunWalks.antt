-- What is awaited word by word in a RUNTEST is its form.
use Rattle.std.proofs.Common.{◌≡◌, ℕ, Bool, true, false, ◌&&◌, cond, nat_le, List, [], ◌∷◌, refl, sym, ap, ◌∙◌, arith}
use Rattle.std.specs.Prelude.{codes, is_some, slice_index, Option, Some, None}
use Rattle.std.proofs.lemmas.Bool.Decides.{nat_tests}
use Rattle.jt_tap.specs.declared.State.{State}
use Rattle.svf_words.specs.declared.keywords.Clock.{Clock}
use Rattle.svf_words.specs.Words.{Word, lower, reads, is_number}
use Rattle.svf_words.specs.Keywords.{state_of, clock_of}
use Rattle.svf_parse.specs.RunTests.{RunTest, state_or, count_or, maximum_or, take_state, take_count, take_time, take_maximum, take_end, whole_run_test, maximum_behind, run_test_behind, run_test_of}
use Rattle.refusal_places.specs.declared.misfits.Awaited.TheVariants as awaited
use Rattle.refusal_places.specs.declared.misfits.InRun.TheVariants as run
use Rattle.refusal_places.specs.Misfits.{end_state, if_so}
use Rattle.refusal_places.proofs.MisfitWalks.{accepts, taken, is_nil, end_is, lowered}

abbrev pub leaves_none : List Word → Bool
leaves_none ws = is_nil (take_end ws).1

end_by_state : (k w : Word) (ws : List Word) (o : Option State) → taken (if_so (is_some o) awaited.End) (λ b. accepts b ws) ≡ is_nil (state_or o ws (k ∷ w ∷ ws)).1
end_by_state k w ws None = refl
end_by_state k w ws (Some s) = end_is ws

end_by_word : (k w : Word) (ws : List Word) (b : Bool)
    → taken (if_so b awaited.LastState) (λ x. accepts x (w ∷ ws)) ≡ is_nil (cond {A = Option State × List Word} b (state_or (state_of w) ws (k ∷ w ∷ ws)) (None, k ∷ w ∷ ws)).1
end_by_word k w ws true = end_by_state k w ws (state_of w)
end_by_word k w ws false = refl

end_word_alone : (b : Bool) → taken (if_so b awaited.LastState) (λ x. accepts x []) ≡ false
end_word_alone true = refl
end_word_alone false = refl

end_on : (ws : List Word) → accepts (awaited.RunTest run.EndState) ws ≡ leaves_none ws
unfolding take_end
end_on [] = refl
end_on (k ∷ []) = end_word_alone (reads k (codes "ENDSTATE"))
end_on (k ∷ w ∷ ws) = end_by_word k w ws (reads k (codes "ENDSTATE"))

no_end_left : (k w : Word) (ws : List Word) → reads k (codes "ENDSTATE") ≡ false → leaves_none (k ∷ w ∷ ws) ≡ false
unfolding take_end
no_end_left k w ws is = rw is refl

number_begins : (n : Word) → is_number n ≡ true → nat_le 97 (slice_index (lower n) 0) ≡ false
number_begins [] h = refl
number_begins (c ∷ cs) h = grind (arith, nat_tests)

number_is_no_end_by : (k : Word) (b : Bool) → is_number k ≡ true → reads k (codes "ENDSTATE") ≡ b → b ≡ false
number_is_no_end_by k false number is = refl
number_is_no_end_by k true number is =
    let letter : nat_le 97 (slice_index (lower k) 0) ≡ true = ap (λ (l : List ℕ). nat_le 97 (slice_index l 0)) (lowered k (codes "ENDSTATE") is) in
    let none : nat_le 97 (slice_index (lower k) 0) ≡ false = number_begins k number in
    absurd cc

number_is_no_end : (k : Word) → is_number k ≡ true → reads k (codes "ENDSTATE") ≡ false
number_is_no_end k number = number_is_no_end_by k (reads k (codes "ENDSTATE")) number refl

maximum_is_no_end_by : (k : Word) (b : Bool) → reads k (codes "MAXIMUM") ≡ true → reads k (codes "ENDSTATE") ≡ b → b ≡ false
maximum_is_no_end_by k false maximum is = refl
maximum_is_no_end_by k true maximum is =
    let head : 109 ≡ 101 = ap (λ (l : List ℕ). slice_index l 0) (sym (lowered k (codes "MAXIMUM") maximum) ∙ lowered k (codes "ENDSTATE") is) in
    absurd (omega (arith, head))

maximum_is_no_end : (k : Word) → reads k (codes "MAXIMUM") ≡ true → reads k (codes "ENDSTATE") ≡ false
maximum_is_no_end k maximum = maximum_is_no_end_by k (reads k (codes "ENDSTATE")) maximum refl

-- a number and its unit, if they stand there
abbrev pub time_if : Bool → Word → Word → List Word → Option Word × List Word
time_if true n u ws = (Some n, ws)
time_if false n u ws = (None, n ∷ u ∷ ws)

take_time_is : (n u : Word) (ws : List Word) → take_time (n ∷ u ∷ ws) ≡ time_if (is_number n && reads u (codes "SEC")) n u ws
unfolding take_time
take_time_is n u ws = by (is_number n && reads u (codes "SEC"))
  where
    by : (b : Bool) → cond {A = Option Word × List Word} b (Some n, ws) (None, n ∷ u ∷ ws) ≡ time_if b n u ws
    by true = refl
    by false = refl

-- the seconds of a maximum
most_seconds : (k n u : Word) (ws : List Word) (b c : Bool) → reads k (codes "ENDSTATE") ≡ false → reads u (codes "SEC") ≡ c
    → taken (if_so b (awaited.RunTest run.MostSeconds)) (λ x. accepts x (u ∷ ws))
    ≡ leaves_none (maximum_or (time_if (b && c) n u ws).0 (time_if (b && c) n u ws).1 (k ∷ n ∷ u ∷ ws)).1
most_seconds k n u ws true true no_end is = rw is (end_on ws)
most_seconds k n u ws true false no_end is = rw is (sym (no_end_left k n (u ∷ ws) no_end))
most_seconds k n u ws false c no_end is = sym (no_end_left k n (u ∷ ws) no_end)

most_alone : (b : Bool) → taken (if_so b (awaited.RunTest run.MostSeconds)) (λ x. accepts x []) ≡ false
most_alone true = refl
most_alone false = refl

most_on : (k : Word) (ws : List Word) → reads k (codes "ENDSTATE") ≡ false
    → accepts (awaited.RunTest run.Most) ws ≡ leaves_none (maximum_or (take_time ws).0 (take_time ws).1 (k ∷ ws)).1
unfolding take_time take_end
most_on k [] no_end = refl
most_on k (n ∷ []) no_end = most_alone (is_number n) ∙ sym (no_end_left k n [] no_end)
most_on k (n ∷ u ∷ ws) no_end =
    most_seconds k n u ws (is_number n) (reads u (codes "SEC")) no_end refl
    ∙ ap (λ (t : Option Word × List Word). leaves_none (maximum_or t.0 t.1 (k ∷ n ∷ u ∷ ws)).1) (sym (take_time_is n u ws))

abbrev pub maximum_if : Bool → Word → List Word → Option Word × List Word
maximum_if true k ws = maximum_or (take_time ws).0 (take_time ws).1 (k ∷ ws)
maximum_if false k ws = (None, k ∷ ws)

take_maximum_is : (k : Word) (ws : List Word) → take_maximum (k ∷ ws) ≡ maximum_if (reads k (codes "MAXIMUM")) k ws
unfolding take_maximum
take_maximum_is k ws = by (reads k (codes "MAXIMUM"))
  where
    by : (b : Bool) → cond {A = Option Word × List Word} b (maximum_or (take_time ws).0 (take_time ws).1 (k ∷ ws)) (None, k ∷ ws) ≡ maximum_if b k ws
    by true = refl
    by false = refl

maximum_by : (k : Word) (ws : List Word) (b : Bool) → reads k (codes "MAXIMUM") ≡ b
    → taken (cond b (Some (awaited.RunTest run.Most)) (end_state k)) (λ x. accepts x ws) ≡ leaves_none (maximum_if b k ws).1
maximum_by k ws true is = most_on k ws (maximum_is_no_end k is)
maximum_by k ws false is = end_on (k ∷ ws)

maximum_on : (ws : List Word) → accepts (awaited.RunTest run.Maximum) ws ≡ leaves_none (take_maximum ws).1
unfolding take_maximum take_end
maximum_on [] = refl
maximum_on (k ∷ ws) =
    maximum_by k ws (reads k (codes "MAXIMUM")) refl ∙ ap (λ (m : Option Word × List Word). leaves_none m.1) (sym (take_maximum_is k ws))

-- a time, behind a count
abbrev pub time_leaves_none : Option Word × List Word → Bool
time_leaves_none t = leaves_none (maximum_behind t.0 t.1).1

time_unit : (n u : Word) (ws : List Word) (c : Bool) → is_number n ≡ true → taken (if_so c (awaited.RunTest run.Maximum)) (λ x. accepts x ws) ≡ time_leaves_none (time_if c n u ws)
time_unit n u ws true number = maximum_on ws
time_unit n u ws false number = sym (no_end_left n u ws (number_is_no_end n number))

time_by : (n u : Word) (ws : List Word) (b : Bool) → is_number n ≡ b
    → taken (cond b (Some (awaited.RunTest run.Seconds)) (end_state n)) (λ x. accepts x (u ∷ ws)) ≡ time_leaves_none (time_if (b && reads u (codes "SEC")) n u ws)
time_by n u ws true is = time_unit n u ws (reads u (codes "SEC")) is
time_by n u ws false is = end_on (n ∷ u ∷ ws)

time_alone : (n : Word) (b : Bool) → taken (cond b (Some (awaited.RunTest run.Seconds)) (end_state n)) (λ x. accepts x []) ≡ leaves_none (n ∷ [])
unfolding take_end
time_alone n true = refl
time_alone n false = end_word_alone (reads n (codes "ENDSTATE"))

time_on : (ws : List Word) → accepts (awaited.RunTest run.Time) ws ≡ time_leaves_none (take_time ws)
unfolding take_time take_end
time_on [] = refl
time_on (n ∷ []) = time_alone n (is_number n)
time_on (n ∷ u ∷ ws) = time_by n u ws (is_number n) refl ∙ ap time_leaves_none (sym (take_time_is n u ws))

whole_count : (r : Option State) (c : Word × Clock) (t m : Option Word) (e : Option State) (ws : List Word) → is_nil ws ≡ is_some (whole_run_test r (Some c) t m e ws)
whole_count r c None m e [] = refl
whole_count r c None m e (w ∷ ws) = refl
whole_count r c (Some n) m e [] = refl
whole_count r c (Some n) m e (w ∷ ws) = refl

whole_time : (r : Option State) (n : Word) (m : Option Word) (e : Option State) (ws : List Word) → is_nil ws ≡ is_some (whole_run_test r None (Some n) m e ws)
whole_time r n m e [] = refl
whole_time r n m e (w ∷ ws) = refl

whole_none : (r : Option State) (m : Option Word) (e : Option State) (ws : List Word) → false ≡ is_some (whole_run_test r None None m e ws)
whole_none r m e [] = refl
whole_none r m e (w ∷ ws) = refl

-- a RUNTEST behind its count, if that stands there, and its time
abbrev pub behind_time : Option State → Option (Word × Clock) → Option Word × List Word → Option RunTest
behind_time r c t =
    let m = maximum_behind t.0 t.1 in
    let e = take_end m.1 in
    whole_run_test r c t.0 m.0 e.0 e.1

no_time : (r : Option State) (ws : List Word) → false ≡ is_some (behind_time r None (None, ws))
no_time r ws = whole_none r None (take_end ws).0 (take_end ws).1

seconds_by : (r : Option State) (n u : Word) (ws : List Word) (c : Bool)
    → taken (if_so c (awaited.RunTest run.Maximum)) (λ x. accepts x ws) ≡ is_some (behind_time r None (time_if c n u ws))
seconds_by r n u ws true = maximum_on ws ∙ whole_time r n (take_maximum ws).0 (take_end (take_maximum ws).1).0 (take_end (take_maximum ws).1).1
seconds_by r n u ws false = no_time r (n ∷ u ∷ ws)

abbrev pub behind_count : Option State → Option (Word × Clock) × List Word → Option RunTest
behind_count r c = behind_time r c.0 (take_time c.1)

counted : (r : Option State) (c : Word × Clock) (ws : List Word) → accepts (awaited.RunTest run.Time) ws ≡ is_some (behind_count r (Some c, ws))
counted r c ws =
    let t = take_time ws in
    let m = maximum_behind t.0 t.1 in
    let e = take_end m.1 in
    time_on ws ∙ whole_count r c t.0 m.0 e.0 e.1

clock_by : (r : Option State) (n u : Word) (ws : List Word) (o : Option Clock) → is_number n ≡ true
    → taken (cond (is_some o) (Some (awaited.RunTest run.Time)) (if_so (reads u (codes "SEC")) (awaited.RunTest run.Maximum))) (λ x. accepts x ws)
    ≡ is_some (behind_count r (count_or n o ws (n ∷ u ∷ ws)))
clock_by r n u ws (Some c) number = counted r (n, c) ws
clock_by r n u ws None number =
    seconds_by r n u ws (reads u (codes "SEC"))
    ∙ ap (λ (b : Bool). is_some (behind_time r None (time_if (b && reads u (codes "SEC")) n u ws))) (sym number)
    ∙ ap (λ (t : Option Word × List Word). is_some (behind_time r None t)) (sym (take_time_is n u ws))

abbrev pub count_if : Bool → Word → Word → List Word → Option (Word × Clock) × List Word
count_if true n u ws = count_or n (clock_of u) ws (n ∷ u ∷ ws)
count_if false n u ws = (None, n ∷ u ∷ ws)

take_count_is : (n u : Word) (ws : List Word) → take_count (n ∷ u ∷ ws) ≡ count_if (is_number n) n u ws
unfolding take_count
take_count_is n u ws = by (is_number n)
  where
    by : (b : Bool) → cond {A = Option (Word × Clock) × List Word} b (count_or n (clock_of u) ws (n ∷ u ∷ ws)) (None, n ∷ u ∷ ws) ≡ count_if b n u ws
    by true = refl
    by false = refl

count_by : (r : Option State) (n u : Word) (ws : List Word) (b : Bool) → is_number n ≡ b
    → taken (if_so b (awaited.RunTest run.Unit)) (λ x. accepts x (u ∷ ws)) ≡ is_some (behind_count r (count_if b n u ws))
count_by r n u ws true is = clock_by r n u ws (clock_of u) is
count_by r n u ws false is =
    no_time r (n ∷ u ∷ ws)
    ∙ ap (λ (b : Bool). is_some (behind_time r None (time_if (b && reads u (codes "SEC")) n u ws))) (sym is)
    ∙ ap (λ (t : Option Word × List Word). is_some (behind_time r None t)) (sym (take_time_is n u ws))

count_alone : (r : Option State) (n : Word) (b : Bool) → taken (if_so b (awaited.RunTest run.Unit)) (λ x. accepts x []) ≡ is_some (behind_time r None (None, n ∷ []))
count_alone r n true = no_time r (n ∷ [])
count_alone r n false = no_time r (n ∷ [])

count_on : (r : Option State) (ws : List Word) → accepts (awaited.RunTest run.Count) ws ≡ is_some (run_test_behind (r, ws))
unfolding take_count take_time
count_on r [] = no_time r []
count_on r (n ∷ []) = count_alone r n (is_number n)
count_on r (n ∷ u ∷ ws) = count_by r n u ws (is_number n) refl ∙ ap (λ (c : Option (Word × Clock) × List Word). is_some (behind_count r c)) (sym (take_count_is n u ws))

state_by : (w : Word) (ws : List Word) (o : Option State)
    → taken (cond (is_some o) (Some (awaited.RunTest run.Count)) (if_so (is_number w) (awaited.RunTest run.Unit))) (λ x. accepts x ws) ≡ is_some (run_test_behind (state_or o ws (w ∷ ws)))
state_by w ws (Some s) = count_on (Some s) ws
state_by w ws None = count_on None (w ∷ ws)

pub run_test_end : (ws : List Word) → accepts (awaited.RunTest run.Start) ws ≡ is_some (run_test_of ws)
unfolding run_test_of take_state
run_test_end [] = count_on None []
run_test_end (w ∷ ws) = state_by w ws (state_of w)

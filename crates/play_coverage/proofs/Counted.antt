-- Bridges that are only counted: what is told of all faults with them.
use Rattle.std.proofs.Common.{◌≡◌, ◌≤◌, ◌+◌, ◌⊎◌, ℕ, Bool, true, false, not, ◌&&◌, ◌||◌, nat_lt, List, [], ◌∷◌, ◌++◌, length, take, Some, inl, inr, refl, sym, ap, subst, ◌∙◌, arith}
use Rattle.std.specs.Prelude.{cond, flat_map, if◌then◌else◌}
use Rattle.std.specs.Global.{Vec}
use Rattle.std.specs.List.{count_by, filter}
use Rattle.std.proofs.lemmas.List.Elements.{filter-append}
use Rattle.std.proofs.lemmas.List.Sums.{sum_by-append}
use Rattle.svf_programs.specs.Legal.{IsLegalProgram}
use Rattle.svf_programs.specs.Steps.{Program}
use Rattle.board_plan.specs.Planned.{Wiring}
use Rattle.play_model.specs.declared.ending.Ending.TheVariants.{Fail, Pass}
use Rattle.board_faults.specs.declared.judging.Judged.{Judged}
use Rattle.board_faults.specs.declared.judging.JudgedWay.{JudgedWay}
use Rattle.board_faults.specs.declared.judging.Verdict.{Verdict}
use Rattle.board_faults.specs.declared.judging.Verdict.TheVariants as verdict
use Rattle.board_faults.specs.declared.kinds.Fault.{Fault}
use Rattle.board_faults.specs.declared.kinds.Fault.TheVariants as fault
use Rattle.board_faults.specs.declared.kinds.Way.{Way}
use Rattle.board_faults.specs.declared.kinds.Way.TheVariants as way
use Rattle.board_faults.specs.declared.kinds.Winner.{Winner}
use Rattle.board_faults.specs.declared.kinds.Winner.TheVariants.{Zeros, Ones, First, Second}
use Rattle.board_faults.specs.Faulty.{CanBeJudged}
use Rattle.board_faults.specs.Judging.{JudgesAll, JudgesFault, JudgesWayWith, ways_of}
use Rattle.fault_serving.specs.declared.sifting.Counting.TheVariants as counting
use Rattle.fault_serving.specs.declared.sifting.Counts.{Counts}
use Rattle.fault_serving.specs.declared.sifting.Outcome.{Outcome}
use Rattle.fault_serving.specs.declared.sifting.Outcome.TheVariants.{Caught, Missed, Invisible}
use Rattle.fault_serving.specs.Sifting.{AreCounted, AreSifted, ComesTo, WayComesTo, both_come, count_of, four_come, no_counts, one_more}
use Rattle.fault_serving.proofs.OnePlay.{told_other}
use Rattle.fault_serving.proofs.SiftingLaws.{all_kept}
use Rattle.play_coverage.specs.declared.outcomes.FaultKind.{FaultKind}
use Rattle.play_coverage.specs.declared.outcomes.FaultKind.TheVariants as kind
use Rattle.play_coverage.specs.declared.tallies.Tally.{Tally}
use Rattle.play_coverage.specs.Lines.{any_passed, any_shows, count, has_come, is_counted, is_loop, is_passed, missed_line, most_told, shows}
use Rattle.play_coverage.specs.Tallies.{IsTally, counting_for, first_missed, one_if, with_counts}
use Rattle.play_coverage.proofs.Counting.{full, past}

-- ---- what ways come to together

abbrev shows_of : Outcome → Bool
shows_of Caught = true
shows_of Missed = true
shows_of Invisible = false

abbrev passed_of : Outcome → Bool
passed_of Caught = false
passed_of Missed = true
passed_of Invisible = false

both-show : (a b : Outcome) → shows_of (both_come a b) ≡ (shows_of a || shows_of b)
both-show Missed b = refl
both-show Invisible b = refl
both-show Caught Missed = refl
both-show Caught Caught = refl
both-show Caught Invisible = refl

both-pass : (a b : Outcome) → passed_of (both_come a b) ≡ (passed_of a || passed_of b)
both-pass Missed b = refl
both-pass Invisible b = refl
both-pass Caught Missed = refl
both-pass Caught Caught = refl
both-pass Caught Invisible = refl

or-false : (b : Bool) → (b || false) ≡ b
or-false true = refl
or-false false = refl

-- of four, by a test of each that both ways have where one has it
four-have : (has : Outcome → Bool) → ((a b : Outcome) → has (both_come a b) ≡ (has a || has b)) → (of : Winner → Outcome)
    → (has (of Zeros) || (has (of Ones) || (has (of First) || (has (of Second) || false)))) ≡ has (four_come of)
four-have has both of =
    sym (both (of Zeros) (both_come (of Ones) (both_come (of First) (of Second)))
    ∙ ap (λ (b : Bool). has (of Zeros) || b)
    (both (of Ones) (both_come (of First) (of Second))
    ∙ ap (λ (b : Bool). has (of Ones) || b) (both (of First) (of Second) ∙ ap (λ (b : Bool). has (of First) || b) (sym (or-false (has (of Second)))))))

-- whether what comes to the one comes to the other
abbrev came : Outcome → Outcome → Bool
came Caught o = shows_of o && not (passed_of o)
came Missed o = passed_of o
came Invisible o = not (shows_of o)

counts-one : (a o : Outcome) (c : Counts) → count_of a (one_more o c) ≡ count_of a c + one_if (came a o)
counts-one Caught Caught c = refl
counts-one Caught Missed c = omega arith
counts-one Caught Invisible c = omega arith
counts-one Missed Caught c = omega arith
counts-one Missed Missed c = refl
counts-one Missed Invisible c = omega arith
counts-one Invisible Caught c = omega arith
counts-one Invisible Missed c = omega arith
counts-one Invisible Invisible c = refl

-- it is counted among those of a kind that come to this: a bridge
abbrev is_one : FaultKind → Outcome → Outcome → Bool
is_one kind.Shorts a o = came a o
is_one kind.Opens a o = false
is_one kind.Pulls a o = false
is_one kind.Stuck a o = false

-- so many more of a kind
abbrev more_of : FaultKind → Outcome → Counts → ℕ
more_of kind.Shorts a c = count_of a c
more_of kind.Opens a c = 0
more_of kind.Pulls a c = 0
more_of kind.Stuck a c = 0

more-one : (k : FaultKind) (a o : Outcome) (c : Counts) → more_of k a (one_more o c) ≡ more_of k a c + one_if (is_one k a o)
more-one kind.Shorts a o c = counts-one a o c
more-one kind.Opens a o c = refl
more-one kind.Pulls a o c = refl
more-one kind.Stuck a o c = refl

more-none : (k : FaultKind) (a : Outcome) → more_of k a no_counts ≡ 0
more-none kind.Shorts Caught = refl
more-none kind.Shorts Missed = refl
more-none kind.Shorts Invisible = refl
more-none kind.Opens a = refl
more-none kind.Pulls a = refl
more-none kind.Stuck a = refl

-- ---- what is judged of one

abbrev four : {X : Type 0} → Vec ℕ → (a b c d : X) → Vec X
four v a b c d =
    record { ptr = v.ptr; len = 4; cap = 4; alloc = v.alloc; items = a ∷ b ∷ c ∷ d ∷ []; ok = (refl, omega arith); small = omega arith }

module _ (program : Program) (legal : IsLegalProgram program.steps) (w : Wiring) (can : CanBeJudged w) (v : Vec ℕ) where
  abbrev told : (o : Outcome) (its : Way) → WayComesTo program w o its → Verdict
  told Caught its t = verdict.Played (Fail t.command t.part t.bit)
  told Missed its t = verdict.Played Pass
  told Invisible its t = verdict.Invisible

  judges-way : (o : Outcome) (its : Way) (t : WayComesTo program w o its) → JudgesWayWith program w its (Some (told o its t))
  judges-way Caught its t = told_other program legal w can its (Fail t.command t.part t.bit) t.told (λ e. absurd (cc))
  judges-way Missed its t = (t.0.0, (t.1, sym t.0.1))
  judges-way Invisible its t = (t.0.0, t.1)

  told-shows : (o : Outcome) (its : Way) (t : WayComesTo program w o its) → shows (told o its t) ≡ shows_of o
  told-shows Caught its t = refl
  told-shows Missed its t = refl
  told-shows Invisible its t = refl

  told-passed : (o : Outcome) (its : Way) (t : WayComesTo program w o its) → is_passed (told o its t) ≡ passed_of o
  told-passed Caught its t = refl
  told-passed Missed its t = refl
  told-passed Invisible its t = refl

  -- of a bridge
  module _ (a b : ℕ) (of : Winner → Outcome) (its : (winner : Winner) → WayComesTo program w (of winner) (way.Short a b winner)) where
    abbrev one_way : Winner → JudgedWay
    one_way winner = record { way = way.Short a b winner; verdict = told (of winner) (way.Short a b winner) (its winner) }

    abbrev ways_told : Judged
    ways_told = record { fault = fault.Short a b; ways = Some (four v (one_way Zeros) (one_way Ones) (one_way First) (one_way Second)) }

    bridge-judged : JudgesFault program w (fault.Short a b) (ways_of ways_told)
    bridge-judged =
        let zeros = judges-way (of Zeros) (way.Short a b Zeros) (its Zeros) in
        let ones = judges-way (of Ones) (way.Short a b Ones) (its Ones) in
        let first = judges-way (of First) (way.Short a b First) (its First) in
        let second = judges-way (of Second) (way.Short a b Second) (its Second) in
        (refl, zeros.0, zeros.1, (refl, ones.0, ones.1, (refl, first.0, first.1, (refl, second.0, second.1, tt))))

    any-shows : any_shows (one_way Zeros ∷ one_way Ones ∷ one_way First ∷ one_way Second ∷ []) ≡ shows_of (four_come of)
    any-shows =
        (λ i. told-shows (of Zeros) (way.Short a b Zeros) (its Zeros) i || (told-shows (of Ones) (way.Short a b Ones) (its Ones) i
        || (told-shows (of First) (way.Short a b First) (its First) i || (told-shows (of Second) (way.Short a b Second) (its Second) i || false))))
        ∙ four-have shows_of both-show of

    any-passed : any_passed (one_way Zeros ∷ one_way Ones ∷ one_way First ∷ one_way Second ∷ []) ≡ passed_of (four_come of)
    any-passed =
        (λ i. told-passed (of Zeros) (way.Short a b Zeros) (its Zeros) i || (told-passed (of Ones) (way.Short a b Ones) (its Ones) i
        || (told-passed (of First) (way.Short a b First) (its First) i || (told-passed (of Second) (way.Short a b Second) (its Second) i || false))))
        ∙ four-have passed_of both-pass of

    bridge-comes : (o : Outcome) → has_come o ways_told ≡ came o (four_come of)
    bridge-comes Caught = λ i. any-shows i && not (any-passed i)
    bridge-comes Missed = any-passed
    bridge-comes Invisible = ap not any-shows

  record IsJudged (o : Outcome) (f : Fault) : Type 0 where
    pub j : Judged
    pub of : j.fault ≡ f
    pub judges : JudgesFault program w f (ways_of j)
    pub comes : (a : Outcome) → has_come a j ≡ came a o
    pub counted : (k : FaultKind) (a : Outcome) → is_counted k a j ≡ is_one k a o
    pub loops : is_loop j ≡ false

  bridge-counted : (a b : ℕ) (of : Winner → Outcome) (its : (winner : Winner) → WayComesTo program w (of winner) (way.Short a b winner)) (o : Outcome)
      → o ≡ four_come of → (k : FaultKind) (x : Outcome) → is_counted k x (ways_told a b of its) ≡ is_one k x o
  bridge-counted a b of its o same kind.Shorts x = bridge-comes a b of its x ∙ ap (came x) (sym same)
  bridge-counted a b of its o same kind.Opens x = refl
  bridge-counted a b of its o same kind.Pulls x = refl
  bridge-counted a b of its o same kind.Stuck x = refl

  judged : (o : Outcome) (f : Fault) → ComesTo program w o f → IsJudged o f
  judged o (fault.Short a b) is = record {
    j = ways_told a b is.0 is.1;
    of = refl;
    judges = bridge-judged a b is.0 is.1;
    comes = λ x. bridge-comes a b is.0 is.1 x ∙ ap (came x) (sym is.2);
    counted = bridge-counted a b is.0 is.1 o is.2;
    loops = refl;
  }
  judged o (fault.Open a b) is = absurd is
  judged o (fault.Pull a) is = absurd is
  judged o (fault.Stuck a b) is = absurd is

-- ---- some faults, and more

one-is : (b : Bool) → 0 + cond b 1 0 ≡ one_if b
one-is true = refl
one-is false = refl

one : (p : Judged → Bool) (j : Judged) (js : List Judged) → count_by p (j ∷ js) ≡ one_if (p j) + count_by p js
one p j js = sum_by-append (λ (x : Judged). cond (p x) 1 0) (j ∷ []) js ∙ ap (λ (n : ℕ). n + count_by p js) (one-is (p j))

behind : (p : Judged → Bool) (js some all : List Judged) (n : ℕ) → count_by p all ≡ count_by p some + n → count_by p (js ++ all) ≡ count_by p (js ++ some) + n
behind p js some all n e =
    omega (arith, e, sum_by-append (λ (x : Judged). cond (p x) 1 0) js all, sum_by-append (λ (x : Judged). cond (p x) 1 0) js some)

-- the same are missed unless some of those are counted, and so many more are of each kind
record HasMore (c : Counts) (some all : List Judged) : Type 0 where
  pub missed : c.missed ≡ 0 → filter (has_come Missed) all ≡ filter (has_come Missed) some
  pub counted : (k : FaultKind) (a : Outcome) → count k a all ≡ count k a some + more_of k a c
  pub loops : count_by is_loop all ≡ count_by is_loop some

kept-too : (c : Counts) (j : Judged) (some all : List Judged) → HasMore c some all → HasMore c (j ∷ some) (j ∷ all)
kept-too c j some all more = record {
  missed = λ none. ap (λ (l : List Judged). cond (has_come Missed j) (j ∷ l) l) (more.missed none);
  counted = λ k a. omega (arith, more.counted k a, one (is_counted k a) j some, one (is_counted k a) j all);
  loops = omega (arith, more.loops, one is_loop j some, one is_loop j all);
}

none-more : (o : Outcome) (c d : Counts) (j : Judged) (some all : List Judged) → has_come Missed j ≡ came Missed o → c ≡ one_more o d
    → (d.missed ≡ 0 → filter (has_come Missed) all ≡ filter (has_come Missed) some)
    → c.missed ≡ 0 → filter (has_come Missed) (j ∷ all) ≡ filter (has_come Missed) some
none-more Caught c d j some all comes e more none =
    ap (λ (b : Bool). cond b (j ∷ filter (has_come Missed) all) (filter (has_come Missed) all)) comes ∙ more (sym (ap (λ (x : Counts). x.missed) e) ∙ none)
none-more Missed c d j some all comes e more none = absurd (omega (arith, none, ap (λ (x : Counts). x.missed) e))
none-more Invisible c d j some all comes e more none =
    ap (λ (b : Bool). cond b (j ∷ filter (has_come Missed) all) (filter (has_come Missed) all)) comes ∙ more (sym (ap (λ (x : Counts). x.missed) e) ∙ none)

still : (k : FaultKind) (a : Outcome) (js some all : List Judged) (c : Counts) → HasMore c some all → more_of k a c ≡ 0
    → count k a (js ++ some) ≡ count k a (js ++ all)
still k a js some all c more none = omega (arith, none, behind (is_counted k a) js some all (more_of k a c) (more.counted k a))

-- the first that are missed are the same: none of those is counted, or so many stand before them that none of them is told
first-same : (js some all : List Judged) (c : Counts) → HasMore c some all → (c.missed ≡ 0) ⊎ (most_told ≤ length (first_missed js))
    → first_missed (js ++ some) ≡ first_missed (js ++ all)
first-same js some all c more (inl none) =
    ap (take most_told)
    (filter-append (has_come Missed) js some ∙ ap (λ (l : List Judged). filter (has_come Missed) js ++ l) (sym (more.missed none))
    ∙ sym (filter-append (has_come Missed) js all))
first-same js some all c more (inr many) =
    let those = λ (l : List Judged). ap (take most_told) (filter-append (has_come Missed) js l) ∙ full most_told (filter (has_come Missed) js) (filter (has_come Missed) l) many in
    those some ∙ sym (those all)

tally-with : (before : List ℕ) (w : Wiring) (js some all : List Judged) (c : Counts) (t new : Tally) → HasMore c some all
    → (c.missed ≡ 0) ⊎ (most_told ≤ length (first_missed js)) → IsTally before false w (js ++ some) t → new ≡ with_counts t c
    → IsTally before false w (js ++ all) new
tally-with before w js some all c t new more few is e =
    let first = first-same js some all c more few in
    let same = λ (k : FaultKind) (a : Outcome) (none : more_of k a c ≡ 0). still k a js some all c more none in
    let shorts = λ (a : Outcome). sym (behind (is_counted kind.Shorts a) js some all (count_of a c) (more.counted kind.Shorts a)) in
    subst (λ (x : Tally). IsTally before false w (js ++ all) x) (sym e) (record {
      text = is.text ∙ ap (λ (l : List Judged). before ++ flat_map (missed_line w) l) first;
      told = is.told ∙ ap (λ (l : List Judged). length l) first;
      opens = is.opens ∙ (λ i. record { caught = same kind.Opens Caught refl i; missed = same kind.Opens Missed refl i; invisible = same kind.Opens Invisible refl i });
      pulls = is.pulls ∙ (λ i. record { caught = same kind.Pulls Caught refl i; missed = same kind.Pulls Missed refl i; invisible = same kind.Pulls Invisible refl i });
      stuck = is.stuck ∙ (λ i. record { caught = same kind.Stuck Caught refl i; missed = same kind.Stuck Missed refl i; invisible = same kind.Stuck Invisible refl i });
      shorts = ap (λ (x : Counts). record { caught = x.caught + c.caught; missed = x.missed + c.missed; invisible = x.invisible + c.invisible }) is.shorts
          ∙ (λ i. record { caught = shorts Caught i; missed = shorts Missed i; invisible = shorts Invisible i });
      loops = is.loops ∙ omega (arith, behind is_loop js some all 0 (more.loops ∙ omega arith));
    })

none-with : (t : Tally) (c : Counts) → c ≡ no_counts → t ≡ with_counts t c
none-with t c none =
    let caught : t.shorts.caught ≡ t.shorts.caught + c.caught = omega (arith, ap (λ (x : Counts). x.caught) none) in
    let missed : t.shorts.missed ≡ t.shorts.missed + c.missed = omega (arith, ap (λ (x : Counts). x.missed) none) in
    let invisible : t.shorts.invisible ≡ t.shorts.invisible + c.invisible = omega (arith, ap (λ (x : Counts). x.invisible) none) in
    λ i. record t { shorts = record { caught = caught i; missed = missed i; invisible = invisible i } }

few-missed : (js : List Judged) (n : ℕ) (c : Counts) → n ≡ length (first_missed js) → AreCounted (counting_for false n) c
    → (c.missed ≡ 0) ⊎ (most_told ≤ length (first_missed js))
few-missed js n c is only = by (nat_lt n most_told) refl only
  where
    by : (b : Bool) → nat_lt n most_told ≡ b → AreCounted (if b then counting.AllButMissed else counting.Everything) c
        → (c.missed ≡ 0) ⊎ (most_told ≤ length (first_missed js))
    by true e only = inl only
    by false e only = inr (past most_told (filter (has_come Missed) js) n is e)

-- ---- all faults, by those that are kept

module _ (program : Program) (legal : IsLegalProgram program.steps) (w : Wiring) (can : CanBeJudged w) (v : Vec ℕ) where
  counted-too : (o : Outcome) (f : Fault) (its : IsJudged program legal w can v o f) (c d : Counts) (some all : List Judged) → c ≡ one_more o d
      → HasMore d some all → HasMore c some (its.j ∷ all)
  counted-too o f its c d some all e more = record {
    missed = none-more o c d its.j some all (its.comes Missed) e more.missed;
    counted = λ k a.
        let more_too : more_of k a c ≡ more_of k a d + one_if (is_one k a o) = ap (more_of k a) e ∙ more-one k a o d in
        one (is_counted k a) its.j all ∙ ap (λ (b : Bool). one_if b + count k a all) (its.counted k a) ∙ omega (arith, more.counted k a, more_too);
    loops = one is_loop its.j all ∙ ap (λ (b : Bool). one_if b + count_by is_loop all) its.loops ∙ omega (arith, more.loops);
  }

  all-judged : (all kept : List Fault) (c : Counts) (some : List Judged) → AreSifted (ComesTo program w) all kept c → JudgesAll program w kept some
      → (js : List Judged) × JudgesAll program w all js × HasMore c some js
  all-judged [] kept c some are judges-some = (
    some,
    subst (λ (l : List Fault). JudgesAll program w l some) are.0 judges-some,
    record { missed = λ none. refl; counted = λ k a. omega (arith, ap (more_of k a) are.1, more-none k a); loops = refl },
  )
  all-judged (f ∷ fs) kept c [] (inl it) judges-some = absurd (subst (λ (l : List Fault). JudgesAll program w l []) it.1 judges-some)
  all-judged (f ∷ fs) kept c (j ∷ some) (inl it) judges-some =
      let here = subst (λ (l : List Fault). JudgesAll program w l (j ∷ some)) it.1 judges-some in
      let rest = all-judged fs it.0 c some it.2 here.2 in
      (j ∷ rest.0, (here.0, here.1, rest.1), kept-too c j some rest.0 rest.2)
  all-judged (f ∷ fs) kept c some (inr it) judges-some =
      let rest = all-judged fs kept it.1 some it.4 judges-some in
      let own = judged program legal w can v it.0 f it.3 in
      (own.j ∷ rest.0, (own.of, own.judges, rest.1), counted-too it.0 f own c it.1 some rest.0 it.2 rest.2)

  -- some faults are judged and told, and bridges are counted, where so many are told: then all of both are
  pub told_with : (listed : Bool) (n : ℕ) (before : List ℕ) (js some : List Judged) (all kept : List Fault) (c : Counts) (t new : Tally)
      → n ≡ length (first_missed js) → AreCounted (counting_for listed n) c → AreSifted (ComesTo program w) all kept c → JudgesAll program w kept some
      → IsTally before listed w (js ++ some) t → new ≡ with_counts t c
      → (more : List Judged) × JudgesAll program w all more × IsTally before listed w (js ++ more) new
  told_with true n before js some all kept c t new is only are judges-some tally e = (
    some,
    subst (λ (l : List Fault). JudgesAll program w l some) (sym (all_kept (ComesTo program w) all kept c are only)) judges-some,
    subst (λ (x : Tally). IsTally before true w (js ++ some) x) (none-with t c only ∙ sym e) tally,
  )
  told_with false n before js some all kept c t new is only are judges-some tally e =
      let it = all-judged all kept c some are judges-some in
      (it.0, it.1, tally-with before w js some it.0 c t new it.2 (few-missed js n c is only) tally e)

-- Registers that have one length each.
use Rattle.std.proofs.Common.{◌≡◌, ℕ, Bool, true, false, nat_eq, ◌&&◌, ◌||◌, cond, List, [], ◌∷◌, ◌++◌, refl, sym, ap, ◌∙◌, arith}
use Rattle.std.specs.Prelude.{Option, Some, None, is_some, unwrap_or, not, bytes_eq}
use Rattle.std.specs.List.{list_any, list_all}
use Rattle.std.proofs.lemmas.List.Folds.{list_any-append, list_all-append}
use Rattle.std.proofs.lemmas.Slice.Eq.{bytes_eq-Decides}
use Rattle.std.proofs.lemmas.Bool.Decides.{nat_tests}
use Rattle.bsdl_values.specs.InstructionValues.{AccessRow}
use Rattle.bsdl_rules.specs.Agreeing.{agrees, row_agrees, with_row_length}
use Rattle.bsdl_rules.specs.Lengths.{differ, agree}

-- a row gives this register this length
abbrev pub gives : List ℕ → ℕ → AccessRow → Bool
gives name n r = is_some r.len && (bytes_eq r.register name && nat_eq (unwrap_or r.len 0) n)

-- this length is known
abbrev pub tells : Option ℕ → ℕ → Bool
tells None n = false
tells (Some m) n = nat_eq m n

-- the lengths that rows give are the known ones
pub record Known (known : List ℕ → Option ℕ) (rows : List AccessRow) : Type 0 where
  pub same : (q : List ℕ) (n : ℕ) → list_any (gives q n) rows ≡ tells (known q) n

-- a row's part in what rows give
given_by : (q : List ℕ) (k : ℕ) (r : AccessRow) (len : Option ℕ) → r.len ≡ len → gives q k r ≡ (is_some len && (bytes_eq r.register q && nat_eq (unwrap_or len 0) k))
given_by q k r len is = rw is refl

or_false : (b : Bool) → (b || false) ≡ b
or_false true = refl
or_false false = refl

pub known_skip : (known : List ℕ → Option ℕ) (rows : List AccessRow) (r : AccessRow) → r.len ≡ None → Known known rows → Known known (rows ++ r ∷ [])
known_skip known rows r is before = record {
  same = λ q n.
      list_any-append (gives q n) rows (r ∷ []) ∙ ap (λ b. list_any (gives q n) rows || (b || false)) (given_by q n r None is) ∙ or_false (list_any (gives q n) rows) ∙ before.same q n;
}

same_length : (o : Option ℕ) (n k : ℕ) → agrees o n ≡ true → (tells o k || (nat_eq n k || false)) ≡ nat_eq n k
same_length None n k new = or_false (nat_eq n k)
same_length (Some m) n k new =
    let e : m ≡ n = grind (arith, nat_tests) in
    rw e (twice (nat_eq n k))
  where
    twice : (b : Bool) → (b || (b || false)) ≡ b
    twice true = refl
    twice false = refl

pub known_more : (known after : List ℕ → Option ℕ) (rows : List AccessRow) (r : AccessRow) (n : ℕ) → r.len ≡ Some n → agrees (known r.register) n ≡ true
    → ((q : List ℕ) → after q ≡ cond (bytes_eq r.register q) (Some n) (known q)) → Known known rows → Known after (rows ++ r ∷ [])
known_more known after rows r n is new noted before = record {
  same = λ q k.
      list_any-append (gives q k) rows (r ∷ []) ∙ ap (λ b. list_any (gives q k) rows || (b || false)) (given_by q k r (Some n) is)
      ∙ ap (λ b. b || ((bytes_eq r.register q && nat_eq n k) || false)) (before.same q k)
      ∙ by_test q k (bytes_eq r.register q) refl ∙ sym (ap (λ o. tells o k) (noted q));
}
  where
    by_test : (q : List ℕ) (k : ℕ) (b : Bool) → bytes_eq r.register q ≡ b → (tells (known q) k || ((bytes_eq r.register q && nat_eq n k) || false)) ≡ tells (cond (bytes_eq r.register q) (Some n) (known q)) k
    by_test q k true e =
        let here : r.register ≡ q = (bytes_eq-Decides r.register q).0 e in
        let new_here : agrees (known q) n ≡ true = ap (λ (p : List ℕ). agrees (known p) n) (sym here) ∙ new in
        rw e (same_length (known q) n k new_here)
    by_test q k false e = rw e (or_false (tells (known q) k))

-- ---- all agree

told_both : (o : Option ℕ) (n k : ℕ) → tells o n ≡ true → tells o k ≡ true → nat_eq n k ≡ true
told_both None n k a b = absurd cc
told_both (Some m) n k a b = grind (arith, nat_tests)

equal_to_itself : (q : List ℕ) → bytes_eq q q ≡ true
equal_to_itself q = (bytes_eq-Decides q q).1 refl

nat_itself : (n : ℕ) → nat_eq n n ≡ true
nat_itself n = grind (arith, nat_tests)

-- what rows give is known
abbrev AreKnown : (List ℕ → Option ℕ) → List AccessRow → Type 0
AreKnown known rows = (q : List ℕ) (n : ℕ) → list_any (gives q n) rows ≡ true → tells (known q) n ≡ true

or_true : (b : Bool) → (b || true) ≡ true
or_true true = refl
or_true false = refl

first_known : (known : List ℕ → Option ℕ) (r : AccessRow) (rows : List AccessRow) (n : ℕ) → r.len ≡ Some n → AreKnown known (r ∷ rows) → tells (known r.register) n ≡ true
first_known known r rows n is all =
    let it : (bytes_eq r.register r.register && nat_eq n n) ≡ true = rw (equal_to_itself r.register, nat_itself n) refl in
    all r.register n (ap (λ b. b || list_any (gives r.register n) rows) (given_by r.register n r (Some n) is ∙ it))

rest_known : (known : List ℕ → Option ℕ) (r : AccessRow) (rows : List AccessRow) → AreKnown known (r ∷ rows) → AreKnown known rows
rest_known known r rows all = λ q n there. all q n (ap (λ b. gives q n r || b) there ∙ or_true (gives q n r))

differ_by : (r s : AccessRow) (one two : Option ℕ) → r.len ≡ one → s.len ≡ two → differ r s ≡ (is_some one && (is_some two && (bytes_eq r.register s.register && not (nat_eq (unwrap_or one 0) (unwrap_or two 0)))))
differ_by r s one two e f = rw (e, f) refl

both_agree : (known : List ℕ → Option ℕ) (r s : AccessRow) (one two : Option ℕ) → r.len ≡ one → s.len ≡ two → ((n : ℕ) → one ≡ Some n → tells (known r.register) n ≡ true)
    → ((n : ℕ) → two ≡ Some n → tells (known s.register) n ≡ true) → differ r s ≡ false
both_agree known r s None two e f a b = differ_by r s None two e f
both_agree known r s (Some n) None e f a b = differ_by r s (Some n) None e f
both_agree known r s (Some n) (Some m) e f a b = differ_by r s (Some n) (Some m) e f ∙ by_test (bytes_eq r.register s.register) refl
  where
    by_test : (t : Bool) → bytes_eq r.register s.register ≡ t → (bytes_eq r.register s.register && not (nat_eq n m)) ≡ false
    by_test true is =
        let here : r.register ≡ s.register = (bytes_eq-Decides r.register s.register).0 is in
        let other : tells (known r.register) m ≡ true = ap (λ (q : List ℕ). tells (known q) m) here ∙ b m refl in
        rw (is, told_both (known r.register) n m (a n refl) other) refl
    by_test false is = rw is refl

one_agrees : (known : List ℕ → Option ℕ) (r : AccessRow) (rows : List AccessRow) → ((n : ℕ) → r.len ≡ Some n → tells (known r.register) n ≡ true) → AreKnown known rows → list_any (differ r) rows ≡ false
one_agrees known r [] own all = refl
one_agrees known r (s ∷ rows) own all =
    rw (both_agree known r s r.len s.len refl refl own (λ n is. first_known known s rows n is all)) (one_agrees known r rows own (rest_known known s rows all))

each_agrees : (known : List ℕ → Option ℕ) (all rows : List AccessRow) → AreKnown known all → AreKnown known rows → list_all (λ r. not (list_any (differ r) all)) rows ≡ true
each_agrees known all [] whole here = refl
each_agrees known all (r ∷ rows) whole here =
    rw (one_agrees known r all (λ n is. first_known known r rows n is here) whole) (each_agrees known all rows whole (rest_known known r rows here))

pub all_agree : (known : List ℕ → Option ℕ) (rows : List AccessRow) → Known known rows → true ≡ agree rows
all_agree known rows k =
    let every : AreKnown known rows = λ q n there. sym (k.same q n) ∙ there in
    sym (each_agrees known rows rows every every)

-- ---- two differ

differs_from : (r : AccessRow) (n m : ℕ) (rows : List AccessRow) → r.len ≡ Some n → nat_eq m n ≡ false → list_any (gives r.register m) rows ≡ true → list_any (differ r) rows ≡ true
differs_from r n m [] is other there = absurd cc
differs_from r n m (s ∷ rows) is other there = by_test (gives r.register m s) refl (λ later. differs_from r n m rows is other later)
  where
    by_len : (len : Option ℕ) → s.len ≡ len → gives r.register m s ≡ true → differ r s ≡ true
    by_len None e h =
        let none : gives r.register m s ≡ false = given_by r.register m s None e in
        absurd cc
    by_len (Some k) e h =
        let parts : (bytes_eq s.register r.register && nat_eq k m) ≡ true = sym (given_by r.register m s (Some k) e) ∙ h in
        by_name (bytes_eq s.register r.register) refl parts
      where
        by_name : (b : Bool) → bytes_eq s.register r.register ≡ b → (bytes_eq s.register r.register && nat_eq k m) ≡ true → differ r s ≡ true
        by_name false f p =
            let none : (bytes_eq s.register r.register && nat_eq k m) ≡ false = rw f refl in
            absurd cc
        by_name true f p =
            let name : s.register ≡ r.register = (bytes_eq-Decides s.register r.register).0 f in
            let same : bytes_eq r.register s.register ≡ true = (bytes_eq-Decides r.register s.register).1 (sym name) in
            let whole : (bytes_eq s.register r.register && nat_eq k m) ≡ nat_eq k m = rw f refl in
            let length : nat_eq k m ≡ true = sym whole ∙ p in
            let apart : nat_eq n k ≡ false = grind (arith, nat_tests) in
            differ_by r s (Some n) (Some k) is e ∙ rw (same, apart) refl

    by_test : (b : Bool) → gives r.register m s ≡ b → (list_any (gives r.register m) rows ≡ true → list_any (differ r) rows ≡ true) → list_any (differ r) (s ∷ rows) ≡ true
    by_test true e later = rw (by_len s.len refl e) refl
    by_test false e later =
        let rest : list_any (gives r.register m) (s ∷ rows) ≡ list_any (gives r.register m) rows = rw e refl in
        ap (λ b. differ r s || b) (later (sym rest ∙ there)) ∙ or_true (differ r s)

and_false : (b : Bool) → (b && false) ≡ false
and_false true = refl
and_false false = refl

pub two_differ : (known : List ℕ → Option ℕ) (before after : List AccessRow) (r : AccessRow) (n : ℕ) → r.len ≡ Some n → agrees (known r.register) n ≡ false → Known known before
    → false ≡ agree (before ++ r ∷ after)
two_differ known before after r n is old k = by_known (known r.register) refl
  where
    all : List AccessRow
    all = before ++ r ∷ after

    by_known : (o : Option ℕ) → known r.register ≡ o → false ≡ agree all
    by_known None e =
        let new : agrees (known r.register) n ≡ true = ap (λ p. agrees p n) e in
        absurd cc
    by_known (Some m) e =
        let now : agrees (known r.register) n ≡ nat_eq m n = ap (λ p. agrees p n) e in
        let other : nat_eq m n ≡ false = sym now ∙ old in
        let there : list_any (gives r.register m) before ≡ true = k.same r.register m ∙ ap (λ p. tells p m) e ∙ nat_itself m in
        let differs : list_any (differ r) all ≡ true =
        list_any-append (differ r) before (r ∷ after) ∙ ap (λ b. b || list_any (differ r) (r ∷ after)) (differs_from r n m before is other there) in
        sym (list_all-append (λ s. not (list_any (differ s) all)) before (r ∷ after) ∙ ap (λ b. list_all (λ s. not (list_any (differ s) all)) before && (not b && list_all (λ s. not (list_any (differ s) all)) after)) differs
        ∙ and_false (list_all (λ s. not (list_any (differ s) all)) before))

-- ---- a row more

pub row_known : (known after : List ℕ → Option ℕ) (rows : List AccessRow) (r : AccessRow) → row_agrees known r ≡ true → ((q : List ℕ) → after q ≡ with_row_length known r q) → Known known rows
    → Known after (rows ++ r ∷ [])
row_known known after rows r new note before = by_len r.len refl
  where
    by_len : (len : Option ℕ) → r.len ≡ len → Known after (rows ++ r ∷ [])
    by_len None is =
        let same : (q : List ℕ) → after q ≡ known q = λ q. note q ∙ rw is refl in
        let k : Known known (rows ++ r ∷ []) = known_skip known rows r is before in
        record { same = λ q n. k.same q n ∙ sym (ap (λ o. tells o n) (same q)) }
    by_len (Some n) is =
        let new_here : agrees (known r.register) n ≡ true = rw is at new in
        known_more known after rows r n is new_here (λ q. note q ∙ rw is refl) before

pub row_differs : (known : List ℕ → Option ℕ) (before after : List AccessRow) (r : AccessRow) → row_agrees known r ≡ false → Known known before → false ≡ agree (before ++ r ∷ after)
row_differs known before after r old k = by_len r.len refl
  where
    by_len : (len : Option ℕ) → r.len ≡ len → false ≡ agree (before ++ r ∷ after)
    by_len None is =
        let new : row_agrees known r ≡ true = rw is refl in
        absurd cc
    by_len (Some n) is =
        let old_here : agrees (known r.register) n ≡ false = rw is at old in
        two_differ known before after r n is old_here k

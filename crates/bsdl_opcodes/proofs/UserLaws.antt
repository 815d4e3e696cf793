-- The registers of rows, one row more.
use Rattle.std.proofs.Common.{◌≡◌, ℕ, suc, Bool, true, false, ◌||◌, cond, List, [], ◌∷◌, ◌++◌, length, map, refl, sym, ap, ◌∙◌}
use Rattle.std.specs.Prelude.{Option, Some, None, is_some, option_map, filter, bytes_eq, if◌then◌else◌}
use Rattle.std.proofs.lemmas.List.Elements.{filter-append}
use Rattle.std.proofs.lemmas.Slice.Eq.{bytes_eq-Decides}
use Rattle.bsdl_device.specs.Device.{Name}
use Rattle.bsdl_values.specs.InstructionValues.{AccessRow}
use Rattle.bsdl_opcodes.specs.Users.{is_other, is_user, user_number, users_of, with_row}

abbrev add : List (Name × ℕ) → Name → ℕ → List (Name × ℕ)
add us name n = if is_user us name then us else us ++ (name, n) ∷ []

-- leaving out one register leaves another where it is
other_user : (us : List (Name × ℕ)) (gone name : Name) → bytes_eq gone name ≡ false → is_user (filter (is_other gone) us) name ≡ is_user us name
other_user [] gone name apart = refl
other_user (u ∷ us) gone name apart = by_test (bytes_eq u.0 gone) refl (other_user us gone name apart)
  where
    by_test : (b : Bool) → bytes_eq u.0 gone ≡ b → is_user (filter (is_other gone) us) name ≡ is_user us name → is_user (filter (is_other gone) (u ∷ us)) name ≡ is_user (u ∷ us) name
    by_test true is rest =
        let here : u.0 ≡ gone = (bytes_eq-Decides u.0 gone).0 is in
        let no_name : bytes_eq u.0 name ≡ false = ap (λ (p : Name). bytes_eq p name) here ∙ apart in
        rw (is, no_name) rest
    by_test false is rest = rw is (ap (λ b. bytes_eq u.0 name || b) rest)

-- the first register stays the first
behind_first : (first : Name) (m : ℕ) (us : List (Name × ℕ)) (name : Name) (n : ℕ)
    → (first, m) ∷ filter (is_other first) (add us name n) ≡ add ((first, m) ∷ filter (is_other first) us) name n
behind_first first m us name n = by_first (bytes_eq first name) refl (is_user us name) refl
  where
    by_first : (b : Bool) → bytes_eq first name ≡ b → (u : Bool) → is_user us name ≡ u
        → (first, m) ∷ filter (is_other first) (add us name n) ≡ add ((first, m) ∷ filter (is_other first) us) name n
    by_first true is true known = rw (known, is) refl
    by_first true is false known =
        let same : first ≡ name = (bytes_eq-Decides first name).0 is in
        let back : bytes_eq name first ≡ true = (bytes_eq-Decides name first).1 (sym same) in
        rw (known, is) (ap (λ us. (first, m) ∷ us) (filter-append (is_other first) us ((name, n) ∷ []) ∙ rw back (nil (filter (is_other first) us))))
      where
        nil : (xs : List (Name × ℕ)) → xs ++ [] ≡ xs
        nil [] = refl
        nil (x ∷ xs) = ap (λ ys. x ∷ ys) (nil xs)
    by_first false is true known =
        let there : is_user (filter (is_other first) us) name ≡ true = other_user us first name is ∙ known in
        rw (known, is, there) refl
    by_first false is false known =
        let there : is_user (filter (is_other first) us) name ≡ false = other_user us first name is ∙ known in
        let back : bytes_eq name first ≡ false = flip name first is in
        rw (known, is, there) (ap (λ us. (first, m) ∷ us) (filter-append (is_other first) us ((name, n) ∷ []) ∙ rw back refl))
      where
        flip : (x y : Name) → bytes_eq y x ≡ false → bytes_eq x y ≡ false
        flip x y apart = by_test (bytes_eq x y) refl
          where
            by_test : (b : Bool) → bytes_eq x y ≡ b → bytes_eq x y ≡ false
            by_test false e = e
            by_test true e =
                let same : bytes_eq y x ≡ true = (bytes_eq-Decides y x).1 (sym ((bytes_eq-Decides x y).0 e)) in
                absurd cc

with_none : (us : List (Name × ℕ)) (r : AccessRow) → r.len ≡ None → with_row us r ≡ us
with_none us r is = rw is refl

with_some : (us : List (Name × ℕ)) (r : AccessRow) (n : ℕ) → r.len ≡ Some n → with_row us r ≡ add us r.register n
with_some us r n is = rw is refl

first_none : (s : AccessRow) (rows : List AccessRow) → s.len ≡ None → users_of (s ∷ rows) ≡ users_of rows
first_none s rows is = rw is refl

first_some : (s : AccessRow) (rows : List AccessRow) (m : ℕ) → s.len ≡ Some m → users_of (s ∷ rows) ≡ (s.register, m) ∷ filter (is_other s.register) (users_of rows)
first_some s rows m is = rw is refl

pub users_more : (rows : List AccessRow) (r : AccessRow) → users_of (rows ++ r ∷ []) ≡ with_row (users_of rows) r
users_more [] r = by_len r.len refl
  where
    by_len : (len : Option ℕ) → r.len ≡ len → users_of (r ∷ []) ≡ with_row [] r
    by_len None is = first_none r [] is ∙ sym (with_none [] r is)
    by_len (Some n) is = first_some r [] n is ∙ sym (with_some [] r n is)
users_more (s ∷ rows) r = by_lens s.len refl r.len refl (users_more rows r)
  where
    by_lens : (one : Option ℕ) → s.len ≡ one → (two : Option ℕ) → r.len ≡ two → users_of (rows ++ r ∷ []) ≡ with_row (users_of rows) r → users_of (s ∷ rows ++ r ∷ []) ≡ with_row (users_of (s ∷ rows)) r
    by_lens None e two f rest = first_none s (rows ++ r ∷ []) e ∙ rest ∙ ap (λ us. with_row us r) (sym (first_none s rows e))
    by_lens (Some m) e None f rest =
        first_some s (rows ++ r ∷ []) m e ∙ ap (λ us. (s.register, m) ∷ filter (is_other s.register) us) (rest ∙ with_none (users_of rows) r f) ∙ sym (first_some s rows m e)
        ∙ sym (with_none (users_of (s ∷ rows)) r f)
    by_lens (Some m) e (Some n) f rest =
        first_some s (rows ++ r ∷ []) m e ∙ ap (λ us. (s.register, m) ∷ filter (is_other s.register) us) (rest ∙ with_some (users_of rows) r n f)
        ∙ behind_first s.register m (users_of rows) r.register n ∙ ap (λ us. add us r.register n) (sym (first_some s rows m e)) ∙ sym (with_some (users_of (s ∷ rows)) r n f)

-- ---- their numbers

some_map : (o : Option ℕ) → is_some (option_map (λ n. suc n) o) ≡ is_some o
some_map None = refl
some_map (Some n) = refl

pub numbered : (us : List (Name × ℕ)) (q : Name) → is_some (user_number us q) ≡ is_user us q
numbered [] q = refl
numbered (u ∷ us) q = by_test (bytes_eq u.0 q) refl (numbered us q)
  where
    by_test : (b : Bool) → bytes_eq u.0 q ≡ b → is_some (user_number us q) ≡ is_user us q → is_some (user_number (u ∷ us) q) ≡ is_user (u ∷ us) q
    by_test true is rest = rw is refl
    by_test false is rest = rw is (some_map (user_number us q) ∙ rest)

none_is : (o : Option ℕ) → is_some o ≡ false → o ≡ None
none_is None e = refl
none_is (Some n) e = absurd cc

-- a new register has the next number
pub number_put : (us : List (Name × ℕ)) (name : Name) (n : ℕ) (q : Name) → is_user us name ≡ false
    → user_number (us ++ (name, n) ∷ []) q ≡ cond (bytes_eq name q) (Some (length us)) (user_number us q)
number_put [] name n q new = refl
number_put (u ∷ us) name n q new = by_test (bytes_eq u.0 q) refl (bytes_eq name q) refl (number_put us name n q rest_new)
  where
    rest_new : is_user us name ≡ false
    rest_new = by_head (bytes_eq u.0 name) refl
      where
        by_head : (b : Bool) → bytes_eq u.0 name ≡ b → is_user us name ≡ false
        by_head true e = let there : is_user (u ∷ us) name ≡ true = rw e refl in absurd cc
        by_head false e = let there : is_user (u ∷ us) name ≡ is_user us name = rw e refl in sym there ∙ new

    by_test : (b : Bool) → bytes_eq u.0 q ≡ b → (d : Bool) → bytes_eq name q ≡ d → user_number (us ++ (name, n) ∷ []) q ≡ cond (bytes_eq name q) (Some (length us)) (user_number us q)
        → user_number (u ∷ us ++ (name, n) ∷ []) q ≡ cond (bytes_eq name q) (Some (suc (length us))) (user_number (u ∷ us) q)
    by_test true e true f rest =
        let here : u.0 ≡ name = (bytes_eq-Decides u.0 q).0 e ∙ sym ((bytes_eq-Decides name q).0 f) in
        let same : bytes_eq u.0 name ≡ true = (bytes_eq-Decides u.0 name).1 here in
        let there : is_user (u ∷ us) name ≡ true = rw same refl in
        absurd cc
    by_test true e false f rest = rw (e, f) refl
    by_test false e true f rest =
        let there : cond (bytes_eq name q) (Some (length us)) (user_number us q) ≡ Some (length us) = rw f refl in
        rw (e, f) (ap (option_map (λ n. suc n)) (rest ∙ there))
    by_test false e false f rest =
        let there : cond (bytes_eq name q) (Some (length us)) (user_number us q) ≡ user_number us q = rw f refl in
        rw (e, f) (ap (option_map (λ n. suc n)) (rest ∙ there))

-- ---- what the code keeps

pub record Kept (lengths : List ℕ) (numbers : List ℕ → Option ℕ) (us : List (Name × ℕ)) : Type 0 where
  pub lengths_are : lengths ≡ map (λ u. u.1) us
  pub numbers_are : (q : List ℕ) → numbers q ≡ user_number us q

pub added_known : (lengths : List ℕ) (numbers : List ℕ → Option ℕ) (us : List (Name × ℕ)) (name : Name) (n : ℕ) → is_some (numbers name) ≡ true → Kept lengths numbers us → Kept lengths numbers (add us name n)
added_known lengths numbers us name n known k =
    let there : is_user us name ≡ true = sym (numbered us name) ∙ sym (ap is_some (k.numbers_are name)) ∙ known in
    rw there k

same_len : (us : List (Name × ℕ)) → length (map (λ u. u.1) us) ≡ length us
same_len [] = refl
same_len (u ∷ us) = ap suc (same_len us)

map_behind : (us : List (Name × ℕ)) (u : Name × ℕ) → map (λ v. v.1) (us ++ u ∷ []) ≡ map (λ v. v.1) us ++ u.1 ∷ []
map_behind [] u = refl
map_behind (v ∷ us) u = ap (λ ns. v.1 ∷ ns) (map_behind us u)

pub added_new : (lengths : List ℕ) (numbers after : List ℕ → Option ℕ) (us : List (Name × ℕ)) (name : Name) (n number : ℕ) → is_some (numbers name) ≡ false → number ≡ length lengths
    → ((q : List ℕ) → after q ≡ cond (bytes_eq name q) (Some number) (numbers q)) → Kept lengths numbers us → Kept (lengths ++ n ∷ []) after (add us name n)
added_new lengths numbers after us name n number unknown at put k =
    let there : is_user us name ≡ false = sym (numbered us name) ∙ sym (ap is_some (k.numbers_are name)) ∙ unknown in
    let len : length us ≡ number = sym (same_len us) ∙ sym (ap length k.lengths_are) ∙ sym at in
    rw there
    (record {
      lengths_are = ap (λ ns. ns ++ n ∷ []) k.lengths_are ∙ sym (map_behind us (name, n));
      numbers_are = λ q.
          put q ∙ ap (λ o. cond (bytes_eq name q) (Some number) o) (k.numbers_are q) ∙ ap (λ (m : ℕ). cond (bytes_eq name q) (Some m) (user_number us q)) (sym len) ∙ sym (number_put us name n q there);
    })

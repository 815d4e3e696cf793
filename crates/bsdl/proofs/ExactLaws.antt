-- In every device that a text says, what a register takes is as long as it.
use Rattle.std.proofs.Common.{◌≡◌, ◌<◌, ℕ, suc, Bool, true, false, nat_eq, ◌&&◌, ◌||◌, cond, List, [], ◌∷◌, ◌++◌, map, refl, sym, ap, ◌∙◌, arith}
use Rattle.bsdl_device.specs.Opcodes.{x_as_0}
use Rattle.std.specs.Prelude.{Option, Some, None, Result, Ok, Err, is_some, not, option_map, unwrap_or, filter, bytes_eq, codes, slice_get}
use Rattle.std.specs.List.{AllByRecursion, flat_map, list_all, list_any}
use Rattle.std.proofs.lemmas.Bool.Decides.{nat_tests}
use Rattle.std.proofs.lemmas.Slice.Eq.{bytes_eq-Decides}
use Rattle.bsdl_device.specs.Device.{Access, Device, Name, Pattern}
use Rattle.bsdl_device.specs.declared.Place.TheVariants.{AtUser}
use Rattle.bsdl_values.specs.InstructionValues.{AccessRow, Instr}
use Rattle.bsdl_entity.specs.Entity.{File}
use Rattle.bsdl_description.specs.Describing.{Description, Refusal, described, ◌>>?◌}
use Rattle.bsdl_rules.specs.Lengths.{access_fits, agree, patterns_captured, captures_fit, codes_fit, differ, has_bits, has_len, instructions_fit, is_empty, row_len}
use Rattle.bsdl_opcodes.specs.Users.{is_other, is_user, user_number, users_of}
use Rattle.bsdl_opcodes.specs.Accesses.{access, accesses_of_row, public_place}
use Rattle.bsdl.specs.Built.{device}
use Rattle.bsdl.specs.Exact.{IsExactAccess, IsExactAt, IsExactDevice, Takes}
use Rattle.bsdl.specs.Form.{text_form}
use Rattle.bsdl.specs.Judging.{fault, file_says, device_or_refusal, text_says}
use Rattle.bsdl.specs.Limited.{HasLengthIfGiven}
use Rattle.bsdl.proofs.OnceLaws.{both, not_false}
use Rattle.bsdl.proofs.SoundLaws.{not_empty, or_true}
use Rattle.bsdl.proofs.LimitedLaws.{bits_len, is_long, lengths, every_device as every_limited}

-- ---- the lengths of one name

-- every register of this name has this length
abbrev AllLong : Name → ℕ → List (Name × ℕ) → Type 0
AllLong q n us = AllByRecursion (λ u. bytes_eq u.0 q ≡ true → u.1 ≡ n) us

kept_long : (name q : Name) (n : ℕ) (us : List (Name × ℕ)) → AllLong q n us → AllLong q n (filter (is_other name) us)
kept_long name q n [] all = tt
kept_long name q n (u ∷ us) all = by_test (is_other name u) (kept_long name q n us all.1)
  where
    by_test : (b : Bool) → AllLong q n (filter (is_other name) us) → AllLong q n (cond b (u ∷ filter (is_other name) us) (filter (is_other name) us))
    by_test true rest = (all.0, rest)
    by_test false rest = rest

neither_holds : (a b : Bool) → (a || b) ≡ false → (a ≡ false) × (b ≡ false)
neither_holds true b h = absurd cc
neither_holds false b h = (refl, h)

same_length : (s r : AccessRow) (n m : ℕ) → s.len ≡ Some n → r.len ≡ Some m → differ s r ≡ false → bytes_eq r.register s.register ≡ true → m ≡ n
same_length s r n m is given apart same =
    let name : r.register ≡ s.register = (bytes_eq-Decides r.register s.register).0 same in
    let back : bytes_eq s.register r.register ≡ true = (bytes_eq-Decides s.register r.register).1 (sym name) in
    let now : differ s r ≡ not (nat_eq n m) = rw (is, given, back) refl in
    let equal : nat_eq n m ≡ true = not_false (nat_eq n m) (sym now ∙ apart) in
    grind (arith, nat_tests)

users_long : (s : AccessRow) (n : ℕ) (rows : List AccessRow) → s.len ≡ Some n → list_any (differ s) rows ≡ false → AllLong s.register n (users_of rows)
users_long s n [] is none = tt
users_long s n (r ∷ rows) is none =
    let parts = neither_holds (differ s r) (list_any (differ s) rows) none in
    by_len r.len refl parts.0 (users_long s n rows is parts.1)
  where
    by_len : (len : Option ℕ) → r.len ≡ len → differ s r ≡ false → AllLong s.register n (users_of rows) → AllLong s.register n (users_of (r ∷ rows))
    by_len None given apart rest = rw given rest
    by_len (Some m) given apart rest = rw given (same_length s r n m is given apart, kept_long r.register s.register n (users_of rows) rest)

-- ---- the number of a name

-- a register of this name is there
kept_user : (name q : Name) (us : List (Name × ℕ)) → bytes_eq name q ≡ false → is_user us q ≡ true → is_user (filter (is_other name) us) q ≡ true
kept_user name q [] apart there = absurd cc
kept_user name q (u ∷ us) apart there = by_test (bytes_eq u.0 name) refl (λ later. kept_user name q us apart later)
  where
    by_test : (b : Bool) → bytes_eq u.0 name ≡ b → (is_user us q ≡ true → is_user (filter (is_other name) us) q ≡ true) → is_user (filter (is_other name) (u ∷ us)) q ≡ true
    by_test true same rest =
        let name_is : u.0 ≡ name = (bytes_eq-Decides u.0 name).0 same in
        let not_here : bytes_eq u.0 q ≡ false = ap (λ (p : Name). bytes_eq p q) name_is ∙ apart in
        let later : is_user us q ≡ true = rw not_here at there in
        let dropped : is_user (filter (is_other name) (u ∷ us)) q ≡ is_user (filter (is_other name) us) q = rw same refl in
        dropped ∙ rest later
    by_test false other rest =
        let kept : is_user (filter (is_other name) (u ∷ us)) q ≡ (bytes_eq u.0 q || is_user (filter (is_other name) us) q) = rw other refl in
        kept ∙ by_head (bytes_eq u.0 q) refl
      where
        by_head : (h : Bool) → bytes_eq u.0 q ≡ h → (h || is_user (filter (is_other name) us) q) ≡ true
        by_head true e = refl
        by_head false e =
            let later : is_user us q ≡ true = rw e at there in
            rest later

-- a row gives this register a length
abbrev gives_len : Name → AccessRow → Bool
gives_len q r = is_some r.len && bytes_eq r.register q

named : (q : Name) (rows : List AccessRow) → list_any (gives_len q) rows ≡ true → is_user (users_of rows) q ≡ true
named q [] any = absurd cc
named q (r ∷ rows) any = by_len r.len refl (λ later. named q rows later)
  where
    by_len : (len : Option ℕ) → r.len ≡ len → (list_any (gives_len q) rows ≡ true → is_user (users_of rows) q ≡ true) → is_user (users_of (r ∷ rows)) q ≡ true
    by_len None is rest =
        let later : list_any (gives_len q) rows ≡ true = rw is at any in
        rw is (rest later)
    by_len (Some n) is rest = rw is (by_name (bytes_eq r.register q) refl)
      where
        by_name : (b : Bool) → bytes_eq r.register q ≡ b → (b || is_user (filter (is_other r.register) (users_of rows)) q) ≡ true
        by_name true e = refl
        by_name false e =
            let later : list_any (gives_len q) rows ≡ true = rw (is, e) at any in
            kept_user r.register q (users_of rows) e (rest later)

numbered : (us : List (Name × ℕ)) (q : Name) (n : ℕ) → AllLong q n us → is_user us q ≡ true → (k : ℕ) × (user_number us q ≡ Some k) × (slice_get (map (λ u. u.1) us) k ≡ Some n)
numbered [] q n all there = absurd cc
numbered (v ∷ vs) q n all there = by_head (bytes_eq v.0 q) refl (λ later. numbered vs q n all.1 later)
  where
    by_head : (b : Bool) → bytes_eq v.0 q ≡ b → (is_user vs q ≡ true → (k : ℕ) × (user_number vs q ≡ Some k) × (slice_get (map (λ u. u.1) vs) k ≡ Some n))
        → (k : ℕ) × (user_number (v ∷ vs) q ≡ Some k) × (slice_get (map (λ u. u.1) (v ∷ vs)) k ≡ Some n)
    by_head true is rest =
        let first : user_number (v ∷ vs) q ≡ Some 0 = rw is refl in
        (0, first, ap Some (all.0 is))
    by_head false is rest =
        let later : is_user vs q ≡ true = rw is at there in
        let (k, number, len) = rest later in
        let next : user_number (v ∷ vs) q ≡ option_map (λ j. suc j) (user_number vs q) = rw is refl in
        (suc k, next ∙ ap (option_map (λ j. suc j)) number, len)

-- ---- every row's register is found

-- the register of a row with a length is found, and has that length
abbrev IsFound : List (Name × ℕ) → AccessRow → Type 0
IsFound us r = (n : ℕ) → r.len ≡ Some n → slice_get (map (λ u. u.1) us) (unwrap_or (user_number us r.register) 0) ≡ Some n

found : (all : List AccessRow) (r : AccessRow) → list_any (differ r) all ≡ false → (is_some r.len ≡ true → list_any (gives_len r.register) all ≡ true) → IsFound (users_of all) r
found all r apart there n is =
    let given : is_some r.len ≡ true = ap is_some is in
    let (k, number, len) = numbered (users_of all) r.register n (users_long r n all is apart) (named r.register all (there given)) in
    rw number len

itself : (r : AccessRow) → is_some r.len ≡ true → gives_len r.register r ≡ true
itself r some = rw (some, (bytes_eq-Decides r.register r.register).1 refl) refl

all_found : (all rows : List AccessRow) → list_all (λ r. not (list_any (differ r) all)) rows ≡ true → ((q : Name) → list_any (gives_len q) rows ≡ true → list_any (gives_len q) all ≡ true)
    → AllByRecursion (IsFound (users_of all)) rows
all_found all [] agrees among = tt
all_found all (r ∷ rows) agrees among =
    let parts = both (not (list_any (differ r) all)) (list_all (λ s. not (list_any (differ s) all)) rows) agrees in
    let apart : list_any (differ r) all ≡ false = not_true (list_any (differ r) all) parts.0 in (
      found all r apart (λ some. among r.register (ap (λ b. b || list_any (gives_len r.register) rows) (itself r some))),
      all_found all rows parts.1 (λ q later. among q (ap (λ b. gives_len q r || b) later ∙ or_true (gives_len q r))),
    )
  where
    not_true : (b : Bool) → not b ≡ true → b ≡ false
    not_true true e = absurd cc
    not_true false e = refl

-- ---- own instructions

abbrev AllExact : List ℕ → List Access → Type 0
AllExact lens xs = AllByRecursion (λ a. IsExactAccess lens a) xs

all_both : (lens : List ℕ) (xs ys : List Access) → AllExact lens xs → AllExact lens ys → AllExact lens (xs ++ ys)
all_both lens [] ys all more = more
all_both lens (x ∷ xs) ys all more = (all.0, all_both lens xs ys all.1 more)

public_exact : (lens : List ℕ) (q : Name) (captures : Option (List Bool)) → IsExactAt lens (public_place q) captures
public_exact lens q captures = by_tests (bytes_eq q (codes "BOUNDARY")) (bytes_eq q (codes "BYPASS")) refl refl
  where
    by_tests : (s t : Bool) → bytes_eq q (codes "BOUNDARY") ≡ s → bytes_eq q (codes "BYPASS") ≡ t → IsExactAt lens (public_place q) captures
    by_tests true t e f = rw e tt
    by_tests false true e f = rw (e, f) tt
    by_tests false false e f = rw (e, f) tt

public_row : (lens : List ℕ) (q : Name) (is : List Instr) → AllExact lens (map (access (public_place q) false) is)
public_row lens q [] = tt
public_row lens q (i ∷ is) = (public_exact lens q None, public_row lens q is)

captures_long : (n : ℕ) (o : Option Pattern) → list_all (has_len n) (patterns_captured o) ≡ true → HasLengthIfGiven n (option_map x_as_0 o)
captures_long n None fits = tt
captures_long n (Some p) fits = bits_len p ∙ is_long n p (both (has_len n p) true fits).0

own_row : (lens : List ℕ) (k n : ℕ) (is : List Instr) → slice_get lens k ≡ Some n → 0 < n → list_all (captures_fit n) is ≡ true → AllExact lens (map (access (AtUser k) true) is)
own_row lens k n [] there some fits = tt
own_row lens k n (i ∷ is) there some fits =
    let parts = both (captures_fit n i) (list_all (captures_fit n) is) fits in
    let here : Takes (slice_get lens k) (option_map x_as_0 i.captures) = rw there (some, captures_long n i.captures parts.0) in
    (here, own_row lens k n is there some parts.1)

row_exact : (us : List (Name × ℕ)) (b : ℕ) (r : AccessRow) → IsFound us r → access_fits b r ≡ true → AllExact (map (λ u. u.1) us) (accesses_of_row us r)
row_exact us b r there fits = by_len r.len refl
  where
    by_len : (len : Option ℕ) → r.len ≡ len → AllExact (map (λ u. u.1) us) (accesses_of_row us r)
    by_len None is = rw is (public_row (map (λ u. u.1) us) r.register r.instrs)
    by_len (Some n) is =
        let len : row_len b r ≡ n = rw is refl in
        let captures : list_all (captures_fit n) r.instrs ≡ true = ap (λ (k : ℕ). list_all (captures_fit k) r.instrs) (sym len) ∙ (both (not (is_empty r)) (list_all (captures_fit (row_len b r)) r.instrs) fits).1 in
        rw is (own_row (map (λ u. u.1) us) (unwrap_or (user_number us r.register) 0) n r.instrs (there n is) (not_empty r n b is fits) captures)

rows_exact : (us : List (Name × ℕ)) (b : ℕ) (rows : List AccessRow) → AllByRecursion (IsFound us) rows → list_all (access_fits b) rows ≡ true → AllExact (map (λ u. u.1) us) (flat_map (accesses_of_row us) rows)
rows_exact us b [] there fits = tt
rows_exact us b (r ∷ rows) there fits =
    let parts = both (access_fits b r) (list_all (access_fits b) rows) fits in
    all_both (map (λ u. u.1) us) (accesses_of_row us r) (flat_map (accesses_of_row us) rows) (row_exact us b r there.0 parts.0) (rows_exact us b rows there.1 parts.1)

-- ---- the whole

abbrev AreExact : Device → Type 0
AreExact v = AllByRecursion (λ a. IsExactAccess v.users a) v.accesses

exact : (d : Description) → fault d ≡ None → AreExact (device d)
exact d e =
    let one = both (has_bits d) _ (lengths d e) in
    let two = both (instructions_fit d) _ one.1 in
    let three = both (codes_fit d) _ two.1 in
    let four = both (list_all (access_fits d.boundary_length) d.accesses) (agree d.accesses) three.1 in
    rows_exact (users_of d.accesses) d.boundary_length d.accesses (all_found d.accesses d.accesses four.1 (λ q there. there)) four.0

judged_exact : (d : Description) (v : Device) (o : Option Refusal) → fault d ≡ o → device_or_refusal o d ≡ Ok v → AreExact v
judged_exact d v (Some r) is e = absurd cc
judged_exact d v None is e =
    let same : device d ≡ v = cc in
    rw (sym same) (exact d is)

described_exact : (x : Result Description Refusal) (v : Device) → (x >>? λ d. device_or_refusal (fault d) d) ≡ Ok v → AreExact v
described_exact (Err r) v e = absurd cc
described_exact (Ok d) v e = judged_exact d v (fault d) refl e

spelt_exact : (x : Result File Refusal) (v : Device) → (x >>? file_says) ≡ Ok v → AreExact v
spelt_exact (Err r) v e = absurd cc
spelt_exact (Ok f) v e = described_exact (described f) v e

pub every_device : (text : List ℕ) (v : Device) → text_says text ≡ Ok v → IsExactDevice v
every_device text v e = record { limited = every_limited text v e; accesses = spelt_exact (text_form text) v e }

-- Every device that a text says is sound.
use Rattle.std.proofs.Common.{◌≡◌, ◌<◌, ℕ, zero, suc, ◌+◌, Bool, true, false, nat_eq, ◌||◌, cond, List, [], ◌∷◌, ◌++◌, length, map, refl, sym, ap, ◌∙◌, arith}
use Rattle.bsdl_device.specs.Opcodes.{x_as_0}
use Rattle.std.specs.Prelude.{Option, Some, None, Result, Ok, Err, is_some, not, option_map, unwrap_or, filter, bytes_eq, codes, nat_le, slice_get}
use Rattle.std.specs.List.{AllByRecursion, flat_map, list_all, list_any, range_with_len}
use Rattle.std.proofs.lemmas.Bool.Decides.{nat_tests}
use Rattle.std.proofs.lemmas.List.{length-append, length-map}
use Rattle.bsdl_device.specs.Device.{Access, Device, Name, Pattern}
use Rattle.bsdl_device.specs.declared.Place.TheVariants.{AtUser}
use Rattle.bsdl_device.specs.Sound.{HasBitIfGiven, IsSoundAccess, IsSoundAt, IsSoundDevice, user_length}
use Rattle.bsdl_values.specs.InstructionValues.{AccessRow, Instr}
use Rattle.bsdl_entity.specs.Entity.{File}
use Rattle.bsdl_description.specs.Describing.{Description, Refusal, bad_length, described, ◌>>?◌}
use Rattle.bsdl_rules.specs.Fits.{rows_numbered}
use Rattle.bsdl_rules.specs.Lengths.{access_fits, agree, patterns_captured, captures_fit, codes_fit, has_bits, has_len, instructions_fit, is_empty, lengths_fit, row_len}
use Rattle.bsdl_opcodes.specs.Users.{is_other, user_number, users_of}
use Rattle.bsdl_rules.specs.Twice.{given_again}
use Rattle.bsdl_opcodes.specs.Accesses.{access, accesses_of_row, public_place}
use Rattle.bsdl.specs.Boundary.{cell, cells_of}
use Rattle.bsdl.specs.Built.{device}
use Rattle.bsdl.specs.Form.{text_form}
use Rattle.bsdl.specs.Judging.{fault, file_says, device_or_refusal, text_says, twice_in, unless}
use Rattle.bsdl.proofs.OnceLaws.{both, each_cell_once, holds, neither}

bits_len : (p : Pattern) → length (x_as_0 p) ≡ length p
bits_len p = length-map p (λ b. unwrap_or b false)

has_bit : (n : ℕ) (p : Pattern) → 0 < n → has_len n p ≡ true → 0 < length (x_as_0 p)
has_bit n p some fits =
    let len : length p ≡ n = grind (arith, nat_tests) in
    omega (arith, bits_len p)

-- the first code
code : (ps : List Pattern) → list_all (has_len 32) ps ≡ true → HasBitIfGiven (option_map x_as_0 (slice_get ps 0))
code [] fits = tt
code (p ∷ ps) fits = has_bit 32 p (omega arith) (both (has_len 32 p) (list_all (has_len 32) ps) fits).0

-- ---- registers of the device's own

abbrev AllSome : List (Name × ℕ) → Type 0
AllSome us = AllByRecursion (λ u. 0 < u.1) us

kept_some : (name : Name) (us : List (Name × ℕ)) → AllSome us → AllSome (filter (is_other name) us)
kept_some name [] all = tt
kept_some name (u ∷ us) all = by_test (is_other name u) (kept_some name us all.1)
  where
    by_test : (b : Bool) → AllSome (filter (is_other name) us) → AllSome (cond b (u ∷ filter (is_other name) us) (filter (is_other name) us))
    by_test true rest = (all.0, rest)
    by_test false rest = rest

pub not_empty : (r : AccessRow) (n : ℕ) (b : ℕ) → r.len ≡ Some n → access_fits b r ≡ true → 0 < n
not_empty r n b is fits =
    let some : not (is_empty r) ≡ true = (both (not (is_empty r)) (list_all (captures_fit (row_len b r)) r.instrs) fits).0 in
    let here : not (nat_eq n 0) ≡ true = rw is at some in
    by_test (nat_eq n 0) refl here
  where
    by_test : (t : Bool) → nat_eq n 0 ≡ t → not (nat_eq n 0) ≡ true → 0 < n
    by_test true e h =
        let none : not (nat_eq n 0) ≡ false = rw e refl in
        absurd cc
    by_test false e h = grind (arith, nat_tests)

users_some : (b : ℕ) (rows : List AccessRow) → list_all (access_fits b) rows ≡ true → AllSome (users_of rows)
users_some b [] fits = tt
users_some b (r ∷ rows) fits =
    let parts = both (access_fits b r) (list_all (access_fits b) rows) fits in
    by_len r.len refl parts.0 (users_some b rows parts.1)
  where
    by_len : (len : Option ℕ) → r.len ≡ len → access_fits b r ≡ true → AllSome (users_of rows) → AllSome (users_of (r ∷ rows))
    by_len None is fit rest = rw is rest
    by_len (Some n) is fit rest = rw is (not_empty r n b is fit, kept_some r.register (users_of rows) rest)

some_user : (b : ℕ) (rows : List AccessRow) → list_any (λ r. is_some r.len) rows ≡ true → 0 < length (users_of rows)
some_user b [] any = absurd cc
some_user b (r ∷ rows) any = by_len r.len refl (λ h. some_user b rows h)
  where
    by_len : (len : Option ℕ) → r.len ≡ len → (list_any (λ r. is_some r.len) rows ≡ true → 0 < length (users_of rows)) → 0 < length (users_of (r ∷ rows))
    by_len None is rest =
        let there : list_any (λ r. is_some r.len) rows ≡ true = rw is at any in
        rw is (rest there)
    by_len (Some n) is rest = rw is (omega arith)

-- each register has a bit
numbered_some : (q : Name) (us : List (Name × ℕ)) (k : ℕ) → AllSome us → user_number us q ≡ Some k → 0 < user_length k (map (λ u. u.1) us)
numbered_some q [] k every e = absurd cc
numbered_some q (v ∷ vs) k every e = by_head (bytes_eq v.0 q) refl (user_number vs q) refl (λ j f. numbered_some q vs j every.1 f)
  where
    by_head : (b : Bool) → bytes_eq v.0 q ≡ b → (o : Option ℕ) → user_number vs q ≡ o → ((j : ℕ) → user_number vs q ≡ Some j → 0 < user_length j (map (λ w. w.1) vs)) → 0 < user_length k (map (λ w. w.1) (v ∷ vs))
    by_head true is o f rest =
        let here : Some 0 ≡ Some k = rw is at e in
        let place : 0 ≡ k = cc in
        rw (sym place) every.0
    by_head false is None f rest =
        let here : option_map (λ n. suc n) (user_number vs q) ≡ Some k = rw is at e in
        let none : option_map (λ n. suc n) (user_number vs q) ≡ None = ap (option_map (λ n. suc n)) f in
        absurd cc
    by_head false is (Some j) f rest =
        let here : option_map (λ n. suc n) (user_number vs q) ≡ Some k = rw is at e in
        let next : option_map (λ n. suc n) (user_number vs q) ≡ Some (suc j) = ap (option_map (λ n. suc n)) f in
        let place : suc j ≡ k = cc in
        rw (sym place) (rest j f)

user_some : (us : List (Name × ℕ)) (q : Name) → AllSome us → 0 < length us → 0 < user_length (unwrap_or (user_number us q) 0) (map (λ u. u.1) us)
user_some [] q all some = absurd (omega arith)
user_some (u ∷ us) q all some = by_number (user_number (u ∷ us) q) refl
  where
    by_number : (o : Option ℕ) → user_number (u ∷ us) q ≡ o → 0 < user_length (unwrap_or o 0) (map (λ v. v.1) (u ∷ us))
    by_number None e = all.0
    by_number (Some k) e = numbered_some q (u ∷ us) k all e

-- ---- own instructions

abbrev AllSound : List ℕ → List Access → Type 0
AllSound lens xs = AllByRecursion (λ a. IsSoundAccess lens a) xs

all_both : (lens : List ℕ) (xs ys : List Access) → AllSound lens xs → AllSound lens ys → AllSound lens (xs ++ ys)
all_both lens [] ys all more = more
all_both lens (x ∷ xs) ys all more = (all.0, all_both lens xs ys all.1 more)

public_sound : (lens : List ℕ) (q : Name) (captures : Option (List Bool)) → IsSoundAt lens (public_place q) captures
public_sound lens q captures = by_tests (bytes_eq q (codes "BOUNDARY")) (bytes_eq q (codes "BYPASS")) refl refl
  where
    by_tests : (s t : Bool) → bytes_eq q (codes "BOUNDARY") ≡ s → bytes_eq q (codes "BYPASS") ≡ t → IsSoundAt lens (public_place q) captures
    by_tests true t e f = rw e tt
    by_tests false true e f = rw (e, f) tt
    by_tests false false e f = rw (e, f) tt

public_row : (lens : List ℕ) (q : Name) (is : List Instr) → AllSound lens (map (access (public_place q) false) is)
public_row lens q [] = tt
public_row lens q (i ∷ is) = (public_sound lens q None, public_row lens q is)

captures_sound : (n : ℕ) (o : Option Pattern) → 0 < n → list_all (has_len n) (patterns_captured o) ≡ true → HasBitIfGiven (option_map x_as_0 o)
captures_sound n None some fits = tt
captures_sound n (Some p) some fits = has_bit n p some (both (has_len n p) true fits).0

own_row : (lens : List ℕ) (k n : ℕ) (is : List Instr) → 0 < n → 0 < user_length k lens → list_all (captures_fit n) is ≡ true → AllSound lens (map (access (AtUser k) true) is)
own_row lens k n [] some there fits = tt
own_row lens k n (i ∷ is) some there fits =
    let parts = both (captures_fit n i) (list_all (captures_fit n) is) fits in
    ((there, captures_sound n i.captures some parts.0), own_row lens k n is some there parts.1)

row_sound : (us : List (Name × ℕ)) (b : ℕ) (r : AccessRow) → (is_some r.len ≡ true → 0 < length us) → AllSome us → access_fits b r ≡ true → AllSound (map (λ u. u.1) us) (accesses_of_row us r)
row_sound us b r some all fits = by_len r.len refl
  where
    by_len : (len : Option ℕ) → r.len ≡ len → AllSound (map (λ u. u.1) us) (accesses_of_row us r)
    by_len None is = rw is (public_row (map (λ u. u.1) us) r.register r.instrs)
    by_len (Some n) is =
        let given : is_some r.len ≡ true = ap is_some is in
        let there = user_some us r.register all (some given) in
        let len : row_len b r ≡ n = rw is refl in
        let captures : list_all (captures_fit n) r.instrs ≡ true = ap (λ (k : ℕ). list_all (captures_fit k) r.instrs) (sym len) ∙ (both (not (is_empty r)) (list_all (captures_fit (row_len b r)) r.instrs) fits).1 in
        rw is (own_row (map (λ u. u.1) us) (unwrap_or (user_number us r.register) 0) n r.instrs (not_empty r n b is fits) there captures)

pub or_true : (b : Bool) → (b || true) ≡ true
or_true true = refl
or_true false = refl

rows_sound : (us : List (Name × ℕ)) (b : ℕ) (rows : List AccessRow) → (list_any (λ r. is_some r.len) rows ≡ true → 0 < length us) → AllSome us → list_all (access_fits b) rows ≡ true
    → AllSound (map (λ u. u.1) us) (flat_map (accesses_of_row us) rows)
rows_sound us b [] some all fits = tt
rows_sound us b (r ∷ rows) some all fits =
    let parts = both (access_fits b r) (list_all (access_fits b) rows) fits in
    all_both (map (λ u. u.1) us) (accesses_of_row us r) (flat_map (accesses_of_row us) rows)
    (row_sound us b r (λ h. some (ap (λ t. t || list_any (λ s. is_some s.len) rows) h)) all parts.0)
    (rows_sound us b rows (λ h. some (ap (λ t. is_some r.len || t) h ∙ or_true (is_some r.len))) all parts.1)

-- ---- the whole

first_cell : (d : Description) (n : ℕ) → 0 < n → length (rows_numbered d 0) ≡ 1 → 0 < length (cells_of d.ports d.cells n)
first_cell d zero some one = absurd (omega arith)
first_cell d (suc n) some one =
    let rest = flat_map (λ k. map (cell d.ports) (rows_numbered d k)) (range_with_len (0 + 1) n) in
    omega (arith, length-append (map (cell d.ports) (rows_numbered d 0)) rest, length-map (rows_numbered d 0) (cell d.ports))

sound : (d : Description) → fault d ≡ None → IsSoundDevice (device d)
sound d e =
    let names = neither (twice_in d (given_again d)) _ e in
    let fits = holds (lengths_fit d) bad_length (neither (unless (lengths_fit d) bad_length) _ names.second).first in
    let one = both (has_bits d) _ fits in
    let two = both (instructions_fit d) _ one.1 in
    let three = both (codes_fit d) _ two.1 in
    let four = both (list_all (access_fits d.boundary_length) d.accesses) (agree d.accesses) three.1 in
    let bit_counts = both (nat_le 2 d.instruction_length) (nat_le 1 d.boundary_length) one.0 in
    let instruction : 0 < d.instruction_length = grind (arith, nat_tests, bit_counts.0) in
    let boundary : 0 < d.boundary_length = grind (arith, nat_tests, bit_counts.1) in
    let capture = (both (list_all (λ r. list_all (has_len d.instruction_length) r.patterns) d.opcodes) (has_len d.instruction_length d.capture) two.0).1 in
    let code_fits = both (list_all (has_len 32) d.idcodes) (list_all (has_len 32) d.usercodes) three.0 in
    record {
      instruction = instruction;
      capture = has_bit d.instruction_length d.capture instruction capture;
      cells = first_cell d d.boundary_length boundary (each_cell_once d e 0 boundary);
      idcode = code d.idcodes code_fits.0;
      usercode = code d.usercodes code_fits.1;
      accesses = rows_sound (users_of d.accesses) d.boundary_length d.accesses (λ any. some_user d.boundary_length d.accesses any) (users_some d.boundary_length d.accesses four.0) four.0;
    }

judged_sound : (d : Description) (v : Device) (o : Option Refusal) → fault d ≡ o → device_or_refusal o d ≡ Ok v → IsSoundDevice v
judged_sound d v (Some r) is e = absurd cc
judged_sound d v None is e =
    let same : device d ≡ v = cc in
    rw (sym same) (sound d is)

described_sound : (x : Result Description Refusal) (v : Device) → (x >>? λ d. device_or_refusal (fault d) d) ≡ Ok v → IsSoundDevice v
described_sound (Err r) v e = absurd cc
described_sound (Ok d) v e = judged_sound d v (fault d) refl e

spelt_sound : (x : Result File Refusal) (v : Device) → (x >>? file_says) ≡ Ok v → IsSoundDevice v
spelt_sound (Err r) v e = absurd cc
spelt_sound (Ok f) v e = described_sound (described f) v e

pub every_device : (text : List ℕ) (v : Device) → text_says text ≡ Ok v → IsSoundDevice v
every_device text v e = spelt_sound (text_form text) v e

-- A port bit has the number at which its name and its index are found.
use Rattle.std.proofs.Common.{◌≡◌, ◌<◌, ◌≤◌, ℕ, zero, suc, ◌+◌, ◌-◌, Bool, true, false, nat_eq, ◌&&◌, List, [], ◌∷◌, ◌++◌, length, map, refl, sym, ap, subst, ◌∙◌, arith}
use Rattle.std.proofs.Math.Bool.{true≢false}
use Rattle.std.specs.Prelude.{Option, Some, None, option_map, bytes_eq, nat_le, position, slice_get}
use Rattle.std.specs.Char.{to_ascii_uppercase}
use Rattle.std.specs.List.{AllByRecursion, flat_map, range_with_len}
use Rattle.std.specs.Str.{str_eq_ignore_ascii_case}
use Rattle.std.proofs.lemmas.Bool.Decides.{nat_tests}
use Rattle.std.proofs.lemmas.Slice.Eq.{bytes_eq-Decides}
use Rattle.bsdl_device.specs.Device.{Name, PortBit}
use Rattle.bsdl_device.specs.Ports as found
use Rattle.bsdl_text.specs.Words.{upper}
use Rattle.bsdl_text.proofs.NameLaws.{names_match_in_any_case}
use Rattle.bsdl_values.specs.CellRows.{PortName}
use Rattle.bsdl_entity.specs.Ports.{Port, Range}
use Rattle.bsdl_entity.specs.PortBits as declared
use Rattle.bsdl_lookup.specs.PortNumbers as port_numbers
use Rattle.bsdl_text.specs.Words.{is_among}
use Rattle.bsdl.specs.Boundary.{port_bits}
use Rattle.bsdl.specs.Laws.{PinsFindTheBitsOfRows}
use Rattle.bsdl.proofs.LimitedLaws.{port_len}

-- ---- the first that passes

position_here : {A : Type 0} (p : A → Bool) (x : A) (xs : List A) → p x ≡ true → position p (x ∷ xs) ≡ Some 0
position_here p x xs passes = rw passes (grind (arith, nat_tests))

position_more : {A : Type 0} (p : A → Bool) (x : A) (xs : List A) → p x ≡ false → position p (x ∷ xs) ≡ option_map (λ k. suc k) (position p xs)
position_more p x xs fails = rw fails (grind (arith, nat_tests))

position_next : {A : Type 0} (p : A → Bool) (x : A) (xs : List A) (k : ℕ) → p x ≡ false → position p xs ≡ Some k → position p (x ∷ xs) ≡ Some (suc k)
position_next p x xs k fails at = position_more p x xs fails ∙ ap (option_map (λ j. suc j)) at

position_behind : {A : Type 0} (p : A → Bool) (xs ys : List A) (k : ℕ) → AllByRecursion (λ x. p x ≡ false) xs → position p ys ≡ Some k → position p (xs ++ ys) ≡ Some (length xs + k)
position_behind p [] ys k none at =
    let more : k ≡ 0 + k = omega arith in
    at ∙ ap Some more
position_behind p (x ∷ xs) ys k none at =
    let more : suc (length xs + k) ≡ length (x ∷ xs) + k = omega arith in
    position_next p x (xs ++ ys) (length xs + k) none.0 (position_behind p xs ys k none.1 at) ∙ ap Some more

position_front : {A : Type 0} (p : A → Bool) (xs ys : List A) (k : ℕ) → position p xs ≡ Some k → position p (xs ++ ys) ≡ Some k
position_front p [] ys k at = absurd cc
position_front p (x ∷ xs) ys k at = by_test (p x) refl (λ j is. position_front p xs ys j is)
  where
    by_rest : (o : Option ℕ) → position p xs ≡ o → p x ≡ false → ((j : ℕ) → position p xs ≡ Some j → position p (xs ++ ys) ≡ Some j) → position p (x ∷ xs ++ ys) ≡ Some k
    by_rest None is fails front =
        let nothing : position p (x ∷ xs) ≡ None = position_more p x xs fails ∙ ap (option_map (λ j. suc j)) is in
        let apart : None ≡ Some k = sym nothing ∙ at in
        absurd cc
    by_rest (Some j) is fails front =
        let next : position p (x ∷ xs) ≡ Some (suc j) = position_next p x xs j fails is in
        position_next p x (xs ++ ys) j fails (front j is) ∙ sym next ∙ at

    by_test : (b : Bool) → p x ≡ b → ((j : ℕ) → position p xs ≡ Some j → position p (xs ++ ys) ≡ Some j) → position p (x ∷ xs ++ ys) ≡ Some k
    by_test true is front = position_here p x (xs ++ ys) is ∙ sym (position_here p x xs is) ∙ at
    by_test false is front = by_rest (position p xs) refl is front

get_front : {A : Type 0} (xs ys : List A) (k : ℕ) (x : A) → slice_get xs k ≡ Some x → slice_get (xs ++ ys) k ≡ Some x
get_front [] ys k x at = absurd cc
get_front (y ∷ xs) ys zero x at = at
get_front (y ∷ xs) ys (suc k) x at = get_front xs ys k x at

get_behind : {A : Type 0} (xs ys : List A) (k : ℕ) → slice_get (xs ++ ys) (length xs + k) ≡ slice_get ys k
get_behind [] ys k =
    let none : 0 + k ≡ k = omega arith in
    ap (slice_get ys) none
get_behind (x ∷ xs) ys k =
    let more : length (x ∷ xs) + k ≡ suc (length xs + k) = omega arith in
    ap (slice_get (x ∷ xs ++ ys)) more ∙ get_behind xs ys k

-- ---- names

upper_byte : (c : ℕ) → to_ascii_uppercase (to_ascii_uppercase c) ≡ to_ascii_uppercase c
upper_byte c = grind (arith, nat_tests)

upper_upper : (name : List ℕ) → upper (upper name) ≡ upper name
upper_upper [] = refl
upper_upper (c ∷ cs) = rw (upper_byte c, upper_upper cs) refl

turned : (a b : List ℕ) (h : Bool) → bytes_eq a b ≡ h → bytes_eq b a ≡ h
turned a b true is = (bytes_eq-Decides b a).1 (sym ((bytes_eq-Decides a b).0 is))
turned a b false is = by_test (bytes_eq b a) refl
  where
    by_test : (h : Bool) → bytes_eq b a ≡ h → bytes_eq b a ≡ false
    by_test false e = e
    by_test true e = absurd (true≢false (sym ((bytes_eq-Decides a b).1 (sym ((bytes_eq-Decides b a).0 e))) ∙ is))

-- the test of a name in any case is that of the name in upper case
names_alike : (x name word : List ℕ) (h : Bool) → upper x ≡ name → bytes_eq (upper word) name ≡ h → str_eq_ignore_ascii_case x (upper word) ≡ h
names_alike x name word h is same =
    let tested : bytes_eq (upper x) (upper (upper word)) ≡ h = rw (is, upper_upper word) (turned (upper word) name h same) in
    names_match_in_any_case x (upper word) ∙ tested

-- ---- the bits of one port

-- the bit of an index
abbrev bit_of : List Name → Port → Option ℕ → PortBit
bit_of taps p i = record { name = upper p.name.text; index = i; mode = p.mode; is_tap = is_among taps (upper p.name.text) }

-- a bit is found, and is one of the TAP's or not
pub record IsFound (x : List ℕ) (i : Option ℕ) (is_tap : Bool) (bits : List PortBit) (k : ℕ) : Type 0 where
  pub number : found.bit_number x i bits ≡ Some k
  pub bit : PortBit
  pub at : slice_get bits k ≡ Some bit
  pub tap : bit.is_tap ≡ is_tap

none_named : (x : List ℕ) (i : Option ℕ) (f : ℕ → PortBit) (is : List ℕ) → ((k : ℕ) → str_eq_ignore_ascii_case x (f k).name ≡ false) → AllByRecursion (λ b. found.is_bit x i b ≡ false) (map f is)
none_named x i f [] apart = tt
none_named x i f (k ∷ is) apart =
    let here : found.is_bit x i (f k) ≡ false = rw (apart k) refl in
    (here, none_named x i f is apart)

other_port : (taps : List Name) (p : Port) (x : List ℕ) (i : Option ℕ) → str_eq_ignore_ascii_case x (upper p.name.text) ≡ false → AllByRecursion (λ b. found.is_bit x i b ≡ false) (port_bits taps p)
other_port taps p x i apart = by_range p.range refl
  where
    by_range : (r : Option Range) → p.range ≡ r → AllByRecursion (λ b. found.is_bit x i b ≡ false) (port_bits taps p)
    by_range None is =
        let here : found.is_bit x i (bit_of taps p None) ≡ false = rw apart refl in
        rw is (here, tt)
    by_range (Some r) is = rw is (none_named x i (λ k. bit_of taps p (Some k)) (range_with_len r.low (r.high - r.low + 1)) (λ k. apart))

ranged_number : (test : PortBit → Bool) (f : ℕ → PortBit) (i : ℕ) → ((k : ℕ) → test (f k) ≡ nat_eq i k) → (a n : ℕ) → a ≤ i → i < a + n → position test (map f (range_with_len a n)) ≡ Some (i - a)
ranged_number test f i tells a zero low high = absurd (omega (arith, low, high))
ranged_number test f i tells a (suc n) low high = by_place (nat_eq i a) refl (λ above. ranged_number test f i tells (a + 1) n above (omega (arith, high)))
  where
    by_place : (b : Bool) → nat_eq i a ≡ b → (a + 1 ≤ i → position test (map f (range_with_len (a + 1) n)) ≡ Some (i - (a + 1))) → position test (f a ∷ map f (range_with_len (a + 1) n)) ≡ Some (i - a)
    by_place true is rest =
        let place : 0 ≡ i - a = grind (arith, nat_tests) in
        position_here test (f a) (map f (range_with_len (a + 1) n)) (tells a ∙ is) ∙ ap Some place
    by_place false is rest =
        let above : a + 1 ≤ i = grind (arith, nat_tests) in
        let next : suc (i - (a + 1)) ≡ i - a = omega (arith, above) in
        position_next test (f a) (map f (range_with_len (a + 1) n)) (i - (a + 1)) (tells a ∙ is) (rest above) ∙ ap Some next

ranged_at : (f : ℕ → PortBit) (a n k : ℕ) → k < n → slice_get (map f (range_with_len a n)) k ≡ Some (f (a + k))
ranged_at f a zero k less = absurd (omega (arith, less))
ranged_at f a (suc n) zero less = ap (λ (j : ℕ). Some (f j)) (omega arith)
ranged_at f a (suc n) (suc k) less =
    let place : a + 1 + k ≡ a + suc k = omega arith in
    ranged_at f (a + 1) n k (omega (arith, less)) ∙ ap (λ (j : ℕ). Some (f j)) place

this_port : (taps : List Name) (p : Port) (x : List ℕ) (i : Option ℕ) (k : ℕ) → str_eq_ignore_ascii_case x (upper p.name.text) ≡ true → declared.bit_at p.range i ≡ Some k
    → IsFound x i (is_among taps (upper p.name.text)) (port_bits taps p) k
this_port taps p x i k same at = by_range p.range refl i refl
  where
    by_range : (r : Option Range) → p.range ≡ r → (j : Option ℕ) → i ≡ j → IsFound x i (is_among taps (upper p.name.text)) (port_bits taps p) k
    by_range None is None whole =
        let here : Some 0 ≡ Some k = rw (is, whole) at at in
        let place : 0 ≡ k = cc in
        let passes : found.is_bit x None (bit_of taps p None) ≡ true = rw same refl in
        rw (is, whole, sym place) (record { number = position_here (found.is_bit x None) (bit_of taps p None) [] passes; bit = bit_of taps p None; at = refl; tap = refl })
    by_range None is (Some j) whole =
        let none : None ≡ Some k = rw (is, whole) at at in
        absurd cc
    by_range (Some r) is None whole =
        let none : None ≡ Some k = rw (is, whole) at at in
        absurd cc
    by_range (Some r) is (Some j) whole = by_test (nat_le r.low j && nat_le j r.high) refl
      where
        tells : (m : ℕ) → found.is_bit x (Some j) (bit_of taps p (Some m)) ≡ nat_eq j m
        tells m = rw same refl

        by_test : (b : Bool) → (nat_le r.low j && nat_le j r.high) ≡ b → IsFound x i (is_among taps (upper p.name.text)) (port_bits taps p) k
        by_test true within =
            let here : Some (j - r.low) ≡ Some k = rw (is, whole, within) at at in
            let place : j - r.low ≡ k = cc in
            let low : r.low ≤ j = grind (arith, nat_tests) in
            let high : j < r.low + (r.high - r.low + 1) = grind (arith, nat_tests) in
            rw (is, whole, sym place) (record {
              number = ranged_number (found.is_bit x (Some j)) (λ m. bit_of taps p (Some m)) j tells r.low (r.high - r.low + 1) low high;
              bit = bit_of taps p (Some (r.low + (j - r.low)));
              at = ranged_at (λ m. bit_of taps p (Some m)) r.low (r.high - r.low + 1) (j - r.low) (omega (arith, low, high));
              tap = refl;
            })
        by_test false out =
            let none : None ≡ Some k = rw (is, whole, out) at at in
            absurd cc

-- ---- all ports

-- a number behind those of other ports, and what is found there
abbrev IsFoundFrom : ℕ → List Name → List Port → List ℕ → PortName → ℕ → Type 0
IsFoundFrom m taps ps x name k = (j : ℕ) × (m + j ≡ k) × IsFound x name.index (is_among taps name.name) (flat_map (port_bits taps) ps) j

found_from : (m : ℕ) (taps : List Name) (ps : List Port) (x : List ℕ) (name : PortName) (k : ℕ) → upper x ≡ name.name → port_numbers.bit_number m ps name ≡ Some k → IsFoundFrom m taps ps x name k
found_from m taps [] x name k spelt e = absurd cc
found_from m taps (p ∷ ps) x name k spelt e = by_test (bytes_eq (upper p.name.text) name.name) refl (λ there. found_from (m + declared.width p.range) taps ps x name k spelt there)
  where
    by_bit : (o : Option ℕ) → declared.bit_at p.range name.index ≡ o → option_map (λ j. m + j) o ≡ Some k → bytes_eq (upper p.name.text) name.name ≡ true → IsFoundFrom m taps (p ∷ ps) x name k
    by_bit None is here same = absurd cc
    by_bit (Some j) is here same =
        let place : m + j ≡ k = cc in
        let same_name : upper p.name.text ≡ name.name = (bytes_eq-Decides (upper p.name.text) name.name).0 same in
        let this = this_port taps p x name.index j (names_alike x name.name p.name.text true spelt same) is in (
          j,
          place,
          record {
            number = position_front (found.is_bit x name.index) (port_bits taps p) (flat_map (port_bits taps) ps) j this.number;
            bit = this.bit;
            at = get_front (port_bits taps p) (flat_map (port_bits taps) ps) j this.bit this.at;
            tap = this.tap ∙ ap (is_among taps) same_name;
          },
        )

    behind : IsFoundFrom (m + declared.width p.range) taps ps x name k → bytes_eq (upper p.name.text) name.name ≡ false → IsFoundFrom m taps (p ∷ ps) x name k
    behind there apart =
        let j = there.0 in
        let this = there.2 in
        let long = port_len taps p in
        let place : m + (length (port_bits taps p) + j) ≡ k = omega (arith, long, there.1) in (
          length (port_bits taps p) + j,
          place,
          record {
            number = position_behind (found.is_bit x name.index) (port_bits taps p) (flat_map (port_bits taps) ps) j (other_port taps p x name.index (names_alike x name.name p.name.text false spelt apart)) this.number;
            bit = this.bit;
            at = get_behind (port_bits taps p) (flat_map (port_bits taps) ps) j ∙ this.at;
            tap = this.tap;
          },
        )

    by_test : (b : Bool) → bytes_eq (upper p.name.text) name.name ≡ b
        → (port_numbers.bit_number (m + declared.width p.range) ps name ≡ Some k → IsFoundFrom (m + declared.width p.range) taps ps x name k) → IsFoundFrom m taps (p ∷ ps) x name k
    by_test true is rest =
        let here : option_map (λ j. m + j) (declared.bit_at p.range name.index) ≡ Some k = rw is at e in
        by_bit (declared.bit_at p.range name.index) refl here is
    by_test false is rest =
        let there : port_numbers.bit_number (m + declared.width p.range) ps name ≡ Some k = rw is at e in
        behind (rest there) is

pub is_found : (taps : List Name) (ps : List Port) (x : List ℕ) (name : PortName) (k : ℕ) → upper x ≡ name.name → port_numbers.bit_number 0 ps name ≡ Some k
    → IsFound x name.index (is_among taps name.name) (flat_map (port_bits taps) ps) k
is_found taps ps x name k spelt e =
    let there = found_from 0 taps ps x name k spelt e in
    let place : there.0 ≡ k = omega (arith, there.1) in
    subst (IsFound x name.index (is_among taps name.name) (flat_map (port_bits taps) ps)) place there.2

-- a name that has a number is that of a port, and so in upper case
pub in_upper : (m : ℕ) (ps : List Port) (name : PortName) (k : ℕ) → port_numbers.bit_number m ps name ≡ Some k → upper name.name ≡ name.name
in_upper m [] name k e = absurd cc
in_upper m (p ∷ ps) name k e = by_test (bytes_eq (upper p.name.text) name.name) refl (λ there. in_upper (m + declared.width p.range) ps name k there)
  where
    by_test : (b : Bool) → bytes_eq (upper p.name.text) name.name ≡ b → (port_numbers.bit_number (m + declared.width p.range) ps name ≡ Some k → upper name.name ≡ name.name) → upper name.name ≡ name.name
    by_test true is rest =
        let same : upper p.name.text ≡ name.name = (bytes_eq-Decides (upper p.name.text) name.name).0 is in
        subst (λ (n : List ℕ). upper n ≡ n) same (upper_upper p.name.text)
    by_test false is rest =
        let there : port_numbers.bit_number (m + declared.width p.range) ps name ≡ Some k = rw is at e in
        rest there

pub pins_find : PinsFindTheBitsOfRows
pins_find taps ps x i k e = (is_found taps ps x (record { name = upper x; index = i }) k refl e).number

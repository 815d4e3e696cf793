-- Numbers of bits by name and index, as they are kept.
use Rattle.std.proofs.Common.{◌≡◌, ℕ, suc, ◌&&◌, Bool, true, false, cond, List, [], ◌∷◌, ◌++◌, map, length, append_assoc, refl, sym, ap, subst, ◌∙◌, arith}
use Rattle.std.specs.Option.{option_or}
use Rattle.std.proofs.Math.Bool.{true≢false}
use Rattle.std.specs.Prelude.{Option, Some, None, option_and_then, option_map, bytes_eq, position, if◌then◌else◌, slice_get, string_bytes}
use Rattle.std.specs.BTreeMap.{BTreeMap, get}
use Rattle.std.specs.List.{range_with_len}
use Rattle.std.specs.Str.{str_eq_ignore_ascii_case, str_to_ascii_lowercase}
use Rattle.std.proofs.lemmas.Bool.Decides.{nat_tests}
use Rattle.std.proofs.lemmas.List.{append-nil}
use Rattle.std.proofs.lemmas.Slice.Eq.{bytes_eq-Decides}
use Rattle.name_keys.specs.Keys.{key_order}
use Rattle.bsdl_device.specs.declared.numbers.Numbers.{Numbers}
use Rattle.bsdl_device.specs.declared.port_bits.Port.{Port}
use Rattle.bsdl_device.specs.declared.port_bits.Indices.{Indices}
use Rattle.bsdl_device.specs.declared.port_bits.BitPlace.{BitPlace}
use Rattle.bsdl_device.specs.Found.{AreFirst, number_at, number_if, number_named}
use Rattle.bsdl_device.specs.Kept.{AreKept}
use Rattle.bsdl_device.specs.Ports.{bit_number, is_bit, same_index}
use Rattle.bsdl_device.specs.View.{bit_of, placed, places}
use Rattle.bsdl_device.proofs.PortLaws.{get_seam, placed_front, position_map, position_more, with_placed}

-- ---- the first of a list with one more behind

position_here : {A : Type 0} (p : A → Bool) (x : A) (xs : List A) → p x ≡ true → position p (x ∷ xs) ≡ Some 0
position_here p x xs passes = rw passes (grind (arith, nat_tests))

later : (o : Option ℕ) (b : Bool) (n : ℕ) → option_map (λ k. suc k) (option_or o (if b then Some n else None)) ≡ option_or (option_map (λ k. suc k) o) (if b then Some (suc n) else None)
later None true n = refl
later None false n = refl
later (Some k) b n = refl

pub position_end : {A : Type 0} (p : A → Bool) (xs : List A) (y : A) → position p (xs ++ y ∷ []) ≡ option_or (position p xs) (if p y then Some (length xs) else None)
position_end p [] y = by_test (p y) refl
  where
    by_test : (b : Bool) → p y ≡ b → position p (y ∷ []) ≡ option_or (position p []) (if p y then Some 0 else None)
    by_test true is = position_here p y [] is ∙ ap (λ h. option_or (position p []) (if h then Some 0 else None)) (sym is)
    by_test false is = position_more p y [] is ∙ ap (λ h. option_or (position p []) (if h then Some 0 else None)) (sym is)
position_end p (x ∷ xs) y = by_test (p x) refl (position_end p xs y)
  where
    by_test : (b : Bool) → p x ≡ b → position p (xs ++ y ∷ []) ≡ option_or (position p xs) (if p y then Some (length xs) else None)
        → position p (x ∷ xs ++ y ∷ []) ≡ option_or (position p (x ∷ xs)) (if p y then Some (suc (length xs)) else None)
    by_test true is rest = position_here p x (xs ++ y ∷ []) is ∙ ap (λ o. option_or o (if p y then Some (suc (length xs)) else None)) (sym (position_here p x xs is))
    by_test false is rest =
        position_more p x (xs ++ y ∷ []) is ∙ ap (option_map (λ k. suc k)) rest ∙ later (position p xs) (p y) (length xs)
        ∙ ap (λ o. option_or o (if p y then Some (suc (length xs)) else None)) (sym (position_more p x xs is))

pub bit_more : (passes : BitPlace → Bool) (bits new : List BitPlace) (b : BitPlace) (before after : Numbers) (n : ℕ) → n ≡ length bits → new ≡ bits ++ b ∷ [] → passes b ≡ true
    → ((i : Option ℕ) → number_at after i ≡ option_or (number_at before i) (number_if i b.index n)) → AreFirst passes before bits → AreFirst passes after new
bit_more passes bits new b before after n len is here step first = λ i.
    step i ∙ ap (λ o. option_or o (number_if i b.index n)) (first i) ∙ ap (λ (k : ℕ). option_or (position (λ x. passes x && same_index i x.index) bits) (number_if i b.index k)) len
    ∙ ap (λ h. option_or (position (λ x. passes x && same_index i x.index) bits) (if h && same_index i b.index then Some (length bits) else None)) (sym here)
    ∙ sym (position_end (λ x. passes x && same_index i x.index) bits b) ∙ ap (position (λ x. passes x && same_index i x.index)) (sym is)

position_same : {A : Type 0} (p q : A → Bool) (xs : List A) → ((x : A) → p x ≡ q x) → position p xs ≡ position q xs
position_same p q [] e = refl
position_same p q (x ∷ xs) e = by_test (p x) refl (position_same p q xs e)
  where
    by_test : (b : Bool) → p x ≡ b → position p xs ≡ position q xs → position p (x ∷ xs) ≡ position q (x ∷ xs)
    by_test true is rest = position_here p x xs is ∙ sym (position_here q x xs (sym (e x) ∙ is))
    by_test false is rest = position_more p x xs is ∙ ap (option_map (λ k. suc k)) rest ∙ sym (position_more q x xs (sym (e x) ∙ is))

or_nothing : (o : Option ℕ) → option_or o None ≡ o
or_nothing None = refl
or_nothing (Some n) = refl

-- one that fails behind
fails_behind : (f : BitPlace → Bool) (bits : List BitPlace) (b : BitPlace) → f b ≡ false → position f (bits ++ b ∷ []) ≡ position f bits
fails_behind f bits b fails =
    position_end f bits b ∙ ap (λ h. option_or (position f bits) (if h then Some (length bits) else None)) fails ∙ or_nothing (position f bits)

indexed_behind : (f : BitPlace → Bool) (port : ℕ) → ((i : Option ℕ) → f (record { port = port; index = i }) ≡ false) → (bits : List BitPlace) (ks : List ℕ)
    → position f (bits ++ map (λ k. record { port = port; index = Some k }) ks) ≡ position f bits
indexed_behind f port fails bits [] = ap (position f) (append-nil bits)
indexed_behind f port fails bits (k ∷ ks) =
    let b : BitPlace = record { port = port; index = Some k } in
    ap (position f) (sym (append_assoc bits (b ∷ []) (map (λ k. record { port = port; index = Some k }) ks)))
    ∙ indexed_behind f port fails (bits ++ b ∷ []) ks ∙ fails_behind f bits b (fails (Some k))

places_behind : (f : BitPlace → Bool) (port : ℕ) → ((i : Option ℕ) → f (record { port = port; index = i }) ≡ false) → (bits : List BitPlace) (i : Option Indices)
    → position f (bits ++ places port i) ≡ position f bits
places_behind f port fails bits None = fails_behind f bits (record { port = port; index = None }) (fails None)
places_behind f port fails bits (Some i) = indexed_behind f port fails bits (range_with_len i.low i.len)

-- ---- a port more

-- whether a bit's port has this name
abbrev is_named : List ℕ → List Port → BitPlace → Bool
is_named q ports b = str_eq_ignore_ascii_case q (placed ports b).name

index_of : (o : Option Port) (i : Option ℕ) → (bit_of o i).index ≡ i
index_of None i = refl
index_of (Some p) i = refl

is_bit_at : (q : List ℕ) (j : Option ℕ) (ports : List Port) (b : BitPlace) → is_bit q j (placed ports b) ≡ is_named q ports b && same_index j b.index
is_bit_at q j ports b = ap (λ i. is_named q ports b && same_index j i) (index_of (slice_get ports b.port) b.index)

number_is : (q : List ℕ) (j : Option ℕ) (ports : List Port) (bits : List BitPlace) → bit_number q j (map (placed ports) bits) ≡ position (λ b. is_named q ports b && same_index j b.index) bits
number_is q j ports bits = position_map (is_bit q j) (placed ports) bits ∙ position_same (λ b. is_bit q j (placed ports b)) (λ b. is_named q ports b && same_index j b.index) bits (is_bit_at q j ports)

named_by : (q : List ℕ) (ports : List Port) (p : Port) (i : Option ℕ) → is_named q (ports ++ p ∷ []) (record { port = length ports; index = i }) ≡ str_eq_ignore_ascii_case q (string_bytes p.name)
named_by q ports p i = ap (λ o. str_eq_ignore_ascii_case q (bit_of o i).name) (get_seam ports p)

pub turned : (a b : List ℕ) (h : Bool) → bytes_eq a b ≡ h → bytes_eq b a ≡ h
turned a b true is = (bytes_eq-Decides b a).1 (sym ((bytes_eq-Decides a b).0 is))
turned a b false is = by_test (bytes_eq b a) refl
  where
    by_test : (h : Bool) → bytes_eq b a ≡ h → bytes_eq b a ≡ false
    by_test false e = e
    by_test true e = absurd (true≢false (sym ((bytes_eq-Decides a b).1 (sym ((bytes_eq-Decides b a).0 e))) ∙ is))

with_found : (ports : List Port) (p : Port) (bits : List BitPlace) (more : Option Indices) (names rest after : BTreeMap (List ℕ) Numbers) (key : List ℕ) (before now : Numbers)
    → AreKept ports bits names
    → key ≡ str_to_ascii_lowercase (string_bytes p.name)
    → ((i : Option ℕ) → number_at before i ≡ option_and_then (λ n. number_at n i) (get key_order names key))
    → ((q : List ℕ) → bytes_eq key q ≡ false → get key_order rest q ≡ get key_order names q)
    → ((q : List ℕ) → get key_order after q ≡ cond (bytes_eq key q) (Some now) (get key_order rest q))
    → ((passes : BitPlace → Bool) → ((i : Option ℕ) → passes (record { port = length ports; index = i }) ≡ true) → AreFirst passes before bits → AreFirst passes now (bits ++ places (length ports) more))
    → AreKept (ports ++ p ∷ []) (bits ++ places (length ports) more) after
with_found ports p bits more names rest after key before now kept key_is taken others put added = record {
  placed = with_placed ports p bits more kept.placed;
  found = λ q j. by_test q j (bytes_eq key (str_to_ascii_lowercase q)) refl;
}
  where
    behind : (q : List ℕ) (j : Option ℕ) → bit_number q j (map (placed ports) bits) ≡ position (λ b. is_named q (ports ++ p ∷ []) b && same_index j b.index) bits
    behind q j = ap (bit_number q j) (sym (placed_front ports p bits kept.placed)) ∙ number_is q j (ports ++ p ∷ []) bits

    same_key : (q : List ℕ) (h : Bool) → bytes_eq key (str_to_ascii_lowercase q) ≡ h → str_eq_ignore_ascii_case q (string_bytes p.name) ≡ h
    same_key q h is = ap (bytes_eq (str_to_ascii_lowercase q)) (sym key_is) ∙ turned key (str_to_ascii_lowercase q) h is

    by_test : (q : List ℕ) (j : Option ℕ) (h : Bool) → bytes_eq key (str_to_ascii_lowercase q) ≡ h
        → number_named after q j ≡ bit_number q j (map (placed (ports ++ p ∷ [])) (bits ++ places (length ports) more))
    by_test q j true is =
        let equal : key ≡ str_to_ascii_lowercase q = (bytes_eq-Decides key (str_to_ascii_lowercase q)).0 is in
        let first : AreFirst (is_named q (ports ++ p ∷ [])) before bits =
        λ i. taken i ∙ ap (λ k. option_and_then (λ n. number_at n i) (get key_order names k)) equal ∙ kept.found q i ∙ behind q i in
        let named : (i : Option ℕ) → is_named q (ports ++ p ∷ []) (record { port = length ports; index = i }) ≡ true = λ i. named_by q ports p i ∙ same_key q true is in
        ap (option_and_then (λ n. number_at n j)) (put (str_to_ascii_lowercase q) ∙ ap (λ h. cond h (Some now) (get key_order rest (str_to_ascii_lowercase q))) is)
        ∙ added (is_named q (ports ++ p ∷ [])) named first j ∙ sym (number_is q j (ports ++ p ∷ []) (bits ++ places (length ports) more))
    by_test q j false is =
        let fails : (i : Option ℕ) → is_named q (ports ++ p ∷ []) (record { port = length ports; index = i }) && same_index j i ≡ false =
        λ i. ap (λ h. h && same_index j i) (named_by q ports p i ∙ same_key q false is) in
        ap (option_and_then (λ n. number_at n j)) (put (str_to_ascii_lowercase q) ∙ ap (λ h. cond h (Some now) (get key_order rest (str_to_ascii_lowercase q))) is ∙ others (str_to_ascii_lowercase q) is)
        ∙ kept.found q j ∙ behind q j ∙ sym (places_behind (λ b. is_named q (ports ++ p ∷ []) b && same_index j b.index) (length ports) fails bits more)
        ∙ sym (number_is q j (ports ++ p ∷ []) (bits ++ places (length ports) more))

-- what is said of the numbers of a name, with this place's bits
abbrev Added : List BitPlace → Numbers → Numbers → ℕ → List BitPlace → Type 0
Added bits before now n bs = (passes : BitPlace → Bool) → ((i : Option ℕ) → passes (record { port = n; index = i }) ≡ true) → AreFirst passes before bits → AreFirst passes now bs

-- the same of lists that are equal to these
pub with_kept : (ports with_it : List Port) (p : Port) (bits with_its : List BitPlace) (more : Option Indices) (names rest after : BTreeMap (List ℕ) Numbers) (key : List ℕ) (before now : Numbers) (place : ℕ)
    → AreKept ports bits names
    → key ≡ str_to_ascii_lowercase (string_bytes p.name)
    → ((i : Option ℕ) → number_at before i ≡ option_and_then (λ n. number_at n i) (get key_order names key))
    → ((q : List ℕ) → bytes_eq key q ≡ false → get key_order rest q ≡ get key_order names q)
    → ((q : List ℕ) → get key_order after q ≡ cond (bytes_eq key q) (Some now) (get key_order rest q))
    → ((passes : BitPlace → Bool) → ((i : Option ℕ) → passes (record { port = place; index = i }) ≡ true) → AreFirst passes before bits → AreFirst passes now with_its)
    → place ≡ length ports → with_it ≡ ports ++ p ∷ [] → with_its ≡ bits ++ places place more
    → AreKept with_it with_its after
with_kept ports with_it p bits with_its more names rest after key before now place kept key_is taken others put added place_is ports_are bits_are =
    subst (λ ps. AreKept ps with_its after) (sym ports_are) (by_bits added)
  where
    by_place : Added bits before now place (bits ++ places place more) → AreKept (ports ++ p ∷ []) (bits ++ places place more) after
    by_place = subst (λ n. Added bits before now n (bits ++ places n more) → AreKept (ports ++ p ∷ []) (bits ++ places n more) after) (sym place_is)
        (with_found ports p bits more names rest after key before now kept key_is taken others put)

    by_bits : Added bits before now place with_its → AreKept (ports ++ p ∷ []) with_its after
    by_bits = subst (λ bs. Added bits before now place bs → AreKept (ports ++ p ∷ []) bs after) (sym bits_are) by_place

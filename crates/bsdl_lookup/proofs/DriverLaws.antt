-- The lowest cells that drive port bits, one more.
use Rattle.std.proofs.Common.{suc, ◌≡◌, ◌≤◌, ℕ, Bool, true, false, nat_eq, nat_lt, min, ◌&&◌, ◌||◌, cond, List, refl, sym, ap, ◌∙◌, inl, inr, arith}
use Rattle.std.specs.Prelude.{Option, Some, bytes_eq, option_and_then}
use Rattle.std.specs.Ordering.{is_eq, nat_cmp, ordering_then}
use Rattle.std.specs.Cmp.Lexicographic.{slice_cmp}
use Rattle.std.specs.Str.Parse.{digits_value}
use Rattle.std.proofs.lemmas.Bool.{cases_order}
use Rattle.std.proofs.lemmas.Bool.Decides.{nat_tests}
use Rattle.std.proofs.lemmas.Map.Text.{is_eq-slice_cmp}
use Rattle.std.proofs.lemmas.Slice.Eq.{bytes_eq-Decides}
use Rattle.jt_limits.specs.Limits.{subscript_limit}
use Rattle.bsdl_text.proofs.SpellingLaws.{one_spelling}
use Rattle.bsdl_values.specs.CellRows.{CellRow, PortName}
use Rattle.bsdl_entity.specs.Ports.{Port}
use Rattle.bsdl_lookup.specs.declared.port_index.PortIndex.{PortIndex}
use Rattle.bsdl_lookup.specs.Drivers.{drives_below, is_below, same_bit}
use Rattle.bsdl_device.specs.Driving.{drives}
use Rattle.bsdl_lookup.specs.NamedPorts.{same_port_index, port_index_of}
use Rattle.bsdl_lookup.specs.View.{port_index}

pub same_key : (p q : ℕ) (xs ys : List ℕ) → is_eq (ordering_then (nat_cmp p q) (slice_cmp nat_cmp xs ys)) ≡ (nat_eq p q && bytes_eq xs ys)
same_key p q xs ys =
    elim (cases_order p q) [
      | inl same ↦ grind (arith, nat_tests, is_eq-slice_cmp xs ys)
      | inr apart ↦ elim apart [ inl below ↦ grind (arith, nat_tests) | inr above ↦ grind (arith, nat_tests) ]
    ]

or_false : (b : Bool) → (b || false) ≡ b
or_false true = refl
or_false false = refl

and_false : (b : Bool) → (b && false) ≡ false
and_false true = refl
and_false false = refl

both : (a b : Bool) → (a && b) ≡ true → (a ≡ true) × (b ≡ true)
both true b h = (refl, h)
both false b h = absurd cc

pub driver_put : (old : ℕ → List ℕ → Option ℕ) (p q : ℕ) (xs ys : List ℕ) (lowest number n : ℕ) → ((m : ℕ) → nat_lt lowest m ≡ (is_below (old p xs) m || nat_lt number m))
    → is_below (cond (nat_eq p q && bytes_eq xs ys) (Some lowest) (old q ys)) n ≡ (is_below (old q ys) n || ((nat_eq p q && bytes_eq xs ys) && nat_lt number n))
driver_put old p q xs ys lowest number n least = by_test (nat_eq p q && bytes_eq xs ys) refl
  where
    by_test : (b : Bool) → (nat_eq p q && bytes_eq xs ys) ≡ b
        → is_below (cond (nat_eq p q && bytes_eq xs ys) (Some lowest) (old q ys)) n ≡ (is_below (old q ys) n || ((nat_eq p q && bytes_eq xs ys) && nat_lt number n))
    by_test true is =
        let parts = both (nat_eq p q) (bytes_eq xs ys) is in
        let port : p ≡ q = grind (arith, nat_tests, parts.0) in
        let index : xs ≡ ys = (bytes_eq-Decides xs ys).0 parts.1 in
        rw is (least n ∙ ap (λ (k : ℕ). is_below (old k xs) n || nat_lt number n) port ∙ ap (λ (ds : List ℕ). is_below (old q ds) n || nat_lt number n) index)
    by_test false is = rw is (sym (or_false (is_below (old q ys) n)))

-- ---- port bits by their digits

pub port_indices_same : (a b : PortIndex) → same_bit a b ≡ same_port_index (Some (port_index a)) (Some (port_index b))
port_indices_same a b = ap (λ t. nat_eq a.port b.port && t) by_index
  where
    xs : List ℕ
    xs = a.index.digits.now

    ys : List ℕ
    ys = b.index.digits.now

    by_value : (t : Bool) → nat_eq (digits_value 10 xs) (digits_value 10 ys) ≡ t → bytes_eq xs ys ≡ t
    by_value true is =
        let same : digits_value 10 xs ≡ digits_value 10 ys = grind (arith, nat_tests) in
        let digits : xs ≡ ys = sym a.starts ∙ one_spelling xs ys a.index.all b.index.all same ∙ b.starts in
        (bytes_eq-Decides xs ys).1 digits
    by_value false is = by_bytes (bytes_eq xs ys) refl
      where
        by_bytes : (t : Bool) → bytes_eq xs ys ≡ t → bytes_eq xs ys ≡ false
        by_bytes false e = e
        by_bytes true e =
            let value : digits_value 10 xs ≡ digits_value 10 ys = ap (λ ds. digits_value 10 ds) ((bytes_eq-Decides xs ys).0 e) in
            absurd (grind (arith, nat_tests))

    by_index : bytes_eq xs ys ≡ nat_eq (digits_value 10 xs) (digits_value 10 ys)
    by_index = by_value (nat_eq (digits_value 10 xs) (digits_value 10 ys)) refl

capped_lt : (v n : ℕ) → n ≤ suc subscript_limit → nat_lt (min v (suc subscript_limit)) n ≡ nat_lt v n
capped_lt v n few = grind (arith, nat_tests)

pub row_drives : (ps : List Port) (a s : PortIndex) (n : ℕ) (r : CellRow) (name : PortName) → n ≤ suc subscript_limit → r.port ≡ Some name → drives r.function ≡ true → Some (port_index a) ≡ port_index_of ps name
    → (same_bit a s && nat_lt (min r.number (suc subscript_limit)) n) ≡ drives_below ps s n r
row_drives ps a s n r name few port driving at =
    let here : option_and_then (port_index_of ps) r.port ≡ Some (port_index a) = ap (option_and_then (port_index_of ps)) port ∙ sym at in
    rw (port_indices_same a s, capped_lt r.number n few, driving, here) (swapped (same_port_index (Some (port_index a)) (Some (port_index s))) (nat_lt r.number n))
  where
    swapped : (x y : Bool) → (x && y) ≡ (y && x)
    swapped true true = refl
    swapped true false = refl
    swapped false true = refl
    swapped false false = refl

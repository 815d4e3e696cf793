-- Port bits by number, and by port and index.
use Rattle.std.proofs.Common.{◌≡◌, ◌<◌, ◌≤◌, ℕ, suc, ◌+◌, ◌-◌, Bool, true, false, nat_eq, nat_lt, ◌&&◌, ◌||◌, List, [], ◌∷◌, refl, sym, ap, ◌∙◌, arith}
use Rattle.std.specs.Prelude.{Option, Some, None, is_some, not, option_map, option_and_then, unwrap_or, bytes_eq, nat_le}
use Rattle.std.specs.List.{list_any}
use Rattle.std.proofs.lemmas.Bool.Decides.{nat_tests}
use Rattle.bsdl_text.specs.Words.{upper}
use Rattle.bsdl_values.specs.CellRows.{CellRow, PortName}
use Rattle.bsdl_entity.specs.Ports.{Port, Range}
use Rattle.bsdl_entity.specs.PortBits.{bit_at, width}
use Rattle.bsdl_lookup.specs.PortNumbers.{bit_number}
use Rattle.bsdl_description.specs.Describing.{Description}
use Rattle.bsdl_text.specs.Words.{is_among}
use Rattle.bsdl_lookup.specs.declared.port_index.PortIndex.{PortIndex}
use Rattle.bsdl_lookup.specs.Drivers.{drives_below}
use Rattle.bsdl_device.specs.Driving.{drives}
use Rattle.bsdl_rules.specs.Fits.{is_driven_below, has_no_port, names_tap, port_bit, port_fits, same_bit}
use Rattle.bsdl_lookup.specs.NamedPorts.{find_port, same_port_index, port_index_at, port_index_of}
use Rattle.bsdl_lookup.specs.View.{port_index}
use Rattle.bsdl_lookup.proofs.NamedPortLaws.{some_mapped}

abbrev port_index_from : ℕ → List Port → PortName → Option (ℕ × ℕ)
port_index_from n ps name = option_and_then (port_index_at name.index) (find_port n ps name.name)

nat_itself : (n : ℕ) → nat_eq n n ≡ true
nat_itself n = grind (arith, nat_tests)

is_there : (m n : ℕ) (ps : List Port) (name : PortName) → is_some (bit_number m ps name) ≡ is_some (port_index_from n ps name)
is_there m n [] name = refl
is_there m n (p ∷ ps) name = by_test (bytes_eq (upper p.name.text) name.name) refl (is_there (m + width p.range) (suc n) ps name)
  where
    by_test : (b : Bool) → bytes_eq (upper p.name.text) name.name ≡ b → is_some (bit_number (m + width p.range) ps name) ≡ is_some (port_index_from (suc n) ps name)
        → is_some (bit_number m (p ∷ ps) name) ≡ is_some (port_index_from n (p ∷ ps) name)
    by_test true is rest =
        rw is (some_mapped (λ (k : ℕ). m + k) (bit_at p.range name.index) ∙ sym (some_mapped {B = ℕ × ℕ} (λ (k : ℕ). (n, unwrap_or name.index 0)) (bit_at p.range name.index)))
    by_test false is rest = rw is rest

-- ---- one port

none_same : (o : Option ℕ) → same_bit o None ≡ false
none_same None = refl
none_same (Some x) = refl

none_port_index : (o : Option (ℕ × ℕ)) → same_port_index o None ≡ false
none_port_index None = refl
none_port_index (Some x) = refl

in_range : (r : Range) (i j m n : ℕ) → same_bit (option_map (λ k. m + k) (bit_at (Some r) (Some i))) (option_map (λ k. m + k) (bit_at (Some r) (Some j)))
    ≡ same_port_index (port_index_at (Some i) (n, Some r)) (port_index_at (Some j) (n, Some r))
in_range r i j m n = by_tests (nat_le r.low i && nat_le i r.high) refl (nat_le r.low j && nat_le j r.high) refl
  where
    low : (i : ℕ) → (nat_le r.low i && nat_le i r.high) ≡ true → r.low ≤ i
    low i h = grind (arith, nat_tests)

    by_tests : (b : Bool) → (nat_le r.low i && nat_le i r.high) ≡ b → (c : Bool) → (nat_le r.low j && nat_le j r.high) ≡ c
        → same_bit (option_map (λ k. m + k) (bit_at (Some r) (Some i))) (option_map (λ k. m + k) (bit_at (Some r) (Some j))) ≡ same_port_index (port_index_at (Some i) (n, Some r)) (port_index_at (Some j) (n, Some r))
    by_tests false e c f = rw e refl
    by_tests true e false f = rw (e, f) refl
    by_tests true e true f =
        let one = low i e in
        let two = low j f in
        rw (e, f, nat_itself n) (same_offset i j r.low m one two)
      where
        same_offset : (i j l m : ℕ) → l ≤ i → l ≤ j → nat_eq (m + (i - l)) (m + (j - l)) ≡ nat_eq i j
        same_offset i j l m one two = grind (arith, nat_tests)

on_port : (r : Option Range) (a b : Option ℕ) (m n : ℕ) → same_bit (option_map (λ k. m + k) (bit_at r a)) (option_map (λ k. m + k) (bit_at r b)) ≡ same_port_index (port_index_at a (n, r)) (port_index_at b (n, r))
on_port None None None m n = rw (nat_itself (m + 0), nat_itself n) refl
on_port None None (Some j) m n = refl
on_port None (Some i) b m n = refl
on_port (Some r) None b m n = refl
on_port (Some r) (Some i) None m n = none_same (option_map (λ k. m + k) (bit_at (Some r) (Some i))) ∙ sym (none_port_index (port_index_at (Some i) (n, Some r)))
on_port (Some r) (Some i) (Some j) m n = in_range r i j m n

-- ---- two ports

within : (r : Option Range) (a : Option ℕ) (k : ℕ) → bit_at r a ≡ Some k → k < width r
within None None k e =
    let zero_is : 0 ≡ k = cc in
    omega arith
within None (Some i) k e = absurd cc
within (Some r) None k e = absurd cc
within (Some r) (Some i) k e = by_test (nat_le r.low i && nat_le i r.high) refl
  where
    by_test : (b : Bool) → (nat_le r.low i && nat_le i r.high) ≡ b → k < width (Some r)
    by_test true is =
        let here : Some (i - r.low) ≡ Some k = rw is at e in
        let same : i - r.low ≡ k = cc in
        grind (arith, nat_tests)
    by_test false is =
        let none : None ≡ Some k = rw is at e in
        absurd cc

numbered_from : (m : ℕ) (ps : List Port) (name : PortName) (x : ℕ) → bit_number m ps name ≡ Some x → m ≤ x
numbered_from m [] name x e = absurd cc
numbered_from m (p ∷ ps) name x e = by_test (bytes_eq (upper p.name.text) name.name) refl (λ f. numbered_from (m + width p.range) ps name x f)
  where
    by_bit : (o : Option ℕ) → option_map (λ k. m + k) o ≡ Some x → m ≤ x
    by_bit None f = absurd cc
    by_bit (Some k) f =
        let same : m + k ≡ x = cc in
        omega arith

    by_test : (b : Bool) → bytes_eq (upper p.name.text) name.name ≡ b → (bit_number (m + width p.range) ps name ≡ Some x → m + width p.range ≤ x) → m ≤ x
    by_test true is rest =
        let here : option_map (λ k. m + k) (bit_at p.range name.index) ≡ Some x = rw is at e in
        by_bit (bit_at p.range name.index) here
    by_test false is rest =
        let there : bit_number (m + width p.range) ps name ≡ Some x = rw is at e in
        let far = rest there in
        omega arith

found_from : (n : ℕ) (ps : List Port) (q : List ℕ) (x : ℕ × Option Range) → find_port n ps q ≡ Some x → n ≤ x.0
found_from n [] q x e = absurd cc
found_from n (p ∷ ps) q x e = by_test (bytes_eq (upper p.name.text) q) refl (λ f. found_from (suc n) ps q x f)
  where
    by_test : (b : Bool) → bytes_eq (upper p.name.text) q ≡ b → (find_port (suc n) ps q ≡ Some x → suc n ≤ x.0) → n ≤ x.0
    by_test true is rest =
        let here : Some (n, p.range) ≡ Some x = rw is at e in
        let same : (n, p.range) ≡ x = cc in
        let number : n ≡ x.0 = ap (λ y. y.0) same in
        omega arith
    by_test false is rest =
        let there : find_port (suc n) ps q ≡ Some x = rw is at e in
        let far = rest there in
        omega arith

apart_bits : (m w : ℕ) (o : Option ℕ) (x : Option ℕ) → ((k : ℕ) → o ≡ Some k → k < w) → ((y : ℕ) → x ≡ Some y → m + w ≤ y) → same_bit (option_map (λ k. m + k) o) x ≡ false
apart_bits m w None x low high = refl
apart_bits m w (Some k) None low high = refl
apart_bits m w (Some k) (Some y) low high =
    let below = low k refl in
    let above = high y refl in
    grind (arith, nat_tests)

flip_bits : (a b : Option ℕ) → same_bit a b ≡ same_bit b a
flip_bits None None = refl
flip_bits None (Some y) = refl
flip_bits (Some x) None = refl
flip_bits (Some x) (Some y) = grind (arith, nat_tests)

flip_port_indices : (a b : Option (ℕ × ℕ)) → same_port_index a b ≡ same_port_index b a
flip_port_indices None None = refl
flip_port_indices None (Some y) = refl
flip_port_indices (Some x) None = refl
flip_port_indices (Some x) (Some y) =
    let one : nat_eq x.0 y.0 ≡ nat_eq y.0 x.0 = grind (arith, nat_tests) in
    let two : nat_eq x.1 y.1 ≡ nat_eq y.1 x.1 = grind (arith, nat_tests) in
    rw (one, two) refl

apart_port_indices : (n : ℕ) (a : Option ℕ) (r : Option Range) (b : Option ℕ) (o : Option (ℕ × Option Range)) → ((x : ℕ × Option Range) → o ≡ Some x → suc n ≤ x.0)
    → same_port_index (port_index_at a (n, r)) (option_and_then (port_index_at b) o) ≡ false
apart_port_indices n a r b None high = none_port_index (port_index_at a (n, r))
apart_port_indices n a r b (Some x) high = by_bits (bit_at r a) (bit_at x.1 b)
  where
    by_bits : (one two : Option ℕ) → same_port_index (option_map (λ k. (n, unwrap_or a 0)) one) (option_map (λ k. (x.0, unwrap_or b 0)) two) ≡ false
    by_bits None two = refl
    by_bits (Some k) None = refl
    by_bits (Some k) (Some l) =
        let above = high x refl in
        let apart : nat_eq n x.0 ≡ false = grind (arith, nat_tests) in
        rw apart refl

same_bits : (m n : ℕ) (ps : List Port) (a b : PortName) → same_bit (bit_number m ps a) (bit_number m ps b) ≡ same_port_index (port_index_from n ps a) (port_index_from n ps b)
same_bits m n [] a b = refl
same_bits m n (p ∷ ps) a b = by_tests (bytes_eq (upper p.name.text) a.name) refl (bytes_eq (upper p.name.text) b.name) refl (same_bits (m + width p.range) (suc n) ps a b)
  where
    later : (x y : PortName) → same_bit (option_map (λ k. m + k) (bit_at p.range x.index)) (bit_number (m + width p.range) ps y) ≡ same_port_index (port_index_at x.index (n, p.range)) (port_index_from (suc n) ps y)
    later x y =
        apart_bits m (width p.range) (bit_at p.range x.index) (bit_number (m + width p.range) ps y) (λ k. within p.range x.index k) (λ z. numbered_from (m + width p.range) ps y z)
        ∙ sym (apart_port_indices n x.index p.range y.index (find_port (suc n) ps y.name) (λ z. found_from (suc n) ps y.name z))

    by_tests : (s : Bool) → bytes_eq (upper p.name.text) a.name ≡ s → (t : Bool) → bytes_eq (upper p.name.text) b.name ≡ t
        → same_bit (bit_number (m + width p.range) ps a) (bit_number (m + width p.range) ps b) ≡ same_port_index (port_index_from (suc n) ps a) (port_index_from (suc n) ps b)
        → same_bit (bit_number m (p ∷ ps) a) (bit_number m (p ∷ ps) b) ≡ same_port_index (port_index_from n (p ∷ ps) a) (port_index_from n (p ∷ ps) b)
    by_tests true e true f rest = rw (e, f) (on_port p.range a.index b.index m n)
    by_tests true e false f rest = rw (e, f) (later a b)
    by_tests false e true f rest =
        rw (e, f) (flip_bits (bit_number (m + width p.range) ps a) (option_map (λ k. m + k) (bit_at p.range b.index)) ∙ later b a
        ∙ flip_port_indices (port_index_at b.index (n, p.range)) (port_index_from (suc n) ps a))
    by_tests false e false f rest = rw (e, f) rest

-- ---- what a row's port fits

pub declared : (ps : List Port) (name : PortName) → is_some (bit_number 0 ps name) ≡ is_some (port_index_of ps name)
declared ps name = is_there 0 0 ps name

row_below : (d : Description) (r s : CellRow) (a : PortIndex) (name : PortName) → r.port ≡ Some name → Some (port_index a) ≡ port_index_of d.ports name
    → (nat_lt s.number r.number && (drives s.function && same_bit (port_bit d s) (port_bit d r))) ≡ drives_below d.ports a r.number s
row_below d r s a name port at = ap (λ b. nat_lt s.number r.number && (drives s.function && b)) (by_port s.port refl)
  where
    here : port_bit d r ≡ bit_number 0 d.ports name
    here = ap (option_and_then (bit_number 0 d.ports)) port

    by_port : (o : Option PortName) → s.port ≡ o → same_bit (port_bit d s) (port_bit d r) ≡ same_port_index (option_and_then (port_index_of d.ports) s.port) (Some (port_index a))
    by_port None e = rw e refl
    by_port (Some other) e =
        let there : port_bit d s ≡ bit_number 0 d.ports other = ap (option_and_then (bit_number 0 d.ports)) e in
        rw (here, there, e, at) (same_bits 0 0 d.ports other name)

pub driven : (d : Description) (r : CellRow) (a : PortIndex) (name : PortName) → r.port ≡ Some name → Some (port_index a) ≡ port_index_of d.ports name → is_driven_below d r ≡ list_any (drives_below d.ports a r.number) d.cells
driven d r a name port at = along d.cells
  where
    along : (rows : List CellRow) → list_any (λ s. nat_lt s.number r.number && (drives s.function && same_bit (port_bit d s) (port_bit d r))) rows ≡ list_any (drives_below d.ports a r.number) rows
    along [] = refl
    along (s ∷ rows) = rw (row_below d r s a name port at) (ap (λ b. drives_below d.ports a r.number s || b) (along rows))

pub fits_at : (d : Description) (r : CellRow) (a : PortIndex) (name : PortName) (found : Bool) → has_no_port r.function ≡ false → r.port ≡ Some name → Some (port_index a) ≡ port_index_of d.ports name
    → found ≡ (not (is_among d.taps name.name) && not (drives r.function && list_any (drives_below d.ports a r.number) d.cells)) → found ≡ port_fits d r
fits_at d r a name found outer port at is =
    let bit : is_some (port_bit d r) ≡ true = ap (λ o. is_some (option_and_then (bit_number 0 d.ports) o)) port ∙ declared d.ports name ∙ ap is_some (sym at) in
    let tap : names_tap d r.port ≡ is_among d.taps name.name = ap (names_tap d) port in
    is ∙ sym (rw (outer, bit, tap, driven d r a name port at) refl)

pub fits_nowhere : (d : Description) (r : CellRow) (name : PortName) → has_no_port r.function ≡ false → r.port ≡ Some name → None ≡ port_index_of d.ports name → false ≡ port_fits d r
fits_nowhere d r name outer port at =
    let bit : is_some (port_bit d r) ≡ false = ap (λ o. is_some (option_and_then (bit_number 0 d.ports) o)) port ∙ declared d.ports name ∙ ap is_some (sym at) in
    sym (rw (outer, bit) refl)

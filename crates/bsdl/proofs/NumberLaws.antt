-- Port bits by the first bits of ports.
use Rattle.std.proofs.Common.{◌≡◌, ◌≤◌, ℕ, suc, ◌+◌, ◌-◌, Bool, true, false, List, [], ◌∷◌, refl, sym, ap, ◌∙◌, arith}
use Rattle.std.specs.Prelude.{Option, Some, None, option_map, option_and_then, unwrap_or, slice_get, bytes_eq}
use Rattle.bsdl_text.specs.Words.{upper}
use Rattle.bsdl_values.specs.CellRows.{PortName}
use Rattle.bsdl_entity.specs.Ports.{Port, Range}
use Rattle.bsdl_entity.specs.PortBits.{bit_at, width}
use Rattle.bsdl_lookup.specs.PortNumbers.{bit_number}
use Rattle.bsdl_lookup.specs.NamedPorts.{find_port}
use Rattle.bsdl.specs.Bits.{firsts}

-- the port of a name and its first bit
abbrev bit_from : Option ℕ → List ℕ → ℕ → ℕ × Option Range → Option ℕ
bit_from index bits n x = option_map (λ k. unwrap_or (slice_get bits (x.0 - n)) 0 + k) (bit_at x.1 index)

found_from : (n : ℕ) (ps : List Port) (q : List ℕ) (x : ℕ × Option Range) → find_port n ps q ≡ Some x → n ≤ x.0
found_from n [] q x e = absurd cc
found_from n (p ∷ ps) q x e = by_test (bytes_eq (upper p.name.text) q) refl (λ f. found_from (suc n) ps q x f)
  where
    by_test : (b : Bool) → bytes_eq (upper p.name.text) q ≡ b → (find_port (suc n) ps q ≡ Some x → suc n ≤ x.0) → n ≤ x.0
    by_test true is rest =
        let here : Some (n, p.range) ≡ Some x = rw is at e in
        let same : (n, p.range) ≡ x = cc in
        let number : n ≡ x.0 = ap (λ y. y.0) same in
        omega arith
    by_test false is rest =
        let there : find_port (suc n) ps q ≡ Some x = rw is at e in
        let far = rest there in
        omega arith

later : (m n : ℕ) (bits : List ℕ) (index : Option ℕ) (o : Option (ℕ × Option Range)) → ((x : ℕ × Option Range) → o ≡ Some x → suc n ≤ x.0)
    → option_and_then (bit_from index bits (suc n)) o ≡ option_and_then (bit_from index (m ∷ bits) n) o
later m n bits index None high = refl
later m n bits index (Some x) high =
    let above : suc n ≤ x.0 = high x refl in
    let place : x.0 - n ≡ suc (x.0 - suc n) = omega arith in
    ap (λ (j : ℕ). option_map (λ k. unwrap_or (slice_get (m ∷ bits) j) 0 + k) (bit_at x.1 index)) (sym place)

at_first : (n m : ℕ) (bits : List ℕ) (r : Option Range) (index : Option ℕ) → option_map (λ k. m + k) (bit_at r index) ≡ bit_from index (m ∷ bits) n (n, r)
at_first n m bits r index =
    let zero_is : n - n ≡ 0 = omega arith in
    ap (λ (j : ℕ). option_map (λ k. unwrap_or (slice_get (m ∷ bits) j) 0 + k) (bit_at r index)) (sym zero_is)

numbered : (m n : ℕ) (ps : List Port) (name : PortName) → bit_number m ps name ≡ option_and_then (bit_from name.index (firsts m ps) n) (find_port n ps name.name)
numbered m n [] name = refl
numbered m n (p ∷ ps) name = by_test (bytes_eq (upper p.name.text) name.name) refl (numbered (m + width p.range) (suc n) ps name)
  where
    by_test : (b : Bool) → bytes_eq (upper p.name.text) name.name ≡ b
        → bit_number (m + width p.range) ps name ≡ option_and_then (bit_from name.index (firsts (m + width p.range) ps) (suc n)) (find_port (suc n) ps name.name)
        → bit_number m (p ∷ ps) name ≡ option_and_then (bit_from name.index (firsts m (p ∷ ps)) n) (find_port n (p ∷ ps) name.name)
    by_test true is rest = rw is (at_first n m (firsts (m + width p.range) ps) p.range name.index)
    by_test false is rest = rw is (rest ∙ later m n (firsts (m + width p.range) ps) name.index (find_port (suc n) ps name.name) (λ x. found_from (suc n) ps name.name x))

pub bit_by : (ps : List Port) (name : PortName)
    → bit_number 0 ps name ≡ option_and_then (λ x. option_map (λ k. unwrap_or (slice_get (firsts 0 ps) x.0) 0 + k) (bit_at x.1 name.index)) (find_port 0 ps name.name)
bit_by ps name = numbered 0 0 ps name ∙ same (find_port 0 ps name.name)
  where
    same : (o : Option (ℕ × Option Range)) → option_and_then (bit_from name.index (firsts 0 ps) 0) o ≡ option_and_then (λ x. option_map (λ k. unwrap_or (slice_get (firsts 0 ps) x.0) 0 + k) (bit_at x.1 name.index)) o
    same None = refl
    same (Some x) =
        let all : x.0 - 0 ≡ x.0 = omega arith in
        ap (λ (j : ℕ). option_map (λ k. unwrap_or (slice_get (firsts 0 ps) j) 0 + k) (bit_at x.1 name.index)) all

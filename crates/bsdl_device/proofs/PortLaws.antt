-- Bits of ports as they are kept, and places in lists.
use Rattle.std.proofs.Common.{◌≡◌, ℕ, zero, suc, ◌+◌, ◌<◌, ◌≤◌, Bool, false, cond, List, [], ◌∷◌, ◌++◌, map, length, length-append, append_assoc, refl, ap, ◌∙◌, arith, ◌-◌}
use Rattle.std.specs.Prelude.{Option, Some, None, slice_get, string_bytes, not, position, option_map}
use Rattle.std.specs.List.{list_any, prefix_len, AllByRecursion, range_with_len}
use Rattle.std.proofs.lemmas.List.{length-map}
use Rattle.std.proofs.lemmas.Bool.Decides.{nat_tests}
use Rattle.std.proofs.lemmas.List.FromFn.{map-range_with_len_more}
use Rattle.bsdl_device.specs.declared.port_bits.Port.{Port}
use Rattle.bsdl_device.specs.declared.port_bits.Indices.{Indices}
use Rattle.bsdl_device.specs.declared.port_bits.BitPlace.{BitPlace}
use Rattle.bsdl_device.specs.Ports.{bits_of}
use Rattle.bsdl_device.specs.View.{bit_of, placed, IsPlaced, pair, places}

-- ---- a port more

get_front : {A : Type 0} (xs ys : List A) (i : ℕ) → i < length xs → slice_get (xs ++ ys) i ≡ slice_get xs i
get_front [] ys i h = absurd (omega arith)
get_front (x ∷ xs) ys zero h = refl
get_front (x ∷ xs) ys (suc i) h = get_front xs ys i (omega arith)

pub get_seam : {A : Type 0} (xs : List A) (y : A) → slice_get (xs ++ y ∷ []) (length xs) ≡ Some y
get_seam [] y = refl
get_seam (x ∷ xs) y = get_seam xs y

-- bits of the ports so far stay
pub placed_front : (ports : List Port) (p : Port) (bits : List BitPlace) → AllByRecursion (IsPlaced ports) bits → map (placed (ports ++ p ∷ [])) bits ≡ map (placed ports) bits
placed_front ports p [] all = refl
placed_front ports p (b ∷ bits) all =
    rw (get_front ports (p ∷ []) b.port all.0, placed_front ports p bits all.1) refl

in_front : (ports : List Port) (p : Port) (bits : List BitPlace) → AllByRecursion (IsPlaced ports) bits → AllByRecursion (IsPlaced (ports ++ p ∷ [])) bits
in_front ports p [] all = tt
in_front ports p (b ∷ bits) all =
    let here : b.port < length (ports ++ p ∷ []) = simp length-append (omega (arith, all.0)) in
    (here, in_front ports p bits all.1)

both : (P : BitPlace → Type 0) (xs ys : List BitPlace) → AllByRecursion P xs → AllByRecursion P ys → AllByRecursion P (xs ++ ys)
both P [] ys all more = more
both P (x ∷ xs) ys all more = (all.0, both P xs ys all.1 more)

-- the new port's bits
indexed_bits : (ports : List Port) (p : Port) (ks : List ℕ) → map (placed (ports ++ p ∷ [])) (map (λ k. record { port = length ports; index = Some k }) ks) ≡ map (λ k. bit_of (Some p) (Some k)) ks
indexed_bits ports p [] = refl
indexed_bits ports p (k ∷ ks) = rw (get_seam ports p, indexed_bits ports p ks) refl

new_bits : (ports : List Port) (p : Port) (i : Option Indices) → map (placed (ports ++ p ∷ [])) (places (length ports) i) ≡ bits_of (string_bytes p.name) p.mode p.is_tap (option_map pair i)
new_bits ports p None = rw (get_seam ports p) refl
new_bits ports p (Some i) = indexed_bits ports p (range_with_len i.low i.len)

indexed_placed : (ports : List Port) (p : Port) (ks : List ℕ) → AllByRecursion (IsPlaced (ports ++ p ∷ [])) (map (λ k. record { port = length ports; index = Some k }) ks)
indexed_placed ports p [] = tt
indexed_placed ports p (k ∷ ks) = (simp length-append (omega arith), indexed_placed ports p ks)

new_placed : (ports : List Port) (p : Port) (i : Option Indices) → AllByRecursion (IsPlaced (ports ++ p ∷ [])) (places (length ports) i)
new_placed ports p None = (simp length-append (omega arith), tt)
new_placed ports p (Some i) = indexed_placed ports p (range_with_len i.low i.len)

pub map_both : {A B : Type 0} (f : A → B) (xs ys : List A) → map f (xs ++ ys) ≡ map f xs ++ map f ys
map_both f [] ys = refl
map_both f (x ∷ xs) ys = ap (λ zs. f x ∷ zs) (map_both f xs ys)

-- all bits with the new port's behind them
pub with_port : (ports : List Port) (p : Port) (bits : List BitPlace) (i : Option Indices) → AllByRecursion (IsPlaced ports) bits
    → map (placed (ports ++ p ∷ [])) (bits ++ places (length ports) i) ≡ map (placed ports) bits ++ bits_of (string_bytes p.name) p.mode p.is_tap (option_map pair i)
with_port ports p bits i all =
    rw (map_both (placed (ports ++ p ∷ [])) bits (places (length ports) i), placed_front ports p bits all, new_bits ports p i) refl

pub with_placed : (ports : List Port) (p : Port) (bits : List BitPlace) (i : Option Indices) → AllByRecursion (IsPlaced ports) bits
    → AllByRecursion (IsPlaced (ports ++ p ∷ [])) (bits ++ places (length ports) i)
with_placed ports p bits i all = both (IsPlaced (ports ++ p ∷ [])) bits (places (length ports) i) (in_front ports p bits all) (new_placed ports p i)

-- ---- the places of a port with an index more

places_more : (port low index : ℕ) → low ≤ index → places port (Some (record { low = low; len = index + 1 - low })) ≡ places port (Some (record { low = low; len = index - low })) ++ record { port = port; index = Some index } ∷ []
places_more port low index h =
    let count : index + 1 - low ≡ index - low + 1 = omega arith in
    rw count (map-range_with_len_more (λ k. record { port = port; index = Some k }) low (index - low) index (omega arith))

pub place_pushed : (old new start : List BitPlace) (port low index : ℕ) → new ≡ old ++ record { port = port; index = Some index } ∷ [] → old ≡ start ++ places port (Some (record { low = low; len = index - low }))
    → low ≤ index → new ≡ start ++ places port (Some (record { low = low; len = index + 1 - low }))
place_pushed old new start port low index pushed is h = pushed ∙ rw (is, append_assoc, places_more port low index h) refl

-- ---- the first that passes

any_head : {A : Type 0} (p : A → Bool) (x : A) (xs : List A) → list_any p (x ∷ xs) ≡ false → p x ≡ false
any_head p x xs none = grind (arith)

any_tail : {A : Type 0} (p : A → Bool) (x : A) (xs : List A) → list_any p (x ∷ xs) ≡ false → list_any p xs ≡ false
any_tail p x xs none = grind (arith)

prefix_len_map : {A B : Type 0} (test : B → Bool) (f : A → B) (xs : List A) → prefix_len test (map f xs) ≡ prefix_len (λ x. test (f x)) xs
prefix_len_map test f [] = refl
prefix_len_map test f (x ∷ xs) = ap (λ k. cond (test (f x)) (1 + k) 0) (prefix_len_map test f xs)

pub position_more : {A : Type 0} (p : A → Bool) (x : A) (xs : List A) → p x ≡ false → position p (x ∷ xs) ≡ option_map (λ k. suc k) (position p xs)
position_more p x xs fails = rw fails (grind (arith, nat_tests))

pub first_none : {A : Type 0} (p : A → Bool) (xs : List A) → list_any p xs ≡ false → position p xs ≡ None
first_none p [] none = refl
first_none p (y ∷ ys) none =
    position_more p y ys (any_head p y ys none) ∙ ap (λ o. option_map (λ k. suc k) o) (first_none p ys (any_tail p y ys none))

pub position_map : {A B : Type 0} (test : B → Bool) (f : A → B) (xs : List A) → position test (map f xs) ≡ position (λ x. test (f x)) xs
position_map test f xs = rw (prefix_len_map (λ y. not (test y)) f xs, length-map xs f) refl

-- Where the bits of a joined vector stand, and what a failing bit's reason tells.
use Rattle.std.proofs.Common.{◌≡◌, ◌<◌, ◌≤◌, ℕ, zero, suc, ◌+◌, ◌-◌, Bool, true, false, not, List, [], ◌∷◌, ◌++◌, length, slice_get, Some, Option, None, refl, sym, ap, subst, ◌∙◌, arith, ⊎_elim, append_assoc, length-take}
use Rattle.std.proofs.lemmas.List.{append-nil}
use Rattle.std.specs.Prelude.{◌==◌, ◌&&◌, if◌then◌else◌}
use Rattle.std.proofs.lemmas.Bool.{cases_lt}
use Rattle.std.proofs.lemmas.Option.{slice_get_within}
use Rattle.scan_vectors.specs.declared.part.Part.{Part}
use Rattle.scan_vectors.specs.declared.part.Part.TheVariants.{Header, Data, Trailer}
use Rattle.scan_vectors.specs.declared.failures.Mismatch.{Mismatch}
use Rattle.scan_vectors.specs.Failures.{differing}
use Rattle.scan_vectors.specs.Vector.{PartBits, VectorBit, bits_from, differs, join, tdis}
use Rattle.board_model.specs.Whole.{joined_bits, out_of_members}
use Rattle.board_reasons.specs.Origins.{bit_there, origin}
use Rattle.board_reasons.specs.Reasons.{is_one, is_same_part, place_in, wanted_at}
use Rattle.board_reasons.specs.Laws.{IsWrong, ReasonTellsTheBit}
use Rattle.board_reasons.proofs.Verdicts.{comes}

some_is : {A : Type 0} → (x y : A) → Some x ≡ Some y → x ≡ y
some_is x y e = cc

-- ---- bits of a part

-- a bit of a part has that part, and counts from the first
pub placed : (part : Part) (n : ℕ) (ts ws cs : List Bool) (k : ℕ) (v : VectorBit) → slice_get (bits_from part n ts ws cs) k ≡ Some v → (v.part ≡ part) × (v.place ≡ n + k)
placed part n [] ws cs k v e = absurd cc
placed part n (t ∷ ts) [] cs k v e = absurd cc
placed part n (t ∷ ts) (w ∷ ws) [] k v e = absurd cc
placed part n (t ∷ ts) (w ∷ ws) (c ∷ cs) zero v e =
    let same = some_is _ v e in (sym (ap (λ (x : VectorBit). x.part) same), let here : n ≡ v.place = ap (λ (x : VectorBit). x.place) same in omega (arith, here))
placed part n (t ∷ ts) (w ∷ ws) (c ∷ cs) (suc k) v e =
    let more = placed part (suc n) ts ws cs k v e in (more.0, omega (arith, more.1))

same_self : (p : Part) → is_same_part p p ≡ true
same_self Header = refl
same_self Data = refl
same_self Trailer = refl

-- the test of a bit, where the parts are known to be one or two
with_part : (a : Bool) (b c : Bool) → a ≡ b → (a && c) ≡ (b && c)
with_part a b c e = ap (λ x. x && c) e

chosen : (x : Bool) (k : ℕ) → x ≡ true → (if x then zero else suc k) ≡ zero
chosen x k e = ap (λ b. if b then zero else suc k) e

left : (x : Bool) (k : ℕ) → x ≡ false → (if x then zero else suc k) ≡ suc k
left x k e = ap (λ b. if b then zero else suc k) e

-- bit k of a part is found at its place
found : (part : Part) (n : ℕ) (ts ws cs : List Bool) (rest : List VectorBit) (k : ℕ) → k < length (bits_from part n ts ws cs)
    → place_in (bits_from part n ts ws cs ++ rest) part (n + k) ≡ k
found part n [] ws cs rest k h = absurd (omega (arith, h))
found part n (t ∷ ts) [] cs rest k h = absurd (omega (arith, h))
found part n (t ∷ ts) (w ∷ ws) [] rest k h = absurd (omega (arith, h))
found part n (t ∷ ts) (w ∷ ws) (c ∷ cs) rest zero h =
    let here : (n == n + 0) ≡ true = grind arith in
    chosen _ (place_in (bits_from part (suc n) ts ws cs ++ rest) part (n + 0)) (with_part _ true (n == n + 0) (same_self part) ∙ here)
found part n (t ∷ ts) (w ∷ ws) (c ∷ cs) rest (suc k) h =
    let not_here : (n == n + suc k) ≡ false = grind arith in
    let next : n + suc k ≡ suc n + k = omega arith in
    left _ (place_in (bits_from part (suc n) ts ws cs ++ rest) part (n + suc k)) (with_part _ true (n == n + suc k) (same_self part) ∙ not_here)
    ∙ ap suc (ap (place_in (bits_from part (suc n) ts ws cs ++ rest) part) next ∙ found part (suc n) ts ws cs rest k (omega (arith, h)))

plus_zero : (n : ℕ) → n ≡ 0 + n
plus_zero n = omega arith

-- the bits of another part are passed
passed : (part other : Part) → is_same_part part other ≡ false → (n : ℕ) (ts ws cs : List Bool) (rest : List VectorBit) (bit : ℕ)
    → place_in (bits_from part n ts ws cs ++ rest) other bit ≡ length (bits_from part n ts ws cs) + place_in rest other bit
passed part other apart n [] ws cs rest bit = plus_zero (place_in rest other bit)
passed part other apart n (t ∷ ts) [] cs rest bit = plus_zero (place_in rest other bit)
passed part other apart n (t ∷ ts) (w ∷ ws) [] rest bit = plus_zero (place_in rest other bit)
passed part other apart n (t ∷ ts) (w ∷ ws) (c ∷ cs) rest bit =
    let more = passed part other apart (suc n) ts ws cs rest bit in
    left _ (place_in (bits_from part (suc n) ts ws cs ++ rest) other bit) (with_part _ false (n == bit) apart) ∙ omega (arith, more)

-- ---- whole vectors

pub get_first : (xs ys : List VectorBit) (k : ℕ) → k < length xs → slice_get (xs ++ ys) k ≡ slice_get xs k
get_first [] ys k h = absurd (omega (arith, h))
get_first (x ∷ xs) ys zero h = refl
get_first (x ∷ xs) ys (suc k) h = get_first xs ys k (omega (arith, h))

pub get_second : (xs ys : List VectorBit) (k : ℕ) → length xs ≤ k → slice_get (xs ++ ys) k ≡ slice_get ys (k - length xs)
get_second [] ys k h = ap (slice_get ys) (omega arith)
get_second (x ∷ xs) ys zero h = absurd (omega (arith, h))
get_second (x ∷ xs) ys (suc k) h = get_second xs ys k (omega (arith, h)) ∙ ap (slice_get ys) (omega arith)

-- header, data and trailer
abbrev pub headed : PartBits → List VectorBit
headed p = bits_from Header 0 p.tdi p.want p.care

abbrev pub bodied : PartBits → List VectorBit
bodied p = bits_from Data 0 p.tdi p.want p.care

abbrev pub trailed : PartBits → List VectorBit
trailed p = bits_from Trailer 0 p.tdi p.want p.care

abbrev parted : (h b t : PartBits) → List VectorBit
parted h b t = headed h ++ (bodied b ++ trailed t)

in_header : (h b t : PartBits) (k : ℕ) (v : VectorBit) → slice_get (parted h b t) k ≡ Some v → k < length (headed h) → place_in (parted h b t) v.part v.place ≡ k
in_header h b t k v at inside =
    let rest = bodied b ++ trailed t in
    let its = placed Header 0 h.tdi h.want h.care k v (sym (get_first (headed h) rest k inside) ∙ at) in
    ap (λ p. place_in (parted h b t) p v.place) its.0 ∙ ap (place_in (parted h b t) Header) its.1 ∙ found Header 0 h.tdi h.want h.care rest k inside

in_data : (h b t : PartBits) (k : ℕ) (v : VectorBit) → slice_get (parted h b t) k ≡ Some v → length (headed h) ≤ k → k - length (headed h) < length (bodied b)
    → place_in (parted h b t) v.part v.place ≡ k
in_data h b t k v at past inside =
    let j = k - length (headed h) in
    let rest = bodied b ++ trailed t in
    let its = placed Data 0 b.tdi b.want b.care j v (sym (get_first (bodied b) (trailed t) j inside) ∙ sym (get_second (headed h) rest k past) ∙ at) in
    let there : place_in rest Data (0 + j) ≡ j = found Data 0 b.tdi b.want b.care (trailed t) j inside in
    ap (λ p. place_in (parted h b t) p v.place) its.0 ∙ ap (place_in (parted h b t) Data) its.1
    ∙ passed Header Data refl 0 h.tdi h.want h.care rest (0 + j) ∙ ap (λ n. length (headed h) + n) there ∙ omega (arith, past)

in_trailer : (h b t : PartBits) (k : ℕ) (v : VectorBit) → slice_get (parted h b t) k ≡ Some v → length (headed h) ≤ k → length (bodied b) ≤ k - length (headed h)
    → place_in (parted h b t) v.part v.place ≡ k
in_trailer h b t k v at past beyond =
    let i = k - length (headed h) in
    let j = i - length (bodied b) in
    let rest = bodied b ++ trailed t in
    let here : slice_get (trailed t) j ≡ Some v = sym (get_second (bodied b) (trailed t) i beyond) ∙ sym (get_second (headed h) rest k past) ∙ at in
    let its = placed Trailer 0 t.tdi t.want t.care j v here in
    let there : place_in (trailed t) Trailer (0 + j) ≡ j =
    ap (λ l. place_in l Trailer (0 + j)) (sym (append-nil (trailed t))) ∙ found Trailer 0 t.tdi t.want t.care [] j (slice_get_within (trailed t) j v here) in
    ap (λ p. place_in (parted h b t) p v.place) its.0 ∙ ap (place_in (parted h b t) Trailer) its.1
    ∙ passed Header Trailer refl 0 h.tdi h.want h.care rest (0 + j)
    ∙ ap (λ n. length (headed h) + n) (passed Data Trailer refl 0 b.tdi b.want b.care (trailed t) (0 + j) ∙ ap (λ n. length (bodied b) + n) there)
    ∙ omega (arith, past, beyond)

parted_found : (h b t : PartBits) (k : ℕ) (v : VectorBit) → slice_get (parted h b t) k ≡ Some v → place_in (parted h b t) v.part v.place ≡ k
parted_found h b t k v at = ⊎_elim
    (in_header h b t k v at)
    (λ past. ⊎_elim (in_data h b t k v at past) (in_trailer h b t k v at past) (cases_lt (k - length (headed h)) (length (bodied b))))
    (cases_lt k (length (headed h)))

-- the bit at a place is found by its part and its place there
pub place_found : (h b t : PartBits) (k : ℕ) (v : VectorBit) → slice_get (join h b t) k ≡ Some v → place_in (join h b t) v.part v.place ≡ k
place_found h b t k v at =
    let same : join h b t ≡ parted h b t = append_assoc (headed h) (bodied b) (trailed t) in
    ap (λ l. place_in l v.part v.place) same ∙ parted_found h b t k v (sym (ap (λ l. slice_get l k) same) ∙ at)

-- the place of a bit in its part is at most that in the vector
low_first : (h b t : PartBits) (k : ℕ) (v : VectorBit) → slice_get (parted h b t) k ≡ Some v → k < length (headed h) → v.place ≤ k
low_first h b t k v at inside =
    let its = placed Header 0 h.tdi h.want h.care k v (sym (get_first (headed h) (bodied b ++ trailed t) k inside) ∙ at) in
    omega (arith, its.1)

low_behind : (h b t : PartBits) (k : ℕ) (v : VectorBit) → slice_get (parted h b t) k ≡ Some v → length (headed h) ≤ k → v.place ≤ k
low_behind h b t k v at past =
    let i = k - length (headed h) in
    let here = sym (get_second (headed h) (bodied b ++ trailed t) k past) ∙ at in
    ⊎_elim
    (λ inside. let its = placed Data 0 b.tdi b.want b.care i v (sym (get_first (bodied b) (trailed t) i inside) ∙ here) in omega (arith, its.1))
    (λ beyond.
    let its = placed Trailer 0 t.tdi t.want t.care (i - length (bodied b)) v (sym (get_second (bodied b) (trailed t) i beyond) ∙ here) in
    omega (arith, its.1))
    (cases_lt i (length (bodied b)))

low : (h b t : PartBits) (k : ℕ) (v : VectorBit) → slice_get (parted h b t) k ≡ Some v → v.place ≤ k
low h b t k v at = ⊎_elim (low_first h b t k v at) (low_behind h b t k v at) (cases_lt k (length (headed h)))

pub place_low : (h b t : PartBits) (k : ℕ) (v : VectorBit) → slice_get (join h b t) k ≡ Some v → v.place ≤ k
place_low h b t k v at =
    let same : join h b t ≡ parted h b t = append_assoc (headed h) (bodied b) (trailed t) in
    low h b t k v (sym (ap (λ l. slice_get l k) same) ∙ at)

-- ---- what differs

-- a place of a vector whose bit differs from what came, as a failure tells it
record Differs (v : List VectorBit) (came : List Bool) (f : Mismatch) : Type 0 where
  k : ℕ
  wrong : IsWrong v came k
  part : f.part ≡ wrong.wants.part
  bit : f.bit ≡ wrong.wants.place

next_place : (x : VectorBit) (b : Bool) (vs : List VectorBit) (bits : List Bool) (f : Mismatch) → Differs vs bits f → Differs (x ∷ vs) (b ∷ bits) f
next_place x b vs bits f d = record {
  k = suc d.k;
  wrong = record { wants = d.wrong.wants; bit = d.wrong.bit; wanted = d.wrong.wanted; came_out = d.wrong.came_out; differ = d.wrong.differ };
  part = d.part;
  bit = d.bit;
}

differing_at : (command : ℕ) (v : List VectorBit) (came : List Bool) (i : ℕ) (f : Mismatch) → slice_get (differing command v came) i ≡ Some f → Differs v came f
differing_at command [] came i f at = absurd cc
differing_at command (x ∷ vs) [] i f at = absurd cc
differing_at command (x ∷ vs) (b ∷ bits) i f at = by (differs x.wanted b) refl i at (λ j there. differing_at command vs bits j f there)
  where
    by : (d : Bool) → differs x.wanted b ≡ d → (i : ℕ)
        → slice_get (if d then record { command = command; part = x.part; bit = x.place } ∷ differing command vs bits else differing command vs bits) i ≡ Some f
        → ((j : ℕ) → slice_get (differing command vs bits) j ≡ Some f → Differs vs bits f) → Differs (x ∷ vs) (b ∷ bits) f
    by false e i at more = next_place x b vs bits f (more i at)
    by true e zero at more =
        let same = some_is _ f at in
        record {
          k = zero;
          wrong = record { wants = x; bit = b; wanted = refl; came_out = refl; differ = e };
          part = sym (ap (λ (m : Mismatch). m.part) same);
          bit = sym (ap (λ (m : Mismatch). m.bit) same);
        }
    by true e (suc i) at more = next_place x b vs bits f (more i at)

wanted_there : (v : List VectorBit) (k : ℕ) (x : VectorBit) → slice_get v k ≡ Some x → wanted_at v k ≡ is_one x.wanted
wanted_there [] k x e = absurd cc
wanted_there (y ∷ vs) zero x e = ap (λ (b : VectorBit). is_one b.wanted) (some_is y x e)
wanted_there (y ∷ vs) (suc k) x e = wanted_there vs k x e

opposite : (w : Option Bool) (b : Bool) → differs w b ≡ true → b ≡ not (is_one w)
opposite None b e = absurd cc
opposite (Some true) true e = absurd cc
opposite (Some true) false e = refl
opposite (Some false) true e = refl
opposite (Some false) false e = absurd cc

pub tells_the_bit : ReasonTellsTheBit
tells_the_bit column ms h b t command i f at =
    let v = join h b t in
    let came = out_of_members column (tdis v) ms in
    let d = differing_at command v came i f at in
    let x = d.wrong.wants in
    let place : place_in v f.part f.bit ≡ d.k =
    ap (λ p. place_in v p f.bit) d.part ∙ ap (place_in v x.part) d.bit ∙ place_found h b t d.k x d.wrong.wanted in
    let inside : d.k < length (tdis v) = omega (arith, slice_get_within came d.k d.wrong.bit d.wrong.came_out, length-take (length (tdis v)) (joined_bits column ms ++ tdis v)) in (
      subst (IsWrong v came) (sym place) d.wrong,
      ap (λ k. bit_there column ms (tdis v) (origin column ms k)) place
          ∙ sym (comes column ms (tdis v) d.k inside) ∙ d.wrong.came_out
          ∙ ap (λ y. Some y) (opposite x.wanted d.wrong.bit d.wrong.differ ∙ ap not (sym (wanted_there v d.k x d.wrong.wanted)) ∙ ap (λ k. not (wanted_at v k)) (sym place)),
    )

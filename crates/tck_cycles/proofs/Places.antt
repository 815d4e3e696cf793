-- The cycles of a step, place by place.
use Rattle.std.proofs.Common.{◌≡◌, ℕ, zero, suc, ◌+◌, ◌-◌, ◌<◌, ◌≤◌, Bool, true, false, List, [], ◌∷◌, ◌++◌, map, drop, length, replicate, nat_eq, refl, sym, ap, ◌∙◌, arith, Option, Some, None, is_some, length-append, append_assoc, add-one, lit≤, if◌then◌else◌, cond, zero-add}
use Rattle.std.specs.Prelude.{slice_get, option_map, count_by}
use Rattle.std.specs.Int.{from_bool}
use Rattle.std.proofs.lemmas.List.Sums.{sum_by-append, sum_by-cons, count_by-le-length}
use Rattle.std.proofs.Math.ListN.{drop_of_length-le}
use Rattle.std.proofs.lemmas.Bool.Decides.{nat_tests}
use Rattle.std.proofs.Math.Seq.{drop-append-add, drop-append_seam}
use Rattle.std.proofs.lemmas.List.{drop-append-le, drop-drop, drop-replicate, length-drop, length-map, length-replicate, replicate-append-replicate}
use Rattle.std.proofs.lemmas.Option.{same_Some}
use Rattle.std.specs.List.{range_with_len}
use Rattle.scan_vectors.specs.Held.{wanted_of}
use Rattle.scan_vectors.specs.Vector.{VectorBit, tdis}
use Rattle.scan_vectors.proofs.Places.{get-left, get-right}
use Rattle.bitbang_protocol.specs.declared.Cycle.{Cycle}
use Rattle.tck_cycles.specs.Cycles.{entering, scan_cycles}
use Rattle.jt_tap.specs.declared.Column.{Column}
use Rattle.jt_tap.specs.declared.Column.TheVariants.{Dr, Ir}
use Rattle.jt_tap.specs.declared.State.{State}
use Rattle.jt_tap.specs.declared.State.TheVariants.{Reset, Idle, DrSelect, DrCapture, DrShift, DrExit1, DrPause, DrExit2, DrUpdate, IrSelect, IrCapture, IrShift, IrExit1, IrPause, IrExit2, IrUpdate}
use Rattle.jt_tap.specs.Controller.{is_at, pause}
use Rattle.jt_tap.specs.Paths.{towards_idle, from_idle, shift_from_idle, update_state, to_shift, from_exit1}

-- ---- a scan

pub length-scan : (vs : List VectorBit) → length (scan_cycles vs) ≡ length vs
length-scan [] = refl
length-scan (v ∷ []) = refl
length-scan (v ∷ w ∷ vs) = ap suc (length-scan (w ∷ vs))

abbrev looks : Option VectorBit → Option (Bool × Option Bool)
looks o = option_map {U = Bool × Option Bool} (λ b. (b.tdi, b.wanted)) o

cycle_of : (v : VectorBit) (r : Bool × Option Bool) (t s : Bool) → looks (Some v) ≡ Some r → t ≡ s
    → let x : Cycle = record { tms = s; tdi = v.tdi; read = is_some v.wanted } in Some x ≡ Some (record { tms = t; tdi = r.0; read = is_some r.1 })
cycle_of v r t s e f =
    let same : (v.tdi, v.wanted) ≡ r = cc in
    let first : Bool → Option Cycle = λ b. Some (record { tms = b; tdi = v.tdi; read = is_some v.wanted }) in
    let second : Bool × Option Bool → Option Cycle = λ p. Some (record { tms = t; tdi = p.0; read = is_some p.1 }) in
    ap first (sym f) ∙ ap second same

two_or_more : (n : ℕ) → nat_eq (suc (suc n)) 1 ≡ false
two_or_more n = grind (arith, nat_tests)

pub scan_at : (vs : List VectorBit) (i : ℕ) (r : Bool × Option Bool) (t : Bool) → looks (slice_get vs i) ≡ Some r → t ≡ nat_eq (length vs - i) 1
    → slice_get (scan_cycles vs) i ≡ Some (record { tms = t; tdi = r.0; read = is_some r.1 })
scan_at [] i r t e f = absurd (cc)
scan_at (v ∷ []) zero r t e f = cycle_of v r t true e f
scan_at (v ∷ []) (suc i) r t e f = absurd (cc)
scan_at (v ∷ w ∷ vs) zero r t e f =
    let n : length (v ∷ w ∷ vs) - 0 ≡ suc (suc (length vs)) = omega arith in
    cycle_of v r t false e (f ∙ ap (λ m. nat_eq m 1) n ∙ two_or_more (length vs))
scan_at (v ∷ w ∷ vs) (suc i) r t e f =
    let n : length (v ∷ w ∷ vs) - suc i ≡ length (w ∷ vs) - i = omega arith in
    scan_at (w ∷ vs) i r t e (f ∙ ap (λ m. nat_eq m 1) n)

counts : (care want : Bool) → is_some (wanted_of care want) ≡ care
counts true want = refl
counts false want = refl

-- a bit that is not the last
pub shift_at : (vs : List VectorBit) (i : ℕ) (t care want : Bool) → suc i < length vs → slice_get (tdis vs) i ≡ Some t
    → option_map {U = Option Bool} (λ b. b.wanted) (slice_get vs i) ≡ Some (wanted_of care want)
    → slice_get (scan_cycles vs) i ≡ Some (record { tms = false; tdi = t; read = care })
shift_at [] i t care want h e f = absurd (omega (arith, h))
shift_at (v ∷ []) i t care want h e f = absurd (omega (arith, h))
shift_at (v ∷ w ∷ vs) zero t care want h e f =
    let tdi : v.tdi ≡ t = cc in
    let read : is_some v.wanted ≡ care = ap is_some (same_Some v.wanted (wanted_of care want) f) ∙ counts care want in
    λ k. Some (record { tms = false; tdi = tdi k; read = read k })
shift_at (v ∷ w ∷ vs) (suc i) t care want h e f = shift_at (w ∷ vs) i t care want (omega (arith, h)) e f

-- ---- lists

get_mapped : {A B : Type 0} (f : A → B) (xs : List A) (i : ℕ) (x : A) → slice_get xs i ≡ Some x → slice_get (map f xs) i ≡ Some (f x)
get_mapped f [] i x e = absurd (cc)
get_mapped f (y ∷ xs) zero x e = let same : y ≡ x = cc in rw same refl
get_mapped f (y ∷ xs) (suc i) x e = get_mapped f xs i x e

pub get-replicate : {A : Type 0} (n : ℕ) (x : A) (i : ℕ) → i < n → slice_get (replicate n x) i ≡ Some x
get-replicate zero x i h = absurd (omega arith)
get-replicate (suc n) x zero h = refl
get-replicate (suc n) x (suc i) h = get-replicate n x i (omega arith)

pub mapped : {A B : Type 0} (f : A → B) (xs : List A) (i : ℕ) → slice_get (map f xs) i ≡ option_map f (slice_get xs i)
mapped f [] i = refl
mapped f (x ∷ xs) zero = refl
mapped f (x ∷ xs) (suc i) = mapped f xs i

pub lead_at : {A : Type 0} (l m t : List A) (i : ℕ) → i < length l → slice_get (l ++ m ++ t) i ≡ slice_get l i
lead_at l m t i h = get-left (l ++ m) t i (omega (arith, length-append l m)) ∙ get-left l m i h

pub middle_at : {A : Type 0} (l m t : List A) (i k : ℕ) → i ≡ length l + k → k < length m → slice_get (l ++ m ++ t) i ≡ slice_get m k
middle_at l m t i k e h = get-left (l ++ m) t i (omega (arith, length-append l m)) ∙ ap (slice_get (l ++ m)) e ∙ get-right l m k

pub tail_at : {A : Type 0} (l m t : List A) (i k : ℕ) → i ≡ length l + length m + k → slice_get (l ++ m ++ t) i ≡ slice_get t k
tail_at l m t i k e =
    let at : i ≡ length (l ++ m) + k = omega (arith, length-append l m) in
    ap (slice_get (l ++ m ++ t)) at ∙ get-right (l ++ m) t k

pub past_end : {A : Type 0} (xs : List A) (i : ℕ) → slice_get xs i ≡ None → length xs ≤ i
past_end [] i e = omega arith
past_end (x ∷ xs) zero e = absurd (cc)
past_end (x ∷ xs) (suc i) e = omega (arith, past_end xs i e)

-- ---- paths

short_towards : (s : State) → length (towards_idle s) ≤ 2
short_towards Reset = lit≤ tt
short_towards Idle = lit≤ tt
short_towards DrSelect = lit≤ tt
short_towards DrCapture = lit≤ tt
short_towards DrShift = lit≤ tt
short_towards DrExit1 = lit≤ tt
short_towards DrPause = lit≤ tt
short_towards DrExit2 = lit≤ tt
short_towards DrUpdate = lit≤ tt
short_towards IrSelect = lit≤ tt
short_towards IrCapture = lit≤ tt
short_towards IrShift = lit≤ tt
short_towards IrExit1 = lit≤ tt
short_towards IrPause = lit≤ tt
short_towards IrExit2 = lit≤ tt
short_towards IrUpdate = lit≤ tt

short_from : (s : State) → length (from_idle s) ≤ 5
short_from Reset = lit≤ tt
short_from Idle = lit≤ tt
short_from DrSelect = lit≤ tt
short_from DrCapture = lit≤ tt
short_from DrShift = lit≤ tt
short_from DrExit1 = lit≤ tt
short_from DrPause = lit≤ tt
short_from DrExit2 = lit≤ tt
short_from DrUpdate = lit≤ tt
short_from IrSelect = lit≤ tt
short_from IrCapture = lit≤ tt
short_from IrShift = lit≤ tt
short_from IrExit1 = lit≤ tt
short_from IrPause = lit≤ tt
short_from IrExit2 = lit≤ tt
short_from IrUpdate = lit≤ tt

short_shift : (c : Column) → length (shift_from_idle c) ≤ 4
short_shift Dr = lit≤ tt
short_shift Ir = lit≤ tt

pub short_to_shift : (s : State) (c : Column) → length (to_shift s c) ≤ 8
short_to_shift s c = omega (arith, short_towards s, short_shift c, length-append (towards_idle s) (shift_from_idle c))

either : (b : Bool) (l m : List State) → length l ≤ 8 → length m ≤ 8 → length (if b then l else m) ≤ 8
either true l m h k = h
either false l m h k = k

pub short_from_exit1 : (c : Column) (s : State) → length (from_exit1 c s) ≤ 8
short_from_exit1 c s =
    either (is_at s (pause c)) (s ∷ []) (update_state c ∷ from_idle s) (lit≤ tt) (omega (arith, short_from s))

-- ---- what is left

pub left_some : {A : Type 0} (xs : List A) (i : ℕ) (x : A) → slice_get xs i ≡ Some x → drop i xs ≡ x ∷ drop (i + 1) xs
left_some [] i x e = absurd (cc)
left_some (y ∷ xs) zero x e = let same : y ≡ x = cc in rw same refl
left_some (y ∷ xs) (suc i) x e = left_some xs i x e ∙ rw (add-one, add-one) refl

pub left_none : {A : Type 0} (xs : List A) (i : ℕ) → slice_get xs i ≡ None → drop i xs ≡ []
left_none [] zero e = refl
left_none [] (suc i) e = refl
left_none (y ∷ xs) zero e = absurd (cc)
left_none (y ∷ xs) (suc i) e = left_none xs i e

pub first_left : {A : Type 0} (xs : List A) (i : ℕ) → slice_get (drop i xs) 0 ≡ slice_get xs i
first_left [] zero = refl
first_left [] (suc i) = refl
first_left (x ∷ xs) zero = refl
first_left (x ∷ xs) (suc i) = first_left xs i

-- what is left begins with what stands at the next places
pub taken : {A : Type 0} (f : ℕ → A) (xs : List A) (i k n : ℕ) → ((j : ℕ) → k ≤ j → j < k + n → slice_get xs (i + j) ≡ Some (f j))
    → drop (i + k) xs ≡ map f (range_with_len k n) ++ drop (i + (k + n)) xs
taken f xs i k zero each = let same : i + k ≡ i + (k + 0) = omega arith in ap (λ m. drop m xs) same
taken f xs i k (suc n) each =
    let next : i + k + 1 ≡ i + (k + 1) = omega arith in
    let end : i + (k + 1 + n) ≡ i + (k + suc n) = omega arith in
    let later = taken f xs i (k + 1) n (λ j low high. each j (omega (arith, low)) (omega (arith, high))) in
    left_some xs (i + k) (f k) (each k (omega arith) (omega arith))
    ∙ ap (λ m. f k ∷ drop m xs) next ∙ ap (λ l. f k ∷ l) later ∙ ap (λ m. f k ∷ map f (range_with_len (k + 1) n) ++ drop m xs) end

-- ---- cycles that are alike

-- within the cycles of a stay
pub alike_stayed : {A : Type 0} (l t : List A) (n k i : ℕ) (w : A) → i ≡ length l + k → k ≤ n
    → drop i (l ++ replicate n w ++ t) ≡ replicate (n - k) w ++ drop (i + (n - k)) (l ++ replicate n w ++ t)
alike_stayed l t n k i w e h =
    let stay = replicate n w in
    let size = length-replicate n w in
    let fits : k ≤ length stay = omega (arith, size, h) in
    let end : i + (n - k) ≡ length (l ++ stay) = omega (arith, e, h, size, length-append l stay) in
    ap (λ xs. drop i xs) (append_assoc l stay t)
    ∙ ap (λ j. drop j (l ++ (stay ++ t))) e
    ∙ drop-append-add l (stay ++ t) k
    ∙ drop-append-le k stay t fits
    ∙ ap (λ xs. xs ++ t) (drop-replicate k n w)
    ∙ ap (λ xs. replicate (n - k) w ++ xs) (sym (ap (λ j. drop j (l ++ stay ++ t)) end ∙ drop-append_seam (l ++ stay) t))

-- fewer of them
pub alike_fewer : {A : Type 0} (xs : List A) (i n m : ℕ) (w : A) → m ≤ n → drop i xs ≡ replicate n w ++ drop (i + n) xs
    → drop i xs ≡ replicate m w ++ drop (i + m) xs
alike_fewer xs i n m w h e =
    let rest = drop (i + n) xs in
    let size = length-replicate n w in
    let fits : m ≤ length (replicate n w) = omega (arith, size, h) in
    let all : m + (n - m) ≡ n = omega (arith, h) in
    let later : drop (i + m) xs ≡ replicate (n - m) w ++ rest =
    sym (drop-drop m i xs) ∙ ap (drop m) e ∙ drop-append-le m (replicate n w) rest fits ∙ ap (λ ys. ys ++ rest) (drop-replicate m n w) in
    e
    ∙ ap (λ j. replicate j w ++ rest) (sym all)
    ∙ ap (λ ys. ys ++ rest) (sym (replicate-append-replicate m (n - m) w))
    ∙ append_assoc (replicate m w) (replicate (n - m) w) rest
    ∙ ap (λ ys. replicate m w ++ ys) (sym later)

-- ---- cycles that read

abbrev pub reads : List Cycle → ℕ
reads cs = count_by (λ c. c.read) cs

one_or_none : (b : Bool) → cond b 1 0 ≡ from_bool b
one_or_none true = refl
one_or_none false = refl

pub reads_more : (cs : List Cycle) (i : ℕ) (r : Bool) → option_map {U = Bool} (λ (c : Cycle). c.read) (slice_get cs i) ≡ Some r
    → reads (drop i cs) ≡ from_bool r + reads (drop (i + 1) cs)
reads_more [] i r e = absurd (cc)
reads_more (c ∷ cs) zero r e =
    let same : c.read ≡ r = cc in
    sum_by-cons _ c cs ∙ ap (λ n. n + reads cs) (ap (λ b. cond b 1 0) same ∙ one_or_none r)
reads_more (c ∷ cs) (suc i) r e = reads_more cs i r e ∙ rw (add-one, add-one) refl

pub reads_at_most : (cs : List Cycle) (i : ℕ) → reads (drop i cs) ≤ length cs
reads_at_most cs i =
    omega (arith, count_by-le-length {X = Cycle} (λ c. c.read) (drop i cs), length-drop i cs)

pub reads_past : (cs : List Cycle) (i : ℕ) → length cs ≤ i → reads (drop i cs) ≡ 0
reads_past cs i h = ap reads (drop_of_length-le cs h)

pub no_reads_walked : (ss : List State) (i : ℕ) → reads (drop i (map entering ss)) ≡ 0
no_reads_walked [] zero = refl
no_reads_walked [] (suc i) = refl
no_reads_walked (s ∷ ss) zero = sum_by-cons _ (entering s) (map entering ss) ∙ zero-add _ ∙ no_reads_walked ss zero
no_reads_walked (s ∷ ss) (suc i) = no_reads_walked ss i

pub no_reads_stayed : (n : ℕ) (s : State) (i : ℕ) → reads (drop i (replicate n (entering s))) ≡ 0
no_reads_stayed zero s zero = refl
no_reads_stayed zero s (suc i) = refl
no_reads_stayed (suc n) s zero = sum_by-cons _ (entering s) (replicate n (entering s)) ∙ zero-add _ ∙ no_reads_stayed n s zero
no_reads_stayed (suc n) s (suc i) = no_reads_stayed n s i

drop_parts : {A : Type 0} (xs ys : List A) (n : ℕ) → drop n (xs ++ ys) ≡ drop n xs ++ drop (n - length xs) ys
drop_parts [] ys zero = refl
drop_parts [] ys (suc n) = let e : suc n ≡ suc n - 0 = omega arith in ap (λ m. drop m ys) e
drop_parts (x ∷ xs) ys zero = let e : 0 ≡ 0 - length (x ∷ xs) = omega arith in ap (λ m. x ∷ xs ++ drop m ys) e
drop_parts (x ∷ xs) ys (suc n) =
    let e : n - length xs ≡ suc n - length (x ∷ xs) = omega arith in
    drop_parts xs ys n ∙ ap (λ m. drop n xs ++ drop m ys) e

reads_parts : (xs ys : List Cycle) (n : ℕ) → reads (drop n (xs ++ ys)) ≡ reads (drop n xs) + reads (drop (n - length xs) ys)
reads_parts xs ys n = ap reads (drop_parts xs ys n) ∙ sum_by-append _ (drop n xs) (drop (n - length xs) ys)

-- between two paths only the middle reads
pub middle_reads : (lead tail : List State) (m : List Cycle) (n k : ℕ) → k ≡ n - length lead
    → reads (drop k m) ≡ reads (drop n (map entering lead ++ m ++ map entering tail))
middle_reads lead tail m n k e =
    let l = length-map lead entering in
    let at : n - length (map entering lead) ≡ k = omega (arith, l, e) in
    let whole = reads_parts (map entering lead ++ m) (map entering tail) n in
    let front = reads_parts (map entering lead) m n in
    let a = no_reads_walked lead n in
    let b = no_reads_walked tail (n - length (map entering lead ++ m)) in
    let c = ap (λ i. reads (drop i m)) at in
    omega (arith, whole, front, a, b, c)

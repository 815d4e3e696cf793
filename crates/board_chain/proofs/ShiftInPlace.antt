-- A chain that is shifted in place, run by run in rising order.
use Rattle.std.specs.Prelude.{⊤}
use Rattle.std.proofs.Common.{◌≡◌, ℕ, zero, suc, ◌+◌, ◌-◌, ◌<◌, ◌≤◌, ⊎_elim, Bool, false, List, [], ◌∷◌, length, take, drop, set, get_or, map, refl, sym, ap, subst, ◌∙◌, arith, length-append, Option, Some, None}
use Rattle.std.specs.Prelude.{slice_get, unwrap_or}
use Rattle.std.proofs.lemmas.Bool.{cases_lt}
use Rattle.std.proofs.lemmas.List.{length-drop, length-map, length-set, map-set, get_or-map}
use Rattle.jt_bits.specs.Packed.{has_bit}
use Rattle.jt_bits.specs.Runs.{RunSet}
use Rattle.jt_bits.specs.Words.{bit_of}
use Rattle.scan_vectors.specs.Vector.{VectorBit, tdis}
use Rattle.board_chain.specs.Rows.{joined_registers, passing, left, before, IsCutBack}
use Rattle.board_chain.proofs.Rows.{before_all, bit-left, bit-right, bit-drop, same_bits, joined-bit, joined-run, lengths, lengths-set, same_before, same_count, same_len, cut_back, is_cut_back}

-- The first d bits of the joined list are what stays in, the others as they were; the next is read at bit q of register s.
pub record Moved (olds now : List (List Bool)) (v : List VectorBit) (d s q : ℕ) : Type 0 where
  pub shape : lengths now ≡ lengths olds
  pub done : (i : ℕ) → i < d → bit_of (joined_registers now) i ≡ bit_of (passing v olds) (length v + i)
  pub others : (i : ℕ) → d ≤ i → bit_of (joined_registers now) i ≡ bit_of (joined_registers olds) i
  pub at : before olds s + q ≡ length v + d
  pub within : s ≤ length olds
  pub stands : s < length olds → q < length (get_or olds s [])

pub moved_none : (olds : List (List Bool)) (v : List VectorBit) (s q : ℕ) → s ≤ length olds → before olds s + q ≡ length v
    → (s < length olds → q < length (get_or olds s [])) → Moved olds olds v 0 s q
moved_none olds v s q within at stands = record {
  shape = refl;
  done = λ i h. absurd (omega arith);
  others = λ i h. refl;
  at = omega (arith, at);
  within = within;
  stands = stands;
}

-- what is read are the bits that are to stand next
abbrev pub Next : List (List Bool) → List VectorBit → (d word n : ℕ) → Type 0
Next olds v d word n = (j : ℕ) → j < n → has_bit word j ≡ bit_of (passing v olds) (length v + (d + j))

long-row : (rows : List (List Bool)) (k : ℕ) → k < length rows → before rows k + length (get_or rows k []) ≤ length (joined_registers rows)
long-row [] k h = absurd (omega arith)
long-row (r ∷ rows) zero h = let a = length-append r (joined_registers rows) in omega (arith, a)
long-row (r ∷ rows) (suc k) h =
    let e = long-row rows k (omega arith) in
    let a = length-append r (joined_registers (take k rows)) in
    let b = length-append r (joined_registers rows) in
    omega (arith, e, a, b)

pub from_register : (olds now : List (List Bool)) (v : List VectorBit) (d s q word n : ℕ) → Moved olds now v d s q → s < length now → q + n ≤ length (get_or now s [])
    → ((j : ℕ) → j < n → has_bit word j ≡ bit_of (get_or now s []) (q + j)) → Next olds v d word n
from_register olds now v d s q word n m has in_ read j h =
    let count = same_count now olds m.shape in
    let len = same_len now olds s m.shape in
    let bef = same_before now olds s m.shape in
    let long = long-row olds s (omega (arith, has, count)) in
    let place : before now s + (q + j) ≡ length v + (d + j) = omega (arith, bef, m.at) in
    read j h ∙ sym (joined-bit now s (q + j) has (omega (arith, in_, h)))
    ∙ m.others (before now s + (q + j)) (omega (arith, place))
    ∙ sym (bit-left (joined_registers olds) (tdis v) (before now s + (q + j)) (omega (arith, bef, long, len, in_, h)))
    ∙ ap (bit_of (passing v olds)) place

pub from_vector : (olds now : List (List Bool)) (v : List VectorBit) (d s q word n : ℕ) → Moved olds now v d s q → length now ≤ s
    → ((j : ℕ) → j < n → slice_get (tdis v) (q + j) ≡ Some (has_bit word j)) → Next olds v d word n
from_vector olds now v d s q word n m past read j h =
    let count = same_count now olds m.shape in
    let all = before_all olds s (omega (arith, past, count)) in
    let place : length (joined_registers olds) + (q + j) ≡ length v + (d + j) = omega (arith, m.at, all) in
    let bit : has_bit word j ≡ bit_of (tdis v) (q + j) = ap (λ o. unwrap_or o (has_bit word j)) (sym (read j h)) ∙ default (slice_get (tdis v) (q + j)) (has_bit word j) (read j h) in
    bit ∙ sym (bit-right (joined_registers olds) (tdis v) (q + j)) ∙ ap (bit_of (passing v olds)) place
  where
    default : (o : Option Bool) (b : Bool) → o ≡ Some b → unwrap_or o b ≡ unwrap_or o false
    default None b e = absurd (cc)
    default (Some x) b e = refl

-- the place in the vector is one of its bits
pub in_vector : (olds now : List (List Bool)) (v : List VectorBit) (d s q : ℕ) → Moved olds now v d s q → d < length (joined_registers olds) → length now ≤ s → q < length v
in_vector olds now v d s q m less past =
    let count = same_count now olds m.shape in
    let all = before_all olds s (omega (arith, past, count)) in
    omega (arith, m.at, all, less)

-- a run more is put into register i
pub moved_more : (olds now : List (List Bool)) (v : List VectorBit) (i j s q s2 q2 word n : ℕ) (r : List Bool) → i < length olds → j + n ≤ length (get_or olds i [])
    → Moved olds now v (before olds i + j) s q → RunSet (get_or now i []) r j word n → Next olds v (before olds i + j) word n
    → s2 ≤ length now → before (set now i r) s2 + q2 ≡ before (set now i r) s + (q + n) → (s2 < length now → q2 < length (get_or (set now i r) s2 []))
    → Moved olds (set now i r) v (before olds i + (j + n)) s2 q2
moved_more olds now v i j s q s2 q2 word n r h k m put next within same stands =
    let d = before olds i + j in
    let new = set now i r in
    let count = same_count now olds m.shape in
    let len0 = same_len now olds i m.shape in
    let shape : lengths new ≡ lengths olds = lengths-set now i r put.long ∙ m.shape in
    let len = same_len new olds s2 shape in
    let bef = same_before new olds s shape in
    let bef2 = same_before new olds s2 shape in
    let bef0 : before now i + j ≡ d = ap (λ (x : ℕ). x + j) (same_before now olds i m.shape) in
    let run : RunSet (joined_registers now) (joined_registers new) d word n =
    subst (λ (x : ℕ). RunSet (joined_registers now) (joined_registers new) x word n) bef0 (joined-run now i j r word n (omega (arith, h, count)) (omega (arith, k, len0)) put) in
    let more : before olds i + (j + n) ≡ d + n = omega arith in
    let long = run.long in
    record {
      shape = shape;
      done = λ p in_. ⊎_elim
          (λ (first : p < d). run.below p first ∙ m.done p first)
          (λ (later : d ≤ p).
          let e : d + (p - d) ≡ p = omega arith in
          ap (bit_of (joined_registers new)) (sym e) ∙ run.here (p - d) (omega (arith, in_, more)) ∙ next (p - d) (omega (arith, in_, more))
          ∙ ap (λ (x : ℕ). bit_of (passing v olds) (length v + x)) e)
          (cases_lt p d);
      others = λ p past. ⊎_elim
          (λ (less : p < length (joined_registers now)). run.above p less (omega (arith, past, more)) ∙ m.others p (omega (arith, past)))
          (λ (over : length (joined_registers now) ≤ p).
          bit-past (joined_registers new) p (omega (arith, over, long)) ∙ sym (bit-past (joined_registers now) p over) ∙ m.others p (omega (arith, past)))
          (cases_lt p (length (joined_registers now)));
      at = omega (arith, m.at, same, bef, bef2);
      within = omega (arith, within, count);
      stands = λ x. omega (arith, stands (omega (arith, x, count)), len);
    }
  where
    bit-past : (xs : List Bool) (i : ℕ) → length xs ≤ i → bit_of xs i ≡ false
    bit-past [] i h = refl
    bit-past (x ∷ xs) zero h = absurd (omega arith)
    bit-past (x ∷ xs) (suc i) h = bit-past xs i (omega arith)

-- the same of the links that hold the registers
pub moved_next : {A : Type 0} (register : A → List Bool) (olds now : List A) (x n : A) (v : List VectorBit) (i j s q s2 q2 word count : ℕ) → i < length now → length now ≡ length olds
    → j + count ≤ length (get_or (map register olds) i []) → Moved (map register olds) (map register now) v (before (map register olds) i + j) s q
    → RunSet (register (get_or now i x)) (register n) j word count → Next (map register olds) v (before (map register olds) i + j) word count
    → s2 ≤ length (set now i n) → before (map register (set now i n)) s2 + q2 ≡ before (map register (set now i n)) s + (q + count)
    → (s2 < length (set now i n) → q2 < length (get_or (map register (set now i n)) s2 []))
    → Moved (map register olds) (map register (set now i n)) v (before (map register olds) i + (j + count)) s2 q2
moved_next register olds now x n v i j s q s2 q2 word count h long k m put next within same stands =
    let rows = map register olds in
    let e : map register (set now i n) ≡ set (map register now) i (register n) = map-set register now i n in
    let row : get_or (map register now) i [] ≡ register (get_or now i x) = get_or-map register now i x [] h in
    let many : length (set now i n) ≡ length now = length-set now i n in
    let now_many = length-map now register in
    let olds_many = length-map olds register in
    subst (λ (news : List (List Bool)). Moved rows news v (before rows i + (j + count)) s2 q2) (sym e)
    (moved_more rows (map register now) v i j s q s2 q2 word count (register n) (omega (arith, h, long, olds_many)) k m
    (subst (λ (l : List Bool). RunSet l (register n) j word count) (sym row) put) next (omega (arith, within, many, now_many))
    (subst (λ (news : List (List Bool)). before news s2 + q2 ≡ before news s + (q + count)) e same)
    (λ less. subst (λ (news : List (List Bool)). q2 < length (get_or news s2 [])) e (stands (omega (arith, less, many, now_many)))))

pub moved_at : (olds now : List (List Bool)) (v : List VectorBit) (d e s q : ℕ) → d ≡ e → Moved olds now v d s q → Moved olds now v e s q
moved_at olds now v d e s q is m = subst (λ (x : ℕ). Moved olds now v x s q) is m

-- what is read next, wherever it stands
pub next_bits : (olds now : List (List Bool)) (v : List VectorBit) (d s q word len n : ℕ) → n ≤ len → Moved olds now v d s q
    → (s < length now → q + len ≤ length (get_or now s [])) → (s < length now → (j : ℕ) → j < len → has_bit word j ≡ bit_of (get_or now s []) (q + j))
    → (length now ≤ s → (j : ℕ) → j < len → slice_get (tdis v) (q + j) ≡ Some (has_bit word j)) → Next olds v d word n
next_bits olds now v d s q word len n few m inside_ register vector = ⊎_elim
    (λ (has : s < length now). from_register olds now v d s q word n m has (omega (arith, few, inside_ has)) (λ j h. register has j (omega (arith, h, few))))
    (λ (past : length now ≤ s). from_vector olds now v d s q word n m past (λ j h. vector past j (omega (arith, h, few))))
    (cases_lt s (length now))

length-left : (v : List VectorBit) (olds : List (List Bool)) → length (left v olds) ≡ length (joined_registers olds)
length-left v olds =
    length-drop (length v) (passing v olds)
    ∙ (let e = length-append (joined_registers olds) (tdis v) in let m : length (tdis v) ≡ length v = length-map v (λ (b : VectorBit). b.tdi) in omega (arith, e, m))

long-joined : (now olds : List (List Bool)) → lengths now ≡ lengths olds → length (joined_registers now) ≡ length (joined_registers olds)
long-joined now olds e =
    let count = same_count now olds e in
    sym (before_all now (length now) (omega arith)) ∙ same_before now olds (length now) e ∙ before_all olds (length now) (omega (arith, count))

pub moved_all : (olds now : List (List Bool)) (v : List VectorBit) (d s q : ℕ) → Moved olds now v d s q → length (joined_registers olds) ≤ d → now ≡ cut_back (left v olds) olds
moved_all olds now v d s q m past =
    let is : joined_registers now ≡ left v olds = same_bits (joined_registers now) (left v olds) (long-joined now olds m.shape ∙ sym (length-left v olds))
    (λ i h. m.done i (omega (arith, h, past, length-left v olds)) ∙ sym (bit-drop (length v) (passing v olds) i)) in
    is_cut_back now olds m.shape ∙ ap (λ (l : List Bool). cut_back l olds) is

-- ---- the links that hold the registers

-- each link is the one before with the bits that it has now
abbrev pub AllPut : {A : Type 0} → (register : A → List Bool) → (is_put : A → List Bool → A → Type 0) → (olds now : List A) → Type 0
AllPut register is_put [] [] = ⊤
AllPut register is_put (o ∷ olds) (n ∷ now) = is_put o (register n) n × AllPut register is_put olds now
AllPut register is_put _ _ = ⊥

pub all_none : {A : Type 0} (register : A → List Bool) (is_put : A → List Bool → A → Type 0) → ((a : A) → is_put a (register a) a) → (olds : List A) → AllPut register is_put olds olds
all_none register is_put none [] = tt
all_none register is_put none (o ∷ olds) = (none o, all_none register is_put none olds)

pub all_more : {A : Type 0} (register : A → List Bool) (is_put : A → List Bool → A → Type 0) → ((a b c : A) (s t : List Bool) → is_put a s b → is_put b t c → is_put a t c)
    → (olds now : List A) (i : ℕ) (d n : A) → i < length now → AllPut register is_put olds now → is_put (get_or now i d) (register n) n → AllPut register is_put olds (set now i n)
all_more register is_put twice [] [] i d n h all more = absurd (omega arith)
all_more register is_put twice [] (x ∷ now) i d n h all more = absurd all
all_more register is_put twice (o ∷ olds) [] i d n h all more = absurd all
all_more register is_put twice (o ∷ olds) (x ∷ now) zero d n h all more = (twice o x n (register x) (register n) all.0 more, all.1)
all_more register is_put twice (o ∷ olds) (x ∷ now) (suc i) d n h all more = (all.0, all_more register is_put twice olds now i d n (omega arith) all.1 more)

pub all_put : {A : Type 0} (register : A → List Bool) (is_put : A → List Bool → A → Type 0) (olds now : List A) (bits : List Bool) → AllPut register is_put olds now
    → map register now ≡ cut_back bits (map register olds) → IsCutBack register is_put bits olds now
all_put register is_put [] [] bits all e = tt
all_put register is_put [] (n ∷ now) bits all e = absurd all
all_put register is_put (o ∷ olds) [] bits all e = absurd all
all_put register is_put (o ∷ olds) (n ∷ now) bits all e = (
  subst (λ (l : List Bool). is_put o l n) (ap (λ (l : List (List Bool)). get_or l 0 []) e) all.0,
  all_put register is_put olds now (drop (length (register o)) bits) all.1 (ap (drop 1) e),
)

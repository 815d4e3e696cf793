-- The bytes of cycles.
use Rattle.std.proofs.Common.{◌≡◌, ℕ, suc, ◌+◌, ◌*◌, Bool, true, false, not, nat_eq, cond, List, [], ◌∷◌, ◌++◌, map, length, refl, sym, ap, ◌∙◌, arith, length-append, Option, Some, None, drop, is_some}
use Rattle.std.specs.Prelude.{count_by, flat_map, option_to_list, slice_get}
use Rattle.std.specs.Int.{from_bool}
use Rattle.std.proofs.lemmas.Bool.Decides.{nat_tests}
use Rattle.std.proofs.lemmas.List.{map-append}
use Rattle.std.proofs.lemmas.List.Sums.{sum_by-cons}
use Rattle.bitbang_protocol.specs.declared.Message.TheVariants.{Write}
use Rattle.bitbang_protocol.specs.declared.Cycle.{Cycle}
use Rattle.bitbang_protocol.specs.Protocol.{cycle_messages, encode}
use Rattle.bitbang_protocol.specs.Cycles.{closed_messages}
use Rattle.bitbang.specs.declared.begun.Begun.{Begun}
use Rattle.bitbang.specs.Left.{bytes_left, bytes_of, closing, rest}

pub bytes_more : (c : Cycle) (cs : List Cycle) → bytes_of (c ∷ cs) ≡ map encode (cycle_messages c) ++ bytes_of cs
bytes_more c cs = map-append encode (cycle_messages c) (flat_map cycle_messages cs)

-- ---- how many

length-cycle : (c : Cycle) (r : Bool) → c.read ≡ r → length (map encode (cycle_messages c)) ≡ 2 + cond c.read 1 0
length-cycle c true e = rw e refl
length-cycle c false e = rw e refl

pub length-bytes : (cs : List Cycle) → length (bytes_of cs) ≡ 2 * length cs + count_by (λ c. c.read) cs
length-bytes [] = refl
length-bytes (c ∷ cs) =
    let more = ap length (bytes_more c cs) in
    let parts = length-append (map encode (cycle_messages c)) (bytes_of cs) in
    let reads = sum_by-cons (λ (x : Cycle). cond x.read 1 0) c cs in
    omega (arith, more, parts, reads, length-cycle c c.read refl, length-bytes cs)

-- ---- the last byte

some_cycles : (n : ℕ) → not (nat_eq (suc n) 0) ≡ true
some_cycles n = grind (arith, nat_tests)

pub closed_bytes : (cs : List Cycle) → bytes_of cs ++ closing (not (nat_eq (length cs) 0)) ≡ map encode (closed_messages cs)
closed_bytes [] = refl
closed_bytes (c ∷ cs) =
    ap (λ b. bytes_of (c ∷ cs) ++ closing b) (some_cycles (length cs))
    ∙ sym (map-append encode (flat_map cycle_messages (c ∷ cs)) (Write false false false ∷ []))

pub length-closing : (b : Bool) → length (closing b) ≡ from_bool b
length-closing true = refl
length-closing false = refl

pub length-line : (o : Option ℕ) → length (option_to_list o) ≡ from_bool (is_some o)
length-line None = refl
length-line (Some b) = refl

pub length-left : (line : Option ℕ) (b : Begun) (cs : List Cycle) (cl : Bool)
    → length (bytes_left line b cs cl) ≡ from_bool (is_some line) + length (rest b) + (2 * length cs + count_by (λ c. c.read) cs) + from_bool cl
length-left line b cs cl =
    let a = length-append (option_to_list line) (rest b ++ (bytes_of cs ++ closing cl)) in
    let d = length-append (rest b) (bytes_of cs ++ closing cl) in
    let e = length-append (bytes_of cs) (closing cl) in
    omega (arith, a, d, e, length-line line, length-bytes cs, length-closing cl)

-- ---- behind the line and the cycle that is begun

pub first_none : {A : Type 0} (xs : List A) → slice_get xs 0 ≡ None → xs ≡ []
first_none [] e = refl
first_none (x ∷ xs) e = absurd (cc)

pub first_some : {A : Type 0} (xs : List A) (x : A) → slice_get xs 0 ≡ Some x → xs ≡ x ∷ drop 1 xs
first_some [] x e = absurd (cc)
first_some (y ∷ xs) x e = let same : y ≡ x = cc in ap (λ z. z ∷ xs) same

pub later_left : (line : Option ℕ) (b : Begun) (cs : List Cycle) (cl : Bool) → line ≡ None → slice_get (rest b) 0 ≡ None
    → bytes_left line b cs cl ≡ bytes_of cs ++ closing cl
later_left line b cs cl e f = rw (e, first_none (rest b) f) refl

pub first_cycle : (line : Option ℕ) (b : Begun) (cs : List Cycle) (cl : Bool) (c : Cycle) → line ≡ None → slice_get (rest b) 0 ≡ None
    → slice_get cs 0 ≡ Some c → slice_get (map encode (cycle_messages c)) 0 ≡ slice_get (bytes_left line b cs cl) 0
first_cycle line b cs cl c e f g = rw (later_left line b cs cl e f, first_some cs c g) refl

-- behind the last cycle
pub last_left : (line : Option ℕ) (b : Begun) (cs : List Cycle) (cl : Bool) → line ≡ None → slice_get (rest b) 0 ≡ None → cs ≡ []
    → bytes_left line b cs cl ≡ closing cl
last_left line b cs cl e f g = rw (later_left line b cs cl e f, g) refl

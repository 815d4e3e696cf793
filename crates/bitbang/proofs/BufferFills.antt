-- A buffer that is filled by pieces.
use Rattle.std.proofs.Common.{◌≡◌, ℕ, zero, suc, ◌+◌, ◌*◌, ◌-◌, ◌<◌, ◌≤◌, Bool, List, [], ◌∷◌, ◌++◌, length, take, drop, replicate, refl, sym, ap, ◌∙◌, append_assoc, arith, length-append, length-drop, Option, None}
use Rattle.std.specs.List.{range_with_len}
use Rattle.std.specs.Prelude.{map, slice_get}
use Rattle.std.proofs.Math.Seq.{drop-append_seam, drop-append-add, take-length}
use Rattle.std.proofs.lemmas.List.{append-nil, drop-drop, take-append-drop, replicate-append-replicate}
use Rattle.std.proofs.lemmas.List.FromFn.{map-range_with_len_more}
use Rattle.std.proofs.lemmas.List.Sums.{count_by-le-length}
use borrow.Rule.Slice.PartMut.{put_mid}
use Rattle.bitbang_protocol.specs.declared.Cycle.{Cycle}
use Rattle.bitbang.specs.declared.begun.Begun.{Begun}
use Rattle.bitbang.specs.Left.{Fills, bytes_left, bytes_of, bytes_of_cycle, closing, rest}
use Rattle.bitbang.proofs.CycleBytes.{bytes_more, later_left, length-bytes}

-- ---- the front of a list

take-none : (n : ℕ) (l : List ℕ) → l ≡ [] → take n l ≡ []
take-none zero l e = refl
take-none (suc n) [] e = refl
take-none (suc n) (x ∷ l) e = absurd (cc)

take-more : (n m : ℕ) (l : List ℕ) → take n l ++ take m (drop n l) ≡ take (n + m) l
take-more zero m l = let same : m ≡ 0 + m = omega arith in ap (λ k. take k l) same
take-more (suc n) m [] = take-none m [] refl ∙ sym (take-none (suc n + m) [] refl)
take-more (suc n) m (x ∷ l) = let same : suc (n + m) ≡ suc n + m = omega arith in ap (λ r. x ∷ r) (take-more n m l) ∙ ap (λ k. take k (x ∷ l)) same

length-take : (n : ℕ) (l : List ℕ) → n ≤ length l → length (take n l) ≡ n
length-take zero l le = refl
length-take (suc n) [] le = absurd (omega (arith, le))
length-take (suc n) (x ∷ l) le = let rest = length-take n l (omega (arith, le)) in omega (arith, rest)

drop-all : (k : ℕ) (l : List ℕ) → k ≡ length l → drop k l ≡ []
drop-all zero [] e = refl
drop-all zero (x ∷ l) e = absurd (omega (arith, e))
drop-all (suc k) [] e = refl
drop-all (suc k) (x ∷ l) e = drop-all k l (omega (arith, e))

take-seam : (xs ys : List ℕ) → take (length xs) (xs ++ ys) ≡ xs
take-seam [] ys = refl
take-seam (x ∷ xs) ys = ap (λ r. x ∷ r) (take-seam xs ys)

-- ---- pieces

filled_front : (waiting rest : List ℕ) (n : ℕ) → n ≤ length waiting → take n (take n waiting ++ rest) ≡ take n waiting
filled_front waiting rest zero h = refl
filled_front [] rest (suc n) h = absurd (omega arith)
filled_front (w ∷ waiting) rest (suc n) h = ap (λ r. w ∷ r) (filled_front waiting rest n (omega arith))

-- a piece that is given to the rest of a buffer
pub filled-more : (n m : ℕ) (all buffer old ys : List ℕ) → n ≤ length all → n ≤ length old → buffer ≡ take n all ++ drop n old
    → ys ≡ take m (drop n all) ++ drop m (take (length buffer - n) (drop n buffer))
    → put_mid n (length buffer - n) buffer ys ≡ take (n + m) all ++ drop (n + m) old
filled-more n m all buffer old ys some room filled piece =
    let front : take n buffer ≡ take n all = ap (take n) filled ∙ filled_front all (drop n old) n some in
    let long : length (take n all) ≡ n = length-take n all some in
    let behind : drop n buffer ≡ drop n old =
    ap (drop n) filled ∙ ap (λ k. drop k (take n all ++ drop n old)) (sym long) ∙ drop-append_seam (take n all) (drop n old) in
    let size : length buffer - n ≡ length (drop n buffer) = sym (length-drop n buffer) in
    let whole : take (length buffer - n) (drop n buffer) ≡ drop n old =
    ap (λ k. take k (drop n buffer)) size ∙ take-length (drop n buffer) ∙ behind in
    let none : drop (length buffer - n) (drop n buffer) ≡ [] = drop-all (length buffer - n) (drop n buffer) size in
    (λ i. front i ++ (piece i ++ none i))
    ∙ (λ i. take n all ++ append-nil (take m (drop n all) ++ drop m (whole i)) i)
    ∙ sym (append_assoc (take n all) (take m (drop n all)) (drop m (drop n old)))
    ∙ (λ i. take-more n m all i ++ drop-drop m n old i)

seam : (m w : ℕ) (l : List ℕ) → m ≤ w → drop m (take w l) ++ drop w l ≡ drop m l
seam zero w l h = take-append-drop w l
seam (suc m) zero l h = absurd (omega (arith, h))
seam (suc m) (suc w) [] h = refl
seam (suc m) (suc w) (x ∷ l) h = seam m w l (omega (arith, h))

-- a piece that is given to a part of the rest
pub filled-part : (n m w : ℕ) (all buffer old ys : List ℕ) → n ≤ length all → m ≤ w → buffer ≡ take n all ++ drop n old
    → ys ≡ take m (drop n all) ++ drop m (take w (drop n buffer)) → put_mid n w buffer ys ≡ take (n + m) all ++ drop (n + m) old
filled-part n m w all buffer old ys some fits filled piece =
    let front : take n buffer ≡ take n all = ap (take n) filled ∙ filled_front all (drop n old) n some in
    let long : length (take n all) ≡ n = length-take n all some in
    let behind : drop n buffer ≡ drop n old =
    ap (drop n) filled ∙ ap (λ k. drop k (take n all ++ drop n old)) (sym long) ∙ drop-append_seam (take n all) (drop n old) in
    (λ i. front i ++ (piece i ++ drop w (drop n buffer)))
    ∙ ap (λ l. take n all ++ l) (append_assoc (take m (drop n all)) (drop m (take w (drop n buffer))) (drop w (drop n buffer)))
    ∙ ap (λ l. take n all ++ (take m (drop n all) ++ l)) (seam m w (drop n buffer) fits ∙ ap (drop m) behind ∙ drop-drop m n old)
    ∙ sym (append_assoc (take n all) (take m (drop n all)) (drop (n + m) old))
    ∙ ap (λ l. l ++ drop (n + m) old) (take-more n m all)

-- the front of what was left was put to the front
pub fills-front : (before buffer after now front : List ℕ) (count : ℕ) → before ≡ front ++ now → count ≡ length front → count ≤ length buffer
    → after ≡ front ++ drop count buffer → 0 < count → Fills before buffer after now count
fills-front before buffer after now front count is counted room filled some =
    let taken : take count before ≡ front = (λ i. take (counted i) (is i)) ∙ take-seam front now in
    record {
      room = room;
      some = omega (arith, counted, ap length is, length-append front now);
      filled = filled ∙ ap (λ l. l ++ drop count buffer) (sym taken);
      left = sym ((λ i. drop (counted i) (is i)) ∙ drop-append_seam front now);
      none = λ _ e. absurd (omega (arith, e, some));
    }

-- ---- the bytes of cycles

pub bytes-append : (cs ds : List Cycle) → bytes_of (cs ++ ds) ≡ bytes_of cs ++ bytes_of ds
bytes-append [] ds = refl
bytes-append (c ∷ cs) ds =
    bytes_more c (cs ++ ds) ∙ ap (λ l. bytes_of_cycle c ++ l) (bytes-append cs ds)
    ∙ sym (append_assoc (bytes_of_cycle c) (bytes_of cs) (bytes_of ds)) ∙ ap (λ l. l ++ bytes_of ds) (sym (bytes_more c cs))

pub most-bytes : (cs : List Cycle) → length (bytes_of cs) ≤ 3 * length cs
most-bytes cs = omega (arith, length-bytes cs, count_by-le-length {X = Cycle} (λ x. x.read) cs)

pub some-bytes : (cs : List Cycle) → 0 < length cs → 0 < length (bytes_of cs)
some-bytes cs h = omega (arith, h, length-bytes cs)

last-bytes : (cs : List Cycle) (c : Cycle) → bytes_of (cs ++ c ∷ []) ≡ bytes_of cs ++ bytes_of_cycle c
last-bytes cs c = bytes-append cs (c ∷ []) ∙ ap (λ l. bytes_of cs ++ l) (bytes_more c [] ∙ append-nil (bytes_of_cycle c))

pub once-more : (n : ℕ) (c : Cycle) → bytes_of (replicate (n + 1) c) ≡ bytes_of (replicate n c) ++ bytes_of_cycle c
once-more n c = ap bytes_of (sym (replicate-append-replicate n 1 c)) ∙ last-bytes (replicate n c) c

pub next-shift : (f : ℕ → Cycle) (n : ℕ) → bytes_of (map f (range_with_len 0 (n + 1))) ≡ bytes_of (map f (range_with_len 0 n)) ++ bytes_of_cycle (f n)
next-shift f n =
    let end : 0 + n ≡ n = omega arith in
    ap bytes_of (map-range_with_len_more f 0 n n end) ∙ last-bytes (map f (range_with_len 0 n)) (f n)

-- one more cycle is put behind those that are there
pub put-more : (front piece buffer old after : List ℕ) (n m : ℕ) → n ≡ length front → m ≡ n + length piece → buffer ≡ front ++ drop n old
    → after ≡ take n buffer ++ piece ++ drop m buffer → after ≡ front ++ piece ++ drop m old
put-more front piece buffer old after n m counted behind is put =
    let head : take n buffer ≡ front = (λ i. take (counted i) (is i)) ∙ take-seam front (drop n old) in
    let at : m ≡ length front + length piece = omega (arith, counted, behind) in
    let back : n + length piece ≡ m = sym behind in
    let tail : drop m buffer ≡ drop m old =
    (λ i. drop (at i) (is i)) ∙ drop-append-add front (drop n old) (length piece) ∙ drop-drop (length piece) n old ∙ ap (λ k. drop k old) back in
    put ∙ (λ i. head i ++ piece ++ tail i)

-- whole cycles at the front of what is left
pub cycles-first : (line : Option ℕ) (b : Begun) (cs first later : List Cycle) (cl : Bool) → line ≡ None → slice_get (rest b) 0 ≡ None
    → cs ≡ first ++ later → bytes_left line b cs cl ≡ bytes_of first ++ bytes_left line b later cl
cycles-first line b cs first later cl e f is =
    later_left line b cs cl e f
    ∙ ap (λ ds. bytes_of ds ++ closing cl) is
    ∙ ap (λ l. l ++ closing cl) (bytes-append first later)
    ∙ append_assoc (bytes_of first) (bytes_of later) (closing cl)
    ∙ ap (λ l. bytes_of first ++ l) (sym (later_left line b later cl e f))

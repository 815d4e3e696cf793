-- Cycles that are served at once are served as byte by byte.
use mir.Val.{bool_byte}
use Rattle.std.proofs.Common.{◌≡◌, ℕ, zero, suc, ◌+◌, ◌-◌, ◌*◌, ◌/◌, ◌%◌, ◌^◌, ◌<◌, ◌≤◌, ⊎_elim, Bool, true, false, ◌||◌, ◌&&◌, not, List, [], ◌∷◌, ◌++◌, append_assoc, append-nil, length, length-append, ◌==◌, take, drop, map, set, refl, sym, ap, ap₂, subst, ◌∙◌, arith, if◌then◌else◌, nat_eq}
use Rattle.std.specs.Int.Bits.{bit_and, bit_or}
use Rattle.std.proofs.lemmas.Bool.{cases_lt}
use Rattle.std.proofs.lemmas.Bool.Decides.{nat_tests}
use Rattle.std.proofs.lemmas.Nat.Bits.{bit_at_above, bit_at-zero}
use Rattle.std.proofs.lemmas.List.{length-map, map-append, take_all, take_more_set}
use Rattle.std.proofs.lemmas.List.FromFn.{map-range_with_len_more}
use Rattle.jt_bits.specs.Packed.{has_bit}
use Rattle.jt_bits.specs.Words.{bit_of}
use Rattle.jt_bits.proofs.PackedWords.{bit_read, or_bit, shl_high, shl_low}
use Rattle.std.specs.Prelude.{Option, Some, None, slice_index_or}
use Rattle.bitbang_protocol.specs.declared.Cycle.{Cycle}
use Rattle.bitbang_protocol.specs.declared.Message.{Message}
use Rattle.bitbang_protocol.specs.declared.Message.TheVariants.{Write}
use Rattle.bitbang_protocol.specs.Cycles.{closed_messages}
use Rattle.bitbang_protocol.specs.Protocol.{answer, decode}
use Rattle.board_model.specs.Chain.{BoardState, ChipState, Heard, after_message, fall, hear, members, reply_of, rise_all, tdi_before}
use Rattle.board_model.specs.declared.Reply.{Reply}
use Rattle.board_model.specs.declared.Reply.TheVariants as said
use Rattle.board_model.specs.Nets.{told}
use Rattle.jt_board.specs.Words.{word_bits}
use Rattle.jt_board.proofs.Rows.{bit-left, bit-right}
use Rattle.jt_bits.proofs.WordShifts.{length-word}
use Rattle.jt_board.proofs.WordLaws.{is_front}
use Rattle.jt_board.specs.Shifting.{shift_cycles, shifts}
use Rattle.play_links.specs.Leaving.{left_after, left_behind}
use Rattle.play_links.specs.Serves.{ServedBytes, serve_bytes, serve_one}
use Rattle.play_links.specs.Shifts.{AreCycles, IsCycle, IsRun, after_cycle, answered, asked, heard, picked, writes_low}

-- ---- many

heard-more : (cs : List Cycle) (c : Cycle) (b : BoardState)
    → heard (cs ++ c ∷ []) b ≡ record { answers = (heard cs b).answers ++ asked c.read (heard cs b).board; board = after_cycle c.tdi (heard cs b).board }
heard-more [] c b = λ i. record { answers = append-nil (asked c.read b) i; board = after_cycle c.tdi b }
heard-more (x ∷ cs) c b =
    let first = after_cycle x.tdi b in
    let rest = heard-more cs c first in
    (λ i. record { answers = asked x.read b ++ (rest i).answers; board = (rest i).board })
    ∙ (λ i. record {
      answers = sym (append_assoc (asked x.read b) (heard cs first).answers (asked c.read (heard cs first).board)) i;
      board = after_cycle c.tdi (heard cs first).board;
    })

answered-twice : (xs ys : List Bool) (s : ServedBytes) → answered xs (answered ys s) ≡ answered (xs ++ ys) s
answered-twice xs ys s = λ i. record s {
  answers = (sym (append_assoc (map answer xs) (map answer ys) s.answers) ∙ ap (λ (l : List ℕ). l ++ s.answers) (sym (map-append answer xs ys))) i;
}

pub none_served : (bytes : List ℕ) → AreCycles [] bytes bytes
none_served bytes b = (refl, refl)

pub one_more : (cs : List Cycle) (c : Cycle) (bytes middle rest : List ℕ) → AreCycles cs bytes middle → IsCycle c middle rest → AreCycles (cs ++ c ∷ []) bytes rest
one_more cs c bytes middle rest are is b =
    let h = heard cs b in (
      (are b).0 ∙ ap (answered h.answers) (is h.board).0
          ∙ answered-twice h.answers (asked c.read h.board) (serve_bytes rest (after_cycle c.tdi h.board))
          ∙ ap (λ (k : Heard). answered k.answers (serve_bytes rest k.board)) (sym (heard-more cs c b)),
      (are b).1 ∙ (is h.board).1 ∙ ap (λ (k : Heard). left_behind rest k.board) (sym (heard-more cs c b)),
    )

-- ---- one

low_is : (o : Option Message) → writes_low o ≡ true → (tms : Bool) × (tdi : Bool) × (o ≡ Some (Write false tms tdi))
low_is (Some (Write false tms tdi)) h = (tms, tdi, refl)
low_is _ h = cc

abbrev after_as : Option Message → BoardState → BoardState
after_as o b = elim o [ Some m ↦ after_message m b | None ↦ b ]

abbrev reply_as : ℕ → Option Message → BoardState → Reply
reply_as byte o b = elim o [ Some m ↦ reply_of m b | None ↦ said.Refused byte ]

abbrev served_as : (high low : ℕ) (rest : List ℕ) → BoardState → (o p : Option Message) → ServedBytes
served_as high low rest b o p =
    serve_one (reply_as high o b)
    (serve_one (reply_as low p (after_as o b)) (serve_bytes rest (after_as p (after_as o b))) (after_as p (after_as o b))) (after_as o b)

abbrev left_as : (high low : ℕ) (rest : List ℕ) → BoardState → (o p : Option Message) → List ℕ
left_as high low rest b o p =
    left_after (reply_as high o b) (low ∷ rest)
    (left_after (reply_as low p (after_as o b)) rest (left_behind rest (after_as p (after_as o b))))

-- two edges at the front, and TDO not read
pub edges_are : (c : Cycle) (bytes : List ℕ) → c.read ≡ false → decode (slice_index_or bytes 0 0) ≡ Some (Write true false c.tdi)
    → writes_low (decode (slice_index_or bytes 1 0)) ≡ true → IsCycle c bytes (drop 2 bytes)
edges_are c [] silent rise falls b = absurd cc
edges_are c (x ∷ []) silent rise falls b = absurd cc
edges_are c (high ∷ low ∷ rest) silent rise falls b =
    let fall = low_is (decode low) falls in (
      ap₂ (served_as high low rest b) rise fall.2
          ∙ ap (λ (read : Bool). answered (asked read b) (serve_bytes rest (after_cycle c.tdi b))) (sym silent),
      ap₂ (left_as high low rest b) rise fall.2,
    )

-- ---- the bits that are read

abbrev tdis_of : List Cycle → List Bool
tdis_of cs = map (λ c. c.tdi) cs

abbrev reads_of : List Cycle → List Bool
reads_of cs = map (λ c. c.read) cs

pick-one : (r b : Bool) (rest : List Bool) → (if r then b ∷ [] else []) ++ rest ≡ (if r then b ∷ rest else rest)
pick-one true b rest = refl
pick-one false b rest = refl

-- what is heard of cycles of which some read is that of what all read
heard-picked : (cs : List Cycle) (b : BoardState)
    → heard cs b ≡ record { answers = picked (reads_of cs) (heard (shift_cycles (tdis_of cs)) b).answers; board = (heard (shift_cycles (tdis_of cs)) b).board }
heard-picked [] b = refl
heard-picked (c ∷ cs) b =
    let next = after_cycle c.tdi b in
    let rest = heard-picked cs next in
    (λ i. record { answers = asked c.read b ++ (rest i).answers; board = (rest i).board })
    ∙ (λ i. record {
      answers = pick-one c.read (tdi_before true b.chips) (picked (reads_of cs) (heard (shift_cycles (tdis_of cs)) next).answers) i;
      board = (heard (shift_cycles (tdis_of cs)) next).board;
    })

abbrev low_board : BoardState → List ChipState → BoardState
low_board b cs = record { tck = false; trst = b.trst; nets = b.nets; chips = cs }

-- the messages of cycles, each closed by the next
heard-messages : (ts : List Bool) (b : BoardState) (cs : List ChipState)
    → hear (closed_messages (shift_cycles ts)) (low_board b cs) ≡ heard (shift_cycles ts) (low_board b cs)
heard-messages [] b cs = refl
heard-messages (t ∷ []) b cs = refl
heard-messages (t ∷ u ∷ us) b cs =
    ap (λ (h : Heard). record { answers = tdi_before true cs ∷ h.answers; board = h.board })
    (heard-messages (u ∷ us) b (map fall (rise_all b.trst false t (told b.nets (members cs)) 0 cs)))

heard-all : (ts : List Bool) (b : BoardState) → b.tck ≡ false → hear (closed_messages (shift_cycles ts)) b ≡ heard (shift_cycles ts) b
heard-all ts b low =
    ap (hear (closed_messages (shift_cycles ts))) (λ i. record b { tck = low i })
    ∙ heard-messages ts b b.chips
    ∙ ap (heard (shift_cycles ts)) (λ i. record b { tck = sym low i })

off : (x y : Bool) → (not x && y) ≡ true → x ≡ false
off true y h = cc
off false y h = refl

-- A run that a board took at once: what is heard of its cycles is what the board gave.
run_heard : (tdi reads n out : ℕ) (bytes rest : List ℕ) (b after : BoardState) → (run : IsRun tdi reads n bytes rest) → shifts b ≡ true
    → hear (closed_messages (shift_cycles (word_bits tdi n))) b ≡ record { answers = word_bits out n; board = after }
    → heard run.cycles b ≡ record { answers = picked (word_bits reads n) (word_bits out n); board = after }
run_heard tdi reads n out bytes rest b after run shift e =
    let cs = run.cycles in
    let all : heard (shift_cycles (tdis_of cs)) b ≡ record { answers = word_bits out n; board = after } =
    sym (heard-all (tdis_of cs) b (off b.tck _ shift)) ∙ ap (λ (ts : List Bool). hear (closed_messages (shift_cycles ts)) b) (sym run.tdis) ∙ e in
    heard-picked cs b ∙ (λ i. record { answers = picked (sym run.asks i) (all i).answers; board = (all i).board })

pub run_served : (tdi reads n out : ℕ) (bytes rest : List ℕ) (b after : BoardState) → IsRun tdi reads n bytes rest → shifts b ≡ true
    → hear (closed_messages (shift_cycles (word_bits tdi n))) b ≡ record { answers = word_bits out n; board = after }
    → serve_bytes bytes b ≡ answered (picked (word_bits reads n) (word_bits out n)) (serve_bytes rest after)
run_served tdi reads n out bytes rest b after run shift e =
    (run.are b).0
    ∙ ap (λ (h : Heard). answered h.answers (serve_bytes rest h.board)) (run_heard tdi reads n out bytes rest b after run shift e)

pub run_left : (tdi reads n out : ℕ) (bytes rest : List ℕ) (b after : BoardState) → IsRun tdi reads n bytes rest → shifts b ≡ true
    → hear (closed_messages (shift_cycles (word_bits tdi n))) b ≡ record { answers = word_bits out n; board = after }
    → left_behind bytes b ≡ left_behind rest after
run_left tdi reads n out bytes rest b after run shift e =
    (run.are b).1 ∙ ap (λ (h : Heard). left_behind rest h.board) (run_heard tdi reads n out bytes rest b after run shift e)

-- ---- words that are collected

abbrev test : ℕ → Bool
test k = k == 1

no-bit : (j : ℕ) → has_bit 0 j ≡ false
unfolding has_bit
no-bit j = ap test (bit_at-zero j)

-- these bits are the lowest of a word, and the others 0
pub record Holds (word : ℕ) (bits : List Bool) : Type 0 where
  pub each : (j : ℕ) → j < 64 → has_bit word j ≡ bit_of bits j

pub holds_none : Holds 0 []
holds_none = record { each = λ j h. no-bit j }

one-bit : (j : ℕ) → has_bit 1 j ≡ bit_of (true ∷ []) j
unfolding has_bit
one-bit zero = refl
one-bit (suc j) = ap test (bit_at_above 1 1 (suc j) (omega arith) (omega arith))

pub holds_one : (word : ℕ) (t : Bool) → word ≡ bool_byte t → Holds word (t ∷ [])
holds_one word t is = subst (λ (n : ℕ). Holds n (t ∷ [])) (sym is) (one t)
  where
    none : (j : ℕ) → false ≡ bit_of (false ∷ []) j
    none zero = refl
    none (suc j) = refl

    one : (t : Bool) → Holds (bool_byte t) (t ∷ [])
    one false = record { each = λ j h. no-bit j ∙ none j }
    one true = record { each = λ j h. one-bit j }

bit-past : (xs : List Bool) (i : ℕ) → length xs ≤ i → bit_of xs i ≡ false
bit-past [] i h = refl
bit-past (x ∷ xs) zero h = absurd (omega arith)
bit-past (x ∷ xs) (suc i) h = bit-past xs i (omega arith)

-- a word put behind the bits of another
pub holds_both : (out word n : ℕ) (xs ys : List Bool) → length xs ≡ n → n < 64 → Holds out xs → Holds word ys → Holds (bit_or out (word * 2 ^ n % 2 ^ 64)) (xs ++ ys)
holds_both out word n xs ys long less first next = record {
  each = λ j h.
      or_bit out (word * 2 ^ n % 2 ^ 64) j
      ∙ ⊎_elim
      (λ (low : j < n).
      ap (λ (b : Bool). has_bit out j || b) (shl_low word n j h low) ∙ or-none (has_bit out j) ∙ first.each j h
      ∙ sym (bit-left xs ys j (omega arith)))
      (λ (high : n ≤ j).
      let e : length xs + (j - n) ≡ j = omega arith in
      ap (λ (b : Bool). b || has_bit (word * 2 ^ n % 2 ^ 64) j) (first.each j h ∙ bit-past xs j (omega arith))
      ∙ shl_high word n j h high ∙ next.each (j - n) (omega arith)
      ∙ sym (bit-right xs ys (j - n)) ∙ ap (bit_of (xs ++ ys)) e)
      (cases_lt j n);
}
  where
    or-none : (b : Bool) → (b || false) ≡ b
    or-none true = refl
    or-none false = refl

held : (word : ℕ) (bits : List Bool) (n : ℕ) → length bits ≡ n → n ≤ 64 → Holds word bits → word_bits word n ≡ bits
held word bits n long few holds =
    is_front word n bits (omega arith) (λ j h. holds.each j (omega arith)) ∙ take_all n bits (omega arith)

-- a run so far
pub record Runs (tdi reads n : ℕ) (bytes rest : List ℕ) : Type 0 where
  pub cycles : List Cycle
  pub long : length cycles ≡ n
  pub tdis : Holds tdi (tdis_of cycles)
  pub asks : Holds reads (reads_of cycles)
  pub are : AreCycles cycles bytes rest
  pub few : n ≤ 64
  pub room : n + length rest ≤ length bytes

pub runs_none : (bytes : List ℕ) → Runs 0 0 0 bytes bytes
runs_none bytes = record {
  cycles = [];
  long = refl;
  tdis = holds_none;
  asks = holds_none;
  are = none_served bytes;
  few = omega arith;
  room = omega arith;
}

pub runs_more : (tdi reads n : ℕ) (bytes middle rest : List ℕ) (c : Cycle) (t k : ℕ) → t ≡ bool_byte c.tdi → k ≡ bool_byte c.read → n < 64
    → Runs tdi reads n bytes middle → IsCycle c middle rest → 1 + length rest ≤ length middle
    → Runs (bit_or tdi (t * 2 ^ n % 2 ^ 64)) (bit_or reads (k * 2 ^ n % 2 ^ 64)) (n + 1) bytes rest
runs_more tdi reads n bytes middle rest c t k t_is k_is less r is shorter = record {
  cycles = r.cycles ++ c ∷ [];
  long = length-append r.cycles (c ∷ []) ∙ (let e = r.long in omega (arith, e));
  tdis = subst (Holds _) (sym (map-append (λ (x : Cycle). x.tdi) r.cycles (c ∷ [])))
      (holds_both tdi t n (tdis_of r.cycles) (c.tdi ∷ []) (length-map r.cycles (λ (x : Cycle). x.tdi) ∙ r.long) less r.tdis (holds_one t c.tdi t_is));
  asks = subst (Holds _) (sym (map-append (λ (x : Cycle). x.read) r.cycles (c ∷ [])))
      (holds_both reads k n (reads_of r.cycles) (c.read ∷ []) (length-map r.cycles (λ (x : Cycle). x.read) ∙ r.long) less r.asks (holds_one k c.read k_is));
  are = one_more r.cycles c bytes middle rest r.are is;
  few = omega arith;
  room = omega (arith, r.room);
}

pub run_of : (tdi reads n : ℕ) (bytes rest : List ℕ) → Runs tdi reads n bytes rest → IsRun tdi reads n bytes rest
run_of tdi reads n bytes rest r = record {
  cycles = r.cycles;
  tdis = held tdi (tdis_of r.cycles) n (length-map r.cycles (λ (x : Cycle). x.tdi) ∙ r.long) r.few r.tdis;
  asks = held reads (reads_of r.cycles) n (length-map r.cycles (λ (x : Cycle). x.read) ∙ r.long) r.few r.asks;
  are = r.are;
  few = r.few;
  room = r.room;
}

-- ---- the answers

picked-more : (rs bs : List Bool) (r b : Bool) → length rs ≡ length bs → picked (rs ++ r ∷ []) (bs ++ b ∷ []) ≡ picked rs bs ++ (if r then b ∷ [] else [])
picked-more [] [] true b long = refl
picked-more [] [] false b long = refl
picked-more [] (y ∷ bs) r b long = absurd (omega arith)
picked-more (x ∷ rs) [] r b long = absurd (omega arith)
picked-more (true ∷ rs) (y ∷ bs) r b long = ap (λ (l : List Bool). y ∷ l) (picked-more rs bs r b (omega arith))
picked-more (false ∷ rs) (y ∷ bs) r b long = picked-more rs bs r b (omega arith)

word-more : (word k : ℕ) → word_bits word (k + 1) ≡ word_bits word k ++ has_bit word k ∷ []
unfolding word_bits
word-more word k = map-range_with_len_more (has_bit word) 0 k k (omega arith)

pub picked_next : (reads out k : ℕ) → picked (word_bits reads (k + 1)) (word_bits out (k + 1))
    ≡ picked (word_bits reads k) (word_bits out k) ++ (if has_bit reads k then has_bit out k ∷ [] else [])
picked_next reads out k =
    ap₂ picked (word-more reads k) (word-more out k)
    ∙ picked-more (word_bits reads k) (word_bits out k) (has_bit reads k) (has_bit out k) (length-word reads k ∙ sym (length-word out k))

differs : (n : ℕ) → (n ≡ 1 → ⊥) → nat_eq n 1 ≡ false
differs n apart = grind (arith, nat_tests)

pub picked_none : (reads out : ℕ) (front : List ℕ) → front ≡ front ++ map answer (picked (word_bits reads 0) (word_bits out 0))
unfolding word_bits
picked_none reads out front = sym (append-nil front)

module _ (first now : List ℕ) (count at reads out k : ℕ)
    (taken : take at now ≡ take count first ++ map answer (picked (word_bits reads k) (word_bits out k))) where
  abbrev next : List Bool
  next = picked (word_bits reads k) (word_bits out k)

  grown : (r : Bool) → nat_eq (bit_and (reads / 2 ^ k) 1) 1 ≡ r
      → picked (word_bits reads (k + 1)) (word_bits out (k + 1)) ≡ next ++ (if r then has_bit out k ∷ [] else [])
  grown r is =
      picked_next reads out k ∙ ap (λ (b : Bool). next ++ (if b then has_bit out k ∷ [] else [])) (sym (bit_read reads k) ∙ is)

  pub put_yes : (news : List ℕ) (after byte : ℕ) → at < length now → bit_and (reads / 2 ^ k) 1 ≡ 1
      → byte ≡ answer (nat_eq (bit_and (out / 2 ^ k) 1) 1) → news ≡ set now at byte → after ≡ at + 1
      → take after news ≡ take count first ++ map answer (picked (word_bits reads (k + 1)) (word_bits out (k + 1)))
  put_yes news after byte inside reads_it is stored moved =
      ap₂ take moved stored ∙ take_more_set now at byte inside
      ∙ ap₂ (λ (l : List ℕ) (x : ℕ). l ++ x ∷ []) taken (is ∙ ap answer (bit_read out k))
      ∙ append_assoc (take count first) (map answer next) (answer (has_bit out k) ∷ [])
      ∙ ap (λ (l : List ℕ). take count first ++ l) (sym (map-append answer next (has_bit out k ∷ [])))
      ∙ ap (λ (l : List Bool). take count first ++ map answer l) (sym (grown true (ap (λ (n : ℕ). nat_eq n 1) reads_it)))

  pub put_no : (news : List ℕ) (after : ℕ) → (bit_and (reads / 2 ^ k) 1 ≡ 1 → ⊥) → news ≡ now → after ≡ at
      → take after news ≡ take count first ++ map answer (picked (word_bits reads (k + 1)) (word_bits out (k + 1)))
  put_no news after skips same stays =
      ap₂ take stays same ∙ taken
      ∙ ap (λ (l : List Bool). take count first ++ map answer l) (sym (append-nil next) ∙ sym (grown false (differs (bit_and (reads / 2 ^ k) 1) skips)))

-- Runs of bits that are put at once.
use Rattle.std.proofs.Common.{◌≡◌, ◌≢◌, ℕ, zero, suc, ◌+◌, ◌-◌, ◌*◌, ◌/◌, ◌%◌, ◌^◌, ◌<◌, ◌≤◌, ◌⊎◌, ⊎_elim, Bool, true, false, not, ◌||◌, ◌&&◌, ◌==◌, nat_lt, if◌then◌else◌, List, ◌++◌, length, take, drop, set, get_or, slice_index, refl, sym, ap, subst, ◌∙◌, arith}
use Rattle.std.specs.Int.{bit_at, bit_not, w64}
use Rattle.std.specs.Int.Bits.{bit_and, bit_or}
use Rattle.std.proofs.Math.Nat.{mod-eq_of_lt, add-mod_left}
use Rattle.std.proofs.Math.Seq.{get_or-append_right}
use Rattle.std.proofs.lemmas.Bool.{cases_eq, cases_lt}
use Rattle.std.proofs.lemmas.Bool.Decides.{nat_tests}
use Rattle.std.proofs.lemmas.Nat.Bits.{bit_at-lt, bit_at_not, bit_at_ones}
use Rattle.std.proofs.lemmas.List.{get_or-set_same, get_or-set_other, get_or-take, get_or-drop, get_or_append_left, length-take, length-append, length-drop}
use Rattle.std.proofs.lemmas.List.FromFn.{fill_by_all}
use Rattle.jt_bits.specs.Packed.{has_bit, packed_bit, bits_in_words, RunPut}
use Rattle.jt_bits.specs.Runs.{RunSet, copied}
use Rattle.jt_bits.specs.Words.{bit_of}
use Rattle.jt_bits.proofs.Lists.{bit_of-get_or}
use Rattle.jt_bits.proofs.PackedWords.{ring_distinct, ring_add, listed-length, listed-get, or_bit, and_bit, shl_low, shl_high, shr_bit, above, eq_true, eq_false}

-- ---- one word

pub not_bit : (mask j : ℕ) → mask < 2 ^ 64 → j < 64 → has_bit (bit_not w64 mask) j ≡ not (has_bit mask j)
unfolding has_bit
not_bit mask j fits h = ap (λ (n : ℕ). n == 1) (bit_at_not w64 mask j fits h) ∙ flip (bit_at mask j) (bit_at-lt mask j)
  where
    flip : (a : ℕ) → a < 2 → ((1 - a) == 1) ≡ not (a == 1)
    flip zero h = refl
    flip (suc zero) h = refl
    flip (suc (suc a)) h = absurd (omega arith)

chosen : (old new mask : Bool) → ((old && not mask) || (new && mask)) ≡ if mask then new else old
chosen true true true = refl
chosen true true false = refl
chosen true false true = refl
chosen true false false = refl
chosen false true true = refl
chosen false true false = refl
chosen false false true = refl
chosen false false false = refl

abbrev merged : (word bits mask : ℕ) → ℕ
merged word bits mask = bit_or (bit_and word (bit_not w64 mask)) (bit_and bits mask)

merged_bit : (word bits mask j : ℕ) → mask < 2 ^ 64 → j < 64 → has_bit (merged word bits mask) j ≡ if has_bit mask j then has_bit bits j else has_bit word j
merged_bit word bits mask j fits h =
    or_bit (bit_and word (bit_not w64 mask)) (bit_and bits mask) j
    ∙ ap (λ (b : Bool). b || has_bit (bit_and bits mask) j) (and_bit word (bit_not w64 mask) j ∙ ap (λ (b : Bool). has_bit word j && b) (not_bit mask j fits h))
    ∙ ap (λ (b : Bool). (has_bit word j && not (has_bit mask j)) || b) (and_bit bits mask j)
    ∙ chosen (has_bit word j) (has_bit bits j) (has_bit mask j)

abbrev pub Masked : (old new : List ℕ) (k bits mask : ℕ) → Type 0
Masked old new k bits mask = (q : ℕ) → packed_bit new q ≡ if q / 64 == k && has_bit mask (q % 64) then has_bit bits (q % 64) else packed_bit old q

pub masked_put : (words : List ℕ) (k bits mask : ℕ) → k < length words → mask < 2 ^ 64 → Masked words (set words k (merged (slice_index words k) bits mask)) k bits mask
unfolding packed_bit
masked_put words k bits mask inside fits q =
    let after = merged (slice_index words k) bits mask in
    ⊎_elim
    (λ (same : q / 64 ≡ k).
    rw (eq_true (q / 64) k same)
    (ap (λ (n : ℕ). has_bit (get_or (set words k after) n 0) (q % 64)) same
    ∙ ap (λ (x : ℕ). has_bit x (q % 64)) (get_or-set_same words k after 0 inside)
    ∙ merged_bit (slice_index words k) bits mask (q % 64) fits (omega arith)
    ∙ ap (λ (n : ℕ). if has_bit mask (q % 64) then has_bit bits (q % 64) else has_bit (get_or words n 0) (q % 64)) (sym same)))
    (λ other. rw (eq_false (q / 64) k other) (ap (λ (x : ℕ). has_bit x (q % 64)) (get_or-set_other words k (q / 64) after 0 other)))
    (cases_eq (q / 64) k)

masked_in : (old new : List ℕ) (k bits mask : ℕ) → Masked old new k bits mask → (q : ℕ) → q / 64 ≡ k → has_bit mask (q % 64) ≡ true → packed_bit new q ≡ has_bit bits (q % 64)
masked_in old new k bits mask put q same taken =
    put q ∙ choose (q / 64 == k) (has_bit mask (q % 64)) (eq_true (q / 64) k same) taken
  where
    choose : (a b : Bool) → a ≡ true → b ≡ true → (if a && b then has_bit bits (q % 64) else packed_bit old q) ≡ has_bit bits (q % 64)
    choose a b e f = rw (e, f) refl

masked_word : (old new : List ℕ) (k bits mask : ℕ) → Masked old new k bits mask → (q : ℕ) → q / 64 ≢ k → packed_bit new q ≡ packed_bit old q
masked_word old new k bits mask put q other =
    put q ∙ choose (q / 64 == k) (has_bit mask (q % 64)) (eq_false (q / 64) k other)
  where
    choose : (a b : Bool) → a ≡ false → (if a && b then has_bit bits (q % 64) else packed_bit old q) ≡ packed_bit old q
    choose a b e = rw e refl

masked_out : (old new : List ℕ) (k bits mask : ℕ) → Masked old new k bits mask → (q : ℕ) → has_bit mask (q % 64) ≡ false → packed_bit new q ≡ packed_bit old q
masked_out old new k bits mask put q left = put q ∙ choose (q / 64 == k) (has_bit mask (q % 64)) left
  where
    choose : (a b : Bool) → b ≡ false → (if a && b then has_bit bits (q % 64) else packed_bit old q) ≡ packed_bit old q
    choose true b e = rw e refl
    choose false b e = refl

-- ---- a run of bits in one word or two

pub marks_of : (mask n : ℕ) → ((j : ℕ) → j < 64 → has_bit mask j ≡ if nat_lt j n then has_bit (2 ^ 64 - 1) j else false) → (j : ℕ) → j < 64 → has_bit mask j ≡ nat_lt j n
unfolding has_bit
marks_of mask n is j h = is j h ∙ ap (λ (x : ℕ). if nat_lt j n then x == 1 else false) (bit_at_ones 64 j h) ∙ whole (nat_lt j n)
  where
    whole : (b : Bool) → (if b then 1 == 1 else false) ≡ b
    whole true = refl
    whole false = refl

module _ (old mid new : List ℕ) (place bits n mask : ℕ) (inside : place < 64 * length old) (few : n ≤ 64) (fits : mask < 2 ^ 64)
    (marks : (j : ℕ) → j < 64 → has_bit mask j ≡ nat_lt j n)
    (first : Masked old mid (place / 64) (bits * 2 ^ (place % 64) % 2 ^ 64) (mask * 2 ^ (place % 64) % 2 ^ 64)) where
  abbrev below : ℕ
  below = place % 64

  abbrev room : ℕ
  room = 64 * length old

  marked : (j : ℕ) → j < n → has_bit mask j ≡ true
  marked j h = marks j (omega arith) ∙ grind (arith, nat_tests)

  unmarked : (j : ℕ) → n ≤ j → has_bit mask j ≡ false
  unmarked j h = ⊎_elim
      (λ (in_ : j < 64). marks j in_ ∙ grind (arith, nat_tests))
      (λ past. above mask j fits past)
      (cases_lt j 64)

  stays : (j : ℕ) → below + j < 64 → (place + j) % room ≡ place + j
  stays j h = mod-eq_of_lt (omega arith)

  mid_here : (j : ℕ) → j < n → below + j < 64 → packed_bit mid (place + j) ≡ has_bit bits j
  mid_here j h low =
      let q = place + j in
      let back : q % 64 - below ≡ j = omega arith in
      masked_in old mid (place / 64) (bits * 2 ^ below % 2 ^ 64) (mask * 2 ^ below % 2 ^ 64) first q (omega arith)
      (shl_high mask below (q % 64) (omega arith) (omega arith) ∙ ap (has_bit mask) back ∙ marked j h)
      ∙ shl_high bits below (q % 64) (omega arith) (omega arith) ∙ ap (has_bit bits) back

  mid_others : (q : ℕ) → ((j : ℕ) → j < n → below + j < 64 → q ≢ place + j) → packed_bit mid q ≡ packed_bit old q
  mid_others q apart = ⊎_elim
      (λ (same : q / 64 ≡ place / 64). ⊎_elim
      (λ (low : q % 64 < below).
      masked_out old mid (place / 64) (bits * 2 ^ below % 2 ^ 64) (mask * 2 ^ below % 2 ^ 64) first q (shl_low mask below (q % 64) (omega arith) low))
      (λ (high : below ≤ q % 64). ⊎_elim
      (λ (taken : q % 64 - below < n). absurd (apart (q % 64 - below) taken (omega arith) (omega arith)))
      (λ (past : n ≤ q % 64 - below).
      masked_out old mid (place / 64) (bits * 2 ^ below % 2 ^ 64) (mask * 2 ^ below % 2 ^ 64) first q
      (shl_high mask below (q % 64) (omega arith) high ∙ unmarked (q % 64 - below) past))
      (cases_lt (q % 64 - below) n))
      (cases_lt (q % 64) below))
      (λ other. masked_word old mid (place / 64) (bits * 2 ^ below % 2 ^ 64) (mask * 2 ^ below % 2 ^ 64) first q other)
      (cases_eq (q / 64) (place / 64))

  pub run_even : below ≡ 0 → RunPut old mid place bits n
  run_even even = record {
    here = λ j h. ap (packed_bit mid) (stays j (omega arith)) ∙ mid_here j h (omega arith);
    others = λ q apart. mid_others q (λ j h low e. apart j h (e ∙ sym (stays j low)));
  }

  -- where the run goes on in the next word
  on : (next j : ℕ) → ((place / 64 + 1 ≡ length old) × (next ≡ 0)) ⊎ ((place / 64 + 1 ≢ length old) × (next ≡ place / 64 + 1)) → j < 64 → 64 ≤ below + j → (place + j) % room ≡ 64 * next + (below + j - 64)
  on next j is small high = ⊎_elim
      (λ last.
      let i = place + j - room in
      let round : place + j ≡ room + i = omega arith in
      let same : (room + i) % room ≡ i = add-mod_left room i ∙ mod-eq_of_lt (omega arith) in
      ap (λ (m : ℕ). m % room) round ∙ same ∙ omega arith)
      (λ more.
      let same : (place + j) % room ≡ place + j = mod-eq_of_lt (omega arith) in
      omega arith)
      is

  pub run_odd : (next : ℕ) → 0 < below → ((place / 64 + 1 ≡ length old) × (next ≡ 0)) ⊎ ((place / 64 + 1 ≢ length old) × (next ≡ place / 64 + 1))
      → Masked mid new next (bits / 2 ^ (64 - below)) (mask / 2 ^ (64 - below)) → RunPut old new place bits n
  run_odd next odd is second =
      let s = 64 - below in
      record {
        here = λ j h. ⊎_elim
            (λ (low : below + j < 64).
            let q = place + j in
            ap (packed_bit new) (stays j low)
            ∙ masked_out mid new next (bits / 2 ^ s) (mask / 2 ^ s) second q (shr_bit mask s (q % 64) ∙ above mask (s + q % 64) fits (omega arith))
            ∙ mid_here j h low)
            (λ (high : 64 ≤ below + j).
            let q = (place + j) % room in
            let at : q ≡ 64 * next + (below + j - 64) = on next j is (omega arith) high in
            let back : s + q % 64 ≡ j = omega (arith, at) in
            masked_in mid new next (bits / 2 ^ s) (mask / 2 ^ s) second q (omega (arith, at))
            (shr_bit mask s (q % 64) ∙ ap (has_bit mask) back ∙ marked j h)
            ∙ shr_bit bits s (q % 64) ∙ ap (has_bit bits) back)
            (cases_lt (below + j) 64);
        others = λ q apart.
            let before : packed_bit mid q ≡ packed_bit old q = mid_others q (λ j h low e. apart j h (e ∙ sym (stays j low))) in
            ⊎_elim
            (λ (same : q / 64 ≡ next). ⊎_elim
            (λ (taken : s + q % 64 < n).
            let at = on next (s + q % 64) is (omega arith) (omega arith) in
            absurd (apart (s + q % 64) taken (omega (arith, at))))
            (λ (past : n ≤ s + q % 64).
            masked_out mid new next (bits / 2 ^ s) (mask / 2 ^ s) second q (shr_bit mask s (q % 64) ∙ unmarked (s + q % 64) past) ∙ before)
            (cases_lt (s + q % 64) n))
            (λ other. masked_word mid new next (bits / 2 ^ s) (mask / 2 ^ s) second q other ∙ before)
            (cases_eq (q / 64) next);
      }

-- ---- a run of a list

pub run_set : (words new : List ℕ) (start len at place bits n : ℕ) → length new ≡ length words → len ≤ 64 * length words → start < 64 * length words
    → at + n ≤ len → place ≡ (start + at) % (64 * length words) → RunPut words new place bits n → RunSet (bits_in_words words start len) (bits_in_words new start len) at bits n
run_set words new start len at place bits n same in_ s inside is put =
    let room = 64 * length words in
    let get : (i : ℕ) → i < len → bit_of (bits_in_words new start len) i ≡ packed_bit new ((start + i) % room) =
    λ i h. bit_of-get_or (bits_in_words new start len) i ∙ listed-get new start len i false h ∙ ap (λ (m : ℕ). packed_bit new ((start + i) % (64 * m))) same in
    let got : (i : ℕ) → i < len → bit_of (bits_in_words words start len) i ≡ packed_bit words ((start + i) % room) =
    λ i h. bit_of-get_or (bits_in_words words start len) i ∙ listed-get words start len i false h in
    let step : (j : ℕ) → j < n → (place + j) % room ≡ (start + (at + j)) % room =
    λ j h. ap (λ (p : ℕ). (p + j) % room) is ∙ ring_add room start at j s (omega arith) in
    let keeps : (i : ℕ) → i < len → ((j : ℕ) → j < n → i ≢ at + j) → bit_of (bits_in_words new start len) i ≡ bit_of (bits_in_words words start len) i =
    λ i h apart.
    get i h
    ∙ put.others ((start + i) % room) (λ j small e. ring_distinct room start i (at + j) s (omega arith) (omega arith) (apart j small) (e ∙ step j small))
    ∙ sym (got i h) in
    record {
      long = listed-length new start len ∙ sym (listed-length words start len);
      here = λ j h. get (at + j) (omega arith) ∙ ap (packed_bit new) (sym (step j h)) ∙ put.here j h;
      below = λ i h. keeps i (omega arith) (λ j small e. omega arith);
      above = λ i h low. keeps i (omega (arith, listed-length words start len)) (λ j small e. omega arith);
    }

-- what was put from the place of a bit on
pub run_put_there : (words lent new after : List ℕ) (start len at place bits n : ℕ) (list : List Bool) → bits_in_words words start len ≡ list → len ≤ 64 * length words → start < 64 * length words → at + n ≤ len
    → lent ≡ words → length new ≡ length words → after ≡ new → place ≡ (start + at) % (64 * length words) → RunPut lent new place bits n → RunSet list (bits_in_words after start len) at bits n
run_put_there words lent new after start len at place bits n list view in_ s inside same long is where_ put =
    subst (λ (l : List Bool). RunSet l (bits_in_words after start len) at bits n) view
    (subst (λ (ws : List ℕ). RunSet (bits_in_words words start len) (bits_in_words ws start len) at bits n) (sym is)
    (run_set words new start len at place bits n long in_ s inside where_ (subst (λ (ws : List ℕ). RunPut ws new place bits n) same put)))

-- what was read from the place of a bit on
pub run_there : (words lent : List ℕ) (start len at place r : ℕ) (list : List Bool) → bits_in_words words start len ≡ list → len ≤ 64 * length words → start < 64 * length words
    → lent ≡ words → place ≡ (start + at) % (64 * length words) → ((j : ℕ) → j < 64 → has_bit r j ≡ packed_bit lent ((place + j) % (64 * length lent)))
    → (j : ℕ) → j < 64 → at + j < length list → has_bit r j ≡ bit_of list (at + j)
run_there words lent start len at place r list view in_ s same where_ read j small inside =
    let long : len ≡ length list = sym (listed-length words start len) ∙ ap length view in
    read j small ∙ ap (λ (ws : List ℕ). packed_bit ws ((place + j) % (64 * length ws))) same
    ∙ ap (λ (p : ℕ). packed_bit words ((p + j) % (64 * length words))) where_
    ∙ ap (packed_bit words) (ring_add (64 * length words) start at j s (omega arith))
    ∙ sym (listed-get words start len (at + j) false (omega arith))
    ∙ ap (λ (l : List Bool). get_or l (at + j) false) view ∙ sym (bit_of-get_or list (at + j))

-- a run more is copied
pub record Copied (old new from : List Bool) (at from_at done : ℕ) : Type 0 where
  pub long : length new ≡ length old
  pub here : (j : ℕ) → j < done → bit_of new (at + j) ≡ bit_of from (from_at + j)
  pub below : (i : ℕ) → i < at → bit_of new i ≡ bit_of old i
  pub above : (i : ℕ) → at + done ≤ i → i < length old → bit_of new i ≡ bit_of old i

pub copied_none : (old from : List Bool) (at from_at : ℕ) → Copied old old from at from_at 0
copied_none old from at from_at = record {
  long = refl;
  here = λ j h. absurd (omega arith);
  below = λ i h. refl;
  above = λ i h in_. refl;
}

pub copied_more : (old now new from : List Bool) (at from_at done count bits : ℕ) → count ≤ 64 → at + (done + count) ≤ length old → from_at + (done + count) ≤ length from
    → ((j : ℕ) → j < 64 → (from_at + done) + j < length from → has_bit bits j ≡ bit_of from ((from_at + done) + j))
    → RunSet now new (at + done) bits count → Copied old now from at from_at done → Copied old new from at from_at (done + count)
copied_more old now new from at from_at done count bits few to_in from_in read put so_far = record {
  long = put.long ∙ so_far.long;
  here = λ j h. ⊎_elim
      (λ (before : j < done). put.below (at + j) (omega arith) ∙ so_far.here j before)
      (λ (more : done ≤ j).
      let k = j - done in
      let to_at : (at + done) + k ≡ at + j = omega arith in
      let at_from : (from_at + done) + k ≡ from_at + j = omega arith in
      ap (bit_of new) (sym to_at) ∙ put.here k (omega arith) ∙ read k (omega arith) (omega arith) ∙ ap (bit_of from) at_from)
      (cases_lt j done);
  below = λ i h. put.below i (omega arith) ∙ so_far.below i h;
  above = λ i h in_. put.above i (omega (arith, so_far.long)) (omega arith) ∙ so_far.above i (omega arith) in_;
}

pub same_list : (xs ys : List Bool) → length xs ≡ length ys → ((i : ℕ) → i < length ys → get_or xs i false ≡ get_or ys i false) → xs ≡ ys
same_list xs ys long each =
    fill_by_all (λ i. get_or ys i false) xs (length ys) false long each
    ∙ sym (fill_by_all (λ i. get_or ys i false) ys (length ys) false refl (λ i h. refl))

-- all of a run is copied
pub copied_is : (old new from : List Bool) (at from_at n : ℕ) → at + n ≤ length old → from_at + n ≤ length from → Copied old new from at from_at n → new ≡ copied old at from from_at n
copied_is old new from at from_at n to_in from_in so_far =
    let long = so_far.long in
    let front = take at old in
    let run = take n (drop from_at from) in
    let back = drop (at + n) old in
    let front_long : length front ≡ at = length-take at old ∙ omega arith in
    let rest_long : length (drop from_at from) ≡ length from - from_at = length-drop from_at from in
    let run_long : length run ≡ n = length-take n (drop from_at from) ∙ omega arith in
    let back_long : length back ≡ length old - (at + n) = length-drop (at + n) old in
    let two : length (front ++ run) ≡ at + n = length-append front run ∙ omega arith in
    let all : length (copied old at from from_at n) ≡ length old = length-append (front ++ run) back ∙ omega arith in
    let plain : (bits other : List Bool) (i k : ℕ) → bit_of bits i ≡ bit_of other k → get_or bits i false ≡ get_or other k false =
    λ bits other i k e. sym (bit_of-get_or bits i) ∙ e ∙ bit_of-get_or other k in
    same_list new (copied old at from from_at n) (long ∙ sym all)
    (λ i h. ⊎_elim
    (λ (first : i < at).
    plain new old i i (so_far.below i first) ∙ sym (get_or_append_left (front ++ run) back false i (omega arith) ∙ get_or_append_left front run false i (omega arith) ∙ get_or-take at old i false first))
    (λ (later : at ≤ i). ⊎_elim
    (λ (middle : i < at + n).
    let j = i - at in
    let at_j : at + j ≡ i = omega arith in
    ap (λ (k : ℕ). get_or new k false) (sym at_j) ∙ plain new from (at + j) (from_at + j) (so_far.here j (omega arith))
    ∙ sym (get_or_append_left (front ++ run) back false i (omega arith) ∙ get_or-append_right front run i false (omega arith) ∙ ap (λ (k : ℕ). get_or run k false) (omega arith)
    ∙ get_or-take n (drop from_at from) j false (omega arith) ∙ get_or-drop from_at from j false))
    (λ (last : at + n ≤ i).
    plain new old i i (so_far.above i last (omega arith))
    ∙ sym (get_or-append_right (front ++ run) back i false (omega arith) ∙ get_or-drop (at + n) old (i - length (front ++ run)) false ∙ ap (λ (k : ℕ). get_or old k false) (omega arith)))
    (cases_lt i (at + n)))
    (cases_lt i at))

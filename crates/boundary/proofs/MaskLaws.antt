-- The masks of cells, gathered 64 cells at a time.
use Rattle.std.proofs.Common.{◌≡◌, ◌≢◌, ◌<◌, ◌≤◌, ℕ, suc, ◌+◌, ◌-◌, ◌==◌, Bool, false, None, List, [], ◌∷◌, length, map, take, drop, get_or, refl, sym, ap, subst, ◌∙◌, arith, ⊎_elim}
use Rattle.std.proofs.lemmas.Bool.{cases_lt}
use Rattle.std.proofs.lemmas.List.{get_or-drop, get_or-map, get_or-take, length-drop, length-map, length-take-le}
use Rattle.std.proofs.lemmas.Nat.Bits.{bit_at-zero}
use Rattle.std.proofs.lemmas.Option.{unwrap_or-slice_get}
use Rattle.jt_bits.specs.Packed.{has_bit}
use Rattle.jt_bits.specs.Runs.{RunSet}
use Rattle.jt_bits.specs.Words.{bit_of}
use Rattle.bsdl_device.specs.declared.Cell.{Cell}
use Rattle.bsdl_device.specs.declared.Function.TheVariants.{Internal}
use Rattle.boundary.specs.Masks.{IsWordOf}
use Rattle.boundary.proofs.CaptureLaws.{run_more}

bit-at : (bits : List Bool) (i : ℕ) → bit_of bits i ≡ get_or bits i false
bit-at bits i = unwrap_or-slice_get bits i false

-- ---- one word

-- the word has the first n of these bits, and no other
pub record HasFirst (bits : List Bool) (n word : ℕ) : Type 0 where
  pub first : (j : ℕ) → j < n → has_bit word j ≡ bit_of bits j
  pub none : (j : ℕ) → n ≤ j → j < 64 → has_bit word j ≡ false

pub zero_bit : (j : ℕ) → has_bit 0 j ≡ false
unfolding has_bit
zero_bit j = ap (λ (n : ℕ). n == 1) (bit_at-zero j)

pub no_marks : (bits : List Bool) → HasFirst bits 0 0
no_marks bits = record { first = λ j h. absurd (omega (arith, h)); none = λ j above few. zero_bit j }

-- one more cell is marked
pub next_mark : (f : Cell → Bool) (cells : List Cell) (n word after : ℕ) (x : Cell) (mark : Bool)
    → HasFirst (map f cells) n word → n < length cells → n < 64 → mark ≡ f (get_or cells n x)
    → (has_bit word n ≡ false → has_bit after n ≡ mark)
    → ((k : ℕ) → k < 64 → k ≢ n → has_bit after k ≡ has_bit word k) → HasFirst (map f cells) (n + 1) after
next_mark f cells n word after x mark has h few is here others =
    let last : has_bit after n ≡ bit_of (map f cells) n =
    here (has.none n (omega arith) few) ∙ is ∙ sym (bit-at (map f cells) n ∙ get_or-map f cells n x false h) in
    record {
      first = λ j below. ⊎_elim
          (λ (before : j < n). others j (omega (arith, before, few)) (apart j n before) ∙ has.first j before)
          (λ (now : n ≤ j).
          let same : n ≡ j = omega (arith, below, now) in
          subst (λ (k : ℕ). has_bit after k ≡ bit_of (map f cells) k) same last)
          (cases_lt j n);
      none = λ j above in_.
          others j in_ (λ e. apart n j (omega (arith, above)) (sym e)) ∙ has.none j (omega (arith, above)) in_;
    }
  where
    apart : (a b : ℕ) → a < b → a ≢ b
    apart a b less e = absurd (omega (arith, less, e))

pub word_of_all : (f : Cell → Bool) (cells : List Cell) (n word : ℕ) → HasFirst (map f cells) n word → length cells ≤ n
    → IsWordOf (map f cells) word
word_of_all f cells n word has all j h = has.first j (omega (arith, all, h, length-map cells f))

-- ---- all words

abbrev no_cell : Cell
no_cell = record { function = Internal; port = None; control = None }

-- the mask is as long as these bits, and has the first n of them
pub record MaskTo (bits : List Bool) (n : ℕ) (mask : List Bool) : Type 0 where
  pub long : length mask ≡ length bits
  pub each : (i : ℕ) → i < n → bit_of mask i ≡ bit_of bits i

part-bit : (f : Cell → Bool) (cells : List Cell) (at n j : ℕ) → at + n ≤ length cells → j < n
    → bit_of (map f (take n (drop at cells))) j ≡ bit_of (map f cells) (at + j)
part-bit f cells at n j room h =
    let long : length (take n (drop at cells)) ≡ n =
    length-take-le n (drop at cells) (omega (arith, room, length-drop at cells)) in
    bit-at (map f (take n (drop at cells))) j
    ∙ get_or-map f (take n (drop at cells)) j no_cell false (omega (arith, h, long))
    ∙ ap f (get_or-take n (drop at cells) j no_cell h ∙ get_or-drop at cells j no_cell)
    ∙ sym (bit-at (map f cells) (at + j) ∙ get_or-map f cells (at + j) no_cell false (omega (arith, h, room)))

-- one more word is put, of the cells from `at` to `at + n`
pub mask_more : (f : Cell → Bool) (cells : List Cell) (at n word : ℕ) (old new : List Bool) → at + n ≤ length cells
    → MaskTo (map f cells) at old → IsWordOf (map f (take (at + n - at) (drop at cells))) word
    → RunSet old new at word n → MaskTo (map f cells) (at + n) new
mask_more f cells at n word old new room so_far told put = record {
  long = put.long ∙ so_far.long;
  each = run_more (bit_of (map f cells)) old new at word n put
      (λ j h. many (at + n - at) (omega arith) told j h ∙ part-bit f cells at n j room h) so_far.each;
}
  where
    many : (m : ℕ) → m ≡ n → IsWordOf (map f (take m (drop at cells))) word → (j : ℕ) → j < n
        → has_bit word j ≡ bit_of (map f (take n (drop at cells))) j
    many m is told j h =
        let long : length (take m (drop at cells)) ≡ m =
        length-take-le m (drop at cells) (omega (arith, is, room, length-drop at cells)) in
        told j (omega (arith, h, is, long, length-map (take m (drop at cells)) f))
        ∙ ap (λ (k : ℕ). bit_of (map f (take k (drop at cells))) j) is

same-bits : (a b : List Bool) → length a ≡ length b → ((i : ℕ) → i < length b → bit_of a i ≡ bit_of b i) → a ≡ b
same-bits [] [] long each = refl
same-bits [] (y ∷ b) long each = absurd (omega (arith, long))
same-bits (x ∷ a) [] long each = absurd (omega (arith, long))
same-bits (x ∷ a) (y ∷ b) long each =
    let first : x ≡ y = each 0 (omega arith) in
    λ i. first i ∷ same-bits a b (omega (arith, long)) (λ j h. each (suc j) (omega (arith, h))) i

pub mask_of_all : (f : Cell → Bool) (cells : List Cell) (n : ℕ) (mask : List Bool) → MaskTo (map f cells) n mask
    → length cells ≤ n → mask ≡ map f cells
mask_of_all f cells n mask so_far all =
    same-bits mask (map f cells) so_far.long (λ i h. so_far.each i (omega (arith, h, all, length-map cells f)))

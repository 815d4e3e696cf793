-- A capture by masks, 64 cells at a time, is the capture of each cell.
use Rattle.std.proofs.Common.{◌≡◌, ◌<◌, ◌≤◌, ℕ, suc, ◌+◌, ◌-◌, ◌^◌, ◌||◌, ◌&&◌, Bool, true, false, not, List, [], ◌∷◌, length, Option, Some, None, refl, sym, ap, ◌∙◌, arith, ⊎_elim, if◌then◌else◌}
use Rattle.std.specs.Int.{bit_not, w64}
use Rattle.std.specs.Int.Bits.{bit_and, bit_or}
use Rattle.std.proofs.lemmas.Bool.{cases_lt}
use Rattle.jt_bits.specs.Packed.{has_bit}
use Rattle.jt_bits.specs.Runs.{RunSet}
use Rattle.jt_bits.specs.Words.{bit_of}
use Rattle.jt_bits.proofs.PackedWords.{or_bit, and_bit}
use Rattle.jt_bits.proofs.Runs.{not_bit}
use Rattle.bsdl_device.specs.declared.Cell.{Cell}
use Rattle.bsdl_device.specs.declared.Function.{Function}
use Rattle.bsdl_device.specs.declared.Function.TheVariants as kind
use Rattle.boundary.specs.Cells.{capture_from, cell_captures}
use Rattle.boundary.specs.Masks.{AreMasks, CapturesEach, chosen, inner_cells, is_inner, is_sighted, sighted_cells}

-- ---- one word

abbrev pub merged : (word bits mask : ℕ) → ℕ
merged word bits mask = bit_or (bit_and bits mask) (bit_and word (bit_not w64 mask))

pub merged_bit : (word bits mask j : ℕ) → mask < 2 ^ 64 → j < 64
    → has_bit (merged word bits mask) j ≡ ((has_bit bits j && has_bit mask j) || (has_bit word j && not (has_bit mask j)))
merged_bit word bits mask j fits h =
    or_bit (bit_and bits mask) (bit_and word (bit_not w64 mask)) j
    ∙ (λ i. and_bit bits mask j i
    || (and_bit word (bit_not w64 mask) j ∙ ap (λ (b : Bool). has_bit word j && b) (not_bit mask j fits h)) i)

abbrev unseen : (inner held core : ℕ) → ℕ
unseen inner held core = bit_or (bit_and held (bit_not w64 inner)) (bit_and core inner)

unseen_bit : (inner held core j : ℕ) → inner < 2 ^ 64 → j < 64
    → has_bit (unseen inner held core) j
    ≡ ((has_bit held j && not (has_bit inner j)) || (has_bit core j && has_bit inner j))
unseen_bit inner held core j fits h =
    or_bit (bit_and held (bit_not w64 inner)) (bit_and core inner) j
    ∙ (λ i. (and_bit held (bit_not w64 inner) j ∙ ap (λ (b : Bool). has_bit held j && b) (not_bit inner j fits h)) i
    || and_bit core inner j i)

chosen_is : (sighted inner seen held core : Bool)
    → ((seen && sighted) || (((held && not inner) || (core && inner)) && not sighted))
    ≡ chosen sighted inner seen held core
chosen_is true inner true held core = refl
chosen_is true inner false true true = by inner
  where
    by : (inner : Bool) → (((true && not inner) || (true && inner)) && false) ≡ false
    by true = refl
    by false = refl
chosen_is true true false true false = refl
chosen_is true false false true false = refl
chosen_is true true false false true = refl
chosen_is true false false false true = refl
chosen_is true true false false false = refl
chosen_is true false false false false = refl
chosen_is false true true true true = refl
chosen_is false true true true false = refl
chosen_is false true true false true = refl
chosen_is false true true false false = refl
chosen_is false true false true true = refl
chosen_is false true false true false = refl
chosen_is false true false false true = refl
chosen_is false true false false false = refl
chosen_is false false true true true = refl
chosen_is false false true true false = refl
chosen_is false false true false true = refl
chosen_is false false true false false = refl
chosen_is false false false true true = refl
chosen_is false false false true false = refl
chosen_is false false false false true = refl
chosen_is false false false false false = refl

pub word_bit : (sighted inner seen held core j : ℕ) → sighted < 2 ^ 64 → inner < 2 ^ 64 → j < 64
    → has_bit (merged (unseen inner held core) seen sighted) j
    ≡ chosen (has_bit sighted j) (has_bit inner j) (has_bit seen j) (has_bit held j) (has_bit core j)
word_bit sighted inner seen held core j sighted_fits inner_fits h =
    merged_bit (unseen inner held core) seen sighted j sighted_fits h
    ∙ ap (λ (b : Bool). (has_bit seen j && has_bit sighted j) || (b && not (has_bit sighted j)))
    (unseen_bit inner held core j inner_fits h)
    ∙ chosen_is (has_bit sighted j) (has_bit inner j) (has_bit seen j) (has_bit held j) (has_bit core j)

-- ---- all words

-- one more run is put
pub run_more : (meant : ℕ → Bool) (old new : List Bool) (at word n : ℕ) → RunSet old new at word n
    → ((j : ℕ) → j < n → has_bit word j ≡ meant (at + j)) → ((i : ℕ) → i < at → bit_of old i ≡ meant i)
    → (i : ℕ) → i < at + n → bit_of new i ≡ meant i
run_more meant old new at word n put read so_far i h = ⊎_elim
    (λ (before : i < at). put.below i before ∙ so_far i before)
    (λ (more : at ≤ i).
    let j = i - at in
    let place : at + j ≡ i = omega (arith, more) in
    ap (bit_of new) (sym place) ∙ put.here j (omega (arith, more, h)) ∙ read j (omega (arith, more, h)) ∙ ap meant place)
    (cases_lt i at)

-- ---- all cells

cell_is : (port : Option ℕ) (function : Function) (s f u c : Bool)
    → chosen (is_sighted port function) (is_inner function) s (if f then u else c) c
    ≡ cell_captures s f u c port function
cell_is (Some p) kind.Input s f u c = refl
cell_is (Some p) kind.Clock s f u c = refl
cell_is (Some p) kind.ObserveOnly s f u c = refl
cell_is (Some p) kind.Bidir s f u c = refl
cell_is (Some p) kind.Output2 s f u c = refl
cell_is (Some p) kind.Output3 s f u c = refl
cell_is (Some p) kind.Control s f u c = refl
cell_is (Some p) kind.ControlR s f u c = refl
cell_is (Some p) kind.Internal s f u c = refl
cell_is None kind.Input s f u c = refl
cell_is None kind.Clock s f u c = refl
cell_is None kind.ObserveOnly s f u c = refl
cell_is None kind.Bidir s f u c = refl
cell_is None kind.Output2 s f u c = refl
cell_is None kind.Output3 s f u c = refl
cell_is None kind.Control s f u c = refl
cell_is None kind.ControlR s f u c = refl
cell_is None kind.Internal s f u c = refl

module _ (f : Bool) where
  held_bit : (update core : List Bool) (i : ℕ)
      → bit_of (if f then update else core) i ≡ (if f then bit_of update i else bit_of core i)
  held_bit update core i = by f
    where
      by : (b : Bool) → bit_of (if b then update else core) i ≡ (if b then bit_of update i else bit_of core i)
      by true = refl
      by false = refl

  abbrev meant : List Cell → (seen update core : List Bool) → ℕ → Bool
  meant cells seen update core i =
      chosen (bit_of (sighted_cells cells) i) (bit_of (inner_cells cells) i) (bit_of seen i)
      (if f then bit_of update i else bit_of core i) (bit_of core i)

  of_bits : (cells : List Cell) (seen update core stage : List Bool) → length seen ≡ length cells
      → length update ≡ length cells → length core ≡ length cells → length stage ≡ length cells
      → ((i : ℕ) → i < length cells → bit_of stage i ≡ meant cells seen update core i)
      → stage ≡ capture_from cells seen f update core
  of_bits [] seen update core [] ls lu lc lt each = refl
  of_bits [] seen update core (t ∷ stage) ls lu lc lt each = absurd (omega (arith, lt))
  of_bits (cell ∷ cells) [] update core stage ls lu lc lt each = absurd (omega (arith, ls))
  of_bits (cell ∷ cells) (a ∷ seen) [] core stage ls lu lc lt each = absurd (omega (arith, lu))
  of_bits (cell ∷ cells) (a ∷ seen) (b ∷ update) [] stage ls lu lc lt each = absurd (omega (arith, lc))
  of_bits (cell ∷ cells) (a ∷ seen) (b ∷ update) (d ∷ core) [] ls lu lc lt each = absurd (omega (arith, lt))
  of_bits (cell ∷ cells) (a ∷ seen) (b ∷ update) (d ∷ core) (t ∷ stage) ls lu lc lt each =
      let first : t ≡ cell_captures a f b d cell.port cell.function = each 0 (omega arith)
      ∙ cell_is cell.port cell.function a f b d in
      λ i. first i
      ∷ of_bits cells seen update core stage (omega (arith, ls)) (omega (arith, lu)) (omega (arith, lc))
      (omega (arith, lt)) (λ j h. each (suc j) (omega (arith, h))) i

  pub captured_by_masks : (cells : List Cell) (sighted inner seen update core held old new : List Bool)
      → AreMasks cells sighted inner → held ≡ (if f then update else core) → length seen ≡ length cells
      → length update ≡ length cells → length core ≡ length cells → length old ≡ length cells
      → CapturesEach sighted inner seen held core old new → new ≡ capture_from cells seen f update core
  captured_by_masks cells sighted inner seen update core held old new masks is ls lu lc lt captures =
      of_bits cells seen update core new ls lu lc (captures.long ∙ lt)
      (λ i h. captures.each i (omega (arith, h, lt))
      ∙ (λ k. chosen (bit_of (masks.sighted k) i) (bit_of (masks.inner k) i) (bit_of seen i)
      ((ap (λ (l : List Bool). bit_of l i) is ∙ held_bit update core i) k) (bit_of core i)))

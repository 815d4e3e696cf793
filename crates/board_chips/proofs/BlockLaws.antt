-- What 64 cells drive, by words that are kept of it.
use Rattle.std.proofs.Common.{◌≡◌, ◌+◌, ◌%◌, ◌<◌, ◌^◌, ◌==◌, ℕ, zero, suc, Bool, true, false, ◌&&◌, ◌||◌, not, List, map, slice_get, Option, Some, option_map, unwrap_or, sym, ap, subst, ◌∙◌, arith, refl, ⊎_elim}
use Rattle.std.specs.Int.{bit_at, bit_not, w64}
use Rattle.std.specs.Int.Bits.{bit_and, bit_or, bit_xor}
use Rattle.std.proofs.lemmas.Bool.{and_parts, or_cases}
use Rattle.std.proofs.lemmas.Nat.Bits.{bit_at-lt, bit_at_xor}
use Rattle.std.proofs.lemmas.Nat.{and_le_l}
use Rattle.std.proofs.lemmas.Option.{slice_get-map}
use Rattle.jt_bits.specs.Packed.{has_bit}
use Rattle.jt_bits.proofs.PackedWords.{and_bit, or_bit}
use Rattle.bsdl_device.specs.declared.Cell.{Cell}
use Rattle.boundary.specs.Cells.{same_bit}
use Rattle.boundary.specs.Driven.{Tells, cell_leaves}
use Rattle.jt_bits.proofs.Runs.{not_bit}
use Rattle.boundary.specs.declared.DrivenCells.{DrivenCells}
use Rattle.pin_nets.specs.declared.Drive.{Drive}
use Rattle.pin_nets.specs.declared.Drive.TheVariants.{Nothing, Strong}
use Rattle.board_chips.specs.Blocks.{TellsBlock, TellsOwn, stands}
use Rattle.board_chips.specs.Driving.{cells_of, drives_at, leaves_at}
use Rattle.board_chips.specs.WiredChips.{WiredChipValue, held_of}
use Rattle.board_chips.specs.declared.driving.Block.{Block}
use Rattle.board_chips.proofs.DrivingLaws.{cell_by_chip}

pub no : false ≡ true → ⊥
no e = cc

leaves_by_chip : (chips : List WiredChipValue) (device cell : ℕ) (s : WiredChipValue) → slice_get chips device ≡ Some s
    → cell_leaves (cells_of s) cell ≡ leaves_at (map cells_of chips) device cell
leaves_by_chip chips device cell s at =
    let there : slice_get (map cells_of chips) device ≡ Some (cells_of s) = slice_get-map cells_of chips device ∙ ap (option_map cells_of) at in
    sym (ap (λ (o : Option (List Cell)). unwrap_or (option_map (λ (cs : List Cell). cell_leaves cs cell) o) Nothing) there)

-- what a device says of 64 of its cells
pub block_tells : (chips : List WiredChipValue) (s : WiredChipValue) (b : Block) (now : DrivenCells) → slice_get chips b.device ≡ Some s → TellsOwn (held_of s) b.first now
    → TellsBlock (map cells_of chips) (map held_of chips) b now
block_tells chips s b now at tells = record {
  each = λ j h.
      subst (λ (left : Drive). Tells now left j (Some (drives_at (map held_of chips) b.device (b.first + j))))
      (leaves_by_chip chips b.device (b.first + j) s at)
      (subst (λ (d : Drive). Tells now (cell_leaves (cells_of s) (b.first + j)) j (Some d))
      (cell_by_chip chips b.device (b.first + j) s _ at refl) (tells.each j h));
}

-- ---- which of them drive what they drove

xor_tests : (a b : ℕ) → a < 2 → b < 2 → ((a + b) % 2 == 1) ≡ not (same_bit (a == 1) (b == 1))
xor_tests zero zero h k = refl
xor_tests zero (suc zero) h k = refl
xor_tests (suc zero) zero h k = refl
xor_tests (suc zero) (suc zero) h k = refl
xor_tests (suc (suc a)) b h k = absurd (omega (arith, h))
xor_tests zero (suc (suc b)) h k = absurd (omega (arith, k))
xor_tests (suc zero) (suc (suc b)) h k = absurd (omega (arith, k))

xor_bit : (a b j : ℕ) → has_bit (bit_xor a b) j ≡ not (same_bit (has_bit a j) (has_bit b j))
unfolding has_bit
xor_bit a b j = ap (λ (n : ℕ). n == 1) (bit_at_xor a b j) ∙ xor_tests (bit_at a j) (bit_at b j) (bit_at-lt a j) (bit_at-lt b j)

chosen : (s p n same other : Bool)
    → (((s && not ((s && p) && n)) || (((s && p) && n) && not same)) && not (s && other)) ≡ (s && not (((p && n) && same) || other))
chosen false p n same other = refl
chosen true false n same other = refl
chosen true true false same other = refl
chosen true true true true other = refl
chosen true true true false other = refl

abbrev own-of : (slots put now : ℕ) → ℕ
own-of slots put now = bit_and (bit_and slots put) now

abbrev other-of : (slots off off-now mute mute-now : ℕ) → ℕ
other-of slots off off-now mute mute-now = bit_and slots (bit_or (bit_and off off-now) (bit_and mute mute-now))

pub changed_bit : (slots : ℕ) (put now : DrivenCells) (j : ℕ) → slots < 2 ^ 64 → j < 64
    → has_bit
    (bit_and
    (bit_or (bit_and slots (bit_not w64 (own-of slots put.own now.own))) (bit_and (own-of slots put.own now.own) (bit_xor put.bits now.bits)))
    (bit_not w64 (other-of slots put.off now.off put.mute now.mute)))
    j
    ≡ (has_bit slots j && not (stands put now j))
changed_bit slots put now j fits h =
    let own = own-of slots put.own now.own in
    let other = other-of slots put.off now.off put.mute now.mute in
    let own-small : own < 2 ^ 64 = omega (arith, and_le_l (bit_and slots put.own) now.own, and_le_l slots put.own, fits) in
    let other-small : other < 2 ^ 64 =
    omega (arith, and_le_l slots (bit_or (bit_and put.off now.off) (bit_and put.mute now.mute)), fits) in
    let own-is : has_bit own j ≡ ((has_bit slots j && has_bit put.own j) && has_bit now.own j) =
    and_bit (bit_and slots put.own) now.own j ∙ ap (λ (b : Bool). b && has_bit now.own j) (and_bit slots put.own j) in
    let other-is : has_bit other j ≡ (has_bit slots j && ((has_bit put.off j && has_bit now.off j) || (has_bit put.mute j && has_bit now.mute j))) =
    and_bit slots (bit_or (bit_and put.off now.off) (bit_and put.mute now.mute)) j
    ∙ ap (λ (b : Bool). has_bit slots j && b)
    (or_bit (bit_and put.off now.off) (bit_and put.mute now.mute) j ∙ (λ i. and_bit put.off now.off j i || and_bit put.mute now.mute j i)) in
    let first : ℕ = bit_and slots (bit_not w64 own) in
    let second : ℕ = bit_and own (bit_xor put.bits now.bits) in
    let first-is : has_bit first j ≡ (has_bit slots j && not ((has_bit slots j && has_bit put.own j) && has_bit now.own j)) =
    and_bit slots (bit_not w64 own) j ∙ ap (λ (b : Bool). has_bit slots j && b) (not_bit own j own-small h ∙ ap not own-is) in
    let second-is : has_bit second j ≡ (((has_bit slots j && has_bit put.own j) && has_bit now.own j) && not (same_bit (has_bit put.bits j) (has_bit now.bits j))) =
    and_bit own (bit_xor put.bits now.bits) j ∙ (λ t. own-is t && xor_bit put.bits now.bits j t) in
    and_bit (bit_or first second) (bit_not w64 other) j
    ∙ (λ i. (or_bit first second j ∙ (λ t. first-is t || second-is t)) i && (not_bit other j other-small h ∙ ap not other-is) i)
    ∙ chosen (has_bit slots j) (has_bit put.own j) (has_bit now.own j) (same_bit (has_bit put.bits j) (has_bit now.bits j))
    ((has_bit put.off j && has_bit now.off j) || (has_bit put.mute j && has_bit now.mute j))

same-bits : (a b : Bool) → same_bit a b ≡ true → a ≡ b
same-bits true true e = refl
same-bits true false e = absurd (no e)
same-bits false true e = absurd (no e)
same-bits false false e = refl

-- a cell that stands drives what it drove
pub stood : (put now : DrivenCells) (left : Drive) (j : ℕ) (drove : Option Drive) (drives : Drive) → Tells put left j drove → Tells now left j (Some drives)
    → stands put now j ≡ true → drove ≡ Some drives
stood put now left j drove drives was is holds = ⊎_elim
    (λ own.
    let parts = and_parts (has_bit put.own j && has_bit now.own j) (same_bit (has_bit put.bits j) (has_bit now.bits j)) own in
    let both = and_parts (has_bit put.own j) (has_bit now.own j) parts.0 in
    was.own both.0 ∙ ap (λ (b : Bool). Some (Strong b)) (same-bits (has_bit put.bits j) (has_bit now.bits j) parts.1) ∙ sym (is.own both.1))
    (λ other. ⊎_elim
    (λ off. let both = and_parts (has_bit put.off j) (has_bit now.off j) off in was.off both.0 ∙ sym (is.off both.1))
    (λ mute. let both = and_parts (has_bit put.mute j) (has_bit now.mute j) mute in was.mute both.0 ∙ sym (is.mute both.1))
    (or_cases (has_bit put.off j && has_bit now.off j) (has_bit put.mute j && has_bit now.mute j) other))
    (or_cases ((has_bit put.own j && has_bit now.own j) && same_bit (has_bit put.bits j) (has_bit now.bits j))
    ((has_bit put.off j && has_bit now.off j) || (has_bit put.mute j && has_bit now.mute j)) holds)

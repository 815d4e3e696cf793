-- The next byte of a step, given out alone.
use Rattle.std.proofs.Common.{◌≡◌, Bool, true, false, ℕ, zero, suc, ◌+◌, ◌-◌, ◌≤◌, ◌<◌, ◌==◌, List, [], ◌∷◌, ◌++◌, length, take, drop, set, min, sym, ap, subst, ◌∙◌, refl, arith, Option, Some, None}
use Rattle.std.specs.Prelude.{if◌then◌else◌, slice_get}
use Rattle.bitbang.specs.declared.step_bytes.Spot.{Spot}
use Rattle.svf_programs.specs.Steps.{Numbered, Program}
use Rattle.player.specs.declared.progress.Phase.TheVariants.{Within}
use Rattle.player.specs.declared.progress.Progress.{Progress}
use Rattle.player.specs.Progress.{Gives, IsProgressOf, rest_of}
use Rattle.player.specs.PlaceInPlay.{reads, up_to_reads}
use Rattle.player.proofs.Pieced.{gives-step}
use mir.Val.{bool_byte}

begins : (l : List ℕ) (b : ℕ) → slice_get l 0 ≡ Some b → l ≡ b ∷ drop 1 l
begins [] b e = absurd (cc)
begins (x ∷ l) b e = let same : x ≡ b = cc in ap (λ (n : ℕ). n ∷ l) same

abbrev pub asked_by : ℕ → ℕ
asked_by b = if b == 82 then 1 else 0

pub asked-is : (b : ℕ) → bool_byte (b == 82) ≡ asked_by b
asked-is b = by (b == 82)
  where
    by : (q : Bool) → bool_byte q ≡ (if q then 1 else 0)
    by true = refl
    by false = refl

is-let-through : (b : ℕ) (l : List ℕ) (k : ℕ) → asked_by b ≤ k → 0 < length (up_to_reads (b ∷ l) k)
is-let-through b l k free = by (b == 82) k free
  where
    by : (q : Bool) (k : ℕ) → (if q then 1 else 0) ≤ k → 0 < length (if q then elim k [ zero ↦ [] | suc m ↦ b ∷ up_to_reads l m ] else b ∷ up_to_reads l k)
    by true zero free = absurd (omega (arith, free))
    by true (suc m) free = omega arith
    by false k free = omega arith

is-put : (buffer : List ℕ) (b : ℕ) (l : List ℕ) → length buffer ≡ 1 → set buffer 0 b ≡ take 1 (b ∷ l) ++ drop 1 buffer
is-put [] b l e = absurd (omega (arith, e))
is-put (x ∷ xs) b l e = refl

pub gives-byte : (program : Program) (p : Progress) (spot next : Spot) (is : p.phase ≡ Within spot) (stands : IsProgressOf program.steps p) (good : p.bad ≡ None)
    (buffer : List ℕ) (byte owed : ℕ) → length buffer ≡ 1
    → slice_get (rest_of p.place (drop p.at program.steps) spot) 0 ≡ Some byte
    → rest_of p.place (drop p.at program.steps) next ≡ drop 1 (rest_of p.place (drop p.at program.steps) spot)
    → owed ≡ p.owed + asked_by byte → owed ≤ 256
    → Gives program p buffer (set buffer 0 byte) (record p { phase = Within next; owed = owed }) 1
gives-byte program p spot next is stands good buffer byte owed one first rest owes allowed =
    let left : List ℕ = rest_of p.place (drop p.at program.steps) spot in
    let begins : left ≡ byte ∷ drop 1 left = begins left byte first in
    let through = is-let-through byte (drop 1 left) (256 - p.owed) (omega (arith, owes, allowed)) in
    gives-step program p spot is stands good buffer (set buffer 0 byte) next 1 owed
    (omega (arith, one, through, ap (λ (l : List ℕ). length (up_to_reads l (256 - p.owed))) begins))
    (is-put buffer byte (drop 1 left) one ∙ ap (λ (l : List ℕ). take 1 l ++ drop 1 buffer) (sym begins))
    rest
    (owes ∙ ap (λ (l : List ℕ). p.owed + reads (take 1 l)) (sym begins))
    allowed
    (λ none. absurd (omega (arith, none)))

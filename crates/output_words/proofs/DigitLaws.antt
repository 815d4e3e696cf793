-- Digits that are written from the highest down.
use Rattle.std.proofs.Common.{◌≡◌, Bool, ℕ, zero, suc, ◌+◌, ◌-◌, ◌<◌, List, [], ◌∷◌, ◌++◌, take, drop, map, reverse, sym, ap, ◌∙◌, arith, append_assoc}
use Rattle.std.specs.Prelude.{slice_get, Some}
use Rattle.std.proofs.lemmas.List.{map-append, reverse-append, take-append-drop}
use Rattle.jt_bits.specs.Hex.{hex_digit_of}
use Rattle.output_words.specs.Digits.{digit, digits, hexadecimal}

drop-there : (bits : List Bool) (n : ℕ) (b : Bool) → slice_get bits n ≡ Some b → drop n bits ≡ b ∷ drop (suc n) bits
drop-there [] zero b e = absurd (cc)
drop-there [] (suc n) b e = absurd (cc)
drop-there (x ∷ bits) zero b e = let same : x ≡ b = cc in ap (λ v. v ∷ bits) same
drop-there (x ∷ bits) (suc n) b e = drop-there bits n b e

pub digits-more : (bits : List Bool) (n i : ℕ) (b : Bool) → i ≡ n + 1 → slice_get bits n ≡ Some b → digits (drop i bits) ++ digit b ∷ [] ≡ digits (drop n bits)
digits-more bits n i b e there =
    let next : i ≡ suc n = omega arith in
    ap (λ k. digits (drop k bits) ++ digit b ∷ []) next
    ∙ sym (ap digits (drop-there bits n b there) ∙ ap (map digit) (reverse-append (b ∷ []) (drop (suc n) bits))
    ∙ map-append digit (reverse (drop (suc n) bits)) (b ∷ []))

-- the digits before a place, and those from there on
pub digits-split : (bits : List Bool) (n : ℕ) → digits bits ≡ digits (drop n bits) ++ digits (take n bits)
digits-split bits n =
    ap digits (sym (take-append-drop n bits)) ∙ ap (map digit) (reverse-append (take n bits) (drop n bits))
    ∙ map-append digit (reverse (drop n bits)) (reverse (take n bits))

pub hexadecimal_down : (bits : List Bool) (i : ℕ) → 0 < i → hexadecimal i bits ≡ hex_digit_of bits (i - 1) ∷ hexadecimal (i - 1) bits
hexadecimal_down bits i h = let next : i ≡ suc (i - 1) = omega arith in ap (λ n. hexadecimal n bits) next

-- a digit behind a text, and the digits that follow
pub grow : (text rest : List ℕ) (now : List ℕ) (x y : ℕ) → now ≡ text ++ x ∷ [] → x ≡ y → now ++ rest ≡ text ++ (y ∷ rest)
grow text rest now x y e same = ap (λ (l : List ℕ). l ++ rest) e ∙ append_assoc text (x ∷ []) rest ∙ ap (λ z. text ++ z ∷ rest) same

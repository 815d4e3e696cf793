-- Cells by their place.
use Rattle.std.proofs.Common.{◌≡◌, ℕ, suc, ◌<◌, Bool, false, List, [], ◌∷◌, length, replicate, drop, get_or, refl, sym, ap, ◌∙◌, arith}
use Rattle.std.proofs.lemmas.List.{drop_all, get_or-replicate}
use Rattle.std.proofs.lemmas.Option.{unwrap_or-slice_get}
use Rattle.jt_bits.specs.Words.{bit_of}
use Rattle.bsdl_device.specs.declared.Cell.{Cell}
use Rattle.boundary.specs.Cells.{capture_from, reset_from, disabling_value}

pub capture-length : (cells : List Cell) (seen update core : List Bool) (from_update : Bool) → length seen ≡ length cells → length update ≡ length cells → length core ≡ length cells
    → length (capture_from cells seen from_update update core) ≡ length cells
capture-length [] [] [] [] f a b d = refl
capture-length [] (s ∷ seen) update core f a b d = absurd (omega arith)
capture-length [] [] (u ∷ update) core f a b d = absurd (omega arith)
capture-length [] [] [] (c ∷ core) f a b d = absurd (omega arith)
capture-length (cell ∷ cells) [] update core f a b d = absurd (omega arith)
capture-length (cell ∷ cells) (s ∷ seen) [] core f a b d = absurd (omega arith)
capture-length (cell ∷ cells) (s ∷ seen) (u ∷ update) [] f a b d = absurd (omega arith)
capture-length (cell ∷ cells) (s ∷ seen) (u ∷ update) (c ∷ core) f a b d = let h = capture-length cells seen update core f (omega arith) (omega arith) (omega arith) in omega (arith, h)

pub reset-length : (all : List Cell) (k : ℕ) (cells : List Cell) (us : List Bool) → length (reset_from all k cells us) ≡ length us
reset-length all k [] us = refl
reset-length all k (c ∷ cs) [] = refl
reset-length all k (c ∷ cs) (u ∷ us) = let h = reset-length all (suc k) cs us in omega (arith, h)

-- before any cell is walked, no control cell is named
pub none_named : (cells : List Cell) (bits : List Bool) (k : ℕ) → bits ≡ replicate (length cells) false → k < length cells → bit_of bits k ≡ disabling_value k (drop (length cells) cells)
none_named cells bits k is h =
    unwrap_or-slice_get bits k false ∙ ap (λ (l : List Bool). get_or l k false) is ∙ get_or-replicate (length cells) k false false h
    ∙ ap (disabling_value k) (sym (drop_all (length cells) cells (omega arith)))

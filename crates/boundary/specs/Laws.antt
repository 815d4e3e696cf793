-- What a sight, a core's bit or a new update stage changes of a capture. These proof terms stand here since `impl
-- Register` names them: there is nothing to judge.
use Rattle.std.proofs.Common.{◌≡◌, ◌≢◌, ◌⊎◌, ⊎_elim, inl, inr, ℕ, zero, suc, Bool, true, false, List, [], ◌∷◌, length}
use Rattle.std.proofs.Common.{slice_get, slice_set, Option, Some, None, refl, sym, ap, ◌∙◌}
use Rattle.std.proofs.Math.Nat.{suc_inj, suc-ne-zero}
use Rattle.bsdl_device.specs.declared.Cell.{Cell}
use Rattle.bsdl_device.specs.declared.Function.{Function}
use Rattle.bsdl_device.specs.declared.Function.TheVariants as kind
use Rattle.chip_registers.specs.Mode.{Mode}
use Rattle.boundary.specs.Cells.{BoundaryValue, capture_from, cell_captures, takes_update}

-- what one cell sees, no other captures
pub seen_alone : (cells : List Cell) (seen update core : List Bool) (f : Bool) (cell : ℕ) (bit : Bool) (i : ℕ)
    → i ≢ cell
    → slice_get (capture_from cells (slice_set seen cell bit) f update core) i
    ≡ slice_get (capture_from cells seen f update core) i
seen_alone [] seen update core f cell bit i apart = refl
seen_alone (c ∷ cs) [] update core f cell bit i apart = refl
seen_alone (c ∷ cs) (s ∷ seen) [] core f zero bit i apart = refl
seen_alone (c ∷ cs) (s ∷ seen) [] core f (suc cell) bit i apart = refl
seen_alone (c ∷ cs) (s ∷ seen) (u ∷ update) [] f zero bit i apart = refl
seen_alone (c ∷ cs) (s ∷ seen) (u ∷ update) [] f (suc cell) bit i apart = refl
seen_alone (c ∷ cs) (s ∷ seen) (u ∷ update) (x ∷ core) f zero bit zero apart = absurd (apart refl)
seen_alone (c ∷ cs) (s ∷ seen) (u ∷ update) (x ∷ core) f zero bit (suc i) apart = refl
seen_alone (c ∷ cs) (s ∷ seen) (u ∷ update) (x ∷ core) f (suc cell) bit zero apart = refl
seen_alone (c ∷ cs) (s ∷ seen) (u ∷ update) (x ∷ core) f (suc cell) bit (suc i) apart = seen_alone cs seen update core
    f cell bit i (λ e. apart (ap suc e))

-- the core's bit of one cell, no other captures
pub core_alone : (cells : List Cell) (seen update core : List Bool) (f : Bool) (cell : ℕ) (bit : Bool) (i : ℕ)
    → i ≢ cell
    → slice_get (capture_from cells seen f update (slice_set core cell bit)) i
    ≡ slice_get (capture_from cells seen f update core) i
core_alone [] seen update core f cell bit i apart = refl
core_alone (c ∷ cs) [] update core f cell bit i apart = refl
core_alone (c ∷ cs) (s ∷ seen) [] core f cell bit i apart = refl
core_alone (c ∷ cs) (s ∷ seen) (u ∷ update) [] f zero bit i apart = refl
core_alone (c ∷ cs) (s ∷ seen) (u ∷ update) [] f (suc cell) bit i apart = refl
core_alone (c ∷ cs) (s ∷ seen) (u ∷ update) (x ∷ core) f zero bit zero apart = absurd (apart refl)
core_alone (c ∷ cs) (s ∷ seen) (u ∷ update) (x ∷ core) f zero bit (suc i) apart = refl
core_alone (c ∷ cs) (s ∷ seen) (u ∷ update) (x ∷ core) f (suc cell) bit zero apart = refl
core_alone (c ∷ cs) (s ∷ seen) (u ∷ update) (x ∷ core) f (suc cell) bit (suc i) apart = core_alone cs seen update core
    f cell bit i (λ e. apart (ap suc e))

-- a cell captures its update bit, or what does not depend on it
abbrev CellTaken : (s f x : Bool) → Option ℕ → Function → Type 0
CellTaken s f x port function = ((w v : Bool)
    → cell_captures s f w x port function ≡ cell_captures s f v x port function)
    ⊎ ((w : Bool) → cell_captures s f w x port function ≡ w)

cell_taken : (s f x : Bool) (port : Option ℕ) (function : Function) → CellTaken s f x port function
cell_taken s f x (Some p) kind.Input = inl (λ w v. refl)
cell_taken s f x (Some p) kind.Clock = inl (λ w v. refl)
cell_taken s f x (Some p) kind.ObserveOnly = inl (λ w v. refl)
cell_taken s f x (Some p) kind.Bidir = inl (λ w v. refl)
cell_taken s f x (Some p) kind.Internal = inl (λ w v. refl)
cell_taken s true x (Some p) kind.Output2 = inr (λ w. refl)
cell_taken s true x (Some p) kind.Output3 = inr (λ w. refl)
cell_taken s true x (Some p) kind.Control = inr (λ w. refl)
cell_taken s true x (Some p) kind.ControlR = inr (λ w. refl)
cell_taken s false x (Some p) kind.Output2 = inl (λ w v. refl)
cell_taken s false x (Some p) kind.Output3 = inl (λ w v. refl)
cell_taken s false x (Some p) kind.Control = inl (λ w v. refl)
cell_taken s false x (Some p) kind.ControlR = inl (λ w v. refl)
cell_taken s f x None kind.Internal = inl (λ w v. refl)
cell_taken s true x None kind.Input = inr (λ w. refl)
cell_taken s true x None kind.Clock = inr (λ w. refl)
cell_taken s true x None kind.ObserveOnly = inr (λ w. refl)
cell_taken s true x None kind.Bidir = inr (λ w. refl)
cell_taken s true x None kind.Output2 = inr (λ w. refl)
cell_taken s true x None kind.Output3 = inr (λ w. refl)
cell_taken s true x None kind.Control = inr (λ w. refl)
cell_taken s true x None kind.ControlR = inr (λ w. refl)
cell_taken s false x None kind.Input = inl (λ w v. refl)
cell_taken s false x None kind.Clock = inl (λ w v. refl)
cell_taken s false x None kind.ObserveOnly = inl (λ w v. refl)
cell_taken s false x None kind.Bidir = inl (λ w v. refl)
cell_taken s false x None kind.Output2 = inl (λ w v. refl)
cell_taken s false x None kind.Output3 = inl (λ w v. refl)
cell_taken s false x None kind.Control = inl (λ w v. refl)
cell_taken s false x None kind.ControlR = inl (λ w v. refl)

no_core : (c : Cell) (cs : List Cell) (s : Bool) (seen : List Bool) (f : Bool) (v : List Bool)
    → capture_from (c ∷ cs) (s ∷ seen) f v [] ≡ []
no_core c cs s seen f [] = refl
no_core c cs s seen f (x ∷ v) = refl

abbrev Taken : List Cell → (seen core : List Bool) → Bool → (u : List Bool) → ℕ → Type 0
Taken cells seen core f u i =
    ((v : List Bool) → length v ≡ length u
    → slice_get (capture_from cells seen f v core) i ≡ slice_get (capture_from cells seen f u core) i)
    ⊎ ((v : List Bool) → length v ≡ length u → slice_get (capture_from cells seen f v core) i ≡ slice_get v i)

taken : (cells : List Cell) (seen core : List Bool) (f : Bool) (u : List Bool) (i : ℕ) → Taken cells seen core f u i
taken [] seen core f u i = inl (λ v e. refl)
taken (c ∷ cs) [] core f u i = inl (λ v e. refl)
taken (c ∷ cs) (s ∷ seen) [] f u i = inl
    (λ v e. ap (λ (l : List Bool). slice_get l i) (no_core c cs s seen f v ∙ sym (no_core c cs s seen f u)))
taken (c ∷ cs) (s ∷ seen) (x ∷ core) f [] i = inl (none i)
  where
    none : (i : ℕ) (v : List Bool) → length v ≡ 0 → slice_get (capture_from (c ∷ cs) (s ∷ seen) f v (x ∷ core)) i ≡ None
    none i [] e = refl
    none i (y ∷ v) e = absurd (suc-ne-zero (length v) e)
taken (c ∷ cs) (s ∷ seen) (x ∷ core) f (w ∷ us) zero = ⊎_elim (λ free. inl (left free)) (λ same. inr (right same))
    (cell_taken s f x c.port c.function)
  where
    left : ((w v : Bool) → cell_captures s f w x c.port c.function ≡ cell_captures s f v x c.port c.function)
        → (v : List Bool) → length v ≡ length (w ∷ us)
        → slice_get (capture_from (c ∷ cs) (s ∷ seen) f v (x ∷ core)) 0 ≡ Some (cell_captures s f w x c.port c.function)
    left free [] e = absurd (suc-ne-zero (length us) (sym e))
    left free (y ∷ v) e = ap Some (free y w)

    right : ((w : Bool) → cell_captures s f w x c.port c.function ≡ w) → (v : List Bool) → length v ≡ length (w ∷ us)
        → slice_get (capture_from (c ∷ cs) (s ∷ seen) f v (x ∷ core)) 0 ≡ slice_get v 0
    right same [] e = absurd (suc-ne-zero (length us) (sym e))
    right same (y ∷ v) e = ap Some (same y)
taken (c ∷ cs) (s ∷ seen) (x ∷ core) f (w ∷ us) (suc i) = ⊎_elim (λ free. inl (left free)) (λ same. inr (right same))
    (taken cs seen core f us i)
  where
    left : ((v : List Bool) → length v ≡ length us
        → slice_get (capture_from cs seen f v core) i ≡ slice_get (capture_from cs seen f us core) i) → (v : List Bool)
        → length v ≡ length (w ∷ us)
        → slice_get (capture_from (c ∷ cs) (s ∷ seen) f v (x ∷ core)) (suc i)
        ≡ slice_get (capture_from cs seen f us core) i
    left free [] e = absurd (suc-ne-zero (length us) (sym e))
    left free (y ∷ v) e = free v (suc_inj e)

    right : ((v : List Bool) → length v ≡ length us → slice_get (capture_from cs seen f v core) i ≡ slice_get v i)
        → (v : List Bool) → length v ≡ length (w ∷ us)
        → slice_get (capture_from (c ∷ cs) (s ∷ seen) f v (x ∷ core)) (suc i) ≡ slice_get v (suc i)
    right same [] e = absurd (suc-ne-zero (length us) (sym e))
    right same (y ∷ v) e = same v (suc_inj e)

pub taken_part : (r : BoundaryValue) (mode : Mode) (i : ℕ)
    → ((s u : List Bool) → length u ≡ length r.update
    → slice_get (capture_from r.cells r.seen (takes_update r.extest_update mode) u r.core) i
    ≡ slice_get (capture_from r.cells r.seen (takes_update r.extest_update mode) r.update r.core) i)
    ⊎ ((s u : List Bool) → length u ≡ length r.update
    → slice_get (capture_from r.cells r.seen (takes_update r.extest_update mode) u r.core) i ≡ slice_get u i)
taken_part r mode i = ⊎_elim (λ free. inl (λ s u e. free u e)) (λ same. inr (λ s u e. same u e))
    (taken r.cells r.seen r.core (takes_update r.extest_update mode) r.update i)

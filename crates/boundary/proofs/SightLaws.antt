-- What is captured, once each cell was told what its port sees.
use Rattle.std.proofs.Common.{◌≡◌, ℕ, suc, ◌<◌, Bool, true, false, List, [], ◌∷◌, length, drop, Option, Some, None, refl, sym, ap, ◌∙◌, arith}
use Rattle.std.proofs.Math.Seq.{drop-cons}
use Rattle.std.proofs.lemmas.List.{length-drop}
use Rattle.std.proofs.lemmas.Option.{unwrap_or-slice_get}
use Rattle.jt_bits.specs.Words.{bit_of}
use Rattle.bsdl_device.specs.declared.Cell.{Cell}
use Rattle.bsdl_device.specs.declared.Function.{Function}
use Rattle.bsdl_device.specs.declared.Function.TheVariants.{Input, Clock, ObserveOnly, Bidir, Output2, Output3, Control, ControlR, Internal}
use Rattle.boundary.specs.Cells.{cell_captures, capture_from}
use Rattle.boundary.specs.Masks.{SeesSighted, is_sighted}
use Rattle.boundary.specs.Sight.{capture_by_sight, seen_at, SeesItsPorts}

one_cell : (sees : ℕ → Bool) (s f u c : Bool) (port : Option ℕ) (function : Function)
    → (is_sighted port function ≡ true → (p : ℕ) → port ≡ Some p → s ≡ sees p)
    → cell_captures s f u c port function ≡ cell_captures (seen_at sees port) f u c port function
one_cell sees s f u c (Some p) Input told = told refl p refl
one_cell sees s f u c (Some p) Clock told = told refl p refl
one_cell sees s f u c (Some p) ObserveOnly told = told refl p refl
one_cell sees s f u c (Some p) Bidir told = told refl p refl
one_cell sees s f u c (Some p) Output2 told = refl
one_cell sees s f u c (Some p) Output3 told = refl
one_cell sees s f u c (Some p) Control told = refl
one_cell sees s f u c (Some p) ControlR told = refl
one_cell sees s f u c (Some p) Internal told = refl
one_cell sees s f u c None Input told = refl
one_cell sees s f u c None Clock told = refl
one_cell sees s f u c None ObserveOnly told = refl
one_cell sees s f u c None Bidir told = refl
one_cell sees s f u c None Output2 told = refl
one_cell sees s f u c None Output3 told = refl
one_cell sees s f u c None Control told = refl
one_cell sees s f u c None ControlR told = refl
one_cell sees s f u c None Internal told = refl

bit_here : (bits : List Bool) (k : ℕ) → k < length bits → drop k bits ≡ bit_of bits k ∷ drop (suc k) bits
bit_here bits k h = drop-cons bits k false h ∙ ap (λ (b : Bool). b ∷ drop (suc k) bits) (sym (unwrap_or-slice_get bits k false))

pub captured_by_sighted : (sees : ℕ → Bool) (f : Bool) (update core : List Bool) (k : ℕ) (cells : List Cell) (seen : List Bool) → length seen ≡ length cells → length (drop k update) ≡ length cells → length (drop k core) ≡ length cells
    → SeesSighted sees cells seen → capture_from cells seen f (drop k update) (drop k core) ≡ capture_by_sight sees f update core k cells
captured_by_sighted sees f update core k [] [] ls lu lc told = refl
captured_by_sighted sees f update core k [] (s ∷ seen) ls lu lc told = absurd (omega arith)
captured_by_sighted sees f update core k (c ∷ cs) [] ls lu lc told = absurd (omega arith)
captured_by_sighted sees f update core k (c ∷ cs) (s ∷ seen) ls lu lc told =
    let u_in : k < length update = omega (arith, length-drop k update) in
    let c_in : k < length core = omega (arith, length-drop k core) in
    let u_is = bit_here update k u_in in
    let c_is = bit_here core k c_in in
    ap (λ (us : List Bool). capture_from (c ∷ cs) (s ∷ seen) f us (drop k core)) u_is
    ∙ ap (λ (xs : List Bool). capture_from (c ∷ cs) (s ∷ seen) f (bit_of update k ∷ drop (suc k) update) xs) c_is
    ∙ ap (λ (b : Bool). b ∷ capture_from cs seen f (drop (suc k) update) (drop (suc k) core)) (one_cell sees s f (bit_of update k) (bit_of core k) c.port c.function told.0)
    ∙ ap (λ (r : List Bool). cell_captures (seen_at sees c.port) f (bit_of update k) (bit_of core k) c.port c.function ∷ r)
    (captured_by_sighted sees f update core (suc k) cs seen (omega arith) (omega (arith, length-drop k update, length-drop (suc k) update)) (omega (arith, length-drop k core, length-drop (suc k) core)) told.1)

sighted-told : (sees : ℕ → Bool) (cells : List Cell) (seen : List Bool) → SeesItsPorts sees cells seen
    → SeesSighted sees cells seen
sighted-told sees [] seen told = tt
sighted-told sees (c ∷ cs) [] told = tt
sighted-told sees (c ∷ cs) (s ∷ seen) told = ((λ yes. told.0), sighted-told sees cs seen told.1)

pub captured_by_sight : (sees : ℕ → Bool) (f : Bool) (update core : List Bool) (k : ℕ) (cells : List Cell)
    (seen : List Bool) → length seen ≡ length cells → length (drop k update) ≡ length cells
    → length (drop k core) ≡ length cells → SeesItsPorts sees cells seen
    → capture_from cells seen f (drop k update) (drop k core) ≡ capture_by_sight sees f update core k cells
captured_by_sight sees f update core k cells seen ls lu lc told =
    captured_by_sighted sees f update core k cells seen ls lu lc (sighted-told sees cells seen told)

-- One cycle in Shift moves the joined list by one place.
use Rattle.std.proofs.Common.{◌≡◌, Bool, true, ℕ, suc, ◌<◌, List, [], ◌∷◌, ◌++◌, length, take, drop, refl, sym, ap, ◌∙◌, append_assoc, arith, length-append, length-drop}
use Rattle.std.proofs.lemmas.List.{length-take-le}
use Rattle.std.specs.Prelude.{unwrap_or, slice_get, ◌+◌}
use Rattle.std.specs.List.{AllByRecursion}
use Rattle.jt_tap.specs.declared.Column.{Column}
use Rattle.jt_tap.specs.declared.Column.TheVariants.{Dr, Ir}
use Rattle.jt_tap.specs.declared.State.{State}
use Rattle.jt_tap.specs.declared.State.TheVariants.{DrShift, IrShift}
use Rattle.boundary.specs.Registers.{put}
use Rattle.jt_bits.specs.Shifting.{after_shift}
use Rattle.board_model.specs.Cells.{Member, Told}
use Rattle.board_model.specs.Whole.{selected_bits_of, joined_bits, cut_back}
use Rattle.board_model.proofs.OneCycle.{given, risen_all, risen_one}

abbrev pub shift_state : Column → State
shift_state Dr = DrShift
shift_state Ir = IrShift

-- the selected register of each device has at least one bit
abbrev pub Full : Column → List Member → Type 0
Full column ms = AllByRecursion (λ m. 0 < length (selected_bits_of column m)) ms

take-moved : (c : List Bool) (g : Bool) (rest : List Bool) → 0 < length c → take (length c) (drop 1 c ++ g ∷ rest) ≡ drop 1 c ++ g ∷ []
take-moved [] g rest full = absurd (omega arith)
take-moved (x ∷ xs) g rest full = go xs
  where
    go : (xs : List Bool) → take (suc (length xs)) (xs ++ g ∷ rest) ≡ xs ++ g ∷ []
    go [] = refl
    go (y ∷ ys) = ap (λ r. y ∷ r) (go ys)

drop-moved : (c : List Bool) (g : Bool) (rest : List Bool) → 0 < length c → drop (length c) (drop 1 c ++ g ∷ rest) ≡ rest
drop-moved [] g rest full = absurd (omega arith)
drop-moved (x ∷ xs) g rest full = go xs
  where
    go : (xs : List Bool) → drop (suc (length xs)) (xs ++ g ∷ rest) ≡ rest
    go [] = refl
    go (y ∷ ys) = go ys

-- a list with a bit is its first and the rest
first-rest : (c : List Bool) → 0 < length c → unwrap_or (slice_get c 0) true ∷ drop 1 c ≡ c
first-rest [] full = absurd (omega arith)
first-rest (x ∷ xs) full = refl

drop-one : (c rest : List Bool) → 0 < length c → drop 1 (c ++ rest) ≡ drop 1 c ++ rest
drop-one [] rest full = absurd (omega arith)
drop-one (x ∷ xs) rest full = refl

-- what a device in Shift shows its neighbour is the first bit of its selected register
given-first : (column : Column) (tdi : Bool) (m : Member) (ms : List Member)
    → given (shift_state column) tdi (m ∷ ms) ≡ unwrap_or (slice_get (selected_bits_of column m) 0) true
given-first Dr tdi m ms = refl
given-first Ir tdi m ms = refl

-- The bit that the whole chain shows is the first of the joined list.
pub given-joined : (column : Column) (tdi : Bool) (ms : List Member) → Full column ms
    → given (shift_state column) tdi ms ∷ drop 1 (joined_bits column ms ++ tdi ∷ []) ≡ joined_bits column ms ++ tdi ∷ []
given-joined column tdi [] full = ap (λ b. b ∷ []) (given-none column)
  where
    given-none : (column : Column) → given (shift_state column) tdi [] ≡ tdi
    given-none Dr = refl
    given-none Ir = refl
given-joined column tdi (m ∷ ms) full =
    let c = selected_bits_of column m in
    let J = joined_bits column ms in
    rw (given-first, append_assoc c J (tdi ∷ []), drop-one c (J ++ tdi ∷ []) full.0)
    (ap (λ r. r ++ (J ++ tdi ∷ [])) (first-rest c full.0))

risen-shift : (column : Column) (tdi : Bool) (about : Told) (m : Member)
    → risen_one (shift_state column) tdi about m ≡ record m { registers = put m.device column (after_shift (selected_bits_of column m) tdi) m.registers }
risen-shift Dr tdi about m = refl
risen-shift Ir tdi about m = refl

-- One rising edge in Shift: the joined list without its first bit, followed by TDI, cut back by the same lengths.
pub shift-one : (column : Column) (tdi : Bool) (about : ℕ → Told) (k : ℕ) (ms : List Member) → Full column ms
    → risen_all (shift_state column) tdi about k ms ≡ cut_back column (drop 1 (joined_bits column ms ++ tdi ∷ [])) ms
shift-one column tdi about k [] full = refl
shift-one column tdi about k (m ∷ ms) full =
    let c = selected_bits_of column m in
    let J = joined_bits column ms in
    let g = given (shift_state column) tdi ms in
    let rest = drop 1 (J ++ tdi ∷ []) in
    let whole : drop 1 (joined_bits column (m ∷ ms) ++ tdi ∷ []) ≡ drop 1 c ++ g ∷ rest =
    ap (λ r. drop 1 r) (append_assoc c J (tdi ∷ [])) ∙ drop-one c (J ++ tdi ∷ []) full.0
    ∙ ap (λ r. drop 1 c ++ r) (sym (given-joined column tdi ms full.1)) in
    let head : risen_one (shift_state column) g (about k) m
    ≡ record m { registers = put m.device column (take (length c) (drop 1 (joined_bits column (m ∷ ms) ++ tdi ∷ []))) m.registers } =
    risen-shift column g (about k) m
    ∙ ap (λ r. record m { registers = put m.device column r m.registers })
    (sym (ap (λ r. take (length c) r) whole ∙ take-moved c g rest full.0)) in
    let tail : risen_all (shift_state column) tdi about (suc k) ms
    ≡ cut_back column (drop (length c) (drop 1 (joined_bits column (m ∷ ms) ++ tdi ∷ []))) ms =
    shift-one column tdi about (suc k) ms full.1
    ∙ ap (λ r. cut_back column r ms) (sym (ap (λ r. drop (length c) r) whole ∙ drop-moved c g rest full.0)) in
    λ i. head i ∷ tail i

-- the parts of a list as long as a chain that begins with this register
pub left-part : (column : Column) (m : Member) (ms : List Member) (X : List Bool) → length X ≡ length (joined_bits column (m ∷ ms))
    → length (take (length (selected_bits_of column m)) X) ≡ length (selected_bits_of column m)
left-part column m ms X e =
    let sum : length (joined_bits column (m ∷ ms)) ≡ length (selected_bits_of column m) + length (joined_bits column ms) = length-append (selected_bits_of column m) (joined_bits column ms) in
    length-take-le (length (selected_bits_of column m)) X (omega arith)

pub right-part : (column : Column) (m : Member) (ms : List Member) (X : List Bool) → length X ≡ length (joined_bits column (m ∷ ms))
    → length (drop (length (selected_bits_of column m)) X) ≡ length (joined_bits column ms)
right-part column m ms X e =
    let sum : length (joined_bits column (m ∷ ms)) ≡ length (selected_bits_of column m) + length (joined_bits column ms) = length-append (selected_bits_of column m) (joined_bits column ms) in
    omega (arith, length-drop (length (selected_bits_of column m)) X)

-- A whole vector through the chain: the out, and the joined list afterwards.
use Rattle.std.proofs.Common.{◌≡◌, Bool, true, false, List, [], ◌∷◌, ◌++◌, length, take, drop, refl, ◌∙◌}
use Rattle.std.specs.Prelude.{is_some, if◌then◌else◌}
use Rattle.jt_tap.specs.declared.Column.{Column}
use Rattle.jt_tap.specs.Controller.{next}
use Rattle.board_model.specs.Cells.{Member}
use Rattle.pin_nets.specs.Wired.{Net}
use Rattle.board_model.specs.Whole.{joined_bits, cut_back}
use Rattle.scan_vectors.specs.Vector.{VectorBit, tdis}
use Rattle.bitbang.specs.Cycles.{scan_cycles}
use Rattle.board_model.proofs.OneCycle.{given, cycled, ran, Ran, asked}
use Rattle.board_model.proofs.Shift.{shift_state, Full}
use Rattle.board_model.proofs.ShiftCycles.{Full-cut_back, begins, cut_back-cut_back, cycled-shift, joined-cut_back, length-moved_line, moved_line, stays}

-- the bits at the places where one is wanted
abbrev pub picked : List VectorBit → List Bool → List Bool
picked (v ∷ vs) (b ∷ bits) = if is_some v.wanted then b ∷ picked vs bits else picked vs bits
picked _ _ = []

pick-head : (read g : Bool) (rest : List Bool) → (if read then g ∷ [] else []) ++ rest ≡ (if read then g ∷ rest else rest)
pick-head true g rest = refl
pick-head false g rest = refl

-- what `vector` says of the whole line, the joined list followed by what is shifted in
abbrev pub shifted : Column → List VectorBit → List Bool → List Member → Ran
shifted column v line ms = record {
  answers = picked v (take (length v) line);
  state = next (shift_state column) true;
  members = cut_back column (drop (length v) line) ms;
}

-- A whole vector: out are the first bits of the joined list followed by it; the new joined list is what comes after.
pub vector : (column : Column) (nets : List Net) (v : VectorBit) (vs : List VectorBit) (m : Member) (ms : List Member) → Full column (m ∷ ms)
    → ran nets (scan_cycles (v ∷ vs)) (shift_state column) (m ∷ ms)
    ≡ shifted column (v ∷ vs) (joined_bits column (m ∷ ms) ++ tdis (v ∷ vs)) (m ∷ ms)
vector column nets v [] m ms full =
    let g = given (shift_state column) true (m ∷ ms) in
    (λ i. record {
      answers = pick-head (is_some v.wanted) g [] i;
      state = next (shift_state column) true;
      members = cycled-shift column true v.tdi nets (m ∷ ms) full i;
    })
    ∙ (λ i. record {
      answers = picked (v ∷ []) (take 1 (begins column v.tdi [] m ms full i));
      state = next (shift_state column) true;
      members = cut_back column (moved_line column v.tdi (m ∷ ms)) (m ∷ ms);
    })
vector column nets v (w ∷ vs) m ms full =
    let S = shift_state column in
    let g = given S true (m ∷ ms) in
    let X = moved_line column v.tdi (m ∷ ms) in
    let cs = scan_cycles (w ∷ vs) in
    let ts = tdis (w ∷ vs) in
    let n = length (w ∷ vs) in
    let long : length X ≡ length (joined_bits column (m ∷ ms)) = length-moved_line column v.tdi (m ∷ ms) in
    let D : List Member = cut_back column X (m ∷ ms) in
    let first : ran nets cs (next S false) (cycled S false v.tdi nets (m ∷ ms)) ≡ ran nets cs S D =
    (λ i. ran nets cs (stays column i) (cycled-shift column false v.tdi nets (m ∷ ms) full i)) in
    let rest : ran nets cs S D ≡ shifted column (w ∷ vs) (joined_bits column D ++ ts) D =
    vector column nets w vs _ _ (Full-cut_back column X (m ∷ ms) full long) in
    let line : shifted column (w ∷ vs) (joined_bits column D ++ ts) D ≡ shifted column (w ∷ vs) (X ++ ts) D =
    (λ i. shifted column (w ∷ vs) (joined-cut_back column X (m ∷ ms) full long i ++ ts) D) in
    let e = first ∙ rest ∙ line in
    (λ i. record { answers = asked (is_some v.wanted) S (m ∷ ms) ++ (e i).answers; state = (e i).state; members = (e i).members })
    ∙ (λ i. record {
      answers = pick-head (is_some v.wanted) g (picked (w ∷ vs) (take n (X ++ ts))) i;
      state = next S true;
      members = cut_back-cut_back column X (drop n (X ++ ts)) (m ∷ ms) full long i;
    })
    ∙ (λ i. shifted column (v ∷ w ∷ vs) (begins column v.tdi ts m ms full i) (m ∷ ms))

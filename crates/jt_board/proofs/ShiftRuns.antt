-- Cycles in a Shift state, one after another and all at once.
use Rattle.std.proofs.Common.{◌≡◌, Bool, true, false, ◌&&◌, ◌||◌, not, ℕ, suc, ◌<◌, List, [], ◌∷◌, ◌++◌, length, take, drop, refl, sym, ap, ◌∙◌, map, subst, arith}
use Rattle.std.specs.Prelude.{Option, Some, None, slice_get, unwrap_or, if◌then◌else◌}
use Rattle.jt_tap.specs.declared.Column.{Column}
use Rattle.jt_tap.specs.declared.Column.TheVariants.{Dr, Ir}
use Rattle.jt_tap.specs.declared.State.{State}
use Rattle.jt_tap.specs.declared.State.TheVariants.{DrShift, IrShift}
use Rattle.jt_tap.specs.Controller.{next}
use Rattle.pin_nets.specs.Wired.{Net}
use Rattle.jt_bits.specs.Words.{bit_of}
use Rattle.bitbang_protocol.specs.Cycles.{closed_messages}
use Rattle.board_model.specs.Cells.{Member}
use Rattle.board_model.specs.Chain.{BoardState, ChipState, fall, hear, members}
use Rattle.board_model.specs.Sound.{AllSound}
use Rattle.board_model.specs.Whole.{selected_bits_of, joined_bits, cut_back, out_of_members}
use Rattle.board_model.proofs.OneCycle.{Free, given, cycled, ran, Ran, hear-tail, heard_of, low, lowered}
use Rattle.board_model.proofs.Shift.{shift_state, Full}
use Rattle.board_model.proofs.ShiftCycles.{Full-cut_back, begins, count-cut_back, cut_back-cut_back, cycled-shift, joined-cut_back, length-moved_line, moved_line, stays}
use Rattle.board_model.proofs.Sound.{Sound-Full}
use Rattle.board_chain.specs.AtRest.{as_members, shifted_through}
use Rattle.board_chain.specs.Shifting.{all_shift, is_shift_of, shows}
use Rattle.jt_board.specs.Shifting.{shift_cycles, shifts}

-- what comes out of the joined list followed by what is shifted in, and what stays
abbrev pub shifted : Column → ℕ → List Bool → List Member → Ran
shifted column n line ms = record {
  answers = take n line;
  state = shift_state column;
  members = cut_back column (drop n line) ms;
}

take-none : (xs : List Bool) → take 0 xs ≡ []
take-none [] = refl
take-none (x ∷ xs) = refl

-- The cycles of these bits: out are the first bits of the joined list followed by them; the new joined list is what comes after.
run : (column : Column) (nets : List Net) (t : Bool) (ts : List Bool) (m : Member) (ms : List Member) → Full column (m ∷ ms)
    → ran nets (shift_cycles (t ∷ ts)) (shift_state column) (m ∷ ms)
    ≡ shifted column (length (t ∷ ts)) (joined_bits column (m ∷ ms) ++ t ∷ ts) (m ∷ ms)
run column nets t [] m ms full =
    let g = given (shift_state column) true (m ∷ ms) in
    (λ i. record {
      answers = g ∷ sym (take-none (moved_line column t (m ∷ ms) ++ [])) i;
      state = stays column i;
      members = cycled-shift column false t nets (m ∷ ms) full i;
    })
    ∙ (λ i. record {
      answers = take 1 (begins column t [] m ms full i);
      state = shift_state column;
      members = cut_back column (moved_line column t (m ∷ ms)) (m ∷ ms);
    })
run column nets t (u ∷ us) m ms full =
    let S = shift_state column in
    let g = given S true (m ∷ ms) in
    let X = moved_line column t (m ∷ ms) in
    let cs = shift_cycles (u ∷ us) in
    let ts = u ∷ us in
    let n = length (u ∷ us) in
    let long : length X ≡ length (joined_bits column (m ∷ ms)) = length-moved_line column t (m ∷ ms) in
    let D : List Member = cut_back column X (m ∷ ms) in
    let first : ran nets cs (next S false) (cycled S false t nets (m ∷ ms)) ≡ ran nets cs S D =
    (λ i. ran nets cs (stays column i) (cycled-shift column false t nets (m ∷ ms) full i)) in
    let rest : ran nets cs S D ≡ shifted column n (joined_bits column D ++ ts) D =
    run column nets u us _ _ (Full-cut_back column X (m ∷ ms) full long) in
    let line : shifted column n (joined_bits column D ++ ts) D ≡ shifted column n (X ++ ts) D =
    (λ i. shifted column n (joined-cut_back column X (m ∷ ms) full long i ++ ts) D) in
    let e = first ∙ rest ∙ line in
    (λ i. record { answers = g ∷ (e i).answers; state = (e i).state; members = (e i).members })
    ∙ (λ i. record {
      answers = g ∷ take n (X ++ ts);
      state = S;
      members = cut_back-cut_back column X (drop n (X ++ ts)) (m ∷ ms) full long i;
    })
    ∙ (λ i. shifted column (suc n) (begins column t ts m ms full i) (m ∷ ms))

released : (ms : List Member) → Free false ms
released [] = tt
released (m ∷ ms) = (refl, released ms)

abbrev lows : Column → List Net → List Member → BoardState
lows column nets ms = low (shift_state column) false nets ms

heard_run : (column : Column) (nets : List Net) (ts : List Bool) (ms : List Member) → 0 < length ts → 0 < length ms → AllSound ms
    → hear (closed_messages (shift_cycles ts)) (lows column nets ms)
    ≡ record { answers = out_of_members column ts ms; board = lows column nets (shifted_through column ts ms) }
heard_run column nets [] ms some there sound = absurd (omega arith)
heard_run column nets (t ∷ ts) [] some there sound = absurd (omega arith)
heard_run column nets (t ∷ ts) (m ∷ ms) some there sound =
    hear-tail false nets (shift_cycles (t ∷ ts)) (shift_state column) (m ∷ ms) (released (m ∷ ms))
    ∙ ap (heard_of false nets) (run column nets t ts m ms (Sound-Full column (m ∷ ms) sound))

-- ---- devices that shift

stands : (column : Column) (s : State) → is_shift_of column s ≡ true → s ≡ shift_state column
stands Dr DrShift h = refl
stands Ir IrShift h = refl
stands Dr _ h = cc
stands Ir _ h = cc

shown : (b : Bool) (o : Option Bool) → shows b o ≡ true → o ≡ Some b
shown true (Some true) h = refl
shown true (Some false) h = cc
shown false (Some true) h = cc
shown false (Some false) h = refl
shown true None h = cc
shown false None h = cc

first : (bits : List Bool) → 0 < length bits → Some (bit_of bits 0) ≡ slice_get bits 0
first [] h = absurd (omega arith)
first (x ∷ xs) h = refl

both : (x y : Bool) → (x && y) ≡ true → (x ≡ true) × (y ≡ true)
both true true h = (refl, refl)
both true false h = cc
both false y h = cc

one_low : (column : Column) (s : State) (o : Option Bool) (m : Member) → (is_shift_of column s && shows (bit_of (selected_bits_of column m) 0) o) ≡ true
    → 0 < length (selected_bits_of column m) → record { member = m; state = s; tdo = o } ≡ lowered (shift_state column) m
one_low column s o m h full =
    let parts = both (is_shift_of column s) (shows (bit_of (selected_bits_of column m) 0) o) h in
    (λ i. record { member = m; state = stands column s parts.0 i; tdo = shown (bit_of (selected_bits_of column m) 0) o parts.1 i })
    ∙ (λ i. record { member = m; state = shift_state column; tdo = first (selected_bits_of column m) full i })
    ∙ same column
  where
    same : (column : Column) → record { member = m; state = shift_state column; tdo = slice_get (selected_bits_of column m) 0 } ≡ lowered (shift_state column) m
    same Dr = refl
    same Ir = refl

all_low : (column : Column) (cs : List ChipState) → all_shift column cs ≡ true → Full column (members cs) → cs ≡ map (lowered (shift_state column)) (members cs)
all_low column [] h full = refl
all_low column (c ∷ cs) h full =
    let parts = both (is_shift_of column c.state && shows (bit_of (selected_bits_of column c.member) 0) c.tdo) (all_shift column cs) h in
    λ i. one_low column c.state c.tdo c.member parts.0 full.0 i ∷ all_low column cs parts.1 full.1 i

fallen_one_low : (column : Column) (m : Member) (o : Option Bool) → fall (record { member = m; state = shift_state column; tdo = o }) ≡ lowered (shift_state column) m
fallen_one_low Dr m o = refl
fallen_one_low Ir m o = refl

fallen_low : (column : Column) (ms ns : List Member) → length ms ≡ length ns
    → map fall (as_members ms (map (lowered (shift_state column)) ns)) ≡ map (lowered (shift_state column)) ms
fallen_low column [] [] long = refl
fallen_low column [] (n ∷ ns) long = refl
fallen_low column (m ∷ ms) [] long = absurd (omega (arith, long))
fallen_low column (m ∷ ms) (n ∷ ns) long =
    λ i. fallen_one_low column m (lowered (shift_state column) n).tdo i ∷ fallen_low column ms ns (omega (arith, long)) i

-- ---- the board

-- The cycles of these bits on a board that shifts.
pub heard_shift : (column : Column) (ts : List Bool) (b : BoardState) → b.tck ≡ false → b.trst ≡ false → all_shift column b.chips ≡ true
    → AllSound (members b.chips) → 0 < length b.chips → 0 < length ts
    → hear (closed_messages (shift_cycles ts)) b
    ≡ record {
      answers = out_of_members column ts (members b.chips);
      board = record b { chips = map fall (as_members (shifted_through column ts (members b.chips)) b.chips) };
    }
heard_shift column ts b tck trst h sound there some =
    let ms = members b.chips in
    let is : b.chips ≡ map (lowered (shift_state column)) ms = all_low column b.chips h (Sound-Full column ms sound) in
    let M = shifted_through column ts ms in
    let many : 0 < length ms = subst (λ (n : ℕ). 0 < n) (sym (count b.chips)) there in
    ap (hear (closed_messages (shift_cycles ts))) (λ i. record { tck = tck i; trst = trst i; nets = b.nets; chips = is i })
    ∙ heard_run column b.nets ts ms some many sound
    ∙ (λ i. record {
      answers = out_of_members column ts ms;
      board = record {
        tck = sym tck i;
        trst = sym trst i;
        nets = b.nets;
        chips = sym (fallen_low column M ms (count-cut_back column (drop (length ts) (joined_bits column ms ++ ts)) ms)) i;
      };
    })
    ∙ (λ i. record {
      answers = out_of_members column ts ms;
      board = record b { chips = map fall (as_members M (sym is i)) };
    })
  where
    count : (cs : List ChipState) → length (members cs) ≡ length cs
    count [] = refl
    count (c ∷ cs) = ap (λ (n : ℕ). suc n) (count cs)

-- ---- the column

not_dr : (cs : List ChipState) (c : ChipState) → slice_get cs 0 ≡ Some c → c.state ≡ IrShift → all_shift Dr cs ≡ false
not_dr [] c at is = cc
not_dr (x ∷ xs) c at is =
    let same : x ≡ c = ap (λ (o : Option ChipState). unwrap_or o x) at in
    ap (λ (s : State). (is_shift_of Dr s && shows (bit_of (selected_bits_of Dr x.member) 0) x.tdo) && all_shift Dr xs) (ap (λ (y : ChipState). y.state) same ∙ is)

not_ir : (cs : List ChipState) (c : ChipState) → slice_get cs 0 ≡ Some c → (c.state ≡ IrShift → ⊥) → all_shift Ir cs ≡ false
not_ir [] c at is = cc
not_ir (x ∷ xs) c at is =
    let same : x ≡ c = ap (λ (o : Option ChipState). unwrap_or o x) at in
    ap (λ (b : Bool). (b && shows (bit_of (selected_bits_of Ir x.member) 0) x.tdo) && all_shift Ir xs)
    (other x.state (λ e. is (sym (ap (λ (y : ChipState). y.state) same) ∙ e)))
  where
    other : (s : State) → (s ≡ IrShift → ⊥) → is_shift_of Ir s ≡ false
    other IrShift h = absurd (h refl)
    other _ h = refl

right : (x y : Bool) → (x || y) ≡ true → x ≡ false → y ≡ true
right true y h e = cc
right false y h e = h

left : (x y : Bool) → (x || y) ≡ true → y ≡ false → x ≡ true
left true y h e = refl
left false true h e = cc
left false false h e = cc

pub ir_column : (cs : List ChipState) (c : ChipState) → slice_get cs 0 ≡ Some c → c.state ≡ IrShift → (all_shift Dr cs || all_shift Ir cs) ≡ true → all_shift Ir cs ≡ true
ir_column cs c at is h = right (all_shift Dr cs) (all_shift Ir cs) h (not_dr cs c at is)

pub dr_column : (cs : List ChipState) (c : ChipState) → slice_get cs 0 ≡ Some c → (c.state ≡ IrShift → ⊥) → (all_shift Dr cs || all_shift Ir cs) ≡ true → all_shift Dr cs ≡ true
dr_column cs c at is h = left (all_shift Dr cs) (all_shift Ir cs) h (not_ir cs c at is)

pub ir_first : (cs : List ChipState) (c : ChipState) → slice_get cs 0 ≡ Some c → c.state ≡ IrShift → Ir ≡ if all_shift Dr cs then Dr else Ir
ir_first cs c at is = sym (ap (λ (b : Bool). if b then Dr else Ir) (not_dr cs c at is))

pub dr_first : (cs : List ChipState) → all_shift Dr cs ≡ true → Dr ≡ if all_shift Dr cs then Dr else Ir
dr_first cs h = sym (ap (λ (b : Bool). if b then Dr else Ir) h)

off : (b : Bool) → not b ≡ true → b ≡ false
off true h = cc
off false h = refl

pub record Shift (b : BoardState) : Type 0 where
  pub tck : b.tck ≡ false
  pub trst : b.trst ≡ false
  pub one : (all_shift Dr b.chips || all_shift Ir b.chips) ≡ true

pub shift_of : (b : BoardState) → shifts b ≡ true → Shift b
shift_of b h =
    let outer = both (not b.tck) (not b.trst && (all_shift Dr b.chips || all_shift Ir b.chips)) h in
    let inner = both (not b.trst) (all_shift Dr b.chips || all_shift Ir b.chips) outer.1 in
    record { tck = off b.tck outer.0; trst = off b.trst inner.0; one = inner.1 }

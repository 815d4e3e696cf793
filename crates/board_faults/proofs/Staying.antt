-- Where the same captured bits stay, a step leaves the same registers on a board with other nets.
use Rattle.std.proofs.Common.{◌≡◌, Bool, true, false, ℕ, zero, suc, ◌+◌, ◌-◌, List, [], ◌∷◌, ◌++◌, length, take, drop, if◌then◌else◌, refl, sym, ap, ◌∙◌, length-append, length-drop, arith}
use Rattle.std.proofs.lemmas.List.{drop_all, length-map}
use Rattle.bsdl_device.specs.declared.Cell.{Cell}
use Rattle.boundary.specs.Sight.{capture_by_sight}
use Rattle.chip_instructions.specs.declared.Selected.{Selected}
use Rattle.chip_instructions.specs.declared.Selected.TheVariants.{Bypass, Identification, Boundary, User}
use Rattle.chip_instructions.specs.Instruction.{meaning}
use Rattle.chip_registers.specs.Registers.{Registers, capture_of, put, stage_of, with_stage}
use Rattle.std.specs.Prelude.{Option}
use Rattle.jt_tap.specs.declared.Column.{Column}
use Rattle.jt_tap.specs.declared.Column.TheVariants.{Dr, Ir}
use Rattle.jt_tap.specs.declared.State.{State}
use Rattle.jt_tap.specs.declared.State.TheVariants as state
use Rattle.jt_tap.specs.declared.Work.{Work}
use Rattle.jt_tap.specs.declared.Work.TheVariants.{Captures}
use Rattle.jt_tap.specs.Controller.{is_at, pause, work}
use Rattle.svf_words.specs.declared.keywords.TrstWord.TheVariants.{On, Off, Z, Absent}
use Rattle.scan_vectors.specs.Vector.{VectorBit, tdis}
use Rattle.svf_programs.specs.Steps.{Step, Scan, Go, Path, Run, Trst}
use Rattle.pin_nets.specs.Wired.{Net}
use Rattle.boundary.specs.Cells.{takes_update}
use Rattle.board_model.specs.Cells.{Member, Told, surroundings}
use Rattle.board_model.specs.Nets.{told}
use Rattle.board_model.specs.Whole.{AtRest, along, arrive, capture, capture_all, capture_member, cut_back, joined_bits, pass, selected_bits_of, settle, shift, update}
use Rattle.play_model.specs.Meaning.{after_step, move_to, move_unless_there, scan_end}
use Rattle.board_faults.specs.Staying.{RegistersDifferByWhatStays, WholeScansLeaveNothing, captured, kept_along, kept_arriving, kept_ending, kept_moving, kept_passing, kept_scanning, staying, with_nets}

-- ---- lists

length-both : (a b c d : List Bool) → length a ≡ length b → length c ≡ length d → length (a ++ c) ≡ length (b ++ d)
length-both a b c d e f = length-append a c ∙ (λ i. e i + f i) ∙ sym (length-append b d)

-- two lists of one length, each followed by another
parted : (a b c d : List Bool) → length a ≡ length b → a ++ c ≡ b ++ d → (a ≡ b) × (c ≡ d)
parted [] [] c d n e = (refl, e)
parted [] (y ∷ b) c d n e = absurd (omega arith)
parted (x ∷ a) [] c d n e = absurd (omega arith)
parted (x ∷ a) (y ∷ b) c d n e =
    let first : x ≡ y = cc in
    let others : a ++ c ≡ b ++ d = cc in
    let rest = parted a b c d (omega arith) others in
    ((λ i. first i ∷ rest.0 i), rest.1)

dropped : (n : ℕ) (xs ys : List Bool) → length xs ≡ length ys → length (drop n xs) ≡ length (drop n ys)
dropped n xs ys same = length-drop n xs ∙ ap (λ (k : ℕ). k - n) same ∙ sym (length-drop n ys)

-- what is left of a line depends on what is left of the list before it, and on its length
drop-line : (n : ℕ) (xs ys t : List Bool) → length xs ≡ length ys → drop n xs ≡ drop n ys → drop n (xs ++ t) ≡ drop n (ys ++ t)
drop-line zero xs ys t same e = ap (λ l. l ++ t) e
drop-line (suc n) [] [] t same e = refl
drop-line (suc n) [] (y ∷ ys) t same e = absurd (omega arith)
drop-line (suc n) (x ∷ xs) [] t same e = absurd (omega arith)
drop-line (suc n) (x ∷ xs) (y ∷ ys) t same e = drop-line n xs ys t (omega arith) e

-- ---- one device that captures: whatever it is told

sight-length : (sees others : ℕ → Bool) (b : Bool) (u core other : List Bool) (k : ℕ) (cs : List Cell)
    → length (capture_by_sight sees b u core k cs) ≡ length (capture_by_sight others b u other k cs)
sight-length sees others b u core other k [] = refl
sight-length sees others b u core other k (c ∷ cs) = ap (λ n. suc n) (sight-length sees others b u core other (suc k) cs)

latch-kept : (s : Selected) (bits : List Bool) (r : Registers) → (with_stage s bits r).latch ≡ r.latch
latch-kept Bypass bits r = refl
latch-kept Identification bits r = refl
latch-kept Boundary bits r = refl
latch-kept (User k) bits r = refl

-- a register that captures this where its boundary does
abbrev took : Selected → Option (List Bool) → Registers → List Bool → Registers
took s fixed r seen = with_stage s (capture_of s fixed seen r) r

took-length : (s : Selected) (fixed : Option (List Bool)) (r : Registers) (seen other : List Bool) → length seen ≡ length other
    → length (stage_of s (took s fixed r seen)) ≡ length (stage_of s (took s fixed r other))
took-length Bypass fixed r seen other e = refl
took-length Identification fixed r seen other e = refl
took-length Boundary fixed r seen other e = e
took-length (User k) fixed r seen other e = refl

took-same : (s : Selected) (fixed : Option (List Bool)) (r : Registers) (seen other : List Bool)
    → stage_of s (took s fixed r seen) ≡ stage_of s (took s fixed r other) → took s fixed r seen ≡ took s fixed r other
took-same Bypass fixed r seen other e = refl
took-same Identification fixed r seen other e = refl
took-same Boundary fixed r seen other e = ap (λ (bits : List Bool). record r { boundary = bits }) e
took-same (User k) fixed r seen other e = refl

took-over : (s : Selected) (fixed : Option (List Bool)) (r : Registers) (seen other bits : List Bool)
    → with_stage s bits (took s fixed r seen) ≡ with_stage s bits (took s fixed r other)
took-over Bypass fixed r seen other bits = refl
took-over Identification fixed r seen other bits = refl
took-over Boundary fixed r seen other bits = refl
took-over (User k) fixed r seen other bits = refl

-- what the instruction in the latch of a device selects, and what its boundary captures that is told this
abbrev chosen : Member → Selected
chosen m = (meaning m.device m.registers.latch).selected

abbrev took_told : Member → Told → Registers
took_told m about =
    let it = meaning m.device m.registers.latch in
    took it.selected it.fixed m.registers ((surroundings about m).captures it.mode)

told-selected : (m : Member) (about : Told) → selected_bits_of Dr (capture_member Dr about m) ≡ stage_of (chosen m) (took_told m about)
told-selected m about =
    ap (λ (latch : List Bool). stage_of (meaning m.device latch).selected (took_told m about)) (latch-kept (chosen m) _ m.registers)

told-put : (m : Member) (about : Told) (bits : List Bool)
    → put m.device Dr bits (capture_member Dr about m).registers ≡ with_stage (chosen m) bits (took_told m about)
told-put m about bits =
    ap (λ (latch : List Bool). with_stage (meaning m.device latch).selected bits (took_told m about)) (latch-kept (chosen m) _ m.registers)

member-length : (column : Column) (one other : Told) (m : Member)
    → length (selected_bits_of column (capture_member column one m)) ≡ length (selected_bits_of column (capture_member column other m))
member-length Ir one other m = refl
member-length Dr one other m =
    let it = meaning m.device m.registers.latch in
    ap length (told-selected m one)
    ∙ took-length it.selected it.fixed m.registers _ _
    (sight-length one.sight other.sight (takes_update m.extest_update it.mode) m.registers.update one.core other.core 0 m.device.cells)
    ∙ sym (ap length (told-selected m other))

member-same : (column : Column) (one other : Told) (m : Member)
    → selected_bits_of column (capture_member column one m) ≡ selected_bits_of column (capture_member column other m)
    → capture_member column one m ≡ capture_member column other m
member-same Ir one other m e = refl
member-same Dr one other m e =
    let it = meaning m.device m.registers.latch in
    ap (λ (r : Registers). record m { registers = r })
    (took-same it.selected it.fixed m.registers _ _ (sym (told-selected m one) ∙ e ∙ told-selected m other))

member-over : (column : Column) (one other : Told) (m : Member) (bits : List Bool)
    → put m.device column bits (capture_member column one m).registers ≡ put m.device column bits (capture_member column other m).registers
member-over Ir one other m bits = refl
member-over Dr one other m bits =
    let it = meaning m.device m.registers.latch in
    told-put m one bits ∙ took-over it.selected it.fixed m.registers _ _ bits ∙ sym (told-put m other bits)

-- ---- all devices

joined-length : (column : Column) (one other : ℕ → Told) (k : ℕ) (ms : List Member)
    → length (joined_bits column (capture_all column one k ms)) ≡ length (joined_bits column (capture_all column other k ms))
joined-length column one other k [] = refl
joined-length column one other k (m ∷ ms) =
    length-both (selected_bits_of column (capture_member column (one k) m)) (selected_bits_of column (capture_member column (other k) m))
    (joined_bits column (capture_all column one (suc k) ms)) (joined_bits column (capture_all column other (suc k) ms))
    (member-length column (one k) (other k) m) (joined-length column one other (suc k) ms)

all-same : (column : Column) (one other : ℕ → Told) (k : ℕ) (ms : List Member)
    → joined_bits column (capture_all column one k ms) ≡ joined_bits column (capture_all column other k ms)
    → capture_all column one k ms ≡ capture_all column other k ms
all-same column one other k [] e = refl
all-same column one other k (m ∷ ms) e =
    let both = parted (selected_bits_of column (capture_member column (one k) m)) (selected_bits_of column (capture_member column (other k) m))
    (joined_bits column (capture_all column one (suc k) ms)) (joined_bits column (capture_all column other (suc k) ms))
    (member-length column (one k) (other k) m) e in
    let first = member-same column (one k) (other k) m both.0 in
    let rest = all-same column one other (suc k) ms both.1 in
    λ i. first i ∷ rest i

cut-same : (column : Column) (bits : List Bool) (one other : ℕ → Told) (k : ℕ) (ms : List Member)
    → cut_back column bits (capture_all column one k ms) ≡ cut_back column bits (capture_all column other k ms)
cut-same column bits one other k [] = refl
cut-same column bits one other k (m ∷ ms) =
    let a = capture_member column (one k) m in
    let b = capture_member column (other k) m in
    let long = member-length column (one k) (other k) m in
    let first = ap (λ (n : ℕ). record m { registers = put m.device column (take n bits) a.registers }) long
    ∙ ap (λ (r : Registers). record m { registers = r }) (member-over column (one k) (other k) m (take (length (selected_bits_of column b)) bits)) in
    let rest = ap (λ (n : ℕ). cut_back column (drop n bits) (capture_all column one (suc k) ms)) long
    ∙ cut-same column (drop (length (selected_bits_of column b)) bits) one other (suc k) ms in
    λ i. first i ∷ rest i

-- ---- a board with other nets

module _ (nets : List Net) where
  abbrev other : AtRest → AtRest
  other m = with_nets nets m

  pub captured-length : (column : Column) (m : AtRest) → length (captured column m) ≡ length (captured column (other m))
  captured-length column m = joined-length column (told m.nets m.members) (told nets m.members) 0 m.members

  pub capture-same : (column : Column) (m : AtRest) → captured column m ≡ captured column (other m) → capture column (other m) ≡ other (capture column m)
  capture-same column m e =
      ap (λ (ms : List Member). record m { nets = nets; members = ms })
      (sym (all-same column (told m.nets m.members) (told nets m.members) 0 m.members e))

  shift-same : (column : Column) (t : List Bool) (m : AtRest) → drop (length t) (captured column m) ≡ drop (length t) (captured column (other m))
      → shift column t (capture column (other m)) ≡ other (shift column t (capture column m))
  shift-same column t m e =
      let one = told m.nets m.members in
      let two = told nets m.members in
      let line = drop-line (length t) (captured column m) (captured column (other m)) t (captured-length column m) e in
      ap (λ (ms : List Member). record m { nets = nets; members = ms })
      (sym (cut-same column (drop (length t) (captured column m ++ t)) one two 0 m.members
      ∙ ap (λ (bits : List Bool). cut_back column bits (capture_all column two 0 m.members)) line))

  settle-at : (s : State) (trst : Bool) (own : List Net) (ms : List Member)
      → settle (other (record { place = s; trst = trst; nets = own; members = ms })) ≡ other (settle (record { place = s; trst = trst; nets = own; members = ms }))
  settle-at state.DrPause trst own ms = refl
  settle-at state.IrPause trst own ms = refl
  settle-at s trst own ms = refl

  pub settle-same : (m : AtRest) → settle (other m) ≡ other (settle m)
  settle-same m = settle-at m.place m.trst m.nets m.members

  -- ---- arriving and moving

  arriving-length : (s : State) (m : AtRest) → length (kept_arriving s m) ≡ length (kept_arriving s (other m))
  arriving-length state.DrPause m = captured-length Dr m
  arriving-length state.IrPause m = captured-length Ir m
  arriving-length s m = refl

  arrive-same : (s : State) (m : AtRest) → kept_arriving s m ≡ kept_arriving s (other m) → arrive s (other m) ≡ other (arrive s m)
  arrive-same state.DrPause m e = ap (λ (x : AtRest). record x { place = state.DrPause }) (capture-same Dr m e)
  arrive-same state.IrPause m e = ap (λ (x : AtRest). record x { place = state.IrPause }) (capture-same Ir m e)
  arrive-same s m e = refl

  move-same : (s : State) (m : AtRest) → kept_arriving s (settle m) ≡ kept_arriving s (settle (other m)) → move_to s (other m) ≡ other (move_to s m)
  move-same s m e =
      ap (arrive s) (settle-same m) ∙ arrive-same s (settle m) (e ∙ ap (kept_arriving s) (settle-same m))

  moving-length : (s : State) (m : AtRest) → length (kept_moving s m) ≡ length (kept_moving s (other m))
  moving-length s m = by (is_at m.place s)
    where
      by : (b : Bool) → length (if b then [] else kept_arriving s (settle m)) ≡ length (if b then [] else kept_arriving s (settle (other m)))
      by true = refl
      by false = arriving-length s (settle m) ∙ sym (ap (λ (x : AtRest). length (kept_arriving s x)) (settle-same m))

  moved-same : (s : State) (m : AtRest) → kept_moving s m ≡ kept_moving s (other m) → move_unless_there s (other m) ≡ other (move_unless_there s m)
  moved-same s m = by (is_at m.place s)
    where
      by : (b : Bool) → (if b then [] else kept_arriving s (settle m)) ≡ (if b then [] else kept_arriving s (settle (other m)))
          → (if b then other m else move_to s (other m)) ≡ other (if b then m else move_to s m)
      by true e = refl
      by false e = move-same s m e

  -- ---- along a path

  passing-length : (w : Work) (m : AtRest) → length (kept_passing w m) ≡ length (kept_passing w (other m))
  passing-length (Captures column) m = captured-length column m
  passing-length w m = refl

  pass-same : (w : Work) (m : AtRest) → kept_passing w m ≡ kept_passing w (other m) → pass w (other m) ≡ other (pass w m)
  pass-same (Captures column) m e = capture-same column m e
  pass-same w m e = refl

  along-same : (path : List State) (m : AtRest) → kept_along path m ≡ kept_along path (other m) → along path (other m) ≡ other (along path m)
  along-same [] m e = refl
  along-same (s ∷ path) m e =
      let to = λ (x : AtRest). record x { place = s } in
      let both = parted (kept_passing (work s) m) (kept_passing (work s) (other m)) (kept_along path (to (pass (work s) m))) (kept_along path (to (pass (work s) (other m))))
      (passing-length (work s) m) e in
      let one = ap to (pass-same (work s) m both.0) in
      ap (along path) one ∙ along-same path (to (pass (work s) m)) (both.1 ∙ ap (kept_along path) one)

  -- ---- scans

  end-same : (column : Column) (end : State) (m : AtRest) → kept_ending column end m ≡ kept_ending column end (other m)
      → scan_end column end (other m) ≡ other (scan_end column end m)
  end-same column end m = by (is_at end (pause column))
    where
      by : (b : Bool) → (if b then [] else kept_arriving end (update column m)) ≡ (if b then [] else kept_arriving end (update column (other m)))
          → (if b then record (other m) { place = end } else arrive end (update column (other m)))
          ≡ other (if b then record m { place = end } else arrive end (update column m))
      by true e = refl
      by false e = arrive-same end (update column m) e

  scan-same : (column : Column) (v : List VectorBit) (end : State) (m : AtRest) → kept_scanning column v end m ≡ kept_scanning column v end (other m)
      → scan_end column end (shift column (tdis v) (capture column (other m))) ≡ other (scan_end column end (shift column (tdis v) (capture column m)))
  scan-same column v end m e =
      let t = tdis v in
      let long : length t ≡ length v = length-map v (λ b. b.tdi) in
      let own = captured column m in
      let its = captured column (other m) in
      let both = parted (drop (length v) own) (drop (length v) its)
      (kept_ending column end (shift column t (capture column m))) (kept_ending column end (shift column t (capture column (other m))))
      (dropped (length v) own its (captured-length column m)) e in
      let shifted = shift-same column t m
      (ap (λ (n : ℕ). drop n own) long ∙ both.0 ∙ sym (ap (λ (n : ℕ). drop n its) long)) in
      ap (scan_end column end) shifted
      ∙ end-same column end (shift column t (capture column m)) (both.1 ∙ ap (kept_ending column end) shifted)

  -- ---- every step

  step-same : (step : Step) (m : AtRest) → staying step m ≡ staying step (other m) → after_step step (other m) ≡ other (after_step step m)
  step-same (Scan column v end) m e =
      ap (λ (x : AtRest). scan_end column end (shift column (tdis v) (capture column x))) (settle-same m)
      ∙ scan-same column v end (settle m) (e ∙ ap (kept_scanning column v end) (settle-same m))
  step-same (Go s) m e = move-same s m e
  step-same (Path path) m e = along-same path m e
  step-same (Run run n end) m e =
      let both = parted (kept_moving run m) (kept_moving run (other m)) (kept_moving end (move_unless_there run m)) (kept_moving end (move_unless_there run (other m)))
      (moving-length run m) e in
      let one = moved-same run m both.0 in
      ap (move_unless_there end) one ∙ moved-same end (move_unless_there run m) (both.1 ∙ ap (kept_moving end) one)
  step-same (Trst On) m e = refl
  step-same (Trst Off) m e = refl
  step-same (Trst Z) m e = refl
  step-same (Trst Absent) m e = refl

pub registers_differ : RegistersDifferByWhatStays
registers_differ step m nets e = step-same nets step m e

pub whole_scans : WholeScansLeaveNothing
whole_scans column v end m long =
    ap (λ (bits : List Bool). bits ++ kept_ending column end (shift column (tdis v) (capture column (settle m))))
    (drop_all (length v) (captured column (settle m)) long)

-- an instruction's capture is the same whatever the nets are
pub captured-instructions : (nets : List Net) (m : AtRest) → captured Ir m ≡ captured Ir (with_nets nets m)
captured-instructions nets m = alike 0 m.members
  where
    alike : (k : ℕ) (ms : List Member)
        → joined_bits Ir (capture_all Ir (told m.nets m.members) k ms) ≡ joined_bits Ir (capture_all Ir (told nets m.members) k ms)
    alike k [] = refl
    alike k (x ∷ xs) = ap (λ (bits : List Bool). x.device.capture ++ bits) (alike (suc k) xs)

-- What is done to all devices at once changes, and what it leaves wired.
use Rattle.std.proofs.Common.{◌≡◌, ℕ, suc, ◌+◌, Bool, true, false, List, [], ◌∷◌, ◌++◌, length, map, take, drop}
use Rattle.std.proofs.Common.{slice_get, Some, None, option_map, refl, sym, ap, ◌∙◌, arith}
use Rattle.std.proofs.lemmas.List.{length-map}
use Rattle.std.proofs.lemmas.Option.{slice_get-map}
use Rattle.jt_tap.specs.declared.State.{State}
use Rattle.jt_tap.specs.declared.State.TheVariants.{DrCapture, IrCapture, Reset}
use Rattle.jt_tap.specs.declared.Column.{Column}
use Rattle.jt_tap.specs.declared.Column.TheVariants.{Dr, Ir}
use Rattle.pin_nets.specs.declared.Follow.{Follow}
use Rattle.scan_registers.specs.Edges.{OneChip}
use Rattle.chip_instructions.specs.Instruction.{meaning}
use Rattle.chip_registers.specs.Registers.{put}
use Rattle.boundary.specs.Cells.{BoundaryValue, drive_in}
use Rattle.scan_vectors.specs.Vector.{VectorBit, tdis}
use Rattle.board_chain.specs.Rows as rows
use Rattle.board_chain.specs.Rows.{IsCutBack}
use Rattle.board_chain.specs.Words.{word_bits}
use Rattle.jt_bits.proofs.WordShifts.{length-word}
use Rattle.board_model.specs.Cells.{Member, Told, drive}
use Rattle.board_model.specs.Chain.{ChipState, members}
use Rattle.board_model.specs.Nets as meant
use Rattle.board_model.specs.Nets.{in_force, told_under}
use Rattle.board_model.specs.Resting.{chip_at_rest}
use Rattle.board_model.specs.Whole.{capture_all, capture_member, out_of_members, selected_bits_of, cut_back, joined_bits, settled_member, trst_member}
use Rattle.board_chain.specs.AtRest.{AssertsTrst, CapturesAt, Changes, Stands, as_members}
use Rattle.board_chips.specs.AtRest.{IsPutInto, as_member}
use Rattle.board_chain.specs.AtRest.{shifted_through}
use Rattle.board_chips.specs.WiredChips.{AllTold, IsKept, WiredChipValue, chip_state, held_of, member_of}
use Rattle.board_chain.specs.Sweeping.{EachFrom, Still}
use Rattle.board_chips.specs.WiringValues.{WiringValue}
use Rattle.board_chips.specs.Wires.{AreWired, IsWired}
use Rattle.board_chain.proofs.ChainLaws.{all_chips, all_told, chips_in_force, drives_with, each_still, chips_members, told_here}
use Rattle.board_chips.proofs.EdgeLaws.{rise_drives, put-latch, put-update}

-- ---- each device changed by itself

-- device by device, or list by list
as-map : (f : Member → Member) (cs : List ChipState)
    → map (λ (c : ChipState). as_member (f c.member) c) cs ≡ as_members (map f (members cs)) cs
as-map f [] = refl
as-map f (c ∷ cs) = ap (λ (r : List ChipState). as_member (f c.member) c ∷ r) (as-map f cs)

pub changed_chips : (f : Member → Member) (old new : List WiredChipValue) → EachFrom (Changes f) 0 old new
    → map chip_state new ≡ as_members (map f (members (map chip_state old))) (map chip_state old)
changed_chips f old new each =
    all_chips (Changes f) (λ c. as_member (f c.member) c) (λ i s t r. r.chip) 0 old new each
    ∙ as-map f (map chip_state old)

stand-map : (state : State) (cs : List ChipState)
    → map (λ (c : ChipState). chip_at_rest state c.member) cs ≡ map (chip_at_rest state) (members cs)
stand-map state [] = refl
stand-map state (c ∷ cs) = ap (λ (r : List ChipState). chip_at_rest state c.member ∷ r) (stand-map state cs)

pub stood_chips : (state : State) (old new : List WiredChipValue) → EachFrom (Stands state) 0 old new
    → map chip_state new ≡ map (chip_at_rest state) (members (map chip_state old))
stood_chips state old new each =
    all_chips (Stands state) (λ c. chip_at_rest state c.member) (λ i s t r. r.chip) 0 old new each
    ∙ stand-map state (map chip_state old)

-- ---- TRST

asserted-map : (rests : State) (cs : List ChipState)
    → map (λ (c : ChipState). chip_at_rest Reset (trst_member (settled_member rests) c.member)) cs
    ≡ map (chip_at_rest Reset) (map (trst_member (settled_member rests)) (members cs))
asserted-map rests [] = refl
asserted-map rests (c ∷ cs) =
    ap (λ (r : List ChipState). chip_at_rest Reset (trst_member (settled_member rests) c.member) ∷ r)
    (asserted-map rests cs)

pub asserted_chips : (rests : State) (old new : List WiredChipValue) → EachFrom (AssertsTrst rests) 0 old new
    → map chip_state new
    ≡ map (chip_at_rest Reset) (map (trst_member (settled_member rests)) (members (map chip_state old)))
asserted_chips rests old new each =
    all_chips (AssertsTrst rests) (λ c. chip_at_rest Reset (trst_member (settled_member rests) c.member))
    (λ i s t r. r.chip) 0 old new each
    ∙ asserted-map rests (map chip_state old)

pub asserted_told : (rests : State) (place : ℕ) (old new : List WiredChipValue)
    → EachFrom (AssertsTrst rests) place old new → AllTold true new
asserted_told rests place [] [] each = tt
asserted_told rests place [] (t ∷ new) each = absurd each
asserted_told rests place (s ∷ old) [] each = absurd each
asserted_told rests place (s ∷ old) (t ∷ new) each = (each.0.told, asserted_told rests (suc place) old new each.1)

-- ---- a capture

-- a capture changes nothing that is driven, whatever the core bits are
capture-drives : (column : Column) (about : Told) (m : Member) (core : List Bool) (p : ℕ)
    → drive (record (capture_member column about m) { core = core }) p ≡ drive (record m { core = core }) p
capture-drives Dr about m core p =
    rise_drives false false false about (record { member = m; state = DrCapture; tdo = None }) core p
capture-drives Ir about m core p =
    rise_drives false false false about (record { member = m; state = IrCapture; tdo = None }) core p

module _ (w : WiringValue) (column : Column) (all : List WiredChipValue) (wired : IsWired all w) where
  abbrev before : List Member
  before = map held_of all

  -- with its place known
  record Captured (place : ℕ) (s t : WiredChipValue) : Type 0 where
    it : CapturesAt w column place s t
    chip : chip_state t
        ≡ as_member (capture_member column (told_under w.nets before place) (member_of s)) (chip_state s)

  placed : (place : ℕ) (old new : List WiredChipValue) → ((j : ℕ) → slice_get all (place + j) ≡ slice_get old j)
      → AreWired w.nets place old
      → EachFrom (CapturesAt w column) place old new → EachFrom Captured place old new
  placed place [] [] at cells each = tt
  placed place [] (t ∷ new) at cells each = absurd each
  placed place (s ∷ old) [] at cells each = absurd each
  placed place (s ∷ old) (t ∷ new) at cells each =
      let same : place + 0 ≡ place = omega arith in
      let there : slice_get all place ≡ Some s = sym (ap (slice_get all) same) ∙ at 0 in
      let here : slice_get before place ≡ Some (held_of s) = slice_get-map held_of all place
      ∙ ap (option_map held_of) there in (
        record {
          it = each.0;
          chip = each.0.chip before (record { here = here; drives = wired.drives; nets = cells.0 })
              ∙ ap (λ (about : Told). as_member (capture_member column about (member_of s)) (chip_state s))
              (told_here w.nets before place s here);
        },
        placed (suc place) old new
            (λ j. let next : suc place + j ≡ place + suc j = omega arith in ap (slice_get all) next
            ∙ at (suc j)) cells.1 each.1,
      )

  all-placed : (new : List WiredChipValue) → EachFrom (CapturesAt w column) 0 all new → EachFrom Captured 0 all new
  all-placed new each =
      placed 0 all new (λ j. let same : 0 + j ≡ j = omega arith in ap (slice_get all) same) wired.cells each

  chips-from : (place : ℕ) (old new : List WiredChipValue) → EachFrom Captured place old new
      → map chip_state new
      ≡ as_members (capture_all column (told_under w.nets before) place (map member_of old)) (map chip_state old)
  chips-from place [] [] each = refl
  chips-from place [] (t ∷ new) each = absurd each
  chips-from place (s ∷ old) [] each = absurd each
  chips-from place (s ∷ old) (t ∷ new) each = λ i. each.0.chip i ∷ chips-from (suc place) old new each.1 i

  pub captured_chips : (new : List WiredChipValue) → EachFrom (CapturesAt w column) 0 all new
      → in_force w.nets (map member_of all) ≡ map held_of all
      → map chip_state new
      ≡ as_members (capture_all column (meant.told w.nets (members (map chip_state all))) 0 (members (map chip_state all)))
      (map chip_state all)
  captured_chips new each force =
      let about : ℕ → Told = meant.told w.nets (members (map chip_state all)) in
      chips-from 0 all new (all-placed new each)
      ∙ sym (ap (λ (held : List Member). as_members (capture_all column (told_under w.nets held) 0 (map member_of all))
      (map chip_state all)) (chips_in_force w.nets all force))
      ∙ sym (ap (λ (ms : List Member). as_members (capture_all column about 0 ms) (map chip_state all)) (chips_members all))

  pub captured_still : (new : List WiredChipValue) → EachFrom (CapturesAt w column) 0 all new → EachFrom Still 0 all new
  captured_still new each =
      each_still Captured
      (λ i s t r core p. ap (drives_with core p) r.chip
      ∙ capture-drives column (told_under w.nets before i) (member_of s) core p)
      0 all new (all-placed new each)

-- ---- a shift

-- with its new registers, and as it was
pub record Put (column : Column) (bits : List Bool) (s t : WiredChipValue) : Type 0 where
  pub kept : IsKept s t
  pub trst : t.chip.trst ≡ s.chip.trst
  pub chip : chip_state t
      ≡ as_member (record (member_of s) { registers = put s.chip.device column bits (member_of s).registers })
      (chip_state s)

abbrev chip-of : List ℕ → List Bool → List Follow → Bool → OneChip → ChipState
chip-of name core follows extest_update o = record {
  member = record {
    name = name;
    device = o.device;
    core = core;
    follows = follows;
    extest_update = extest_update;
    registers =
        o.registers;
  };
  state = o.state;
  tdo = o.tdo;
}

put-of : (column : Column) (bits : List Bool) (s t : WiredChipValue) → IsPutInto column bits s t → Put column bits s t
put-of column bits s t is = record {
  kept = record {
    name = is.name;
    device = ap (λ (o : OneChip). o.device) is.chip.chip;
    constants = is.constants;
    follows = is.follows;
    core = ap (λ (b : BoundaryValue). b.core) is.chip.boundary;
    extest_update = ap (λ (b : BoundaryValue). b.extest_update) is.chip.boundary;
    nets = is.nets;
  };
  trst = ap (λ (o : OneChip). o.trst) is.chip.chip;
  chip = λ i. chip-of (is.name i) (is.constants i) (is.follows i) (is.chip.boundary i).extest_update (is.chip.chip i);
}

put-drives : (column : Column) (bits : List Bool) (m : Member) (core : List Bool) (p : ℕ)
    → drive (record m { registers = put m.device column bits m.registers; core = core }) p ≡ drive (record m { core = core }) p
put-drives column bits m core p =
    let after = put m.device column bits m.registers in
    ap (λ (l : List Bool). drive_in (meaning m.device l).mode m.device.cells after.update core p)
    (put-latch column m.device bits m.registers)
    ∙ ap (λ (u : List Bool). drive_in (meaning m.device m.registers.latch).mode m.device.cells u core p)
    (put-update column m.device bits m.registers)

-- with whatever bits
pub record PutSome (column : Column) (place : ℕ) (s t : WiredChipValue) : Type 0 where
  pub bits : List Bool
  pub is : Put column bits s t

abbrev register : Column → WiredChipValue → List Bool
register column s = selected_bits_of column (member_of s)

module _ (column : Column) where
  abbrev pub Cut : List Bool → List WiredChipValue → List WiredChipValue → Type 0
  Cut bits old new =
      IsCutBack (λ (s : WiredChipValue). selected_bits_of column (member_of s))
      (λ s stage t. IsPutInto column stage s t) bits old new

  pub cut_each : (place : ℕ) (bits : List Bool) (old new : List WiredChipValue) → Cut bits old new
      → EachFrom (PutSome column) place old new
  cut_each place bits [] [] cut = tt
  cut_each place bits [] (t ∷ new) cut = absurd cut
  cut_each place bits (s ∷ old) [] cut = absurd cut
  cut_each place bits (s ∷ old) (t ∷ new) cut = (
    record { bits = _; is = put-of column _ s t cut.0 },
    cut_each (suc place)
        (drop (length (register column s)) bits) old new cut.1,
  )

  cut-chips : (bits : List Bool) (old new : List WiredChipValue) → Cut bits old new
      → map chip_state new ≡ as_members (cut_back column bits (map member_of old)) (map chip_state old)
  cut-chips bits [] [] cut = refl
  cut-chips bits [] (t ∷ new) cut = absurd cut
  cut-chips bits (s ∷ old) [] cut = absurd cut
  cut-chips bits (s ∷ old) (t ∷ new) cut =
      let one = put-of column (take (length (register column s)) bits) s t cut.0 in
      λ i. one.chip i ∷ cut-chips (drop (length (register column s)) bits) old new cut.1 i

  pub same_joined : (chips : List WiredChipValue)
      → rows.joined_registers (map (λ (s : WiredChipValue). selected_bits_of column (member_of s)) chips)
      ≡ joined_bits column (members (map chip_state chips))
  same_joined [] = refl
  same_joined (s ∷ chips) = ap (λ (r : List Bool). register column s ++ r) (same_joined chips)

  -- what comes out
  pub same_out : (v : List VectorBit) (chips : List WiredChipValue)
      → rows.out v (map (λ (s : WiredChipValue). selected_bits_of column (member_of s)) chips)
      ≡ out_of_members column (tdis v) (members (map chip_state chips))
  same_out v chips =
      ap (λ (l : List Bool). take (length v) (l ++ tdis v)) (same_joined chips)
      ∙ ap (λ (n : ℕ). take n (joined_bits column (members (map chip_state chips)) ++ tdis v))
      (sym (length-map v (λ (b : VectorBit). b.tdi)))

  -- what stays in, by the length of what is shifted in
  pub shifted_chips : (v : List VectorBit) (old new : List WiredChipValue)
      → Cut (rows.left v (map (λ (s : WiredChipValue). selected_bits_of column (member_of s)) old)) old new
      → map chip_state new ≡ as_members (shifted_through column (tdis v) (members (map chip_state old))) (map chip_state old)
  shifted_chips v old new cut =
      cut-chips (rows.left v (map (λ (s : WiredChipValue). selected_bits_of column (member_of s)) old)) old new cut
      ∙ ap (λ (l : List Bool). as_members (cut_back column (drop (length v) (l ++ tdis v)) (map member_of old))
      (map chip_state old)) (same_joined old)
      ∙ ap (λ (n : ℕ). as_members
      (cut_back column (drop n (joined_bits column (members (map chip_state old)) ++ tdis v)) (map member_of old))
      (map chip_state old))
      (sym (length-map v (λ (b : VectorBit). b.tdi)))
      ∙ sym (ap
      (λ (ms : List Member). as_members
      (cut_back column (drop (length (tdis v)) (joined_bits column (members (map chip_state old)) ++ tdis v)) ms)
      (map chip_state old)) (chips_members old))

  -- the same of bits that are handed over in a word
  pub word_chips : (word n : ℕ) (old new : List WiredChipValue)
      → Cut (drop n (rows.joined_registers (map (λ (s : WiredChipValue). selected_bits_of column (member_of s)) old) ++ word_bits word n)) old new
      → map chip_state new ≡ as_members (shifted_through column (word_bits word n) (members (map chip_state old))) (map chip_state old)
  word_chips word n old new cut =
      let ts = word_bits word n in
      cut-chips (drop n (rows.joined_registers (map (λ (s : WiredChipValue). selected_bits_of column (member_of s)) old) ++ ts)) old new cut
      ∙ ap (λ (l : List Bool). as_members (cut_back column (drop n (l ++ ts)) (map member_of old)) (map chip_state old)) (same_joined old)
      ∙ ap (λ (k : ℕ). as_members (cut_back column (drop k (joined_bits column (members (map chip_state old)) ++ ts)) (map member_of old))
      (map chip_state old)) (sym (length-word word n))
      ∙ sym (ap (λ (ms : List Member). as_members (cut_back column (drop (length ts) (joined_bits column (members (map chip_state old)) ++ ts)) ms)
      (map chip_state old)) (chips_members old))

  pub word_comes_out : (word n : ℕ) (chips : List WiredChipValue)
      → take n (rows.joined_registers (map (λ (s : WiredChipValue). selected_bits_of column (member_of s)) chips) ++ word_bits word n)
      ≡ out_of_members column (word_bits word n) (members (map chip_state chips))
  word_comes_out word n chips =
      ap (λ (l : List Bool). take n (l ++ word_bits word n)) (same_joined chips)
      ∙ ap (λ (k : ℕ). take k (joined_bits column (members (map chip_state chips)) ++ word_bits word n)) (sym (length-word word n))

  pub shifted_still : (bits : List Bool) (old new : List WiredChipValue) → Cut bits old new → EachFrom Still 0 old new
  shifted_still bits old new cut =
      each_still (PutSome column)
      (λ i s t r core p. ap (drives_with core p) r.is.chip ∙ put-drives column r.bits (member_of s) core p)
      0 old new (cut_each 0 bits old new cut)

  pub shifted_told : (trst : Bool) (bits : List Bool) (old new : List WiredChipValue) → Cut bits old new → AllTold trst old
      → AllTold trst new
  shifted_told trst bits old new cut told =
      all_told (PutSome column) (λ i s t r. r.is.trst) trst 0 old new (cut_each 0 bits old new cut) told

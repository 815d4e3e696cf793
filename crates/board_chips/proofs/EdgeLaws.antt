-- One device of the chain, edge by edge: the chip's edges are the meaning's.
use Rattle.std.proofs.Common.{◌≡◌, ℕ, Bool, true, false, List, Option, refl, ap, ◌∙◌}
use Rattle.jt_tap.specs.declared.Column.{Column}
use Rattle.jt_tap.specs.declared.Column.TheVariants.{Dr, Ir}
use Rattle.jt_tap.specs.declared.Work.{Work}
use Rattle.jt_tap.specs.declared.Work.TheVariants.{Resets, Captures, Shifts, Updates, Waits}
use Rattle.jt_tap.specs.Controller.{next, work}
use Rattle.bsdl_device.specs.Device.{Device}
use Rattle.bsdl_device.specs.declared.Cell.{Cell}
use Rattle.chip_instructions.specs.declared.Mode.{Mode}
use Rattle.chip_instructions.specs.declared.Selected.{Selected}
use Rattle.chip_instructions.specs.declared.Selected.TheVariants.{Bypass, Identification, Boundary, User}
use Rattle.scan_registers.specs.Chips.{surroundings_of, one_chip, with_registers}
use Rattle.scan_registers.specs.Edges.{OneChip, is_held, rise, after_rise}
use Rattle.chip_instructions.specs.Instruction.{meaning}
use Rattle.chip_registers.specs.Registers.{Registers, Surroundings, capture_of, put, with_stage}
use Rattle.chip_registers.specs.Registers as chip_registers
use Rattle.boundary.specs.Cells.{BoundaryValue, IsWhole, at_reset, captured_bits, drive_in, takes_update}
use Rattle.boundary.specs.Masks.{SeesSighted}
use Rattle.boundary.specs.Sight.{capture_by_sight}
use Rattle.boundary.proofs.SightLaws.{captured_by_sighted}
use Rattle.pin_nets.specs.declared.Follow.{Follow}
use Rattle.board_model.specs.Cells.{Member, Told, drive, surroundings}
use Rattle.board_model.specs.Chain as chain
use Rattle.board_model.specs.Chain.{ChipState}
use Rattle.board_model.specs.Whole.{capture_member}
use Rattle.board_chips.specs.AtRest.{IsSightedFor, as_member}
use Rattle.board_chips.specs.WiredChips.{IsSighted, WiredChipValue, captures_boundary, chip_state, member_of, told_by}

-- a device of the meaning, by the device alone
abbrev state_of : List ℕ → List Bool → List Follow → Bool → OneChip → ChipState
state_of name core follows extest_update o = record {
  member = record { name = name; device = o.device; core = core; follows = follows; extest_update = extest_update; registers = o.registers };
  state = o.state;
  tdo = o.tdo;
}

-- a capture asks what the boundary knows only where it captures the boundary
selected-captures : (selected : Selected) (fixed : Option (List Bool)) (a b : List Bool) (r : Registers)
    → (captures_boundary (Captures Dr) selected ≡ true → a ≡ b)
    → with_stage selected (capture_of selected fixed a r) r ≡ with_stage selected (capture_of selected fixed b r) r
selected-captures Bypass fixed a b r same = refl
selected-captures Identification fixed a b r same = refl
selected-captures Boundary fixed a b r same = ap (λ (x : List Bool). with_stage Boundary x r) (same refl)
selected-captures (User k) fixed a b r same = refl

risen-alike : (w : Work) (d : Device) (a b : Surroundings) (tdi : Bool) (r : Registers)
    → (captures_boundary w (meaning d r.latch).selected ≡ true → a.captures (meaning d r.latch).mode ≡ b.captures (meaning d r.latch).mode)
    → after_rise w d a tdi r ≡ after_rise w d b tdi r
risen-alike (Captures Dr) d a b tdi r same =
    let m = meaning d r.latch in selected-captures m.selected m.fixed (a.captures m.mode) (b.captures m.mode) r same
risen-alike (Captures Ir) d a b tdi r same = refl
risen-alike (Shifts column) d a b tdi r same = refl
risen-alike (Updates column) d a b tdi r same = refl
risen-alike Resets d a b tdi r same = refl
risen-alike Waits d a b tdi r same = refl

rise-alike : (name : List ℕ) (core : List Bool) (follows : List Follow) (extest : Bool) (o : OneChip) (a : Surroundings) (about : Told) (tms tdi : Bool)
    → after_rise (work o.state) o.device a tdi o.registers
    ≡ after_rise (work o.state) o.device (surroundings about (state_of name core follows extest o).member) tdi o.registers
    → state_of name core follows extest (rise tms tdi a o) ≡ chain.rise o.trst tms tdi about (state_of name core follows extest o)
rise-alike name core follows extest o a about tms tdi same = by (is_held o) refl
  where
    by : (b : Bool) → is_held o ≡ b → state_of name core follows extest (rise tms tdi a o) ≡ chain.rise o.trst tms tdi about (state_of name core follows extest o)
    by true held = rw held refl
    by false held = rw held (ap (λ (r : Registers). state_of name core follows extest (record o { registers = r; state = next o.state tms })) same)

module _ (s : WiredChipValue) (cells : s.chip.boundary.cells ≡ s.chip.device.cells) where
  abbrev stage : BoundaryValue → List Bool
  stage b = b.stage

  abbrev update : BoundaryValue → List Bool
  update b = b.update

  abbrev now : OneChip
  now = one_chip stage update s.chip

  captures-alike : (sees : ℕ → Bool) (mode : Mode) → IsWhole s.chip.boundary → SeesSighted sees s.chip.device.cells s.chip.boundary.seen
      → captured_bits s.chip.boundary mode ≡ (surroundings (told_by sees s) (member_of s)).captures mode
  captures-alike sees mode whole told =
      let b = s.chip.boundary in
      captured_by_sighted sees (takes_update b.extest_update mode) b.update b.core 0 b.cells b.seen whole.seen whole.update whole.core (rw cells told)
      ∙ ap (λ (cs : List Cell). capture_by_sight sees (takes_update s.chip.boundary.extest_update mode) s.chip.boundary.update s.chip.boundary.core 0 cs) cells

  pub rises : (t : WiredChipValue) (sees : ℕ → Bool) (tms tdi : Bool)
      → one_chip stage update t.chip ≡ rise tms tdi (surroundings_of captured_bits at_reset s.chip) now
      → t.name ≡ s.name → t.constants ≡ s.constants → t.follows ≡ s.follows → t.chip.boundary.extest_update ≡ s.chip.boundary.extest_update
      → IsSighted sees s → chip_state t ≡ chain.rise s.chip.trst tms tdi (told_by sees s) (chip_state s)
  rises t sees tms tdi is name constants follows extest sighted =
      (λ i. state_of (name i) (constants i) (follows i) (extest i) (is i))
      ∙ rise-alike s.name s.constants s.follows s.chip.boundary.extest_update now (surroundings_of captured_bits at_reset s.chip) (told_by sees s) tms tdi
      (risen-alike (work s.chip.state) s.chip.device (surroundings_of captured_bits at_reset s.chip) (surroundings (told_by sees s) (member_of s)) tdi now.registers
      (λ yes. let w = sighted yes in captures-alike sees (meaning s.chip.device s.chip.latch).mode w.0 w.1))

  pub captures : (t : WiredChipValue) (sees : ℕ → Bool) (column : Column)
      → one_chip stage update t.chip ≡ with_registers (chip_registers.after_capture s.chip.device column (surroundings_of captured_bits at_reset s.chip) now.registers) now
      → t.name ≡ s.name → t.constants ≡ s.constants → t.follows ≡ s.follows → t.chip.boundary.extest_update ≡ s.chip.boundary.extest_update
      → IsSightedFor column sees s → chip_state t ≡ as_member (capture_member column (told_by sees s) (member_of s)) (chip_state s)
  captures t sees column is name constants follows extest sighted =
      let mode = (meaning s.chip.device s.chip.latch).mode in
      (λ i. state_of (name i) (constants i) (follows i) (extest i) (is i))
      ∙ ap (λ (r : Registers). state_of s.name s.constants s.follows s.chip.boundary.extest_update (with_registers r now))
      (risen-alike (Captures column) s.chip.device (surroundings_of captured_bits at_reset s.chip) (surroundings (told_by sees s) (member_of s)) false now.registers
      (λ yes. let w = sighted yes in captures-alike sees mode w.0 w.1))

-- ---- what an edge changes of what is driven

with-stage-latch : (selected : Selected) (bits : List Bool) (r : Registers) → (with_stage selected bits r).latch ≡ r.latch
with-stage-latch Bypass bits r = refl
with-stage-latch Identification bits r = refl
with-stage-latch Boundary bits r = refl
with-stage-latch (User k) bits r = refl

with-stage-update : (selected : Selected) (bits : List Bool) (r : Registers) → (with_stage selected bits r).update ≡ r.update
with-stage-update Bypass bits r = refl
with-stage-update Identification bits r = refl
with-stage-update Boundary bits r = refl
with-stage-update (User k) bits r = refl

risen-latch : (w : Work) (d : Device) (a : Surroundings) (tdi : Bool) (r : Registers) → (after_rise w d a tdi r).latch ≡ r.latch
risen-latch (Captures Dr) d a tdi r = with-stage-latch (meaning d r.latch).selected _ r
risen-latch (Captures Ir) d a tdi r = refl
risen-latch (Shifts Dr) d a tdi r = with-stage-latch (meaning d r.latch).selected _ r
risen-latch (Shifts Ir) d a tdi r = refl
risen-latch (Updates column) d a tdi r = refl
risen-latch Resets d a tdi r = refl
risen-latch Waits d a tdi r = refl

risen-update : (w : Work) (d : Device) (a : Surroundings) (tdi : Bool) (r : Registers) → (after_rise w d a tdi r).update ≡ r.update
risen-update (Captures Dr) d a tdi r = with-stage-update (meaning d r.latch).selected _ r
risen-update (Captures Ir) d a tdi r = refl
risen-update (Shifts Dr) d a tdi r = with-stage-update (meaning d r.latch).selected _ r
risen-update (Shifts Ir) d a tdi r = refl
risen-update (Updates column) d a tdi r = refl
risen-update Resets d a tdi r = refl
risen-update Waits d a tdi r = refl

pub put-latch : (column : Column) (d : Device) (bits : List Bool) (r : Registers) → (put d column bits r).latch ≡ r.latch
put-latch Dr d bits r = with-stage-latch (meaning d r.latch).selected bits r
put-latch Ir d bits r = refl

pub put-update : (column : Column) (d : Device) (bits : List Bool) (r : Registers) → (put d column bits r).update ≡ r.update
put-update Dr d bits r = with-stage-update (meaning d r.latch).selected bits r
put-update Ir d bits r = refl

-- A rising edge changes nothing that is driven, whatever the core bits are.
pub rise_drives : (trst tms tdi : Bool) (about : Told) (c : ChipState) (core : List Bool) (p : ℕ)
    → drive (record (chain.rise trst tms tdi about c).member { core = core }) p ≡ drive (record c.member { core = core }) p
rise_drives trst tms tdi about c core p = by (chain.is_held trst c.member) refl
  where
    m : Member
    m = c.member

    after : Registers
    after = after_rise (work c.state) m.device (surroundings about m) tdi m.registers

    by : (b : Bool) → chain.is_held trst c.member ≡ b
        → drive (record (chain.rise trst tms tdi about c).member { core = core }) p ≡ drive (record c.member { core = core }) p
    by true held = rw held refl
    by false held = rw held
        (ap (λ (l : List Bool). drive_in (meaning m.device l).mode m.device.cells after.update core p) (risen-latch (work c.state) m.device (surroundings about m) tdi m.registers)
        ∙ ap (λ (u : List Bool). drive_in (meaning m.device m.registers.latch).mode m.device.cells u core p) (risen-update (work c.state) m.device (surroundings about m) tdi m.registers))

-- Whatever the nets are, a capture of the data column takes each bit from its source.
use Rattle.std.proofs.Common.{◌≡◌, ℕ, suc, ◌+◌, Bool, false, List, [], ◌∷◌, ◌++◌, map, Option, Some, None, refl, sym, ap, ap₂, subst, ◌∙◌, arith}
use Rattle.std.proofs.lemmas.List.{map-append}
use Rattle.jt_bits.specs.Words.{bit_of}
use Rattle.jt_tap.specs.declared.Column.TheVariants.{Dr}
use Rattle.bsdl_device.specs.declared.Cell.{Cell}
use Rattle.bsdl_device.specs.declared.Function.{Function}
use Rattle.bsdl_device.specs.declared.Function.TheVariants as function
use Rattle.chip_instructions.specs.Instruction.{Meaning, meaning}
use Rattle.chip_instructions.specs.declared.Selected.{Selected}
use Rattle.chip_instructions.specs.declared.Selected.TheVariants.{Bypass, Identification, Boundary, User}
use Rattle.chip_registers.specs.Registers.{Registers, capture_of, stage_of, with_stage}
use Rattle.boundary.specs.Cells.{cell_captures, takes_update}
use Rattle.boundary.specs.Masks.{sighted_port}
use Rattle.boundary.specs.Sight.{capture_by_sight, seen_at}
use Rattle.pin_nets.specs.Wired.{Net}
use Rattle.board_model.specs.Cells.{Member, Told, surroundings}
use Rattle.board_model.specs.Nets.{core_at, rounds, sees_under, strings, told, told_under}
use Rattle.board_model.specs.Whole.{capture_all, capture_member, joined_bits, selected_bits_of}
use Rattle.fault_events.specs.Sources.{CapturesTakeFromSources, Source, Fixed, cell_sources, fixed_bits, member_sources, register_sources, source_at, sources_from, taken}

-- ---- one register

latch-kept : (s : Selected) (bits : List Bool) (r : Registers) → (with_stage s bits r).latch ≡ r.latch
latch-kept Bypass bits r = refl
latch-kept Identification bits r = refl
latch-kept Boundary bits r = refl
latch-kept (User k) bits r = refl

module _ (nets : List Net) (all : List Member) where
  abbrev take : Source → Bool
  take = taken nets all

  taken-fixed : (bits : List Bool) → bits ≡ map take (map Fixed bits)
  taken-fixed [] = refl
  taken-fixed (b ∷ bits) = ap (λ (bs : List Bool). b ∷ bs) (taken-fixed bits)

  -- of one cell
  cell-taken : (k : ℕ) (fu u c : Bool) (port : Option ℕ) (f : Function)
      → cell_captures (seen_at (sees_under nets all k) port) fu u c port f
      ≡ take (source_at k (sighted_port port f) (cell_captures false fu u c port f))
  cell-taken k fu u c (Some p) function.Input = refl
  cell-taken k fu u c (Some p) function.Clock = refl
  cell-taken k fu u c (Some p) function.ObserveOnly = refl
  cell-taken k fu u c (Some p) function.Bidir = refl
  cell-taken k fu u c (Some p) function.Output2 = refl
  cell-taken k fu u c (Some p) function.Output3 = refl
  cell-taken k fu u c (Some p) function.Control = refl
  cell-taken k fu u c (Some p) function.ControlR = refl
  cell-taken k fu u c (Some p) function.Internal = refl
  cell-taken k fu u c None function.Input = refl
  cell-taken k fu u c None function.Clock = refl
  cell-taken k fu u c None function.ObserveOnly = refl
  cell-taken k fu u c None function.Bidir = refl
  cell-taken k fu u c None function.Output2 = refl
  cell-taken k fu u c None function.Output3 = refl
  cell-taken k fu u c None function.Control = refl
  cell-taken k fu u c None function.ControlR = refl
  cell-taken k fu u c None function.Internal = refl

  cells-taken : (k : ℕ) (fu : Bool) (update core : List Bool) (j : ℕ) (cs : List Cell)
      → capture_by_sight (sees_under nets all k) fu update core j cs ≡ map take (cell_sources k fu update core j cs)
  cells-taken k fu update core j [] = refl
  cells-taken k fu update core j (c ∷ cs) =
      ap₂ (λ (b : Bool) (bs : List Bool). b ∷ bs) (cell-taken k fu (bit_of update j) (bit_of core j) c.port c.function)
      (cells-taken k fu update core (suc j) cs)

  -- what the boundary of a device captures
  abbrev sees : ℕ → Meaning → Member → List Bool
  sees k it m = capture_by_sight (sees_under nets all k) (takes_update m.extest_update it.mode) m.registers.update m.core 0 m.device.cells

  register-taken : (k : ℕ) (it : Meaning) (s : Selected) (m : Member)
      → stage_of s (with_stage s (capture_of s it.fixed (sees k it m) m.registers) m.registers) ≡ map take (register_sources k it s m)
  register-taken k it Bypass m = refl
  register-taken k it Identification m = taken-fixed (fixed_bits Identification it.fixed m.registers)
  register-taken k it Boundary m = cells-taken k (takes_update m.extest_update it.mode) m.registers.update m.core 0 m.device.cells
  register-taken k it (User j) m = taken-fixed (fixed_bits (User j) it.fixed m.registers)

  -- one device at its place, told its core
  member-taken : (k : ℕ) (m : Member) → core_at all k ≡ m.core
      → selected_bits_of Dr (capture_member Dr (told_under nets all k) m) ≡ map take (member_sources k m)
  member-taken k m core =
      let it = meaning m.device m.registers.latch in
      let took = λ (bits : List Bool). with_stage it.selected (capture_of it.selected it.fixed bits m.registers) m.registers in
      let own = (surroundings (told_under nets all k) m).captures it.mode in
      ap (λ (latch : List Bool). stage_of (meaning m.device latch).selected (took own)) (latch-kept it.selected _ m.registers)
      ∙ ap (λ (bits : List Bool). stage_of it.selected (took (capture_by_sight (sees_under nets all k) (takes_update m.extest_update it.mode) m.registers.update bits 0 m.device.cells))) core
      ∙ register-taken k it it.selected m

  -- from device k on
  all-taken : (k : ℕ) (ms : List Member) → ((j : ℕ) → core_at all (k + j) ≡ core_at ms j)
      → joined_bits Dr (capture_all Dr (told_under nets all) k ms) ≡ map take (sources_from k ms)
  all-taken k [] cores = refl
  all-taken k (m ∷ ms) cores =
      let here : k + 0 ≡ k = omega arith in
      let core : core_at all k ≡ m.core = subst (λ (n : ℕ). core_at all n ≡ m.core) here (cores 0) in
      ap₂ (λ (a b : List Bool). a ++ b) (member-taken k m core)
      (all-taken (suc k) ms (λ j. let next : k + suc j ≡ suc k + j = omega arith in subst (λ (n : ℕ). core_at all n ≡ core_at ms j) next (cores (suc j))))
      ∙ sym (map-append take (member_sources k m) (sources_from (suc k) ms))

-- devices without strings keep their constants
pub told-constant : (nets : List Net) (ms : List Member) → strings ms ≡ 0 → told nets ms ≡ told_under nets ms
told-constant nets ms none = ap (λ (n : ℕ). told_under nets (rounds n nets ms ms)) none

pub captures_take : CapturesTakeFromSources
captures_take m none nets =
    ap (λ (about : ℕ → Told). joined_bits Dr (capture_all Dr about 0 m.members)) (told-constant nets m.members none)
    ∙ all-taken nets m.members 0 m.members (λ j. let own : 0 + j ≡ j = omega arith in ap (core_at m.members) own)

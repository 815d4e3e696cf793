-- What a cell captured is the bit that is told of it.
use Rattle.std.proofs.Common.{◌≡◌, Bool, true, false, ℕ, zero, suc, ◌+◌, List, [], ◌∷◌, Option, Some, None, option_map, slice_get, refl, sym, ap, ◌∙◌, arith, inl, inr}
use Rattle.std.specs.Prelude.{if◌then◌else◌, option_and_then, unwrap_or, find}
use Rattle.std.proofs.lemmas.Bool.{cases_Bool}
use Rattle.jt_tap.specs.declared.Column.TheVariants.{Dr}
use Rattle.bsdl_device.specs.declared.Cell.{Cell}
use Rattle.bsdl_device.specs.declared.Function.{Function}
use Rattle.bsdl_device.specs.declared.Function.TheVariants as kind
use Rattle.chip_instructions.specs.declared.Selected.{Selected}
use Rattle.chip_instructions.specs.declared.Selected.TheVariants.{Boundary}
use Rattle.chip_instructions.specs.Instruction.{meaning}
use Rattle.chip_registers.specs.Registers.{Registers, capture_of, stage_of, with_stage}
use Rattle.boundary.specs.Cells.{cell_captures, takes_update}
use Rattle.boundary.specs.Sight.{capture_by_sight, seen_at}
use Rattle.pin_nets.specs.Levels.{reads}
use Rattle.pin_nets.specs.Wired.{Net, joins}
use Rattle.board_plan.specs.CellNets.{first_net}
use Rattle.board_model.specs.Cells.{Member, Told, surroundings}
use Rattle.board_model.specs.Nets.{in_force, level, level_under, lone_net, told}
use Rattle.board_model.specs.Whole.{AtRest, capture, capture_all, capture_member, selected_bits_of}
use Rattle.board_model.specs.Following.{BitsInForceStay}
use Rattle.board_reasons.specs.declared.origins.Captured.TheVariants.{Core, Sight}
use Rattle.board_reasons.specs.Holders.{captured_by, net_level}
use Rattle.board_reasons.specs.Laws.{CellsHoldWhatIsTold, bit_at, bit_told}
use Rattle.board_reasons.proofs.Captures.{kept_levels, latch_stays}

-- ---- the device that has captured

one_more : (i j k : ℕ) → i + suc j ≡ k → suc i + j ≡ k
one_more i j k e = omega (arith, e)

-- the device at a place, from device i on
captured_there : (about : ℕ → Told) (i : ℕ) (ms : List Member) (j k : ℕ) (d : Member) → i + j ≡ k → slice_get ms j ≡ Some d
    → slice_get (capture_all Dr about i ms) j ≡ Some (capture_member Dr (about k) d)
captured_there about i [] j k d at e = absurd cc
captured_there about i (m ∷ ms) zero k d at e =
    let here : i ≡ k = omega (arith, at) in
    let same : m ≡ d = cc in
    λ n. Some (capture_member Dr (about (here n)) (same n))
captured_there about i (m ∷ ms) (suc j) k d at e = captured_there about (suc i) ms j k d (one_more i j k at) e

-- its boundary register, where that is selected, has what its cells capture
module _ (about : Told) (d : Member) where
  mine : List Bool
  mine = (surroundings about d).captures (meaning d.device d.registers.latch).mode

  put_by : Selected → Registers
  put_by s =
      let it = meaning d.device d.registers.latch in
      with_stage s (capture_of s it.fixed ((surroundings about d).captures it.mode) d.registers) d.registers

  selected_of : Registers → List Bool
  selected_of r = stage_of (meaning d.device r.latch).selected r

  holds : (meaning d.device d.registers.latch).selected ≡ Boundary
      → selected_bits_of Dr (capture_member Dr about d)
      ≡ capture_by_sight about.sight (takes_update d.extest_update (meaning d.device d.registers.latch).mode) d.registers.update about.core 0 d.device.cells
  unfolding put_by selected_of mine
  holds boundary =
      ap (λ s. selected_of (put_by s)) boundary
      ∙ ap (λ s. stage_of s (put_by Boundary)) boundary

  latch_kept : (capture_member Dr about d).registers.latch ≡ d.registers.latch
  latch_kept =
      let it = meaning d.device d.registers.latch in
      sym (latch_stays it.selected (capture_of it.selected it.fixed ((surroundings about d).captures it.mode) d.registers) d.registers)

-- one of its cells, from cell i on
sight_at : (sees : ℕ → Bool) (from : Bool) (update core : List Bool) (i : ℕ) (cells : List Cell) (j k : ℕ) (c : Cell) → i + j ≡ k → slice_get cells j ≡ Some c
    → slice_get (capture_by_sight sees from update core i cells) j
    ≡ Some (cell_captures (seen_at sees c.port) from (bit_at update k) (bit_at core k) c.port c.function)
sight_at sees from update core i [] j k c at e = absurd cc
sight_at sees from update core i (x ∷ cells) zero k c at e =
    let here : i ≡ k = omega (arith, at) in
    let same : x ≡ c = cc in
    λ n. Some (cell_captures (seen_at sees (same n).port) from (bit_at update (here n)) (bit_at core (here n)) (same n).port (same n).function)
sight_at sees from update core i (x ∷ cells) (suc j) k c at e = sight_at sees from update core (suc i) cells j k c (one_more i j k at) e

-- ---- the net of a port

-- the first net that joins a port bit, by its number
record First (place port : ℕ) (nets : List Net) (n j : ℕ) : Type 0 where
  net : Net
  there : slice_get nets j ≡ Some net
  found : find (joins place port) nets ≡ Some net

first_is : (place port i : ℕ) (nets : List Net) (n : ℕ) → first_net place port i nets ≡ Some n → (j : ℕ) × (i + j ≡ n) × First place port nets n j
first_is place port i [] n e = absurd cc
first_is place port i (x ∷ nets) n e =
    elim (cases_Bool (joins place port x)) [
      | inl hit ↦
          let here : Some i ≡ Some n = sym (ap (λ (b : Bool). if b then Some i else first_net place port (suc i) nets) hit) ∙ e in
          let same : i ≡ n = ap (λ (o : Option ℕ). unwrap_or o i) here in (
            zero,
            omega (arith, same),
            record { net = x; there = refl; found = ap (λ (b : Bool). if b then Some x else find (joins place port) nets) hit },
          )
      | inr miss ↦
          let more = first_is place port (suc i) nets n (sym (ap (λ (b : Bool). if b then Some i else first_net place port (suc i) nets) miss) ∙ e) in
          let next : i + suc more.0 ≡ n = omega (arith, more.1) in
          let it = more.2 in (
            suc more.0,
            next,
            record { net = it.net; there = it.there; found = ap (λ (b : Bool). if b then Some x else find (joins place port) nets) miss ∙ it.found },
          )
    ]

module _ (stay : BitsInForceStay) (m : AtRest) (device : ℕ) (d : Member) (cell : ℕ) where
  after : AtRest
  after = capture Dr m

  about : Told
  about = told m.nets m.members device

  -- what a port sees is what the level of its net reads as
  sees_level : (p : ℕ) (o : Option ℕ) → first_net device p 0 m.nets ≡ o
      → (told m.nets m.members device).sight p
      ≡ bit_told (told m.nets m.members device) d cell (Some p) (Sight (option_and_then (net_level m.nets (capture Dr m).members) o))
  sees_level p None e = refl
  sees_level p (Some n) e =
      let first = first_is device p 0 m.nets n e in
      let it = first.2 in
      let number : first.0 ≡ n = omega (arith, first.1) in
      let there : slice_get m.nets n ≡ Some it.net = ap (slice_get m.nets) (sym number) ∙ it.there in
      ap (λ (o : Option Net). reads (level_under (in_force m.nets m.members) (unwrap_or o (lone_net device p)))) it.found
      ∙ ap reads (sym (kept_levels stay Dr m it.net))
      ∙ sym
      (ap
      (λ (o : Option Net). bit_told (told m.nets m.members device) d cell (Some p) (Sight (option_map (λ (net : Net). record { net = n; level = level m.nets (capture Dr m).members net }) o)))
      there)

  captures_told : (from : Bool) (port : Option ℕ) (function : Function)
      → cell_captures (seen_at (told m.nets m.members device).sight port) from (bit_at d.registers.update cell) (bit_at (told m.nets m.members device).core cell) port function
      ≡ bit_told (told m.nets m.members device) d cell port
      (captured_by from (option_and_then (net_level m.nets (capture Dr m).members) (option_and_then (λ p. first_net device p 0 m.nets) port)) port function)
  captures_told from (Some p) kind.Input = sees_level p (first_net device p 0 m.nets) refl
  captures_told from (Some p) kind.Clock = sees_level p (first_net device p 0 m.nets) refl
  captures_told from (Some p) kind.ObserveOnly = sees_level p (first_net device p 0 m.nets) refl
  captures_told from (Some p) kind.Bidir = sees_level p (first_net device p 0 m.nets) refl
  captures_told from (Some p) kind.Internal = refl
  captures_told from None kind.Internal = refl
  captures_told true (Some p) kind.Output2 = refl
  captures_told true (Some p) kind.Output3 = refl
  captures_told true (Some p) kind.Control = refl
  captures_told true (Some p) kind.ControlR = refl
  captures_told false (Some p) kind.Output2 = refl
  captures_told false (Some p) kind.Output3 = refl
  captures_told false (Some p) kind.Control = refl
  captures_told false (Some p) kind.ControlR = refl
  captures_told true None kind.Input = refl
  captures_told true None kind.Clock = refl
  captures_told true None kind.ObserveOnly = refl
  captures_told true None kind.Bidir = refl
  captures_told true None kind.Output2 = refl
  captures_told true None kind.Output3 = refl
  captures_told true None kind.Control = refl
  captures_told true None kind.ControlR = refl
  captures_told false None kind.Input = refl
  captures_told false None kind.Clock = refl
  captures_told false None kind.ObserveOnly = refl
  captures_told false None kind.Bidir = refl
  captures_told false None kind.Output2 = refl
  captures_told false None kind.Output3 = refl
  captures_told false None kind.Control = refl
  captures_told false None kind.ControlR = refl

pub cells_hold : BitsInForceStay → CellsHoldWhatIsTold
cells_hold stay m device cell d c stands boundary here =
    let about = told m.nets m.members device in
    let e = capture_member Dr about d in
    let ms = (capture Dr m).members in
    let it = meaning d.device d.registers.latch in
    let from = takes_update d.extest_update it.mode in
    let there : slice_get ms device ≡ Some e = captured_there (told m.nets m.members) 0 m.members device device d (omega arith) stands in
    let told_of = λ (latch : List Bool) (o : Option Cell).
    bit_told about d cell c.port
    (unwrap_or
    (option_map
    (λ (x : Cell).
    captured_by (takes_update d.extest_update (meaning d.device latch).mode)
    (option_and_then (net_level m.nets ms) (option_and_then (λ (y : Cell). option_and_then (λ p. first_net device p 0 m.nets) y.port) (slice_get d.device.cells cell))) x.port
    x.function)
    o)
    Core) in
    ap (λ (o : Option Member). option_and_then (λ x. slice_get (selected_bits_of Dr x) cell) o) there
    ∙ ap (λ (bits : List Bool). slice_get bits cell) (holds about d boundary)
    ∙ sight_at about.sight from d.registers.update about.core 0 d.device.cells cell cell c (omega arith) here
    ∙ ap (λ b. Some b) (captures_told stay m device d cell from c.port c.function)
    ∙ ap
    (λ (o : Option Cell).
    Some
    (bit_told about d cell c.port
    (captured_by from (option_and_then (net_level m.nets ms) (option_and_then (λ (y : Cell). option_and_then (λ p. first_net device p 0 m.nets) y.port) o)) c.port c.function)))
    (sym here)
    ∙ ap (λ (o : Option Cell). Some (told_of d.registers.latch o)) (sym here)
    ∙ ap (λ (latch : List Bool). Some (told_of latch (slice_get d.device.cells cell))) (sym (latch_kept about d))

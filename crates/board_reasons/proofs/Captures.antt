-- A capture changes no pin's drive.
use Rattle.std.proofs.Common.{◌≡◌, Bool, ℕ, suc, List, [], ◌∷◌, refl, sym, ap, ◌∙◌}
use Rattle.jt_tap.specs.declared.Column.{Column}
use Rattle.jt_tap.specs.declared.Column.TheVariants.{Dr, Ir}
use Rattle.chip_instructions.specs.declared.Selected.{Selected}
use Rattle.chip_instructions.specs.declared.Selected.TheVariants.{Bypass, Identification, Boundary, User}
use Rattle.chip_instructions.specs.Instruction.{meaning}
use Rattle.boundary.specs.Cells.{drive_in}
use Rattle.chip_registers.specs.Registers.{Registers, with_stage, capture_of}
use Rattle.board_model.specs.Cells.{Member, Told, surroundings}
use Rattle.board_model.specs.Whole.{capture_member, capture_all}
use Rattle.board_model.specs.Nets.{told}
use Rattle.board_model.specs.Following.{AllDriveAlike, DrivesAlike, BitsInForceStay}
use Rattle.board_reasons.specs.Laws.{CaptureKeepsLevels}

pub latch_stays : (s : Selected) (bits : List Bool) (r : Registers) → r.latch ≡ (with_stage s bits r).latch
latch_stays Bypass bits r = refl
latch_stays Identification bits r = refl
latch_stays Boundary bits r = refl
latch_stays (User k) bits r = refl

update_stays : (s : Selected) (bits : List Bool) (r : Registers) → r.update ≡ (with_stage s bits r).update
update_stays Bypass bits r = refl
update_stays Identification bits r = refl
update_stays Boundary bits r = refl
update_stays (User k) bits r = refl

alike : (column : Column) (about : Told) (m : Member) → DrivesAlike m (capture_member column about m)
alike Ir about m = record { same = refl; drives = λ core port. refl }
alike Dr about m =
    let r = m.registers in
    let it = meaning m.device r.latch in
    let bits = capture_of it.selected it.fixed ((surroundings about m).captures it.mode) r in
    record {
      same = refl;
      drives = λ core port.
          ap (λ latch. drive_in (meaning m.device latch).mode m.device.cells r.update core port) (latch_stays it.selected bits r)
          ∙ ap (λ update. drive_in (meaning m.device (with_stage it.selected bits r).latch).mode m.device.cells update core port) (update_stays it.selected bits r);
    }

all_alike : (column : Column) (about : ℕ → Told) (k : ℕ) (ms : List Member) → AllDriveAlike ms (capture_all column about k ms)
all_alike column about k [] = tt
all_alike column about k (m ∷ ms) = (alike column (about k) m, all_alike column about (suc k) ms)

pub kept_levels : BitsInForceStay → CaptureKeepsLevels
kept_levels stay column m net =
    sym ((stay m.nets m.members (capture_all column (told m.nets m.members) 0 m.members) (all_alike column (told m.nets m.members) 0 m.members)).levels net)

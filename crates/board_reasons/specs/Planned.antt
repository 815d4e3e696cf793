-- The devices that a chain was planned of, as far as EXTEST captures their update stages or not.
use Rattle.std.specs.Prelude.{◌≡◌, Bool, false, ℕ, List, map, option_map, slice_get, unwrap_or}
use Rattle.board_plan.specs.declared.plan.PlannedDevice.{PlannedDevice}
use Rattle.board_model.specs.Cells.{Member}

-- in the one as in the other, device by device
abbrev pub CaptureAlike : List PlannedDevice → List Member → Type 0
CaptureAlike devices ms =
    map (λ (p : PlannedDevice). p.extest_update) devices ≡ map (λ (m : Member). m.extest_update) ms

-- whether EXTEST captures the update stage of the device at a place
abbrev pub updates_at : List PlannedDevice → ℕ → Bool
updates_at devices k = unwrap_or (option_map (λ (p : PlannedDevice). p.extest_update) (slice_get devices k)) false

use Rattle.std.proofs.Common.{Bool, ℕ, [], sym, ap, ◌∙◌}
use Rattle.std.specs.Prelude.{if◌then◌else◌}
use Rattle.byte_streams.proofs.Fronts.{WritesAll-is}
use Rattle.board_plan.specs.Planned.{all_pins}
use Rattle.wave_files.specs.Drives.{drive_line, driving}
use Rattle.wave_files.specs.Values.{by_numbers, first_of_drives}
use Rattle.wave_files.proofs.drives.write_drive_values.Goals as goal

pub returns-then-not-drives : goal.returns-then-not-drives
returns-then-not-drives g c =
    let cs = c.args.chain.now.chips in
    let nets = c.args.chain.now.nets in
    WritesAll-is
    (sym (ap (λ (b : Bool). if b then by_numbers (drive_line (driving nets cs)) 1 (first_of_drives cs nets) (all_pins nets) else []) c.if-not-drives.true))
    c.put_all.ensures.writes

pub returns : goal.returns
returns g c =
    let cs = c.args.chain.now.chips in
    let nets = c.args.chain.now.nets in
    WritesAll-is
    (ap (λ (n : ℕ). by_numbers (drive_line (driving nets cs)) 1 n (all_pins nets)) c.first_of_drives.ensures.number
    ∙ sym (ap (λ (b : Bool). if b then by_numbers (drive_line (driving nets cs)) 1 (first_of_drives cs nets) (all_pins nets) else []) c.if-not-drives.false))
    c.write_drives.ensures

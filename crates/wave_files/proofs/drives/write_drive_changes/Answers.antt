use Rattle.std.proofs.Common.{Bool, ℕ, [], sym, ap, ◌∙◌}
use Rattle.std.specs.Prelude.{if◌then◌else◌}
use Rattle.byte_streams.proofs.Fronts.{WritesAll-is}
use Rattle.board_plan.specs.Planned.{all_pins}
use Rattle.wave_files.specs.Drives.{drive_change, driving}
use Rattle.wave_files.specs.Values.{by_numbers, first_of_drives}
use Rattle.wave_files.proofs.Pins.{no_drive}
use Rattle.wave_files.proofs.drives.write_drive_changes.Goals as goal

pub returns-then-not-drives : goal.returns-then-not-drives
returns-then-not-drives g c =
    let nets = c.args.behind.now.nets in
    let cs = c.args.behind.now.chips in
    let ds = c.args.ahead.now.chips in
    WritesAll-is
    (sym (ap (λ (b : Bool). if b then by_numbers (drive_change (driving nets cs) (driving nets ds)) 1 (first_of_drives cs nets) (all_pins nets) else [])
    c.if-not-drives.true))
    c.put_all.ensures.writes

pub returns-then-quiet : goal.returns-then-quiet
returns-then-quiet g c =
    WritesAll-is
    (sym (no_drive c.args.drives c.args.behind.now.nets c.args.behind.now.chips c.args.ahead.now.chips (c.requires.quiet c.if-quiet.true)))
    c.put_all-then-quiet.ensures.writes

pub returns : goal.returns
returns g c =
    let nets = c.args.behind.now.nets in
    let cs = c.args.behind.now.chips in
    let ds = c.args.ahead.now.chips in
    WritesAll-is
    (ap (λ (n : ℕ). by_numbers (drive_change (driving nets cs) (driving nets ds)) 1 n (all_pins nets)) c.first_of_drives.ensures.number
    ∙ sym (ap (λ (b : Bool). if b then by_numbers (drive_change (driving nets cs) (driving nets ds)) 1 (first_of_drives cs nets) (all_pins nets) else [])
    c.if-not-drives.false))
    c.write_each_drive.ensures

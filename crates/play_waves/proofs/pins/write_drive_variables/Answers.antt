use Rattle.std.proofs.Common.{Bool, ℕ, [], sym, ap, ◌∙◌}
use Rattle.std.specs.Prelude.{if◌then◌else◌}
use Rattle.byte_streams.proofs.Fronts.{WritesAll-is}
use Rattle.wave_files.specs.Heading.{net_scopes}
use Rattle.wave_files.specs.Values.{first_of_drives}
use Rattle.play_waves.proofs.pins.write_drive_variables.Goals as goal

pub returns-then-not-drives : goal.returns-then-not-drives
returns-then-not-drives g c =
    let cs = c.args.chain.now.chips in
    let nets = c.args.chain.now.nets in
    WritesAll-is (sym (ap (λ (b : Bool). if b then net_scopes cs (first_of_drives cs nets) nets else []) c.if-not-drives.true)) c.put_all.ensures.writes

pub returns : goal.returns
returns g c =
    let cs = c.args.chain.now.chips in
    let nets = c.args.chain.now.nets in
    WritesAll-is
    (ap (λ (n : ℕ). net_scopes cs n nets) c.first_of_drives.ensures.number
    ∙ sym (ap (λ (b : Bool). if b then net_scopes cs (first_of_drives cs nets) nets else []) c.if-not-drives.false))
    c.write_net_scopes.ensures

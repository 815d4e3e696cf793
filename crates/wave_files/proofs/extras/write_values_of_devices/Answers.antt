use Rattle.std.proofs.Common.{Bool, ℕ, [], sym, ap, ◌∙◌}
use Rattle.std.specs.Prelude.{if◌then◌else◌}
use Rattle.byte_streams.proofs.Fronts.{WritesAll-is}
use Rattle.wave_files.specs.Extras.{extra_lines}
use Rattle.wave_files.specs.Values.{by_numbers, extras_of_device, first_of_extras}
use Rattle.wave_files.proofs.extras.write_values_of_devices.Goals as goal

pub returns-then-not-of_devices : goal.returns-then-not-of_devices
returns-then-not-of_devices g c =
    let x = c.args.extras in
    let cs = c.args.chain.now.chips in
    let nets = c.args.chain.now.nets in
    WritesAll-is
    (sym (ap (λ (b : Bool). if b then by_numbers (extra_lines x) extras_of_device (first_of_extras cs nets) cs else []) (sym c.of_devices.ensures ∙ c.if-not-of_devices.true)))
    c.put_all.ensures.writes

pub returns : goal.returns
returns g c =
    let x = c.args.extras in
    let cs = c.args.chain.now.chips in
    let nets = c.args.chain.now.nets in
    WritesAll-is
    (ap (λ (n : ℕ). by_numbers (extra_lines x) extras_of_device n cs) c.first_of_extras.ensures.number
    ∙ sym (ap (λ (b : Bool). if b then by_numbers (extra_lines x) extras_of_device (first_of_extras cs nets) cs else []) (sym c.of_devices.ensures ∙ c.if-not-of_devices.false)))
    c.write_values.ensures

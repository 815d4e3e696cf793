use Rattle.std.proofs.Common.{◌≡◌, ◌∙◌, ap, rules, tests}
use Rattle.std.specs.Prelude.{option_and_then, option_map}
use Rattle.svf_settings.specs.LookBack as look
use Rattle.svf_settings.specs.Held.{settings_in}
use Rattle.svf_programs.specs.Held.{field_at, tdi_of, mask_of}
use Rattle.svf_programs.specs.declared.kept.KeptPart.{KeptPart}
use Rattle.svf_settings.proofs.KeptFields.{kept_in_force, tdi_kept, mask_kept}
use Rattle.svf_settings.proofs.running.Running.written.Goals as goal

pub returns : goal.returns
returns c = λ all alike tdo smask at.
    let previous = look.last_of_command c.args.given.which (settings_in all c.args.self.now) in
    let tdi_is : c.map.result ≡ option_map (λ (p : KeptPart). p.tdi) c.last_as_long-earlier.result = search (rules, tests) in
    let mask_is : c.map-2.result ≡ option_map (λ (p : KeptPart). p.mask) c.last_as_long-earlier.result = search (rules, tests) in
    kept_in_force all c.args.given.which c.args.given.len c.args.given.tdi.now tdo c.args.given.mask.now smask c.args.index previous
    c.written_or.result c.written_or-2.result c.map.result c.map-2.result at
    c.written_or.ensures c.written_or-2.ensures
    (ap (option_and_then (field_at tdi_of all)) tdi_is ∙ tdi_kept all c.last_as_long-earlier.result ∙ c.last_as_long-earlier.ensures all alike (λ f. f.tdi))
    (ap (option_and_then (field_at mask_of all)) mask_is ∙ mask_kept all c.last_as_long-earlier.result ∙ c.last_as_long-earlier.ensures all alike (λ f. f.mask))

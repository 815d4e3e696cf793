-- Judging a description that is well formed: the refusals in their order, and the device that it says (IEEE Std
-- 1149.1-2001, Annex B.8).
use Rattle.std.specs.Prelude.{ℕ, Bool, if◌then◌else◌, List, map, Option, Some, None, option_map}
use Rattle.std.specs.Option.{option_or}
use Rattle.std.specs.Prelude.{Result, Ok, Err, codes}
use Rattle.jt_limits.specs.declared.Limits.{Limits}
use Rattle.jt_limits.specs.Limits.{limits}
use Rattle.bsdl.specs.Form.{text_form_within}
use Rattle.bsdl_device.specs.Device.{Device}
use Rattle.bsdl_entity.specs.Entity.{File}
use Rattle.bsdl.specs.Built.{device}
use Rattle.bsdl_opcodes.specs.ResetOpcode.{opcode, resets_to_idcode}
use Rattle.bsdl_rules.specs.Namings.{Naming}
use Rattle.bsdl_rules.specs.Twice.{given_again}
use Rattle.bsdl_rules.specs.Lengths.{captures_one, ends_in_one, lengths_fit}
use Rattle.bsdl_rules.specs.Fits.{unfit_cell}
use Rattle.bsdl_rules.specs.Limits.{keeps}
use Rattle.bsdl_description.specs.Describing.{Refusal, twice, bad_length, bad_capture, bad_id, bad_cell, too_large}
use Rattle.bsdl_description.specs.Describing.{Description, described, ◌>>?◌}

-- ---- given twice

-- the first name given again, or IDCODE where its opcode names another instruction
abbrev pub twice_in : Description → Option Naming → Option Refusal
twice_in d (Some n) = Some (twice n.name)
twice_in d None =
    let opcodes = map opcode d.opcodes in if resets_to_idcode opcodes then None else Some (twice (codes "IDCODE"))

-- ---- the judgement

abbrev pub unless : Bool → Refusal → Option Refusal
unless ok r = if ok then None else Some r

abbrev pub fault_within : Limits → Description → Option Refusal
fault_within l d =
    option_or (twice_in d (given_again d))
    (option_or (unless (lengths_fit d) bad_length)
    (option_or (option_or (unless (captures_one d.capture) bad_capture) (unless (ends_in_one d.idcodes) bad_id))
    (option_or (option_map bad_cell (unfit_cell d))
    (unless (keeps l d) too_large))))

abbrev pub device_or_refusal : Option Refusal → Description → Result Device Refusal
device_or_refusal None d = Ok (device d)
device_or_refusal (Some r) d = Err r

abbrev pub file_says_within : Limits → File → Result Device Refusal
file_says_within l f = described f >>? λ d. device_or_refusal (fault_within l d) d

-- what a text says: a device, or its first refusal
abbrev pub text_says_within : Limits → List ℕ → Result Device Refusal
text_says_within l text = text_form_within l text >>? file_says_within l

-- ---- within the limits that stand

abbrev pub fault : Description → Option Refusal
fault d = fault_within limits d

abbrev pub file_says : File → Result Device Refusal
file_says f = file_says_within limits f

abbrev pub text_says : List ℕ → Result Device Refusal
text_says text = text_says_within limits text

-- What answers of the code stand for.
use Rattle.std.specs.Prelude.{◌≡◌, ⊤, Option, Some, None, MatchOption, Result, Ok, Err, string_bytes}
use Rattle.bsdl_device.specs.Device.{Device}
use Rattle.bsdl.specs.declared.fault.BsdlFault.{BsdlFault}
use Rattle.bsdl.specs.declared.fault.BsdlFault.TheVariants.{BadToken, BadForm, Missing, Twice, BadLength, BadCapture}
use Rattle.bsdl.specs.declared.fault.BsdlFault.TheVariants.{BadId, BadCell, TooLarge, NoMemory}
use Rattle.bsdl_entity.specs.declared.entity.Outline.{Outline}
use Rattle.bsdl_entity.specs.Entity.{File}
use Rattle.bsdl_description.specs.declared.description.Description as declared_description
use Rattle.bsdl_description.specs.Describing.{Refusal, bad_token, bad_form, missing, twice, bad_length, bad_capture}
use Rattle.bsdl_description.specs.Describing.{bad_id, bad_cell, too_large, Description}
use Rattle.bsdl_description.specs.View.{description, spelt}

-- want of memory is no refusal of the text
abbrev pub refusal : BsdlFault → Option Refusal
refusal (BadToken place) = Some (bad_token place)
refusal (BadForm place) = Some (bad_form place)
refusal (Missing a) = Some (missing a)
refusal (Twice name) = Some (twice (string_bytes name))
refusal BadLength = Some bad_length
refusal BadCapture = Some bad_capture
refusal BadId = Some bad_id
refusal (BadCell number) = Some (bad_cell number)
refusal TooLarge = Some too_large
refusal NoMemory = None

-- unless memory ran out, this is the first refusal
abbrev pub Refuses : {A : Type 0} → BsdlFault → Result A Refusal → Type 0
Refuses fault says = MatchOption (refusal fault) ⊤ (λ r. says ≡ Err r)

abbrev pub TellsForm : Result Outline BsdlFault → Result File Refusal → Type 0
TellsForm (Ok o) says = says ≡ spelt o
TellsForm (Err fault) says = Refuses fault says

abbrev pub TellsDescription : Outline → Result declared_description.Description BsdlFault → Result Description Refusal
    → Type 0
TellsDescription o (Ok d) says = says ≡ Ok (description o d)
TellsDescription o (Err fault) says = Refuses fault says

-- unless memory ran out, there is no refusal, or this is the first one
abbrev pub Judges : {A : Type 0} → Result A BsdlFault → Option Refusal → Type 0
Judges (Ok x) says = says ≡ None
Judges (Err fault) says = MatchOption (refusal fault) ⊤ (λ r. says ≡ Some r)

-- unless memory ran out, this is the device that the text says, or its first refusal
abbrev pub Tells : Result Device BsdlFault → Result Device Refusal → Type 0
Tells (Ok device) says = says ≡ Ok device
Tells (Err fault) says = Refuses fault says

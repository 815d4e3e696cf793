-- What the texts of the rows say, by an independent reader.
use Rattle.std.specs.Prelude.{true, false, [], ◌∷◌, codes, replicate, Some, None, Result, Ok, Err}
use Rattle.bsdl_values.specs.declared.Attribute.TheVariants.{TapScanClock}
use Rattle.bsdl_device.specs.declared.PortMode.TheVariants.{In, Out, InOut, Buffer, Linkage}
use Rattle.bsdl_device.specs.declared.Function.TheVariants.{Input, Output2, Output3, Bidir, Clock}
use Rattle.bsdl_device.specs.declared.Function.TheVariants.{Control, ControlR, Internal, ObserveOnly}
use Rattle.bsdl_device.specs.declared.Disabled.TheVariants.{Z, Weak1, Keeper}
use Rattle.bsdl_device.specs.Device.{Device}
use Rattle.bsdl_device.specs.declared.Place.TheVariants.{AtBypass, AtUser}
use Rattle.bsdl_description.specs.Describing.{Refusal, bad_token, bad_form, missing, twice, bad_length, bad_capture}
use Rattle.bsdl_description.specs.Describing.{bad_id, bad_cell}

abbrev pub k : Result Device Refusal
k = Ok (record {
  ports = (record { name = codes "TDI"; index = None; mode = In; is_tap = true }
      ∷ record { name = codes "TMS"; index = None; mode = In; is_tap = true }
      ∷ record { name = codes "TCK"; index = None; mode = In; is_tap = true }
      ∷ record { name = codes "TDO"; index = None; mode = Out; is_tap = true }
      ∷ record { name = codes "Q"; index = None; mode = Out; is_tap = false }
      ∷ record { name = codes "D"; index = None; mode = In; is_tap = false } ∷ []);
  instruction_length = 2;
  opcodes = (record { name = codes "BYPASS"; patterns = ((Some true ∷ Some true ∷ []) ∷ []) }
      ∷ record { name = codes "EXTEST"; patterns = ((Some false ∷ Some false ∷ []) ∷ []) }
      ∷ record { name = codes "SAMPLE"; patterns = ((Some true ∷ Some false ∷ []) ∷ []) }
      ∷ record { name = codes "IDCODE"; patterns = ((Some false ∷ Some true ∷ []) ∷ []) } ∷ []);
  capture = (true ∷ false ∷ []);
  idcode = (Some (true ∷ true ∷ true ∷ false ∷ false ∷ true ∷ true ∷ false ∷ true ∷ false ∷ true ∷ false ∷ false
      ∷ false ∷ true ∷ false ∷ true ∷ true ∷ false ∷ false ∷ false ∷ true ∷ false ∷ false ∷ true ∷ false ∷ false
      ∷ false ∷ false ∷ false ∷ false ∷ false ∷ []));
  usercode = None;
  cells = (record {
    function = Output3;
    port = (Some 4);
    control = (Some (record { cell = 1; disabling = false; leaves = Z }));
  }
      ∷ record { function = Control; port = None; control = None }
      ∷ record { function = Input; port = (Some 5); control = None } ∷ []);
  private_names = ([]);
  accesses = ([]);
  users = ([]);
  has_trst = false;
})

-- the same device, whose letters outside strings are small
abbrev pub k_lower : Result Device Refusal
k_lower = k

abbrev pub kt : Result Device Refusal
kt = Ok (record {
  ports = (record { name = codes "TDI"; index = None; mode = In; is_tap = true }
      ∷ record { name = codes "TMS"; index = None; mode = In; is_tap = true }
      ∷ record { name = codes "TCK"; index = None; mode = In; is_tap = true }
      ∷ record { name = codes "TDO"; index = None; mode = Out; is_tap = true }
      ∷ record { name = codes "Q"; index = None; mode = Out; is_tap = false }
      ∷ record { name = codes "D"; index = None; mode = In; is_tap = false }
      ∷ record { name = codes "TRST"; index = None; mode = In; is_tap = true } ∷ []);
  instruction_length = 2;
  opcodes = (record { name = codes "BYPASS"; patterns = ((Some true ∷ Some true ∷ []) ∷ []) }
      ∷ record { name = codes "EXTEST"; patterns = ((Some false ∷ Some false ∷ []) ∷ []) }
      ∷ record { name = codes "SAMPLE"; patterns = ((Some true ∷ Some false ∷ []) ∷ []) }
      ∷ record { name = codes "IDCODE"; patterns = ((Some false ∷ Some true ∷ []) ∷ []) } ∷ []);
  capture = (true ∷ false ∷ []);
  idcode = (Some (true ∷ true ∷ true ∷ false ∷ false ∷ true ∷ true ∷ false ∷ true ∷ false ∷ true ∷ false ∷ false
      ∷ false ∷ true ∷ false ∷ true ∷ true ∷ false ∷ false ∷ false ∷ true ∷ false ∷ false ∷ true ∷ false ∷ false
      ∷ false ∷ false ∷ false ∷ false ∷ false ∷ []));
  usercode = None;
  cells = (record {
    function = Output3;
    port = (Some 4);
    control = (Some (record { cell = 1; disabling = false; leaves = Z }));
  }
      ∷ record { function = Control; port = None; control = None }
      ∷ record { function = Input; port = (Some 5); control = None } ∷ []);
  private_names = ([]);
  accesses = ([]);
  users = ([]);
  has_trst = true;
})

abbrev pub p : Result Device Refusal
p = Ok (record {
  ports = (record { name = codes "TDI"; index = None; mode = In; is_tap = true }
      ∷ record { name = codes "TMS"; index = None; mode = In; is_tap = true }
      ∷ record { name = codes "TCK"; index = None; mode = In; is_tap = true }
      ∷ record { name = codes "TDO"; index = None; mode = Out; is_tap = true } ∷ []);
  instruction_length = 2;
  opcodes = (record { name = codes "BYPASS"; patterns = ((Some true ∷ Some true ∷ []) ∷ []) }
      ∷ record { name = codes "EXTEST"; patterns = ((Some false ∷ Some false ∷ []) ∷ []) } ∷ []);
  capture = (true ∷ false ∷ []);
  idcode = None;
  usercode = None;
  cells = (record { function = Internal; port = None; control = None } ∷ []);
  private_names = ([]);
  accesses = ([]);
  users = ([]);
  has_trst = false;
})

abbrev pub ku : Result Device Refusal
ku = Ok (record {
  ports = (record { name = codes "TDI"; index = None; mode = In; is_tap = true }
      ∷ record { name = codes "TMS"; index = None; mode = In; is_tap = true }
      ∷ record { name = codes "TCK"; index = None; mode = In; is_tap = true }
      ∷ record { name = codes "TDO"; index = None; mode = Out; is_tap = true }
      ∷ record { name = codes "Q"; index = None; mode = Out; is_tap = false }
      ∷ record { name = codes "D"; index = None; mode = In; is_tap = false } ∷ []);
  instruction_length = 2;
  opcodes = (record { name = codes "BYPASS"; patterns = ((Some true ∷ Some true ∷ []) ∷ []) }
      ∷ record { name = codes "EXTEST"; patterns = ((Some false ∷ Some false ∷ []) ∷ []) }
      ∷ record { name = codes "LOAD"; patterns = ((Some true ∷ Some false ∷ []) ∷ []) }
      ∷ record { name = codes "IDCODE"; patterns = ((Some false ∷ Some true ∷ []) ∷ []) } ∷ []);
  capture = (true ∷ false ∷ []);
  idcode = (Some (true ∷ true ∷ true ∷ false ∷ false ∷ true ∷ true ∷ false ∷ true ∷ false ∷ true ∷ false ∷ false
      ∷ false ∷ true ∷ false ∷ true ∷ true ∷ false ∷ false ∷ false ∷ true ∷ false ∷ false ∷ true ∷ false ∷ false
      ∷ false ∷ false ∷ false ∷ false ∷ false ∷ []));
  usercode = None;
  cells = (record {
    function = Output3;
    port = (Some 4);
    control = (Some (record { cell = 1; disabling = false; leaves = Z }));
  }
      ∷ record { function = Control; port = None; control = None }
      ∷ record { function = Input; port = (Some 5); control = None } ∷ []);
  private_names = ([]);
  accesses = (record { instruction = codes "LOAD"; place = AtUser 0; captures = None } ∷ []);
  users = (4 ∷ []);
  has_trst = false;
})

abbrev pub kuc : Result Device Refusal
kuc = Ok (record {
  ports = (record { name = codes "TDI"; index = None; mode = In; is_tap = true }
      ∷ record { name = codes "TMS"; index = None; mode = In; is_tap = true }
      ∷ record { name = codes "TCK"; index = None; mode = In; is_tap = true }
      ∷ record { name = codes "TDO"; index = None; mode = Out; is_tap = true }
      ∷ record { name = codes "Q"; index = None; mode = Out; is_tap = false }
      ∷ record { name = codes "D"; index = None; mode = In; is_tap = false } ∷ []);
  instruction_length = 2;
  opcodes = (record { name = codes "BYPASS"; patterns = ((Some true ∷ Some true ∷ []) ∷ []) }
      ∷ record { name = codes "EXTEST"; patterns = ((Some false ∷ Some false ∷ []) ∷ []) }
      ∷ record { name = codes "LOAD"; patterns = ((Some true ∷ Some false ∷ []) ∷ []) }
      ∷ record { name = codes "IDCODE"; patterns = ((Some false ∷ Some true ∷ []) ∷ []) } ∷ []);
  capture = (true ∷ false ∷ []);
  idcode = (Some (true ∷ true ∷ true ∷ false ∷ false ∷ true ∷ true ∷ false ∷ true ∷ false ∷ true ∷ false ∷ false
      ∷ false ∷ true ∷ false ∷ true ∷ true ∷ false ∷ false ∷ false ∷ true ∷ false ∷ false ∷ true ∷ false ∷ false
      ∷ false ∷ false ∷ false ∷ false ∷ false ∷ []));
  usercode = None;
  cells = (record {
    function = Output3;
    port = (Some 4);
    control = (Some (record { cell = 1; disabling = false; leaves = Z }));
  }
      ∷ record { function = Control; port = None; control = None }
      ∷ record { function = Input; port = (Some 5); control = None } ∷ []);
  private_names = ([]);
  accesses = (record {
    instruction = codes "LOAD";
    place = AtUser 0;
    captures =
        (Some (true ∷ false ∷ true ∷ false ∷ []));
  } ∷ []);
  users = (4 ∷ []);
  has_trst = false;
})

abbrev pub no_clock : Result Device Refusal
no_clock = Err (missing TapScanClock)

abbrev pub bypass_twice : Result Device Refusal
bypass_twice = Err (twice (codes "BYPASS"))

abbrev pub idcode_ones : Result Device Refusal
idcode_ones = Err (twice (codes "IDCODE"))

abbrev pub sample_1x : Result Device Refusal
sample_1x = Err (twice (codes "IDCODE"))

abbrev pub length_3 : Result Device Refusal
length_3 = Err bad_length

abbrev pub capture_x1 : Result Device Refusal
capture_x1 = Err bad_capture

abbrev pub row_tms : Result Device Refusal
row_tms = Err (bad_cell 2)

abbrev pub capture_10 : Result Device Refusal
capture_10 = Err bad_capture

abbrev pub id_0 : Result Device Refusal
id_0 = Err bad_id

abbrev pub boundary_4 : Result Device Refusal
boundary_4 = Err (bad_cell 3)

abbrev pub cut_100 : Result Device Refusal
cut_100 = Err (bad_form 98)

abbrev pub hash : Result Device Refusal
hash = Err (bad_token 143)

abbrev pub whole : Result Device Refusal
whole = Ok (record {
  ports = (record { name = codes "TDI"; index = None; mode = In; is_tap = true }
      ∷ record { name = codes "TMS"; index = None; mode = In; is_tap = true }
      ∷ record { name = codes "TCK"; index = None; mode = In; is_tap = true }
      ∷ record { name = codes "TRST"; index = None; mode = In; is_tap = false }
      ∷ record { name = codes "TDO"; index = None; mode = Out; is_tap = true }
      ∷ record { name = codes "A"; index = Some 4; mode = InOut; is_tap = false }
      ∷ record { name = codes "A"; index = Some 5; mode = InOut; is_tap = false }
      ∷ record { name = codes "B"; index = Some 0; mode = Buffer; is_tap = false }
      ∷ record { name = codes "B"; index = Some 1; mode = Buffer; is_tap = false }
      ∷ record { name = codes "VCC"; index = None; mode = Linkage; is_tap = false } ∷ []);
  instruction_length = 3;
  opcodes = (record { name = codes "BYPASS"; patterns = ((Some true ∷ Some true ∷ Some true ∷ []) ∷ (Some true ∷ None ∷ Some true ∷ []) ∷ []) }
      ∷ record { name = codes "EXTEST"; patterns = ((Some false ∷ Some false ∷ Some false ∷ []) ∷ []) }
      ∷ record { name = codes "IDCODE"; patterns = ((Some true ∷ Some false ∷ Some false ∷ []) ∷ []) }
      ∷ record { name = codes "LOAD"; patterns = ((Some false ∷ Some true ∷ Some false ∷ []) ∷ []) }
      ∷ record { name = codes "LOOK"; patterns = ((Some true ∷ Some true ∷ Some false ∷ []) ∷ []) }
      ∷ record { name = codes "TWIN"; patterns = ((Some false ∷ Some false ∷ Some true ∷ []) ∷ []) } ∷ []);
  capture = (true ∷ false ∷ false ∷ []);
  idcode = (Some (true ∷ replicate 31 false));
  usercode = (Some (replicate 32 true));
  cells = (record {
    function = Bidir;
    port = (Some 5);
    control = (Some (record { cell = 5; disabling = true; leaves = Weak1 }));
  }
      ∷ record { function = ObserveOnly; port = (Some 6); control = None }
      ∷ record { function = Output2; port = (Some 8); control = None }
      ∷ record {
        function = Output3;
        port = (Some 7);
        control = (Some (record { cell = 5; disabling = false; leaves = Keeper }));
      }
      ∷ record { function = Clock; port = (Some 9); control = None }
      ∷ record { function = ControlR; port = None; control = None } ∷ []);
  private_names = (codes "LOOK" ∷ []);
  accesses = (record {
    instruction = codes "LOAD";
    place = AtUser 0;
    captures =
        (Some (true ∷ false ∷ false ∷ true ∷ []));
  }
      ∷ record { instruction = codes "TWIN"; place = AtBypass; captures = None } ∷ []);
  users = (4 ∷ []);
  has_trst = false;
})

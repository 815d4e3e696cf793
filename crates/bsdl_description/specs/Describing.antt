-- What a description gives as a whole: each attribute's value is that of its first giving (IEEE Std 1149.1-2001, Annex
-- B.8.3 to B.8.14).
use Rattle.std.specs.Prelude.{ℕ, Bool, is_some, List, [], ◌∷◌, Option, Some, None}
use Rattle.std.specs.Prelude.{Result, Ok, Err}
use Rattle.bsdl_values.specs.declared.Attribute.{Attribute}
use Rattle.bsdl_values.specs.declared.Attribute.TheVariants.{TapScanIn, TapScanOut, TapScanMode, TapScanClock}
use Rattle.bsdl_values.specs.declared.Attribute.TheVariants.{TapScanReset, InstructionLength, BoundaryLength}
use Rattle.bsdl_values.specs.declared.Attribute.TheVariants.{InstructionOpcode, InstructionCapture, BoundaryRegister}
use Rattle.bsdl_values.specs.declared.Attribute.TheVariants.{IdcodeRegister, UsercodeRegister, InstructionPrivate}
use Rattle.bsdl_values.specs.declared.Attribute.TheVariants.{RegisterAccess}
use Rattle.bsdl_values.specs.Device.{Name, Pattern}
use Rattle.bsdl_values.specs.InstructionValues.{OpcodeRow, AccessRow}
use Rattle.bsdl_opcodes.specs.Own.{is_own, own_accesses}
use Rattle.bsdl_values.specs.CellRows.{CellRow}
use Rattle.bsdl_values.specs.Values.{Value}
use Rattle.bsdl_entity.specs.Ports.{Port}
use Rattle.bsdl_entity.specs.Entity.{File, Given}
use Rattle.bsdl_description.specs.FirstValues.{value_given, as_port, as_count, as_pattern, as_codes, as_names}
use Rattle.bsdl_description.specs.FirstValues.{as_opcodes}
use Rattle.bsdl_description.specs.FirstValues.{as_accesses, as_cells}

-- why a description is refused; a place is counted in bytes from 0
pub data Refusal : Type 0 where
  bad_token : ℕ → Refusal
  bad_form : ℕ → Refusal
  missing : Attribute → Refusal
  twice : List ℕ → Refusal
  bad_length : Refusal
  bad_capture : Refusal
  bad_id : Refusal
  bad_cell : ℕ → Refusal
  too_large : Refusal

-- ---- what is needed

pub record Description : Type 0 where
  pub ports : List Port
  pub given : List Given
  -- the TAP's ports, TRST among them if there is one
  pub taps : List Name
  pub has_trst : Bool
  pub instruction_length : ℕ
  pub boundary_length : ℕ
  pub opcode_start : ℕ
  pub opcodes : List OpcodeRow
  pub capture : Pattern
  pub cells : List CellRow
  pub idcodes : List Pattern
  pub usercodes : List Pattern
  pub private_names : List Name
  pub access_start : ℕ
  -- each row with the own instructions in it, where it has any
  pub accesses : List AccessRow

infixl 10 ◌>>?◌
abbrev pub ◌>>?◌ : {A B : Type 0} → Result A Refusal → (A → Result B Refusal) → Result B Refusal
(Ok x) >>? f = f x
(Err e) >>? f = Err e

abbrev pub need : {A : Type 0} → Attribute → Option A → Result A Refusal
need a None = Err (missing a)
need a (Some x) = Ok x

abbrev pub and_reset : Name → Option Name → List Name
and_reset tck None = tck ∷ []
and_reset tck (Some trst) = tck ∷ trst ∷ []

-- the TAP's ports by what attributes say, TRST last if there is one, or the first needed attribute that is missing
abbrev pub taps_by : (Attribute → Option Value) → Result (List Name) Refusal
taps_by says =
    let v = λ (a : Attribute). as_port (says a) in
    need TapScanIn (v TapScanIn) >>? λ tdi.
    need TapScanOut (v TapScanOut) >>? λ tdo.
    need TapScanMode (v TapScanMode) >>? λ tms.
    need TapScanClock (v TapScanClock) >>? λ tck.
    Ok (tdi ∷ tdo ∷ tms ∷ and_reset tck (v TapScanReset))

-- the description with this TAP and these lengths, or the first needed attribute with a text that is missing
abbrev pub texts_by : (Attribute → Option Value) → File → List Name → Bool → ℕ → ℕ → Result Description Refusal
texts_by says f taps has_trst instruction_length boundary_length =
    let accesses = as_accesses (says RegisterAccess) in
    let private = as_names (says InstructionPrivate) in
    need InstructionOpcode (as_opcodes (says InstructionOpcode)) >>? λ opcodes.
    need InstructionCapture (as_pattern (says InstructionCapture)) >>? λ capture.
    need BoundaryRegister (as_cells (says BoundaryRegister)) >>? λ cells.
    Ok (record {
      ports = f.ports;
      given = f.given;
      taps = taps;
      has_trst = has_trst;
      instruction_length = instruction_length;
      boundary_length = boundary_length;
      opcode_start = opcodes.0;
      opcodes = opcodes.1;
      capture = capture;
      cells = cells;
      idcodes = as_codes (says IdcodeRegister);
      usercodes = as_codes (says UsercodeRegister);
      private_names = private;
      access_start = accesses.0;
      accesses = own_accesses (is_own opcodes.1 private) accesses.1;
    })

-- the whole description, or the first needed attribute that is missing
abbrev pub described_by : (Attribute → Option Value) → File → Result Description Refusal
described_by says f =
    taps_by says >>? λ taps.
    need InstructionLength (as_count (says InstructionLength)) >>? λ len.
    need BoundaryLength (as_count (says BoundaryLength)) >>? λ cells_len.
    texts_by says f taps (is_some (as_port (says TapScanReset))) len cells_len

-- ---- by first givings

abbrev pub taps_given : List Given → Result (List Name) Refusal
taps_given gs = taps_by (λ a. value_given a gs)

abbrev pub described : File → Result Description Refusal
described f = described_by (λ a. value_given a f.given) f

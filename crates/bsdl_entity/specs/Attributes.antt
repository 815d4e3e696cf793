-- The attributes of BSDL that say something of a device (IEEE Std 1149.1-2001, Annex B.8).
use Rattle.std.specs.Prelude.{ℕ, List, [], ◌∷◌, codes, map, Option}
use Rattle.bsdl_text.specs.Words.{stands_for}
use Rattle.bsdl_values.specs.declared.Attribute.{Attribute}
use Rattle.bsdl_values.specs.declared.Attribute.TheVariants.{TapScanIn, TapScanOut, TapScanMode, TapScanClock}
use Rattle.bsdl_values.specs.declared.Attribute.TheVariants.{TapScanReset, InstructionLength, BoundaryLength}
use Rattle.bsdl_values.specs.declared.Attribute.TheVariants.{InstructionOpcode, InstructionCapture, BoundaryRegister}
use Rattle.bsdl_values.specs.declared.Attribute.TheVariants.{IdcodeRegister, UsercodeRegister, InstructionPrivate}
use Rattle.bsdl_values.specs.declared.Attribute.TheVariants.{RegisterAccess}

abbrev pub attribute_word : Attribute → List ℕ
attribute_word TapScanIn = codes "TAP_SCAN_IN"
attribute_word TapScanOut = codes "TAP_SCAN_OUT"
attribute_word TapScanMode = codes "TAP_SCAN_MODE"
attribute_word TapScanClock = codes "TAP_SCAN_CLOCK"
attribute_word TapScanReset = codes "TAP_SCAN_RESET"
attribute_word InstructionLength = codes "INSTRUCTION_LENGTH"
attribute_word BoundaryLength = codes "BOUNDARY_LENGTH"
attribute_word InstructionOpcode = codes "INSTRUCTION_OPCODE"
attribute_word InstructionCapture = codes "INSTRUCTION_CAPTURE"
attribute_word BoundaryRegister = codes "BOUNDARY_REGISTER"
attribute_word IdcodeRegister = codes "IDCODE_REGISTER"
attribute_word UsercodeRegister = codes "USERCODE_REGISTER"
attribute_word InstructionPrivate = codes "INSTRUCTION_PRIVATE"
attribute_word RegisterAccess = codes "REGISTER_ACCESS"

abbrev pub attributes : List Attribute
attributes =
    TapScanIn ∷ TapScanOut ∷ TapScanMode ∷ TapScanClock ∷ TapScanReset ∷ InstructionLength ∷ BoundaryLength
    ∷ InstructionOpcode ∷ InstructionCapture ∷ BoundaryRegister ∷ IdcodeRegister ∷ UsercodeRegister
    ∷ InstructionPrivate ∷ RegisterAccess ∷ []

-- the attribute that a word names, in any case
unfoldable pub attribute_of : List ℕ → Option Attribute
attribute_of word = stands_for (map (λ a. (attribute_word a, a)) attributes) word

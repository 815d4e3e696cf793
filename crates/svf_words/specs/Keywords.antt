-- The keywords, each of which a word reads in any case.
use Rattle.std.specs.Prelude.{◌≡◌, ◌↔◌, true, ℕ, List, [], ◌∷◌, codes, Option, Some, find}
use Rattle.jt_tap.specs.declared.State.{State}
use Rattle.jt_tap.specs.declared.State.TheVariants.{Reset, Idle, DrSelect, DrCapture, DrShift, DrExit1, DrPause}
use Rattle.jt_tap.specs.declared.State.TheVariants.{DrExit2, DrUpdate, IrSelect, IrCapture, IrShift, IrExit1, IrPause}
use Rattle.jt_tap.specs.declared.State.TheVariants.{IrExit2, IrUpdate}
use Rattle.jt_tap.specs.Words as states
use Rattle.svf_words.specs.declared.keywords.TrstWord.{TrstWord}
use Rattle.svf_words.specs.declared.keywords.TrstWord.TheVariants as trst
use Rattle.svf_words.specs.declared.keywords.Which.{Which}
use Rattle.svf_words.specs.declared.keywords.Which.TheVariants as scan
use Rattle.svf_words.specs.declared.keywords.Command.{Command}
use Rattle.svf_words.specs.declared.keywords.Command.TheVariants as command
use Rattle.svf_words.specs.declared.keywords.FieldName.{FieldName}
use Rattle.svf_words.specs.declared.keywords.FieldName.TheVariants as field
use Rattle.svf_words.specs.declared.keywords.Clock.{Clock}
use Rattle.svf_words.specs.declared.keywords.Clock.TheVariants as clock
use Rattle.svf_words.specs.Words.{Word, reads}

abbrev pub scan_word : Which → List ℕ
scan_word scan.Hdr = codes "HDR"
scan_word scan.Hir = codes "HIR"
scan_word scan.Tdr = codes "TDR"
scan_word scan.Tir = codes "TIR"
scan_word scan.Sdr = codes "SDR"
scan_word scan.Sir = codes "SIR"

abbrev pub command_word : Command → List ℕ
command_word command.EndDr = codes "ENDDR"
command_word command.EndIr = codes "ENDIR"
command_word command.Frequency = codes "FREQUENCY"
command_word (command.Scan which) = scan_word which
command_word command.RunTest = codes "RUNTEST"
command_word command.State = codes "STATE"
command_word command.Trst = codes "TRST"
command_word command.Pio = codes "PIO"
command_word command.PioMap = codes "PIOMAP"

abbrev pub field_word : FieldName → List ℕ
field_word field.Tdi = codes "TDI"
field_word field.Tdo = codes "TDO"
field_word field.Mask = codes "MASK"
field_word field.Smask = codes "SMASK"

abbrev pub clock_word : Clock → List ℕ
clock_word clock.Tck = codes "TCK"
clock_word clock.Sck = codes "SCK"

abbrev pub trst_word : TrstWord → List ℕ
trst_word trst.On = codes "ON"
trst_word trst.Off = codes "OFF"
trst_word trst.Z = codes "Z"
trst_word trst.Absent = codes "ABSENT"

-- All keywords of each kind. A word reads one of them at most, so their order says nothing.
abbrev pub commands : List Command
commands =
    command.Scan scan.Sdr ∷ command.Scan scan.Sir ∷ command.RunTest ∷ command.State ∷ command.EndDr ∷ command.EndIr
    ∷ command.Frequency ∷ command.Scan scan.Hdr ∷ command.Scan scan.Hir ∷ command.Scan scan.Tdr ∷ command.Scan scan.Tir
    ∷ command.Trst ∷ command.Pio ∷ command.PioMap ∷ []

abbrev pub fields : List FieldName
fields = field.Tdi ∷ field.Tdo ∷ field.Mask ∷ field.Smask ∷ []

abbrev pub clocks : List Clock
clocks = clock.Tck ∷ clock.Sck ∷ []

abbrev pub trst_words : List TrstWord
trst_words = trst.On ∷ trst.Off ∷ trst.Z ∷ trst.Absent ∷ []

-- what a word reads, if it does
unfoldable pub command_of : Word → Option Command
command_of w = find (λ c. reads w (command_word c)) commands

unfoldable pub field_of : Word → Option FieldName
field_of w = find (λ f. reads w (field_word f)) fields

unfoldable pub clock_of : Word → Option Clock
clock_of w = find (λ c. reads w (clock_word c)) clocks

unfoldable pub trst_of : Word → Option TrstWord
trst_of w = find (λ t. reads w (trst_word t)) trst_words

abbrev pub all_states : List State
all_states =
    Reset ∷ Idle ∷ DrSelect ∷ DrCapture ∷ DrShift ∷ DrExit1 ∷ DrPause ∷ DrExit2 ∷ DrUpdate
    ∷ IrSelect ∷ IrCapture ∷ IrShift ∷ IrExit1 ∷ IrPause ∷ IrExit2 ∷ IrUpdate ∷ []

unfoldable pub state_of : Word → Option State
state_of w = find (states.reads w) all_states

-- The law that a word is read as a keyword exactly where it is that keyword in any case.
abbrev pub IsReadInAnyCase : {K : Type 0} → (K → List ℕ) → (Word → Option K) → Type 0
IsReadInAnyCase {K} spelling read = (w : Word) (k : K) → (reads w (spelling k) ≡ true) ↔ (read w ≡ Some k)

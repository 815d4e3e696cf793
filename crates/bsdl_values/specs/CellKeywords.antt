-- The words of boundary cells, in any case (IEEE Std 1149.1-2001, Annex B.8.14).
use Rattle.std.specs.Prelude.{ℕ, Bool, true, false, List, [], ◌∷◌, codes, Option}
use Rattle.bsdl_text.specs.Words.{stands_for}
use Rattle.bsdl_device.specs.declared.Function.{Function}
use Rattle.bsdl_device.specs.declared.Function.TheVariants.{Input, Clock, ObserveOnly, Bidir, Output2, Output3}
use Rattle.bsdl_device.specs.declared.Function.TheVariants.{Control, ControlR, Internal}
use Rattle.bsdl_device.specs.declared.Disabled.{Disabled}
use Rattle.bsdl_device.specs.declared.Disabled.TheVariants.{Z, Keeper, Weak0, Weak1, Pull0, Pull1}

-- the function of a boundary cell
abbrev pub function_of : List ℕ → Option Function
function_of text =
    stands_for ((codes "INPUT", Input) ∷ (codes "CLOCK", Clock) ∷ (codes "OBSERVE_ONLY", ObserveOnly)
    ∷ (codes "BIDIR", Bidir) ∷ (codes "OUTPUT2", Output2) ∷ (codes "OUTPUT3", Output3)
    ∷ (codes "CONTROL", Control) ∷ (codes "CONTROLR", ControlR)
    ∷ (codes "INTERNAL", Internal) ∷ []) text

-- what a disabled driver leaves
abbrev pub disabled_of : List ℕ → Option Disabled
disabled_of text =
    stands_for ((codes "Z", Z) ∷ (codes "WEAK0", Weak0) ∷ (codes "WEAK1", Weak1) ∷ (codes "PULL0", Pull0) ∷
    (codes "PULL1", Pull1) ∷ (codes "KEEPER", Keeper) ∷ []) text

-- a cell's safe value, which has no meaning here
abbrev pub safe_of : List ℕ → Option Bool
safe_of text = stands_for ((codes "0", true) ∷ (codes "1", true) ∷ (codes "X", true) ∷ []) text

-- a disabling value
abbrev pub bit_of : List ℕ → Option Bool
bit_of text = stands_for ((codes "0", false) ∷ (codes "1", true) ∷ []) text

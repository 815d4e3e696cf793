-- Every device that a text says can be made a chip.
use Rattle.std.proofs.Common.{◌≡◌, ◌<◌, ℕ, zero, suc, Bool, true, false, cond, List, [], ◌∷◌, length, refl, sym, ap, ◌∙◌}
use Rattle.bsdl_device.specs.Opcodes.{idcode_opcode, is_idcode}
use Rattle.std.specs.Prelude.{Option, Some, None, Ok, option_and_then, slice_get, unwrap_or}
use Rattle.std.specs.List.{AllByRecursion, find}
use Rattle.std.proofs.lemmas.List.{length-map, length-replicate}
use Rattle.bsdl_device.specs.Device.{Access, Device, Opcode, Pattern}
use Rattle.bsdl_device.specs.Sound.{IsSoundDevice}
use Rattle.bsdl_device.specs.declared.Place.TheVariants.{AtUser}
use Rattle.chip_instructions.specs.Fitting.{AccessFits, IsFormed}
use Rattle.chip_instructions.specs.Instruction.{reset_latch}
use Rattle.bsdl.specs.Exact.{IsExactAccess, IsExactAt, IsExactDevice, Takes}
use Rattle.bsdl.specs.Judging.{text_says}
use Rattle.bsdl.specs.Limited.{HasLengthIfGiven, HasPatternsOf}
use Rattle.bsdl.proofs.ExactLaws as exact
use Rattle.bsdl.proofs.SoundLaws as sound

-- ---- what is fixed

given_long : (n : ℕ) (given : Option (List Bool)) → HasLengthIfGiven n given → (bits : List Bool) → given ≡ Some bits → length bits ≡ n
given_long n None long bits e = absurd cc
given_long n (Some here) long bits e =
    let same : here ≡ bits = cc in
    ap length (sym same) ∙ long

-- ---- the reset latch

found_long : (n : ℕ) (rows : List Opcode) (o : Opcode) → AllByRecursion (λ r. HasPatternsOf n r) rows → find is_idcode rows ≡ Some o → HasPatternsOf n o
found_long n [] o long e = absurd cc
found_long n (r ∷ rows) o long e = by_test (is_idcode r) e (λ later. found_long n rows o long.1 later)
  where
    by_test : (b : Bool) → cond b (Some r) (find is_idcode rows) ≡ Some o → (find is_idcode rows ≡ Some o → HasPatternsOf n o) → HasPatternsOf n o
    by_test true is rest =
        let same : r ≡ o = cc in
        rw (sym same) long.0
    by_test false is rest = rest is

first_long : (n : ℕ) (ps : List Pattern) (p : Pattern) → AllByRecursion (λ q. length q ≡ n) ps → slice_get ps 0 ≡ Some p → length p ≡ n
first_long n [] p long e = absurd cc
first_long n (q ∷ ps) p long e =
    let same : q ≡ p = cc in
    ap length (sym same) ∙ long.0

opcode_long : (n : ℕ) (rows : List Opcode) (p : Pattern) → AllByRecursion (λ r. HasPatternsOf n r) rows → idcode_opcode rows ≡ Some p → length p ≡ n
opcode_long n rows p long e = by_row (find is_idcode rows) refl e
  where
    by_row : (found : Option Opcode) → find is_idcode rows ≡ found → option_and_then (λ o. slice_get o.patterns 0) found ≡ Some p → length p ≡ n
    by_row None is first = absurd cc
    by_row (Some o) is first = first_long n o.patterns p (found_long n rows o long is) first

latch_long : (d : Device) → AllByRecursion (λ r. HasPatternsOf d.instruction_length r) d.opcodes → length (reset_latch d) ≡ d.instruction_length
latch_long d long = by d.idcode (idcode_opcode d.opcodes) refl refl
  where
    by : (code : Option (List Bool)) (opcode : Option Pattern) → d.idcode ≡ code → idcode_opcode d.opcodes ≡ opcode → length (reset_latch d) ≡ d.instruction_length
    by None opcode e f = rw e (length-replicate d.instruction_length true)
    by (Some code) None e f = rw (e, f) (length-replicate d.instruction_length true)
    by (Some code) (Some p) e f = rw (e, f) (length-map p (λ b. unwrap_or b false) ∙ opcode_long d.instruction_length d.opcodes p long f)

-- ---- own instructions

each : (lens : List ℕ) (xs : List Access) → AllByRecursion (λ a. IsExactAccess lens a) xs → (k : ℕ) (a : Access) → slice_get xs k ≡ Some a → IsExactAccess lens a
each lens [] all k a e = absurd cc
each lens (x ∷ xs) all zero a e =
    let same : x ≡ a = cc in
    rw (sym same) all.0
each lens (x ∷ xs) all (suc k) a e = each lens xs all.1 k a e

taken : (user : Option ℕ) (captures : Option (List Bool)) → Takes user captures → (n : ℕ) × (user ≡ Some n) × (0 < n) × ((bits : List Bool) → captures ≡ Some bits → length bits ≡ n)
taken None captures takes = absurd takes
taken (Some n) captures takes = (n, refl, takes.0, given_long n captures takes.1)

access_fits : (d : Device) (a : Access) → IsExactAccess d.users a → AccessFits d a
access_fits d a exact = λ u is.
    let here : IsExactAt d.users (AtUser u) a.captures = rw is at exact in
    taken (slice_get d.users u) a.captures here

-- ---- the whole

formed : (d : Device) → IsSoundDevice d → IsExactDevice d → IsFormed d
formed d sound exact = record {
  instruction = sound.instruction;
  capture = exact.limited.capture;
  cells = sound.cells;
  reset = latch_long d exact.limited.patterns;
  idcode = given_long 32 d.idcode exact.limited.idcode;
  usercode = given_long 32 d.usercode exact.limited.usercode;
  accesses = λ k a is. access_fits d a (each d.users d.accesses exact.accesses k a is);
}

pub every_device : (text : List ℕ) (d : Device) → text_says text ≡ Ok d → IsFormed d
every_device text d says = formed d (sound.every_device text d says) (exact.every_device text d says)

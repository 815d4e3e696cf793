-- What a decoded instruction gives a chip.
use Rattle.std.proofs.Common.{◌≡◌, ◌<◌, ℕ, List, [], ◌∷◌, Bool, false, length, map, slice_get, Option, Some, option_map, refl, sym, ap, subst, ◌∙◌, arith, if◌then◌else◌}
use Rattle.chip_instructions.specs.Device.{Device}
use Rattle.chip_instructions.specs.declared.Selected.{Selected}
use Rattle.chip_instructions.specs.declared.Selected.TheVariants.{Bypass, Identification, Boundary, User}
use Rattle.chip_instructions.specs.declared.decoding.Decoded.{Decoded}
use Rattle.chip_instructions.specs.Fitting.{IsFormed, Fits, FitsAt, fixed_of, has_code, meaning_by}
use Rattle.chip_instructions.specs.Instruction.{meaning, reset_latch}
use Rattle.std.proofs.lemmas.List.{length-replicate}
use Rattle.std.proofs.lemmas.Option.{slice_get-map}
use Rattle.chip_registers.specs.declared.data.DataRegisters.{DataRegisters}
use Rattle.chip_registers.specs.declared.users.UserRegister.{UserRegister}
use Rattle.chip_registers.specs.Data.{Lengths, IsThere, FixedFits, lengths_of}
use Rattle.chip_registers.specs.Registers.{new_user, zeros}
use Rattle.scan_registers.specs.Chips.{lengths_in}

-- the lengths of a user register, by its place
twice : (ns : List ℕ) (k n : ℕ) → slice_get ns k ≡ Some n → slice_get (map {B = ℕ × ℕ} (λ m. (m, m)) ns) k ≡ Some (n, n)
twice ns k n e = slice_get-map {B = ℕ × ℕ} (λ m. (m, m)) ns k ∙ ap (λ (o : Option ℕ). option_map {U = ℕ × ℕ} (λ m. (m, m)) o) e

-- the selected register is there
pub selected_there : (d : Device) (m : Decoded) (l : Lengths) → IsFormed d → Fits d m → l ≡ lengths_in d → IsThere l m.selected
selected_there d m l formed fits same = subst (λ (x : Lengths). IsThere x m.selected) (sym same) (there m.selected (fixed_of d m.fixed) fits.it)
  where
    there : (s : Selected) (fixed : Option (List Bool)) → FitsAt d s fixed → IsThere (lengths_in d) s
    there Bypass fixed f = tt
    there Boundary fixed f = formed.cells
    there Identification fixed f = subst (λ (b : Bool). 0 < (if b then 32 else 0)) (sym f.3) (omega arith)
    there (User k) fixed f = (f.0, twice d.users k f.0 f.1, f.2)

-- what it is fixed to capture has its length
pub fixed_fits : (d : Device) (m : Decoded) (l : Lengths) (fixed : Option (List Bool)) → Fits d m → l ≡ lengths_in d → fixed ≡ fixed_of d m.fixed → FixedFits l m.selected fixed
fixed_fits d m l fixed fits same from =
    subst (λ (x : Lengths). FixedFits x m.selected fixed) (sym same) (subst (λ (o : Option (List Bool)). FixedFits (lengths_in d) m.selected o) (sym from) (fit m.selected (fixed_of d m.fixed) fits.it))
  where
    fit : (s : Selected) (o : Option (List Bool)) → FitsAt d s o → FixedFits (lengths_in d) s o
    fit Bypass o f = tt
    fit Boundary o f = tt
    fit Identification o f = (f.0, f.1, f.2 ∙ sym (ap (λ (b : Bool). if b then 32 else 0) f.3))
    fit (User k) o f = λ b e. twice d.users k f.0 f.1 ∙ ap (λ (n : ℕ). Some (n, n)) (sym (f.3 b e))

-- what a chip starts from
pub started : (d described : Device) (m : Decoded) (latch : List Bool) → described ≡ d → meaning_by described m ≡ meaning described latch → latch ≡ reset_latch d → meaning_by d m ≡ meaning d (reset_latch d)
started d described m latch same is start =
    ap (λ (x : Device). meaning_by x m) (sym same) ∙ is ∙ ap (λ (x : Device). meaning x latch) same ∙ ap (meaning d) start

pub started_at : (d described : Device) (m : Decoded) (latch : List Bool) → described ≡ d → meaning_by described m ≡ meaning described latch → meaning_by d m ≡ meaning d latch
started_at d described m latch same is = ap (λ (x : Device). meaning_by x m) (sym same) ∙ is ∙ ap (λ (x : Device). meaning x latch) same

new_lengths : (ns : List ℕ) → map {B = ℕ × ℕ} (λ (u : UserRegister). (length u.stage, length u.latch)) (map new_user ns) ≡ map {B = ℕ × ℕ} (λ n. (n, n)) ns
new_lengths [] = refl
new_lengths (n ∷ ns) =
    let one : length (zeros n) ≡ n = length-replicate n false in
    ap (λ (r : List (ℕ × ℕ)). (length (zeros n), length (zeros n)) ∷ r) (new_lengths ns) ∙ ap (λ (m : ℕ). (m, m) ∷ map {B = ℕ × ℕ} (λ k. (k, k)) ns) one

pub lengths_at_start : {B : Type 0} (stage : B → List Bool) (d described : Device) (r : DataRegisters B) (code : ℕ) (boundary : B) (users : List ℕ) → described ≡ d → code ≡ (if has_code described then 32 else 0)
    → users ≡ described.users → length (stage boundary) ≡ length d.cells → r.identification ≡ zeros code → r.boundary ≡ boundary → r.users.items ≡ map new_user users → lengths_of stage r ≡ lengths_in d
lengths_at_start stage d described r code boundary users same many listed cells identification round new =
    let first : length r.identification ≡ (if has_code d then 32 else 0) = ap length identification ∙ length-replicate code false ∙ many ∙ ap (λ (x : Device). if has_code x then 32 else 0) same in
    let second : length (stage r.boundary) ≡ length d.cells = ap (λ b. length (stage b)) round ∙ cells in
    let third : map {B = ℕ × ℕ} (λ (u : UserRegister). (length u.stage, length u.latch)) r.users.items ≡ map {B = ℕ × ℕ} (λ n. (n, n)) d.users =
    ap (map {B = ℕ × ℕ} (λ (u : UserRegister). (length u.stage, length u.latch))) (new ∙ ap (map new_user) (listed ∙ ap (λ (x : Device). x.users) same)) ∙ new_lengths d.users in
    ap (λ (n : ℕ). record (lengths_of stage r) { identification = n }) first
    ∙ ap (λ (n : ℕ). record { identification = (lengths_in d).identification; boundary = n; users = (lengths_of stage r).users }) second
    ∙ ap (λ (l : List (ℕ × ℕ)). record (lengths_in d) { users = l }) third

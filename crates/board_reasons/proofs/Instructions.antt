-- The instruction in a latch, by its name and by its row.
use Rattle.std.proofs.Common.{◌≡◌, Bool, true, false, not, List, [], ◌∷◌, ◌++◌, map, Option, Some, None, option_map, slice_get, refl, sym, ap, ◌∙◌, codes, ℕ, zero, suc, ◌<◌, arith, length, inl, inr}
use Rattle.std.specs.Prelude.{◌&&◌, if◌then◌else◌, bytes_eq, unwrap_or, find}
use Rattle.std.specs.List.{list_all, list_any, position_or_len, AllByRecursion}
use Rattle.std.proofs.lemmas.Bool.{cases_Bool, cases_lt, le-ltb, lt-ltb}
use Rattle.std.proofs.lemmas.List.Folds.{find_at}
use Rattle.std.proofs.lemmas.Option.{slice_get_within}
use Rattle.std.proofs.lemmas.Slice.Eq.{bytes_eq-Decides}
use Rattle.bsdl_device.specs.Device.{Access, Device, Name, Opcode}
use Rattle.bsdl_device.specs.Opcodes.{names_it}
use Rattle.bsdl_device.specs.declared.Place.{Place}
use Rattle.bsdl_device.specs.declared.Place.TheVariants.{AtBypass, AtBoundary, AtDeviceId, AtUser}
use Rattle.chip_instructions.specs.declared.Mode.{Mode}
use Rattle.chip_instructions.specs.declared.Mode.TheVariants.{Extest, Clamp, HighZ, Core}
use Rattle.chip_instructions.specs.Instruction.{Meaning, access_meaning, as_bypass, look_up, meaning_of, reads_code, standard}
use Rattle.boundary.specs.Cells.{takes_update}
use Rattle.board_reasons.specs.declared.origins.SelectedBy.TheVariants.{AllOnes, Row}
use Rattle.board_reasons.specs.Holders.{is_named, selected_by}
use Rattle.board_reasons.specs.Laws.{TellsTheInstruction, instruction_told}

-- ---- EXTEST by its name

abbrev updates : Meaning → Bool
updates it = takes_update true it.mode

abbrev NoneUpdates : List (Name × Meaning) → Type 0
NoneUpdates rows = AllByRecursion (λ (row : Name × Meaning). updates row.1 ≡ false) rows

none_found : (name : Name) (rows : List (Name × Meaning)) → NoneUpdates rows → updates (look_up name rows) ≡ false
none_found name [] all = refl
none_found name (row ∷ rows) all =
    elim (cases_Bool (bytes_eq name row.0)) [
      | inl hit ↦ ap (λ (b : Bool). updates (if b then row.1 else look_up name rows)) hit ∙ all.0
      | inr miss ↦ ap (λ (b : Bool). updates (if b then row.1 else look_up name rows)) miss ∙ none_found name rows all.1
    ]

code_updates : (code : Option (List Bool)) → updates (reads_code code) ≡ false
code_updates None = refl
code_updates (Some code) = refl

by_place : (d : Device) (name : Name) (p : Place) (captures : Option (List Bool))
    → updates (access_meaning d (record { instruction = name; place = p; captures = captures })).1 ≡ false
by_place d name AtBypass captures = refl
by_place d name AtBoundary captures = refl
by_place d name AtDeviceId captures = code_updates d.idcode
by_place d name (AtUser k) captures = refl

own_update : (d : Device) (accesses : List Access) → NoneUpdates (map (access_meaning d) accesses)
own_update d [] = tt
own_update d (a ∷ accesses) = (by_place d a.instruction a.place a.captures, own_update d accesses)

-- the standard's rows behind EXTEST, and the device's own
abbrev later : Device → List (Name × Meaning)
later d =
    elim (standard d) [ [] ↦ [] | row ∷ rows ↦ elim rows [ [] ↦ [] | second ∷ more ↦ more ] ] ++ map (access_meaning d) d.accesses

none_later : (d : Device) → NoneUpdates (later d)
none_later d =
    (refl, (refl, (refl, (refl, (code_updates d.idcode, (code_updates d.usercode, (refl, (refl, own_update d d.accesses))))))))

and_false : (b : Bool) → (b && false) ≡ false
and_false true = refl
and_false false = refl

and_true : (b : Bool) → (b && true) ≡ b
and_true true = refl
and_true false = refl

-- EXTEST, where it is not private
abbrev in_extest : Device → Option Name → Bool
in_extest d None = false
in_extest d (Some name) = bytes_eq name (codes "EXTEST") && not (list_any (bytes_eq name) d.private_names)

apart : (name : Name) → bytes_eq name (codes "BYPASS") ≡ true → bytes_eq name (codes "EXTEST") ≡ false
apart name is =
    let same = (bytes_eq-Decides name (codes "BYPASS")).0 is in
    ap (λ (n : Name). bytes_eq n (codes "EXTEST")) same

looked_up : (d : Device) (name : Name) → updates (look_up name (standard d ++ map (access_meaning d) d.accesses)) ≡ bytes_eq name (codes "EXTEST")
looked_up d name =
    let all = standard d ++ map (access_meaning d) d.accesses in
    let extest : Meaning = record { mode = Extest; selected = _; fixed = None } in
    let second = λ (b : Bool). if b then extest else look_up name (later d) in
    elim (cases_Bool (bytes_eq name (codes "BYPASS"))) [
      | inl hit ↦ ap (λ (b : Bool). updates (if b then as_bypass else second (bytes_eq name (codes "EXTEST")))) hit ∙ sym (apart name hit)
      | inr miss ↦
          ap (λ (b : Bool). updates (if b then as_bypass else second (bytes_eq name (codes "EXTEST")))) miss
          ∙ elim (cases_Bool (bytes_eq name (codes "EXTEST"))) [
            | inl is ↦ ap (λ (b : Bool). updates (second b)) is ∙ sym is
            | inr other ↦ ap (λ (b : Bool). updates (second b)) other ∙ none_found name (later d) (none_later d) ∙ sym other
          ]
    ]

pub extest_by_name : (d : Device) (o : Option Name) → takes_update true (meaning_of d o).mode ≡ in_extest d o
extest_by_name d None = refl
extest_by_name d (Some name) =
    let rows = look_up name (standard d ++ map (access_meaning d) d.accesses) in
    elim (cases_Bool (list_any (bytes_eq name) d.private_names)) [
      | inl private ↦
          ap (λ (b : Bool). updates (if b then as_bypass else rows)) private
          ∙ sym (and_false (bytes_eq name (codes "EXTEST")))
          ∙ ap (λ (b : Bool). bytes_eq name (codes "EXTEST") && not b) (sym private)
      | inr public ↦
          ap (λ (b : Bool). updates (if b then as_bypass else rows)) public
          ∙ looked_up d name
          ∙ sym (and_true (bytes_eq name (codes "EXTEST")))
          ∙ ap (λ (b : Bool). bytes_eq name (codes "EXTEST") && not b) (sym public)
    ]

pub update_split : (updates : Bool) (mode : Mode) → takes_update updates mode ≡ (updates && takes_update true mode)
update_split true mode = refl
update_split false Extest = refl
update_split false Clamp = refl
update_split false HighZ = refl
update_split false Core = refl

-- ---- the row of an instruction

-- a row with this name
record Named (rows : List Opcode) (name : Name) : Type 0 where
  row : Opcode
  found : find (is_named name) rows ≡ Some row
  is : row.name ≡ name

some_is : (x y : Opcode) → Some x ≡ Some y → x ≡ y
some_is x y e = cc

-- where a row has the name of one that an opcode finds, so has a first
named_there : (latch : List Bool) (rows : List Opcode) (row : Opcode) → find (names_it latch) rows ≡ Some row → Named rows row.name
named_there latch [] row e = absurd cc
named_there latch (x ∷ xs) row e =
    elim (cases_Bool (is_named row.name x)) [
      | inl hit ↦ record {
        row = x;
        found = ap (λ (b : Bool). if b then Some x else find (is_named row.name) xs) hit;
        is = (bytes_eq-Decides x.name row.name).0 hit;
      }
      | inr miss ↦ elim (cases_Bool (names_it latch x)) [
        | inl here ↦
            let same = some_is x row (sym (ap (λ (b : Bool). if b then Some x else find (names_it latch) xs) here) ∙ e) in
            let hit : is_named row.name x ≡ true = (bytes_eq-Decides x.name row.name).1 (ap (λ (o : Opcode). o.name) same) in
            let clash : true ≡ false = sym hit ∙ miss in
            absurd cc
        | inr later ↦
            let more = named_there latch xs row (sym (ap (λ (b : Bool). if b then Some x else find (names_it latch) xs) later) ∙ e) in
            record {
              row = more.row;
              found = ap (λ (b : Bool). if b then Some x else find (is_named row.name) xs) miss ∙ more.found;
              is = more.is;
            }
      ]
    ]

-- the row that is told has the name
told_named : (d : Device) (name : Name) → Named d.opcodes name → instruction_told d (selected_by d.opcodes (Some name)) ≡ Some name
told_named d name named =
    let rows = d.opcodes in
    let at = position_or_len (is_named name) rows in
    let there : slice_get rows at ≡ Some named.row = sym (find_at (is_named name) rows) ∙ named.found in
    let inside = slice_get_within rows at named.row there in
    ap (λ (b : Bool). instruction_told d (unwrap_or (option_map Row (if b then Some at else None)) AllOnes)) (lt-ltb at (length rows) inside)
    ∙ ap (option_map (λ (row : Opcode). row.name)) there ∙ ap (λ (n : Name). Some n) named.is

found_is : (name : Name) (rows : List Opcode) (row : Opcode) → find (is_named name) rows ≡ Some row → row.name ≡ name
found_is name [] row e = absurd cc
found_is name (x ∷ xs) row e =
    elim (cases_Bool (is_named name x)) [
      | inl hit ↦
          let same = some_is x row (sym (ap (λ (b : Bool). if b then Some x else find (is_named name) xs) hit) ∙ e) in
          ap (λ (o : Opcode). o.name) (sym same) ∙ (bytes_eq-Decides x.name name).0 hit
      | inr miss ↦ found_is name xs row (sym (ap (λ (b : Bool). if b then Some x else find (is_named name) xs) miss) ∙ e)
    ]

-- a row stands at a place within
there : (rows : List Opcode) (i : ℕ) → i < length rows → (row : Opcode) × (slice_get rows i ≡ Some row)
there [] i inside = absurd (omega (arith, inside))
there (x ∷ xs) zero inside = (x, refl)
there (x ∷ xs) (suc i) inside = there xs i (omega (arith, inside))

-- where no row has the name it is told as that of all ones
bypass_told : (d : Device) → instruction_told d (selected_by d.opcodes (Some (codes "BYPASS"))) ≡ Some (codes "BYPASS")
bypass_told d =
    let rows = d.opcodes in
    let name = codes "BYPASS" in
    let at = position_or_len (is_named name) rows in
    elim (cases_lt at (length rows)) [
      | inl inside ↦
          let its = there rows at inside in
          let found : find (is_named name) rows ≡ Some its.0 = find_at (is_named name) rows ∙ its.1 in
          told_named d name (record { row = its.0; found = found; is = found_is name rows its.0 found })
      | inr past ↦ ap (λ (b : Bool). instruction_told d (unwrap_or (option_map Row (if b then Some at else None)) AllOnes)) (le-ltb at (length rows) past)
    ]

by_find : (d : Device) (latch : List Bool) (o : Option Opcode) → find (names_it latch) d.opcodes ≡ o
    → instruction_told d (selected_by d.opcodes (option_map (λ (row : Opcode). row.name) o)) ≡ option_map (λ (row : Opcode). row.name) o
by_find d latch None e = refl
by_find d latch (Some row) e = told_named d row.name (named_there latch d.opcodes row e)

pub tells_instruction : TellsTheInstruction
tells_instruction d latch =
    let found = option_map (λ (row : Opcode). row.name) (find (names_it latch) d.opcodes) in
    let named = λ (b : Bool). if b then Some (codes "BYPASS") else found in
    elim (cases_Bool (list_all (λ b. b) latch)) [
      | inl ones ↦ (λ i. instruction_told d (selected_by d.opcodes (named (ones i)))) ∙ bypass_told d ∙ ap named (sym ones)
      | inr other ↦
          (λ i. instruction_told d (selected_by d.opcodes (named (other i)))) ∙ by_find d latch (find (names_it latch) d.opcodes) refl
          ∙ ap named (sym other)
    ]

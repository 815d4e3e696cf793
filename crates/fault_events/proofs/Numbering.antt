-- The numbers of pins, as they are put one behind another.
use Rattle.std.proofs.Common.{◌≡◌, ℕ, zero, suc, ◌+◌, Bool, false, List, [], ◌∷◌, ◌++◌, length, map, drop, slice_get, Option, Some, None, unwrap_or, replicate, refl, sym, ap, ap₂, subst, ◌∙◌, arith}
use Rattle.std.specs.Prelude.{option_and_then, option_map}
use Rattle.jt_bits.specs.Words.{bit_of}
use Rattle.bsdl_device.specs.declared.Cell.{Cell}
use Rattle.boundary.specs.Cells.{cell_captures}
use Rattle.boundary.specs.Masks.{sighted_port}
use Rattle.chip_registers.specs.declared.users.UserRegister.{UserRegister}
use Rattle.chip_registers.specs.Registers.{user_latch, user_stage, with_user_stage}
use Rattle.chip_instructions.specs.Fitting.{IsFormed}
use Rattle.chip_instructions.specs.Instruction.{Meaning}
use Rattle.chip_instructions.specs.declared.Selected.{Selected}
use Rattle.chip_instructions.specs.declared.Selected.TheVariants.{Bypass, Identification, Boundary, User}
use Rattle.board_model.specs.Cells.{Member}
use Rattle.board_model.specs.Chain.{ChipState, members}
use Rattle.fault_events.specs.Numbers.{AllFormed, number_in, number_of, number_of_cell}
use Rattle.fault_events.specs.Sources.{Fixed, cell_sources, fixed_bits, member_sources, register_sources, source_at, sources_from}

-- ---- a user register that is there, or not

-- its stage and its latch
abbrev parts : UserRegister → List Bool × List Bool
parts u = (u.stage, u.latch)

pub user_none : (k : ℕ) (bits : List Bool) (us : List UserRegister) → None ≡ option_map parts (slice_get us k)
    → length (user_stage k (with_user_stage k bits us)) ≡ 0
user_none k bits [] e = refl
user_none zero bits (u ∷ us) e = absurd (cc)
user_none (suc k) bits (u ∷ us) e = user_none k bits us e

latch-is : (x : UserRegister) (s l : List Bool) → ◌≡◌ {A = Option (List Bool × List Bool)} (Some (s, l)) (option_map parts (Some x)) → x.latch ≡ l
latch-is x s l e =
    let none : List Bool × List Bool = (s, l) in
    sym (ap (λ (o : Option (List Bool × List Bool)). (unwrap_or o none).1) e)

pub user_some : (k : ℕ) (bits : List Bool) (us : List UserRegister) (s l : List Bool) → ◌≡◌ {A = Option (List Bool × List Bool)} (Some (s, l)) (option_map parts (slice_get us k))
    → (user_stage k (with_user_stage k bits us) ≡ bits) × (user_latch k us ≡ l)
user_some k bits [] s l e = absurd (cc)
user_some zero bits (x ∷ us) s l e = (refl, latch-is x s l e)
user_some (suc k) bits (x ∷ us) s l e = user_some k bits us s l e

pub unwrap_or_map : {A B : Type 0} (f : A → B) (o : Option A) (d : A) → f (unwrap_or o d) ≡ unwrap_or (option_map f o) (f d)
unwrap_or_map f None d = refl
unwrap_or_map f (Some a) d = refl

-- ---- cells, and bits that hang on no net

pub cell_numbers : (tables : List (List (Option ℕ))) (device : ℕ) (fu : Bool) (update core : List Bool) (k : ℕ) (cs : List Cell)
    → map (number_of_cell tables device) cs ≡ map (number_of tables) (cell_sources device fu update core k cs)
cell_numbers tables device fu update core k [] = refl
cell_numbers tables device fu update core k (c ∷ cs) =
    ap₂ (λ (n : Option ℕ) (ns : List (Option ℕ)). n ∷ ns) (one (sighted_port c.port c.function)) (cell_numbers tables device fu update core (suc k) cs)
  where
    one : (port : Option ℕ) → option_and_then (number_in tables device) port
        ≡ number_of tables (source_at device port (cell_captures false fu (bit_of update k) (bit_of core k) c.port c.function))
    one None = refl
    one (Some p) = refl

pub fixed_numbers : (tables : List (List (Option ℕ))) (bits : List Bool) → replicate (length bits) None ≡ map (number_of tables) (map Fixed bits)
fixed_numbers tables [] = refl
fixed_numbers tables (b ∷ bits) = ap (λ (ns : List (Option ℕ)). None ∷ ns) (fixed_numbers tables bits)

pub other_sources : (device : ℕ) (it : Meaning) (s : Selected) (m : Member) → (s ≡ Boundary → ⊥)
    → register_sources device it s m ≡ map Fixed (fixed_bits s it.fixed m.registers)
other_sources device it Bypass m not = refl
other_sources device it Identification m not = refl
other_sources device it Boundary m not = absurd (not refl)
other_sources device it (User k) m not = refl

-- ---- one device after another

pub drop_next : {X : Type 0} (xs : List X) (i : ℕ) (x : X) → slice_get xs i ≡ Some x → drop i xs ≡ x ∷ drop (i + 1) xs
drop_next [] i x e = absurd (cc)
drop_next {X} (y ∷ xs) zero x e = let same : y ≡ x = cc in ap (λ (z : X). z ∷ xs) same
drop_next {X} (y ∷ xs) (suc i) x e =
    let more : suc i + 1 ≡ suc (i + 1) = omega arith in
    drop_next xs i x e ∙ sym (ap (λ (k : ℕ). x ∷ drop k (y ∷ xs)) more)

pub sources_next : (cs : List ChipState) (i : ℕ) (c : ChipState) → slice_get cs i ≡ Some c
    → sources_from i (members (drop i cs)) ≡ member_sources i c.member ++ sources_from (i + 1) (members (drop (i + 1) cs))
sources_next cs i c e =
    let more : suc i ≡ i + 1 = omega arith in
    ap (λ (l : List ChipState). sources_from i (members l)) (drop_next cs i c e)
    ∙ ap (λ (k : ℕ). member_sources i c.member ++ sources_from k (members (drop (i + 1) cs))) more

pub formed_at : (cs : List ChipState) → AllFormed (members cs) → (i : ℕ) (c : ChipState) → slice_get cs i ≡ Some c → IsFormed c.member.device
formed_at [] all i c e = absurd (cc)
formed_at (x ∷ cs) all zero c e = let same : x ≡ c = cc in subst (λ (y : ChipState). IsFormed y.member.device) same all.0
formed_at (x ∷ cs) all (suc i) c e = formed_at cs all.1 i c e

pub replicate_more : {X : Type 0} (n : ℕ) (x : X) → replicate n x ++ x ∷ [] ≡ replicate (n + 1) x
replicate_more zero x = refl
replicate_more {X} (suc n) x =
    let more : suc n + 1 ≡ suc (n + 1) = omega arith in
    ap (λ (l : List X). x ∷ l) (replicate_more n x) ∙ sym (ap (λ (k : ℕ). replicate k x) more)

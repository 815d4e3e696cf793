-- The registers of the device's own (IEEE Std 1149.1-2001, Annex B.8.13).
use Rattle.std.specs.Prelude.{ℕ, suc, Bool, not, if◌then◌else◌, List, [], ◌∷◌, ◌++◌, filter, Option, Some, None}
use Rattle.std.specs.Prelude.{option_map, bytes_eq}
use Rattle.std.specs.List.{list_any}
use Rattle.bsdl_device.specs.Device.{Name}
use Rattle.bsdl_values.specs.InstructionValues.{AccessRow}

abbrev pub is_other : Name → Name × ℕ → Bool
is_other name u = not (bytes_eq u.0 name)

-- each with its length, in the order in which they are first named
abbrev pub users_of : List AccessRow → List (Name × ℕ)
users_of [] = []
users_of (r ∷ rows) = and_user r.register r.len (users_of rows)
  where
    and_user : Name → Option ℕ → List (Name × ℕ) → List (Name × ℕ)
    and_user name None others = others
    and_user name (Some n) others = (name, n) ∷ filter (is_other name) others

abbrev pub is_user : List (Name × ℕ) → Name → Bool
is_user us name = list_any (λ u. bytes_eq u.0 name) us

-- the number of a register among these
abbrev pub user_number : List (Name × ℕ) → Name → Option ℕ
user_number [] name = None
user_number (u ∷ us) name = if bytes_eq u.0 name then Some 0 else option_map (λ n. suc n) (user_number us name)

-- these with the register of a row more
abbrev pub with_row : List (Name × ℕ) → AccessRow → List (Name × ℕ)
with_row us r = at_len r.len
  where
    at_len : Option ℕ → List (Name × ℕ)
    at_len None = us
    at_len (Some n) = if is_user us r.register then us else us ++ (r.register, n) ∷ []

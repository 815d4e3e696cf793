-- What the registers of the code stand for.
use Rattle.std.specs.Prelude.{◌≡◌, ℕ, List, map}
use Rattle.std.specs.BTreeMap.{get_by_text}
use Rattle.bsdl_text.specs.NumberView.{value}
use Rattle.bsdl_device.specs.Device.{Name}
use Rattle.bsdl_opcodes.specs.declared.users.Users as declared_users
use Rattle.bsdl_opcodes.specs.Users.{user_number}

-- their lengths in order, and where each name stands
pub record Lists (u : declared_users.Users) (us : List (Name × ℕ)) : Type 0 where
  pub lengths : map value u.lengths.items ≡ map (λ p. p.1) us
  pub numbers : (q : List ℕ) → get_by_text u.numbers q ≡ user_number us q

-- A user register that is there.
use Rattle.std.specs.Prelude.{◌≡◌, ◌<◌, ℕ, List, length}
use Rattle.chip_registers.specs.declared.users.UserRegister.{UserRegister}
use Rattle.chip_registers.specs.Registers.{user_stage, user_latch}

-- user register k is there, has a bit, and its two lists have one length
pub record HasUser (users : List UserRegister) (k : ℕ) : Type 0 where
  pub there : k < length users
  pub some : 0 < length (user_stage k users)
  pub same : length (user_stage k users) ≡ length (user_latch k users)

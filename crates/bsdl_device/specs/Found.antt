-- How the number of a port bit is kept by its port's name and its index.
use Rattle.std.specs.Prelude.{◌≡◌, ◌&&◌, ℕ, Bool, List, Option, Some, None, if◌then◌else◌, option_and_then, position}
use Rattle.std.specs.Prelude.{bytes_eq, cond, true}
use Rattle.std.specs.Ordering.{nat_cmp}
use Rattle.std.specs.BTreeMap.{BTreeMap, get}
use Rattle.std.specs.Str.{str_to_ascii_lowercase}
use Rattle.name_keys.specs.Keys.{key_order}
use Rattle.bsdl_device.specs.declared.numbers.Numbers.{Numbers}
use Rattle.bsdl_device.specs.declared.port_bits.BitPlace.{BitPlace}
use Rattle.bsdl_device.specs.Ports.{same_index}

-- this number, where the index is that one
abbrev pub number_if : Option ℕ → Option ℕ → ℕ → Option ℕ
number_if i index number = if same_index i index then Some number else None

-- the number for an index
abbrev pub number_at : Numbers → Option ℕ → Option ℕ
number_at n None = n.whole
number_at n (Some i) = get nat_cmp n.by_index i

-- the number for a name, in any case, and an index
abbrev pub number_named : BTreeMap (List ℕ) Numbers → List ℕ → Option ℕ → Option ℕ
number_named names q i = option_and_then (λ n. number_at n i) (get key_order names (str_to_ascii_lowercase q))

-- each number is that of the first bit with its index among those that pass
abbrev pub AreFirst : (BitPlace → Bool) → Numbers → List BitPlace → Type 0
AreFirst passes n bits = (i : Option ℕ) → number_at n i ≡ position (λ b. passes b && same_index i b.index) bits

-- A port of this name was added: the numbers of the name are those that it had, and its bits' behind them; other names
-- have what they had.
pub record AddsNamed (key : List ℕ) (port : ℕ) (names after : BTreeMap (List ℕ) Numbers)
    (bits more : List BitPlace) : Type 0 where
  pub before : Numbers
  pub now : Numbers
  pub had : (i : Option ℕ) → number_at before i ≡ option_and_then (λ n. number_at n i) (get key_order names key)
  pub put : (q : List ℕ) → get key_order after q ≡ cond (bytes_eq key q) (Some now) (get key_order names q)
  pub added : (passes : BitPlace → Bool) → ((i : Option ℕ) → passes (record { port = port; index = i }) ≡ true)
      → AreFirst passes before bits → AreFirst passes now more

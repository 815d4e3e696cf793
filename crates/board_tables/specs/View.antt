-- What the code's values stand for.
use Rattle.std.specs.Prelude.{⊤}
use Rattle.std.specs.Prelude.{◌≡◌, ℕ, List, Option, Some, None, Result, Ok, Err}
use Rattle.board_tables.specs.declared.fields.Unfit.{Unfit}
use Rattle.board_tables.specs.declared.fields.Unfit.TheVariants.{Field, Memory}
use Rattle.board_tables.specs.declared.fields.BoardTable.{BoardTable}
use Rattle.board_tables.specs.declared.keys.Keys.{Keys}
use Rattle.board_tables.specs.declared.keys.Keys.TheVariants.{Top, Device, Net}
use Rattle.board_tables.specs.WordView.{texts_of}
use Rattle.board_tables.specs.Keys.{Key, top_keys, device_keys, net_keys}

abbrev pub keys_of : Keys → List Key
keys_of Top = top_keys
keys_of (Device names known) = device_keys (texts_of names.now) known
keys_of (Net names) = net_keys (texts_of names.now)

-- A check passes where no key is at fault, and else names the one that is, unless memory runs out.
abbrev pub Checks : {A : Type 0} → Result A Unfit → Option (List ℕ) → Type 0
Checks (Ok x) unfit = unfit ≡ None
Checks (Err (Field k table)) unfit = unfit ≡ Some k.now
Checks (Err Memory) unfit = ⊤

-- The table that a check names, where a key is at fault, unless memory runs out.
abbrev pub Names : {A : Type 0} → Result A Unfit → Option BoardTable → Type 0
Names (Ok x) o = o ≡ None
Names (Err (Field k table)) o = o ≡ Some table
Names (Err Memory) o = ⊤

-- a refusal is of a key in this table, unless memory ran out
abbrev pub IsIn : Unfit → BoardTable → Type 0
IsIn (Field k other) table = other ≡ table
IsIn Memory table = ⊤

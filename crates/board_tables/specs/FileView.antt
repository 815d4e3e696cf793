-- What the code's values stand for.
use Rattle.std.specs.Prelude.{⊤}
use Rattle.std.specs.Prelude.{◌≡◌, ℕ, ◌≤◌, List, length, map, string_bytes, Option, Some, None, Result, Ok, Err}
use Rattle.std.specs.Prelude.{Vec, String}
use Rattle.std.specs.declared.alloc.Global.{Global}
use Rattle.std.specs.BTreeMap.{BTreeMap}
use Rattle.toml.specs.Data.{Members}
use Rattle.toml.specs.View.{table_view}
use Rattle.toml.specs.declared.value.Value.{Value}
use Rattle.board_tables.specs.declared.fields.Unfit.{Unfit}
use Rattle.board_tables.specs.declared.fields.Unfit.TheVariants.{Field, Memory}
use Rattle.board_tables.specs.declared.fault.BoardFault.{BoardFault}
use Rattle.board_tables.specs.declared.fault.BoardFault.TheVariants as fault
use Rattle.board_tables.specs.Files.{Reads, IsBadToml}

-- what reading a text as TOML gives
abbrev pub ReadsToml : {F : Type 0} → List ℕ → Result (BTreeMap (String Global) Value) (BoardFault F) → Type 0
ReadsToml text (Ok t) = Reads text (table_view t)
ReadsToml text (Err fault.BadToml) = IsBadToml text
ReadsToml text (Err fault.NoMemory) = ⊤
ReadsToml text (Err _) = ⊥

-- A text that is no TOML stops being so at a byte or at its end; any other does nowhere.
abbrev pub StopsAt : List ℕ → Option ℕ → Type 0
StopsAt text None = (t : Members) × Reads text t
StopsAt text (Some place) = IsBadToml text × (place ≤ length text)

-- The names where no key is at fault, and else the key that is, unless memory runs out.
abbrev pub TellsNames : {F : Type 0} → Result (Vec (String Global) Global) (BoardFault F)
    → Result (List (List ℕ)) (List ℕ) → Type 0
TellsNames (Ok v) said = said ≡ Ok (map string_bytes v.items)
TellsNames (Err (fault.BadField k)) said = said ≡ Err (string_bytes k)
TellsNames (Err fault.NoMemory) said = ⊤
TellsNames (Err _) said = ⊥

-- the text is refused as no TOML, unless memory runs out
abbrev pub TellsBadToml : {A F : Type 0} → Result A (BoardFault F) → Type 0
TellsBadToml (Err fault.BadToml) = ⊤
TellsBadToml (Err fault.NoMemory) = ⊤
TellsBadToml _ = ⊥

-- a key at fault as a caller sees it
abbrev pub IsTold : {F : Type 0} → Unfit → BoardFault F → Type 0
IsTold (Field k table) (fault.BadField s) = string_bytes s ≡ k.now
IsTold (Field k table) fault.NoMemory = ⊤
IsTold Memory fault.NoMemory = ⊤
IsTold _ _ = ⊥

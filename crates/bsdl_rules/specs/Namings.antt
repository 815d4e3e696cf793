-- Names at their places, and those that are given again (IEEE Std 1149.1-2001, Annex B.8.3 to B.8.14).
use Rattle.std.specs.Prelude.{ℕ, ◌==◌, nat_lt, Bool, ◌&&◌, ◌||◌, if◌then◌else◌, List, [], ◌∷◌, filter}
use Rattle.std.specs.Prelude.{Option, Some, None}
use Rattle.std.specs.List.{list_any}
use Rattle.bsdl_text.specs.Words.{same_name}
use Rattle.bsdl_rules.specs.declared.naming.Position.{Position}

-- Places are in order by the token, then by the byte within its text.
abbrev pub stands_before : Position → Position → Bool
stands_before p q = nat_lt p.outer q.outer || (p.outer == q.outer && nat_lt p.within q.within)

-- a name that is given at a place
pub record Naming : Type 0 where
  pub name : List ℕ
  pub position : Position

-- where a token stands that begins at this byte: of the text itself, or of the text within quotes whose first is here
abbrev pub position_at : Option ℕ → ℕ → Position
position_at None start = record { outer = start; within = 0 }
position_at (Some quote) start = record { outer = quote; within = start }

abbrev pub naming_at : Option ℕ → List ℕ → ℕ → Naming
naming_at quote name start = record { name = name; position = position_at quote start }

-- one of the same name stands before
abbrev pub is_repeated : List Naming → Naming → Bool
is_repeated all n = list_any (λ m. same_name m.name n.name && stands_before m.position n.position) all

abbrev pub repeated : List Naming → List Naming
repeated all = filter (is_repeated all) all

abbrev pub earlier : Naming → Option Naming → Naming
earlier n None = n
earlier n (Some m) = if stands_before m.position n.position then m else n

abbrev pub earliest : List Naming → Option Naming
earliest [] = None
earliest (n ∷ ns) = Some (earlier n (earliest ns))

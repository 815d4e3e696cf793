-- Names and their first places.
use Rattle.std.specs.Prelude.{ℕ, Bool, false, ◌&&◌, List, Option, Some, None, bytes_eq}
use Rattle.std.specs.List.{list_any}
use Rattle.bsdl_text.specs.Words.{upper}
use Rattle.bsdl_rules.specs.declared.naming.Position.{Position}
use Rattle.bsdl_rules.specs.Namings.{stands_before, Naming, earlier, is_repeated}

-- there is a place, and it stands before this one
abbrev pub begins_before : Option Position → Position → Bool
begins_before None s = false
begins_before (Some p) s = stands_before p s

-- a naming of this name, in upper case, before this place
abbrev pub is_naming : Naming → List ℕ → Position → Bool
is_naming n q s = bytes_eq (upper n.name) q && stands_before n.position s

abbrev pub is_named_before : List Naming → List ℕ → Position → Bool
is_named_before all q s = list_any (λ n. is_naming n q s) all

-- the earlier of two
abbrev pub either : Option Naming → Option Naming → Option Naming
either None o = o
either (Some n) o = Some (earlier n o)

-- one of them has this name, in upper case
abbrev pub is_named : List Naming → List ℕ → Bool
is_named all q = list_any (λ n. bytes_eq (upper n.name) q) all

-- one of them has a name that stands before it
abbrev pub has_repeated : List Naming → Bool
has_repeated all = list_any (is_repeated all) all

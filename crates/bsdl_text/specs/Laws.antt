-- Laws over all names, which public functions ensure.
use Rattle.std.specs.Prelude.{◌≡◌, ℕ, List}
use Rattle.std.specs.Str.{str_eq_ignore_ascii_case}
use Rattle.bsdl_text.specs.Words.{same_name}

-- names are the same where they are equal but for case, and so where they are equal in upper case
abbrev pub NamesMatchInAnyCase : Type 0
NamesMatchInAnyCase = (a b : List ℕ) → str_eq_ignore_ascii_case a b ≡ same_name a b

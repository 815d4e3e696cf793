-- What a naming of the code stands for.
use Rattle.std.specs.Prelude.{ℕ, Option, string_bytes}
use denote.Ref.{Bor}
use Rattle.bsdl_text.specs.declared.names.Word as declared_word
use Rattle.bsdl_rules.specs.declared.naming.Again as declared_again
use Rattle.bsdl_rules.specs.declared.naming.Naming as declared_naming
use Rattle.bsdl_rules.specs.Namings.{Naming, naming_at}

abbrev pub naming : declared_naming.Naming → Naming
naming n = record { name = n.name.text.now; position = n.position }

-- a word that is lent, at its place
abbrev pub named : Option ℕ → Bor declared_word.Word → Naming
named quote w = naming_at quote w.now.text.now w.now.start

abbrev pub again : declared_again.Again → Naming
again a = record { name = string_bytes a.name; position = a.position }

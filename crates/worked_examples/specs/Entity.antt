-- The outer form of a description: its ports and its attributes in order (IEEE Std 1149.1-2001, Annex B.8.1 to B.8.8).
use Rattle.std.specs.Prelude.{◌≡◌, ℕ, ◌≤◌, ◌⊎◌, Bool, true, List, [], ◌∷◌, ◌++◌, length, codes, Option, None}
use Rattle.std.specs.List.{AllByRecursion}
use Rattle.bsdl_text.specs.Cutting.{Lexeme}
use Rattle.bsdl_text.specs.Words.{upper}
use Rattle.bsdl_text.specs.Marks.{semi, colon}
use Rattle.bsdl_entity.specs.Scalars.{is_scalar}
use Rattle.bsdl_values.specs.declared.Attribute.{Attribute}
use Rattle.bsdl_values.specs.Values.{Value}
use Rattle.bsdl_entity.specs.Attributes.{attribute_of}
use Rattle.bsdl_entity.specs.Entity.{is_tap, Given, with_value, and_given, File}
use Rattle.worked_examples.specs.Lists.{IsMark, IsWord, Spells, StandsFor}
use Rattle.worked_examples.specs.Ports.{IsPorts}
use Rattle.worked_examples.specs.Values.{IsInBrackets, IsValue}

-- ---- tokens that are passed over

abbrev pub IsNoSemi : Lexeme → Type 0
IsNoSemi t = ¬ IsMark semi t

-- tokens ;
abbrev pub IsPassedOver : List Lexeme → Type 0
IsPassedOver ts =
    (front : List Lexeme) × (end : Lexeme) × (ts ≡ front ++ end ∷ []) × AllByRecursion IsNoSemi front × IsMark semi end

-- ---- items

-- what an attribute may be of: any word, for the TAP's a declared port of one bit, which a test tells
abbrev pub IsOwner : (List ℕ → Bool) → Attribute → Lexeme → Type 0
IsOwner is_port a owner = IsWord owner × (is_tap a ≡ true → is_port owner.text ≡ true)

-- of name : word is value ;
abbrev pub IsAttribute : (List ℕ → Bool) → Attribute → Value → List Lexeme → Type 0
IsAttribute is_port a v ts =
    (of_word owner colon_mark class is_word end : Lexeme) × (value : List Lexeme)
    × (ts ≡ of_word ∷ owner ∷ colon_mark ∷ class ∷ is_word ∷ (value ++ end ∷ [])) × Spells (codes "OF") of_word
    × IsOwner is_port a owner × IsMark colon colon_mark × IsWord class × Spells (codes "IS") is_word
    × IsValue a (upper owner.text) v value × IsMark semi end

-- An item, and what it gives: nothing, or the value of an attribute of the table.
pub data IsItem (is_port : List ℕ → Bool) : Option Given → List Lexeme → Type 0 where
  use_clause : (word : Lexeme) (ts : List Lexeme) → Spells (codes "USE") word → IsPassedOver ts
      → IsItem is_port None (word ∷ ts)
  constant : (word : Lexeme) (ts : List Lexeme) → Spells (codes "CONSTANT") word → IsPassedOver ts
      → IsItem is_port None (word ∷ ts)
  other : (word name : Lexeme) (ts : List Lexeme) → Spells (codes "ATTRIBUTE") word → IsWord name
      → attribute_of name.text ≡ None → IsPassedOver ts → IsItem is_port None (word ∷ name ∷ ts)
  given : (word name : Lexeme) (ts : List Lexeme) (a : Attribute) (v : Value) → Spells (codes "ATTRIBUTE") word
      → IsWord name → StandsFor attribute_of a name → IsAttribute is_port a v ts
      → IsItem is_port (with_value (record { name = name; attribute = a; value = v }) v) (word ∷ name ∷ ts)

-- items, one after another
abbrev pub AreItems : (List ℕ → Bool) → List (Option Given) → List Lexeme → Type 0
AreItems is_port [] ts = ts ≡ []
AreItems is_port (g ∷ gs) ts =
    (front rest : List Lexeme) × (ts ≡ front ++ rest) × IsItem is_port g front × AreItems is_port gs rest

-- what they give, in order
abbrev pub all_given : List (Option Given) → List Given
all_given [] = []
all_given (g ∷ gs) = and_given g (all_given gs)

-- ---- a file

-- [generic ( tokens with matching brackets ) ;]
abbrev pub IsGeneric : List Lexeme → Type 0
IsGeneric ts =
    (ts ≡ []) ⊎
    ((word end : Lexeme) × (within : List Lexeme) × (ts ≡ word ∷ (within ++ end ∷ [])) × Spells (codes "GENERIC") word
    × IsInBrackets within × IsMark semi end)

-- entity name is [generic]
abbrev pub IsHeading : List Lexeme → Type 0
IsHeading ts =
    (word name is_word : Lexeme) × (generic : List Lexeme) × (ts ≡ word ∷ name ∷ is_word ∷ generic)
    × Spells (codes "ENTITY") word × IsWord name × Spells (codes "IS") is_word × IsGeneric generic

-- end [word] [word] ;
abbrev pub IsEnding : List Lexeme → Type 0
IsEnding ts =
    (word end : Lexeme) × (words : List Lexeme) × (ts ≡ word ∷ (words ++ end ∷ [])) × Spells (codes "END") word
    × AllByRecursion IsWord words × (length words ≤ 2) × IsMark semi end

-- entity name is [generic] port {item} end [word] [word] ;
abbrev pub IsFile : File → List Lexeme → Type 0
IsFile f ts =
    (heading ports items ending : List Lexeme) × (gs : List (Option Given))
    × (ts ≡ heading ++ (ports ++ (items ++ ending))) × IsHeading heading × IsPorts f.ports ports
    × AreItems (is_scalar f.ports) gs items × (f.given ≡ all_given gs) × IsEnding ending

-- The outer form of a description: the entity's ports and attributes in order (IEEE Std 1149.1-2001, Annex B.8.1 to
-- B.8.8).
use Rattle.std.specs.Prelude.{ℕ, zero, suc, Bool, true, false, ◌&&◌, ◌||◌, not, if◌then◌else◌, List, [], ◌∷◌, length}
use Rattle.std.specs.Prelude.{drop, codes, Option, Some, None}
use Rattle.bsdl_text.specs.Cutting.{Lexeme}
use Rattle.bsdl_text.specs.Words.{upper}
use Rattle.bsdl_text.specs.Reading.{Read, fits, misfit, ◌>>=◌, refused_at, word, mark}
use Rattle.bsdl_text.specs.Marks.{semi, colon}
use Rattle.bsdl_device.specs.Device.{Name}
use Rattle.bsdl_values.specs.InstructionValues.{begins}
use Rattle.bsdl_entity.specs.Keywords.{this_word}
use Rattle.bsdl_entity.specs.Scalars.{is_scalar}
use Rattle.bsdl_entity.specs.Ports.{Port, ports}
use Rattle.bsdl_values.specs.declared.Attribute.{Attribute}
use Rattle.bsdl_values.specs.declared.Attribute.TheVariants.{TapScanIn, TapScanOut, TapScanMode, TapScanClock}
use Rattle.bsdl_values.specs.declared.Attribute.TheVariants.{TapScanReset}
use Rattle.bsdl_values.specs.Passing.{brackets, past_semi}
use Rattle.bsdl_values.specs.Values.{Value, absent, value_of}
use Rattle.bsdl_entity.specs.Attributes.{attribute_of}

-- ---- attributes

-- the attributes of the TAP's ports
abbrev pub is_tap : Attribute → Bool
is_tap TapScanIn = true
is_tap TapScanOut = true
is_tap TapScanMode = true
is_tap TapScanClock = true
is_tap TapScanReset = true
is_tap _ = false

-- what an attribute is of: any word, for the TAP's a declared port of one bit, which a test tells
abbrev pub owner : (List ℕ → Bool) → Attribute → List Lexeme → Read Lexeme
owner is_port a ts = word ts >>= λ n rest. if is_tap a && not (is_port n.text) then refused_at ts else fits n rest

pub record Given : Type 0 where
  pub name : Lexeme
  pub attribute : Attribute
  pub value : Value

-- `false` says nothing
abbrev pub with_value : Given → Value → Option Given
with_value g absent = None
with_value g v = Some g

-- is value
abbrev pub value_behind : Attribute → Name → List Lexeme → Read Value
value_behind a name ts = this_word (codes "IS") ts >>= λ i f. value_of a name f

-- of name : word
abbrev pub owner_clause : (List ℕ → Bool) → Attribute → List Lexeme → Read Lexeme
owner_clause is_port a ts =
    this_word (codes "OF") ts >>= λ k b. owner is_port a b >>= λ n c. mark colon c >>= λ m d. word d >>=
    λ class e. fits n e

-- of name : word is value ;
abbrev pub attribute_form : (List ℕ → Bool) → Lexeme → Attribute → List Lexeme → Read (Option Given)
attribute_form is_port name a ts =
    owner_clause is_port a ts >>= λ n e. value_behind a (upper n.text) e >>= λ v g. mark semi g >>=
    λ s h. fits (with_value (record { name = name; attribute = a; value = v }) v) h

abbrev pub nothing : Read Bool → Read (Option Given)
nothing r = r >>= λ b rest. fits None rest

-- an attribute of another name is passed over
abbrev pub attribute : (List ℕ → Bool) → Lexeme → Option Attribute → List Lexeme → Read (Option Given)
attribute is_port name None ts = nothing (past_semi ts)
attribute is_port name (Some a) ts = attribute_form is_port name a ts

-- attribute name tokens ;
abbrev pub attribute_item : (List ℕ → Bool) → List Lexeme → Read (Option Given)
attribute_item is_port ts =
    this_word (codes "ATTRIBUTE") ts >>= λ k a. word a >>=
    λ name b. attribute is_port name (attribute_of name.text) b

-- use tokens ; constant tokens ; or an attribute
abbrev pub item : (List ℕ → Bool) → List Lexeme → Read (Option Given)
item is_port ts =
    if begins (codes "USE") ts || begins (codes "CONSTANT") ts then nothing (past_semi (drop 1 ts))
    else attribute_item is_port ts

-- what says something
abbrev pub and_given : Option Given → List Given → List Given
and_given None gs = gs
and_given (Some g) gs = g ∷ gs

-- items up to `end`; each takes a token, so there are at most `n` on n tokens
unfoldable pub items : (List ℕ → Bool) → ℕ → List Lexeme → Read (List Given)
items is_port zero ts = if begins (codes "END") ts then fits [] ts else refused_at ts
items is_port (suc n) ts =
    if begins (codes "END") ts then fits [] ts
    else item is_port ts >>= λ g rest. items is_port n rest >>= λ gs after. fits (and_given g gs) after

-- ---- a file

pub record File : Type 0 where
  pub ports : List Port
  pub given : List Given

abbrev pub generic : List Lexeme → Read Bool
generic ts =
    if begins (codes "GENERIC") ts then (brackets (drop 1 ts) >>= λ b a. mark semi a >>= λ s c. fits true c)
    else fits true ts

-- a word, if one stands there
abbrev pub any_word : List Lexeme → Read Bool
any_word ts = elim (word ts) [
  | fits t rest ↦ fits true rest
  | misfit at ↦ fits true ts
]

abbrev pub end_of_text : List Lexeme → Read Bool
end_of_text [] = fits true []
end_of_text (t ∷ ts) = misfit (Some t.start)

abbrev pub ending : List Lexeme → Read Bool
ending ts =
    this_word (codes "END") ts >>= λ k a. any_word a >>= λ v b. any_word b >>= λ w c. mark semi c >>=
    λ s d. end_of_text d

-- entity name is [generic]
abbrev pub heading : List Lexeme → Read Bool
heading ts =
    this_word (codes "ENTITY") ts >>= λ k a. word a >>= λ name b. this_word (codes "IS") b >>= λ i c. generic c

-- entity name is [generic] port {item} end [word] [word] ;
abbrev pub file : List Lexeme → Read File
file ts =
    heading ts >>= λ g d. ports d >>= λ ps e. items (is_scalar ps) (length e) e >>= λ gs f. ending f >>=
    λ o h. fits (record { ports = ps; given = gs }) h

-- What stands within the quotes of attributes (IEEE Std 1149.1-2001, Annex B.8.11 to B.8.14).
use Rattle.std.specs.Prelude.{◌≡◌, ℕ, Bool, true, List, [], ◌∷◌, ◌++◌, codes, Option, Some, None}
use Rattle.std.specs.List.{flat_map, AllByRecursion}
use Rattle.bsdl_text.specs.Cutting.{Lexeme}
use Rattle.bsdl_text.specs.Gaps.{TokensOf}
use Rattle.bsdl_text.specs.Words.{upper, text_within}
use Rattle.bsdl_text.specs.Marks.{comma, opening, closing}
use Rattle.bsdl_text.specs.Reading.{whole_number}
use Rattle.bsdl_device.specs.Device.{Name, Pattern}
use Rattle.bsdl_device.specs.declared.Control3.{Control3}
use Rattle.bsdl_values.specs.InstructionValues.{are_digits, pattern_of, OpcodeRow, Instr, AccessRow, is_public}
use Rattle.bsdl_values.specs.CellKeywords.{function_of, disabled_of, safe_of, bit_of}
use Rattle.bsdl_values.specs.CellRows.{PortName, CellRow}
use Rattle.worked_examples.specs.Lists.{IsMark, IsWord, Spells, StandsFor, IsOneString, IsChain, IsList}

-- a text within quotes says this: it is tokens and gaps to its end, and the tokens are so
abbrev pub SpellsWithin : {A : Type 0} → (A → List Lexeme → Type 0) → A → List ℕ → Type 0
SpellsWithin Says x text = (ts : List Lexeme) × TokensOf true text ts × Says x ts

-- strings joined by `&`, the text of which says this
abbrev pub IsQuoted : {A : Type 0} → (A → List Lexeme → Type 0) → A → List Lexeme → Type 0
IsQuoted Says x ts =
    (strings : List Lexeme) × IsChain IsOneString 38 strings ts × SpellsWithin Says x (text_within strings)

-- item {, item} [,]
abbrev pub AreRows : {A : Type 0} → (A → List Lexeme → Type 0) → List A → List Lexeme → Type 0
AreRows Item xs ts = IsList Item comma xs ts

-- ( item {, item} [,] )
abbrev pub AreBracketed : {A : Type 0} → (A → List Lexeme → Type 0) → List A → List Lexeme → Type 0
AreBracketed Item xs ts =
    (opener closer : Lexeme) × (listed : List Lexeme) × (ts ≡ opener ∷ (listed ++ closer ∷ [])) × IsMark opening opener
    × IsList Item comma xs listed × IsMark closing closer

-- ---- patterns

-- a token of digits 0, 1 and X
abbrev pub IsDigits : Lexeme → Type 0
IsDigits t = are_digits t ≡ true

-- the digits of one token or more, without the white space between them
abbrev pub IsPattern : Pattern → List Lexeme → Type 0
IsPattern p ts =
    (first : Lexeme) × (more : List Lexeme) × (ts ≡ first ∷ more) × AllByRecursion IsDigits ts
    × (p ≡ pattern_of (flat_map (λ t. t.text) ts))

-- ---- instructions

-- name ( pattern {, pattern} [,] )
abbrev pub IsOpcodeRow : OpcodeRow → List Lexeme → Type 0
IsOpcodeRow r ts =
    (patterns : List Lexeme) × (ts ≡ r.name ∷ patterns) × IsWord r.name × AreBracketed IsPattern r.patterns patterns

-- a name
abbrev pub IsPrivateName : Name → List Lexeme → Type 0
IsPrivateName name ts = (word : Lexeme) × (ts ≡ word ∷ []) × IsWord word × (name ≡ upper word.text)

-- [captures pattern]
abbrev pub IsCapture : Option Pattern → List Lexeme → Type 0
IsCapture None ts = ts ≡ []
IsCapture (Some p) ts =
    (captures : Lexeme) × (pattern : List Lexeme) × (ts ≡ captures ∷ pattern) × Spells (codes "CAPTURES") captures
    × IsPattern p pattern

-- name [captures pattern]
abbrev pub IsInstr : Instr → List Lexeme → Type 0
IsInstr i ts = (capture : List Lexeme) × (ts ≡ i.name ∷ capture) × IsWord i.name × IsCapture i.captures capture

-- `[n]`, which only boundary, bypass and device_id go without
abbrev pub IsLength : List ℕ → Option ℕ → List Lexeme → Type 0
IsLength name None ts = (ts ≡ []) × (is_public name ≡ true)
IsLength name (Some n) ts =
    (opener number closer : Lexeme) × (ts ≡ opener ∷ number ∷ closer ∷ []) × IsMark 91 opener
    × StandsFor whole_number n number × IsMark 93 closer

-- register [length] ( instr {, instr} [,] )
abbrev pub IsAccessRow : AccessRow → List Lexeme → Type 0
IsAccessRow r ts =
    (register : Lexeme) × (len instrs : List Lexeme) × (ts ≡ register ∷ (len ++ instrs)) × IsWord register
    × (r.register ≡ upper register.text) × IsLength register.text r.len len × AreBracketed IsInstr r.instrs instrs

-- ---- cells

-- [( number )]
abbrev pub IsIndex : Option ℕ → List Lexeme → Type 0
IsIndex None ts = ts ≡ []
IsIndex (Some n) ts =
    (opener number closer : Lexeme) × (ts ≡ opener ∷ number ∷ closer ∷ []) × IsMark opening opener
    × StandsFor whole_number n number × IsMark closing closer

-- `*`, or name [( number )]
abbrev pub IsPort : Option PortName → List Lexeme → Type 0
IsPort None ts = (star : Lexeme) × (ts ≡ star ∷ []) × IsMark 42 star
IsPort (Some p) ts =
    (name : Lexeme) × (index : List Lexeme) × (ts ≡ name ∷ index) × IsWord name × (p.name ≡ upper name.text)
    × IsIndex p.index index

-- [, number , disabling value , result]
abbrev pub IsControl : Option Control3 → List Lexeme → Type 0
IsControl None ts = ts ≡ []
IsControl (Some c) ts =
    (comma0 cell comma1 value comma2 result : Lexeme)
    × (ts ≡ comma0 ∷ cell ∷ comma1 ∷ value ∷ comma2 ∷ result ∷ [])
    × IsMark comma comma0 × StandsFor whole_number c.cell cell × IsMark comma comma1
    × StandsFor bit_of c.disabling value × IsMark comma comma2 × StandsFor disabled_of c.leaves result

-- number ( cell name , port , function , safe value [, control] )
abbrev pub IsCellRow : CellRow → List Lexeme → Type 0
IsCellRow r ts =
    (number opener cell comma0 comma1 function comma2 safe closer : Lexeme) × (safe_value : Bool)
    × (port control : List Lexeme)
    × (ts ≡ number ∷ opener ∷ cell ∷ comma0 ∷ (port ++ comma1 ∷ function ∷ comma2 ∷ safe ∷ (control ++ closer ∷ [])))
    × StandsFor whole_number r.number number × IsMark opening opener × IsWord cell × IsMark comma comma0
    × IsPort r.port port × IsMark comma comma1 × StandsFor function_of r.function function × IsMark comma comma2
    × StandsFor safe_of safe_value safe × IsControl r.control control × IsMark closing closer

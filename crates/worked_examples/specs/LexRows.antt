-- Worked texts: the tokens that they are cut into, and the fault that each ends in.
use Rattle.std.specs.Prelude.{◌≡◌, ℕ, List, [], ◌∷◌, ◌++◌, bytes_eq, codes, filter, if◌then◌else◌}
use Rattle.std.specs.Prelude.{Result, Ok, Err}
use Rattle.svf_lex.specs.declared.Kind.{Kind}
use Rattle.svf_lex.specs.declared.Kind.TheVariants as kind
use Rattle.svf_lex.specs.declared.LexFault.{LexFault}
use Rattle.svf_lex.specs.declared.LexFault.TheVariants as fault
use Rattle.svf_lex.specs.Bytes.{is_run}
use Rattle.svf_lex.specs.Cutting.{Lexeme, items_of}

abbrev pub Given : Type 0
Given = List (Result Lexeme LexFault)

abbrev pub kind_of : List ℕ → Kind
kind_of text =
    if bytes_eq text (codes "(") then kind.Open
    else if bytes_eq text (codes ")") then kind.Close
    else if bytes_eq text (codes ";") then kind.Semi
    else kind.Run

-- a token of this text, by where it starts
abbrev pub token : ℕ → List ℕ → Result Lexeme LexFault
token start text = Ok (record { kind = kind_of text; text = text; start = start })

-- the text ends in a statement that began there
abbrev pub unclosed : ℕ → Given
unclosed start = Err (fault.Unclosed start) ∷ []

-- the byte there begins nothing
abbrev pub bad : ℕ → Given
bad place = Err (fault.BadByte place) ∷ []

-- bytes beside those of the alphabet, and its own first and last ones
abbrev pub edge_bytes : List ℕ
edge_bytes =
    42 ∷ 43 ∷ 44 ∷ 45 ∷ 46 ∷ 47 ∷ 48 ∷ 57 ∷ 58 ∷ 64 ∷ 65 ∷ 90 ∷ 91 ∷ 94 ∷ 95 ∷ 96 ∷ 97 ∷ 122 ∷ 123 ∷ 255 ∷ []

pub record LexRows : Type 0 where
  pub scan : items_of (codes "SDR 16 TDI(0a-F.\n.+_1)SMASK ( );")
      ≡ token 0 (codes "SDR") ∷ token 4 (codes "16") ∷ token 7 (codes "TDI") ∷ token 10 (codes "(")
      ∷ token 11 (codes "0a-F.") ∷ token 17 (codes ".+_1") ∷ token 21 (codes ")") ∷ token 22 (codes "SMASK")
      ∷ token 28 (codes "(") ∷ token 30 (codes ")") ∷ token 31 (codes ";") ∷ []
  -- statements that do not end
  pub open_bracket : items_of (codes "SDR 4 TDI (F")
      ≡ token 0 (codes "SDR") ∷ token 4 (codes "4") ∷ token 6 (codes "TDI") ∷ token 10 (codes "(") ∷ token 11 (codes "F")
      ∷ unclosed 0
  pub second_statement : items_of (codes "SDR 4 TDI (F);  STATE")
      ≡ token 0 (codes "SDR") ∷ token 4 (codes "4") ∷ token 6 (codes "TDI") ∷ token 10 (codes "(") ∷ token 11 (codes "F")
      ∷ token 12 (codes ")") ∷ token 13 (codes ";") ∷ token 16 (codes "STATE") ∷ unclosed 16
  pub comment_at_the_end : items_of (codes ";A B ! ;\n")
      ≡ token 0 (codes ";") ∷ token 1 (codes "A") ∷ token 3 (codes "B") ∷ unclosed 1
  -- bytes outside the alphabet
  pub hash : items_of (codes "SDR 4 # ;") ≡ token 0 (codes "SDR") ∷ token 4 (codes "4") ∷ bad 6
  pub one_slash : items_of (codes "A/ /B;") ≡ token 0 (codes "A") ∷ bad 1
  pub last_slash : items_of (codes "A /") ≡ token 0 (codes "A") ∷ bad 2
  pub zero : items_of (codes "A" ++ 0 ∷ codes ";") ≡ token 0 (codes "A") ∷ bad 1
  -- comments
  pub nothing : items_of [] ≡ []
  pub mark_alone : items_of (codes "!") ≡ []
  pub slashes_alone : items_of (codes "//") ≡ []
  pub mark_within : items_of (codes "! ! // ; ( # " ++ 255 ∷ 0 ∷ []) ≡ []
  pub line_ends : items_of
      (codes "//a!b" ++ 13 ∷ codes "!c//d" ++ 10 ∷ 9 ∷ 11 ∷ 12 ∷ 13 ∷ 10 ∷ codes "// e") ≡ []
  pub marks_by_line : items_of (codes "!;" ++ 13 ∷ codes "//;" ++ 13 ∷ codes "!") ≡ []
  pub tokens_by_line : items_of
      (codes "!a" ++ 13 ∷ codes "A//!" ++ 13 ∷ 10 ∷ codes "B!" ++ 10 ∷ 13 ∷ 10 ∷ codes "C;!")
      ≡ token 3 (codes "A") ∷ token 9 (codes "B") ∷ token 14 (codes "C") ∷ token 15 (codes ";") ∷ []
  pub mark_in_slashes : items_of (codes "A//;!" ++ 10 ∷ codes "B;")
      ≡ token 0 (codes "A") ∷ token 6 (codes "B") ∷ token 7 (codes ";") ∷ []
  -- which bytes at the edges of the alphabet are of a run
  pub edges : filter is_run edge_bytes
      ≡ 43 ∷ 45 ∷ 46 ∷ 48 ∷ 57 ∷ 65 ∷ 90 ∷ 95 ∷ 97 ∷ 122 ∷ []

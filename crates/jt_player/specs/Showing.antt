-- The lines of endings, of refusals and of an accepted text.
use Rattle.std.specs.Prelude.{ℕ, List, [], ◌∷◌, ◌++◌, codes, decimal, flat_map, length}
use Rattle.output_words.specs.declared.status.Status.{Status}
use Rattle.output_words.specs.declared.status.Status.TheVariants as exits
use Rattle.output_words.specs.Lines.{total_line}
use Rattle.output_words.specs.Names.{shown}
use Rattle.output_words.specs.Statuses.{number}
use Rattle.output_words.specs.Texts.{texts}
use Rattle.play_model.specs.Endings.{verdict_line}
use Rattle.play_model.specs.declared.kind.Kind.{Kind}
use Rattle.play_model.specs.declared.kind.Kind.TheVariants.{PlaysOn}
use Rattle.play_model.specs.PlayingOn.{Mismatch}
use Rattle.play_model.specs.declared.ending.Ending.{Ending}
use Rattle.play_model.specs.declared.ending.Ending.TheVariants.{Fail}
use Rattle.scan_vectors.specs.Failures.{Found}
use Rattle.svf_words.specs.declared.fault.Code.{Code}
use Rattle.svf_words.specs.declared.fault.Code.TheVariants as code
use Rattle.svf_words.specs.declared.fault.SvfFault.{SvfFault}
use Rattle.svf_programs.specs.Steps.{Program}
use Rattle.board_tables.specs.declared.fault.BoardFault.{BoardFault}
use Rattle.board_tables.specs.declared.fault.BoardFault.TheVariants as board
use Rattle.play_direct.specs.BsdlFault.{BsdlFault}
use Rattle.play_direct.specs.BsdlFault.TheVariants as bsdl

-- the line of a wanted bit that did not come out
abbrev pub mismatch_line : Mismatch → List ℕ
mismatch_line m = verdict_line (Fail m.command m.part m.bit)

-- What is told of a play by how it ended and what it found. One that stops tells its verdict. One that plays on tells
-- the failures that are listed, one a line, and how many there were; where there is none it passes, and where it was
-- lost or got a byte that is no answer it tells that alone.
abbrev pub ending_lines : Kind → Ending → Found → List ℕ
ending_lines PlaysOn (Fail command part bit) f = flat_map mismatch_line f.list ++ total_line f.total
ending_lines kind ending f = verdict_line ending

-- a refusal's number and name, without the values in brackets
abbrev pub code_words : Code → List ℕ
code_words (code.BadByte place) = codes "S1 BadByte"
code_words (code.Unclosed place) = codes "S2 Unclosed"
code_words code.UnknownCommand = codes "S3 UnknownCommand"
code_words code.BadForm = codes "S4 BadForm"
code_words code.BadNumber = codes "S5 BadNumber"
code_words code.TooWide = codes "S6 TooWide"
code_words code.MissingTdi = codes "S7 MissingTdi"
code_words code.BadState = codes "S8 BadState"
code_words code.BadPath = codes "S9 BadPath"
code_words code.TrstHeld = codes "S10 TrstHeld"
code_words code.TrstAbsent = codes "S11 TrstAbsent"
code_words code.EmptyScan = codes "S12 EmptyScan"
code_words code.Unsupported = codes "S13 Unsupported"
code_words code.TooSlow = codes "S14 TooSlow"
code_words code.TooLarge = codes "S15 TooLarge"
code_words code.NoMemory = codes "S16 NoMemory"

-- the line of a refusal
abbrev pub refusal_line : SvfFault → List ℕ
refusal_line f = texts (codes "svf " ∷ code_words f.code ∷ codes " statement " ∷ decimal f.statement ∷ codes "\n" ∷ [])

-- the line of a text that is accepted as a program: how many statements it has, and how many steps they make
abbrev pub accepted_line : Program → List ℕ
accepted_line p =
    texts (codes "accepted " ∷ decimal p.statements ∷ codes " statements " ∷ decimal (length p.steps)
    ∷ codes " steps\n" ∷ [])

-- why a description is refused, as a line says it: the number and the name, without the values in brackets
abbrev pub bsdl_words : BsdlFault → List ℕ
bsdl_words (bsdl.BadToken place) = codes "bsdl B1 BadToken"
bsdl_words (bsdl.BadForm place) = codes "bsdl B2 BadForm"
bsdl_words (bsdl.Missing attribute) = codes "bsdl B3 Missing"
bsdl_words (bsdl.Twice name) = codes "bsdl B4 Twice"
bsdl_words bsdl.BadLength = codes "bsdl B5 BadLength"
bsdl_words bsdl.BadCapture = codes "bsdl B6 BadCapture"
bsdl_words bsdl.BadId = codes "bsdl B7 BadId"
bsdl_words (bsdl.BadCell number) = codes "bsdl B8 BadCell"
bsdl_words bsdl.TooLarge = codes "bsdl B9 TooLarge"
bsdl_words bsdl.NoMemory = codes "bsdl B10 NoMemory"

-- Why a board is not made, as a line says it: a refused description (C4) is told by its own refusal, and want of memory
-- (C8) as that.
abbrev pub board_words : BoardFault BsdlFault → List ℕ
board_words board.BadToml = codes "board C1 BadToml"
board_words (board.BadField key) = codes "board C2 BadField"
board_words (board.UnknownFile name) = codes "board C3 UnknownFile"
board_words (board.Bsdl fault) = bsdl_words fault
board_words (board.UnknownPin text) = codes "board C5 UnknownPin"
board_words (board.PinTwice text) = codes "board C6 PinTwice"
board_words board.TooLarge = codes "board C7 TooLarge"
board_words board.NoMemory = codes "memory"
board_words (board.CoreLoop text) = codes "board C9 CoreLoop"

-- the line of a board that is not made, and the exit status: 2 refused, 4 want of memory
abbrev pub board_refusal_line : BoardFault BsdlFault → List ℕ
board_refusal_line fault = texts (board_words fault ∷ codes "\n" ∷ [])

abbrev pub refusal_status : BoardFault BsdlFault → Status
refusal_status board.NoMemory = exits.NoMemory
refusal_status _ = exits.Refused

abbrev pub board_refusal_status : BoardFault BsdlFault → ℕ
board_refusal_status fault = number (refusal_status fault)

-- the line of a file that cannot be read
abbrev pub unreadable_line : List ℕ → List ℕ
unreadable_line name = texts (codes "file " ∷ shown name ∷ codes "\n" ∷ [])

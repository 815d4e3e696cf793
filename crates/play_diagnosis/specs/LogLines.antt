-- What a line of a log says: a log is what a play printed, and beside its verdict a play prints the board, its bytes,
-- and why bits failed.
use Rattle.std.specs.Prelude.{Bool, true, false, not, ◌&&◌, ◌||◌, ◌==◌, ℕ, List, [], ◌∷◌, length, nat_le, slice_index}
use Rattle.std.specs.Prelude.{codes}
use Rattle.std.specs.Prelude.{Option, Some, None, if◌then◌else◌}
use Rattle.std.specs.Char.{is_ascii_digit}
use Rattle.std.specs.List.{list_all, list_any, slice_split}
use Rattle.std.specs.Str.{bytes_eq}
use Rattle.std.specs.Str.Lines.{strip_carriage_return}
use Rattle.std.specs.Str.Parse.{digits_value}
use Rattle.scan_vectors.specs.declared.failures.Mismatch.{Mismatch}
use Rattle.scan_vectors.specs.declared.part.Part.{Part}
use Rattle.scan_vectors.specs.declared.part.Part.TheVariants.{Header, Data, Trailer}
use Rattle.play_diagnosis.specs.declared.lines.Line.{Line}
use Rattle.play_diagnosis.specs.declared.lines.Line.TheVariants.{Pass, Fail, Total, Cut, Beside, Unknown}

-- ---- words

abbrev pub blank : ℕ
blank = 32

-- the words of a line, between single blanks
abbrev pub words : List ℕ → List (List ℕ)
words line = slice_split (λ b. b == blank) line

abbrev pub is_bit : ℕ → Bool
is_bit b = b == 48 || b == 49

-- an instruction of a device, its highest bit first
abbrev pub are_bits : List ℕ → Bool
are_bits w = not (length w == 0) && list_all is_bit w

abbrev pub levels : List (List ℕ)
levels = codes "Zero" ∷ codes "One" ∷ codes "Contend" ∷ codes "Float" ∷ []

abbrev pub is_level : List ℕ → Bool
is_level w = list_any (bytes_eq w) levels

-- the states of the controller
abbrev pub states : List (List ℕ)
states =
    codes "RESET" ∷ codes "IDLE"
    ∷ codes "DRSELECT" ∷ codes "DRCAPTURE" ∷ codes "DRSHIFT" ∷ codes "DREXIT1" ∷ codes "DRPAUSE" ∷ codes "DREXIT2"
    ∷ codes "DRUPDATE"
    ∷ codes "IRSELECT" ∷ codes "IRCAPTURE" ∷ codes "IRSHIFT" ∷ codes "IREXIT1" ∷ codes "IRPAUSE" ∷ codes "IREXIT2"
    ∷ codes "IRUPDATE" ∷ []

abbrev pub is_state : List ℕ → Bool
is_state w = list_any (bytes_eq w) states

-- ---- numbers

-- so many digits a number has at most
abbrev pub most_digits : ℕ
most_digits = 18

-- no 0 stands before other digits
abbrev pub begins_well : List ℕ → Bool
begins_well w = length w == 1 || not (slice_index w 0 == 48)

-- a number as it is printed
abbrev pub is_number : List ℕ → Bool
is_number w =
    not (length w == 0) && (list_all is_ascii_digit w && (nat_le (length w) most_digits && begins_well w))

abbrev pub number : List ℕ → Option ℕ
number w = if is_number w then Some (digits_value 10 w) else None

abbrev pub part : List ℕ → Option Part
part w =
    if bytes_eq w (codes "header") then Some Header
    else if bytes_eq w (codes "data") then Some Data
    else if bytes_eq w (codes "trailer") then Some Trailer
    else None

-- ---- lines, by their words

-- a line without a word says nothing
abbrev pub one_word : List ℕ → Line
one_word a = if bytes_eq a (codes "pass") then Pass else if length a == 0 then Beside else Unknown

abbrev pub total : Option ℕ → Line
total None = Unknown
total (Some n) = Total n

-- a net and its level, `failures 3`, or `bytes r2626Q`
abbrev pub two_words : (a b : List ℕ) → Line
two_words a b =
    if is_level b then Beside
    else if bytes_eq a (codes "failures") then total (number b)
    else if bytes_eq a (codes "bytes") then Beside
    else Unknown

-- a play that came to no verdict
abbrev pub cut : Option ℕ → Line
cut None = Unknown
cut (Some n) = Cut

-- `lost command 2`
abbrev pub three_words : (a b c : List ℕ) → Line
three_words a b c = if bytes_eq a (codes "lost") && bytes_eq b (codes "command") then cut (number c) else Unknown

-- a device with its state and instruction, or `wanted 1 got 0`
abbrev pub four_words : (a b c d : List ℕ) → Line
four_words a b c d =
    if is_state b && are_bits c then Beside
    else if bytes_eq a (codes "wanted") && are_bits b && bytes_eq c (codes "got") && are_bits d then Beside
    else Unknown

-- where a statement starts
abbrev pub position : (line column : Option ℕ) → Line
position (Some line) (Some column) = Beside
position _ _ = Unknown

-- `from U2 boundary cell 2 ..`: what held a bit that failed
abbrev pub from : List ℕ → Line
from a = if bytes_eq a (codes "from") then Beside else Unknown

-- `bad answer 78 command 1`, `at line 16 column 1`, or what held a bit
abbrev pub five_words : (a b c d e : List ℕ) → Line
five_words a b c d e =
    if bytes_eq a (codes "bad") && bytes_eq b (codes "answer") && bytes_eq d (codes "command") then cut (number e)
    else if bytes_eq a (codes "at") && bytes_eq b (codes "line") && bytes_eq d (codes "column")
    then position (number c) (number e)
    else from a

abbrev pub failed : Option ℕ → Option Part → Option ℕ → Line
failed (Some command) (Some its_part) (Some bit) =
    Fail (record { command = command; part = its_part; bit = bit })
failed _ _ _ = Unknown

-- `fail command 12 data bit 12`, or what held a bit
abbrev pub six_words : (a b c d e f : List ℕ) → Line
six_words a b c d e f =
    if bytes_eq a (codes "fail") && bytes_eq b (codes "command") && bytes_eq e (codes "bit")
    then failed (number c) (part d) (number f)
    else from a

abbrev pub by_words : List (List ℕ) → Line
by_words [] = Unknown
by_words (a ∷ []) = one_word a
by_words (a ∷ b ∷ []) = two_words a b
by_words (a ∷ b ∷ c ∷ []) = three_words a b c
by_words (a ∷ b ∷ c ∷ d ∷ []) = four_words a b c d
by_words (a ∷ b ∷ c ∷ d ∷ e ∷ []) = five_words a b c d e
by_words (a ∷ b ∷ c ∷ d ∷ e ∷ f ∷ []) = six_words a b c d e f
by_words (a ∷ b ∷ c ∷ d ∷ e ∷ f ∷ g ∷ rest) = from a

-- What a line says; it may end in a carriage return.
abbrev pub line_of : List ℕ → Line
line_of line = by_words (words (strip_carriage_return line))

-- What a log says, read line by line.
use Rattle.std.specs.Prelude.{Bool, true, false, not, ◌&&◌, ◌||◌, ◌==◌, ℕ, ◌+◌, List, [], ◌∷◌, ◌++◌, length, min}
use Rattle.std.specs.Prelude.{nat_le, nat_lt, Option, Some, None, is_some, Result, Ok, Err, if◌then◌else◌}
use Rattle.std.specs.List.{list_any, slice_split}
use Rattle.scan_vectors.specs.declared.failures.Mismatch.{Mismatch}
use Rattle.scan_vectors.specs.Failures.{Found, found}
use Rattle.scan_vectors.specs.Vector.{VectorBit}
use Rattle.svf_programs.specs.Steps.{Numbered, Program, Scan, Step}
use Rattle.fault_serving.specs.Firsts.{is_part}
use Rattle.play_diagnosis.specs.declared.lines.Line.{Line}
use Rattle.play_diagnosis.specs.declared.lines.Line.TheVariants as line
use Rattle.play_diagnosis.specs.declared.reading.LogFault.{LogFault}
use Rattle.play_diagnosis.specs.declared.reading.LogFault.TheVariants.{BadLine, NoVerdict, NoSuchBit, TooLarge, Empty}
use Rattle.play_diagnosis.specs.declared.reading.Said.{Said}
use Rattle.play_diagnosis.specs.declared.reading.Said.TheVariants as said
use Rattle.play_diagnosis.specs.LogLines.{line_of}

-- ---- what a log says

-- that the play passed; the first bit that failed, where the play stopped there; or the bits that failed in a play to
-- the end, the first of them, and how many they were
pub data Verdict : Type 0 where
  Passes : Verdict
  Stops : Mismatch → Verdict
  PlaysOn : Found → Verdict

-- what the code keeps of it
abbrev pub verdict_of : Said → Verdict
verdict_of said.Pass = Passes
verdict_of (said.First bit) = Stops bit
verdict_of (said.All failures) = PlaysOn (found failures)

-- ---- the bits of a program

abbrev pub is_bit_of : Mismatch → VectorBit → Bool
is_bit_of m b = is_part b.part m.part && b.place == m.bit

abbrev pub scans_bit : Mismatch → Step → Bool
scans_bit m (Scan column v end) = list_any (is_bit_of m) v
scans_bit m _ = false

-- a step scans this bit
abbrev pub is_of : Mismatch → Numbered → Bool
is_of m s = s.number == m.command && scans_bit m s.what

-- a statement of the program has this bit in its vector
abbrev pub has_bit : Program → Mismatch → Bool
has_bit program m = list_any (is_of m) program.steps

-- ---- line after line

-- so many bits that fail are printed
abbrev pub most_told : ℕ
most_told = 256

-- what was read so far: how many lines; whether one says that the play passed; the bits that failed, and the line of
-- the last of them; how many they are, where a line said it
pub record Reading : Type 0 where
  pub lines : ℕ
  pub passes : Bool
  pub bits : List Mismatch
  pub last : ℕ
  pub total : Option ℕ

abbrev pub nothing_read : Reading
nothing_read = record { lines = 0; passes = false; bits = []; last = 0; total = None }

-- A play passes where nothing of a verdict stands before.
abbrev pub passed : Reading → Result Reading LogFault
passed r = if r.passes || not (length r.bits == 0) then Err (BadLine r.lines) else Ok (record r { passes = true })

-- Bits fail one after another, up to the most that are printed, and none behind a verdict.
abbrev pub failed : Program → Reading → Mismatch → Result Reading LogFault
failed program r m =
    if r.passes || (is_some r.total || nat_le most_told (length r.bits)) then Err (BadLine r.lines)
    else if has_bit program m then Ok (record r { bits = r.bits ++ m ∷ []; last = r.lines })
    else Err (NoSuchBit r.lines)

-- so many that are listed are all that failed of this number, up to the most that are
abbrev pub lists_all : (listed total : ℕ) → Bool
lists_all listed total = nat_lt 0 listed && listed == min total most_told

-- How many bits failed is told once, behind all that are listed.
abbrev pub counted : Reading → ℕ → Result Reading LogFault
counted r n =
    if is_some r.total || not (lists_all (length r.bits) n) then Err (BadLine r.lines)
    else Ok (record r { total = Some n })

-- what a line says, of the lines with it
abbrev pub said_by : Program → Reading → Line → Result Reading LogFault
said_by program r line.Beside = Ok r
said_by program r line.Unknown = Err (BadLine r.lines)
said_by program r line.Cut = Err (NoVerdict r.lines)
said_by program r line.Pass = passed r
said_by program r (line.Fail m) = failed program r m
said_by program r (line.Total n) = counted r n

-- with one line more
abbrev pub with_line : Program → Reading → Line → Result Reading LogFault
with_line program r l = said_by program (record r { lines = r.lines + 1 }) l

-- with more lines: the first that does not fit is told
abbrev pub with_lines : Program → Reading → List (List ℕ) → Result Reading LogFault
with_lines program r [] = Ok r
with_lines program r (l ∷ ls) =
    elim (with_line program r (line_of l)) [ Err fault ↦ Err fault | Ok next ↦ with_lines program next ls ]

-- A play that stops tells one bit; more of them without their number are no verdict.
abbrev pub by_bits : (last : ℕ) → List Mismatch → Result Verdict LogFault
by_bits last [] = Err Empty
by_bits last (m ∷ []) = Ok (Stops m)
by_bits last (m ∷ n ∷ ms) = Err (NoVerdict last)

-- what a log says that ends there
abbrev pub verdict : Reading → Result Verdict LogFault
verdict r =
    if r.passes then Ok Passes
    else elim r.total [ None ↦ by_bits r.last r.bits | Some n ↦ Ok (PlaysOn (record { list = r.bits; total = n })) ]

-- ---- a whole log

abbrev pub line_feed : ℕ
line_feed = 10

abbrev pub lines : List ℕ → List (List ℕ)
lines text = slice_split (λ b. b == line_feed) text

-- a log has at most 16 MiB
abbrev pub most_bytes : ℕ
most_bytes = 16777216

abbrev pub verdict_read : Result Reading LogFault → Result Verdict LogFault
verdict_read (Ok r) = verdict r
verdict_read (Err fault) = Err fault

-- What a log says of a play of this program, or why that cannot be told.
abbrev pub read : Program → (log : List ℕ) → Result Verdict LogFault
read program text =
    if nat_lt most_bytes (length text) then Err TooLarge
    else verdict_read (with_lines program nothing_read (lines text))

-- What is told of the bits that a scan wants: beside TDO what is wanted, whether a bit fails, and its place and part.
use Rattle.std.specs.Prelude.{ℕ, zero, suc, ◌+◌, ◌==◌, Bool, true, false, ◌&&◌, List, [], ◌++◌, codes, Option, Some}
use Rattle.std.specs.Prelude.{None, is_some}
use Rattle.std.specs.Prelude.{if◌then◌else◌}
use Rattle.bitbang_protocol.specs.declared.Message.{Message}
use Rattle.bitbang_protocol.specs.declared.Message.TheVariants.{Write}
use Rattle.scan_vectors.specs.declared.part.Part.{Part}
use Rattle.scan_vectors.specs.Vector.{VectorBit, differs}
use Rattle.play_model.specs.Endings.{part_word}
use Rattle.output_words.specs.Digits.{digit}
use Rattle.wave_files.specs.Changes.{stamp}
use Rattle.wave_files.specs.Codes.{binary}
use Rattle.wave_files.specs.Values.{bits_line, byte_change, unknown, wire, word_line}
use Rattle.play_drawing.specs.declared.notes.Note.{Note}

-- ---- what a bit is told as

abbrev pub no_note : Note
no_note = record { wanted = None; failing = None }

-- A bit is judged where TCK goes high: by what TDO is then.
abbrev pub judged : VectorBit → (tdo : Bool) → Note
judged v tdo = record {
  wanted = v.wanted;
  failing = if differs v.wanted tdo then Some (v.part, v.place) else None;
}

-- What fails is told until TCK goes low, what was wanted until TCK goes high and no bit is judged.
abbrev pub kept : Message → Note → Note
kept (Write false tms tdi) note = record note { failing = None }
kept (Write true tms tdi) note = record note { wanted = None }
kept _ note = note

-- ---- lines

-- `wanted` is unknown where no bit is wanted
abbrev pub wanted_byte : Note → ℕ
wanted_byte note = wire unknown note.wanted

abbrev pub fail_byte : Note → ℕ
fail_byte note = digit (is_some note.failing)

-- a number of a bit, from 0
abbrev pub place_bits : ℕ → List ℕ
place_bits zero = codes "0"
place_bits (suc k) = binary (suc k)

-- the place of a bit, and its part
abbrev pub bit_lines : ℕ → Part → (place : ℕ) → List ℕ
bit_lines n part place = bits_line n (place_bits place) ++ word_line (n + 1) (part_word part)

-- of a bit that fails, if one does
abbrev pub failing_lines : ℕ → Option (Part × ℕ) → List ℕ
failing_lines n None = []
failing_lines n (Some f) = bit_lines n f.0 f.1

-- the variables from n on are `wanted`, `fail`, `bit` and `part`
abbrev pub note_lines : ℕ → (before after : Note) → List ℕ
note_lines n a b =
    byte_change n (wanted_byte a) (wanted_byte b)
    ++ (byte_change (n + 1) (fail_byte a) (fail_byte b) ++ failing_lines (n + 2) b.failing)

abbrev pub shows_same : (before after : Note) → Bool
shows_same a b = (wanted_byte a == wanted_byte b) && (fail_byte a == fail_byte b)

-- the time, and what changed; nothing where nothing did
abbrev pub note_change : (time : ℕ) → ℕ → (before after : Note) → List ℕ
note_change time n a b = if shows_same a b then [] else stamp time ++ note_lines n a b

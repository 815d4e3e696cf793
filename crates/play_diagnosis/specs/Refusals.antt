-- Why a log does not say how a play ended, as lines tell it.
use Rattle.std.specs.Prelude.{Bool, true, false, ℕ, List, [], ◌∷◌, codes, decimal, Option, Some, None}
use Rattle.output_words.specs.Texts.{texts}
use Rattle.play_diagnosis.specs.declared.reading.LogFault.{LogFault}
use Rattle.play_diagnosis.specs.declared.reading.LogFault.TheVariants.{BadLine, NoVerdict, NoSuchBit, TooLarge, Empty}

abbrev pub code_words : LogFault → List ℕ
code_words (BadLine line) = codes "L1 BadLine"
code_words (NoVerdict line) = codes "L2 NoVerdict"
code_words (NoSuchBit line) = codes "L3 NoSuchBit"
code_words TooLarge = codes "L4 TooLarge"
code_words Empty = codes "L5 Empty"

-- the line of the log that is at fault, if one is
abbrev pub line_at : LogFault → Option ℕ
line_at (BadLine line) = Some line
line_at (NoVerdict line) = Some line
line_at (NoSuchBit line) = Some line
line_at TooLarge = None
line_at Empty = None

-- `log L1 BadLine line 7`, and where it is asked for where that line begins: `at line 7 column 1`
abbrev pub lines_at : (explain : Bool) → (code : List ℕ) → Option ℕ → List ℕ
lines_at explain code None = texts (codes "log " ∷ code ∷ codes "\n" ∷ [])
lines_at false code (Some line) = texts (codes "log " ∷ code ∷ codes " line " ∷ decimal line ∷ codes "\n" ∷ [])
lines_at true code (Some line) = texts
    (codes "log " ∷ code ∷ codes " line " ∷ decimal line ∷ codes "\n"
    ∷ codes "at line " ∷ decimal line ∷ codes " column 1\n" ∷ [])

-- all that is told of a refusal
abbrev pub refusal_lines : (explain : Bool) → LogFault → List ℕ
refusal_lines explain fault = lines_at explain (code_words fault) (line_at fault)

-- How a play ends, as a program shows it.
use Rattle.std.specs.Prelude.{ℕ, List, [], ◌∷◌, codes, decimal}
use Rattle.output_words.specs.declared.status.Status.{Status}
use Rattle.output_words.specs.declared.status.Status.TheVariants as exits
use Rattle.output_words.specs.Digits.{hex_byte}
use Rattle.output_words.specs.Statuses.{number}
use Rattle.output_words.specs.Texts.{texts}
use Rattle.scan_vectors.specs.declared.part.Part.{Part}
use Rattle.scan_vectors.specs.declared.part.Part.TheVariants.{Header, Data, Trailer}
use Rattle.play_model.specs.declared.ending.Ending.{Ending}
use Rattle.play_model.specs.declared.ending.Ending.TheVariants.{Pass, Fail, Lost, BadAnswer}

-- the exit status of an ending: a play that was cut short, or got a byte that is no answer, gave no verdict
abbrev pub exit_status : Ending → Status
exit_status Pass = exits.Pass
exit_status (Fail command part bit) = exits.Fail
exit_status (Lost command) = exits.Lost
exit_status (BadAnswer command byte) = exits.Lost

abbrev pub status_of : Ending → ℕ
status_of ending = number (exit_status ending)

abbrev pub part_word : Part → List ℕ
part_word Header = codes "header"
part_word Data = codes "data"
part_word Trailer = codes "trailer"

-- the line of a verdict
abbrev pub verdict_line : Ending → List ℕ
verdict_line Pass = codes "pass\n"
verdict_line (Fail command part bit) =
    texts (codes "fail command " ∷ decimal command ∷ codes " " ∷ part_word part ∷ codes " bit " ∷ decimal bit
    ∷ codes "\n" ∷ [])
verdict_line (Lost command) = texts (codes "lost command " ∷ decimal command ∷ codes "\n" ∷ [])
verdict_line (BadAnswer command byte) = texts
    (codes "bad answer " ∷ hex_byte byte ∷ codes " command " ∷ decimal command ∷ codes "\n" ∷ [])

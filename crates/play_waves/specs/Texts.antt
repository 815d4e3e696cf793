-- The waves of a text of SVF, and the exit status of a play that was drawn.
use Rattle.std.specs.Prelude.{◌≡◌, ℕ, Bool, List, Option, Result, Ok, Err}
use Rattle.byte_streams.specs.Counts.{CountedView}
use Rattle.byte_streams.specs.Writes.{WritesAll}
use Rattle.output_words.specs.declared.status.Status.TheVariants as exits
use Rattle.output_words.specs.Statuses.{number}
use Rattle.svf_parse.specs.Judging.{Said}
use Rattle.svf_parse.specs.Spelling.{TextSpells}
use Rattle.svf_settings.specs.Periods.{period_at}
use Rattle.svf_settings.specs.Programs.{IsAccepted, program}
use Rattle.board_model.specs.Chain.{BoardState}
use Rattle.play_model.specs.declared.kind.Kind.{Kind}
use Rattle.wave_files.specs.declared.extras.Extras.{Extras}
use Rattle.play_waves.specs.declared.undrawn.Undrawn.{Undrawn}
use Rattle.play_waves.specs.declared.undrawn.Undrawn.TheVariants as undrawn
use Rattle.play_drawing.specs.Waves.{wave_file}

-- the file of a text's waves: that of the program that its statements make, with their periods
pub record IsWavesOf (noted : Bool) (x : Extras) (text : List ℕ) (kind : Kind) (b : BoardState) (file : List ℕ) : Type 0
  where
    pub said : List Said
    pub spelled : TextSpells text said
    pub accepted : IsAccepted said
    pub is : file ≡ wave_file noted x (period_at said) kind (program said) b

-- A text's waves were written, or a front part of them where a write was lost.
abbrev pub Draws : {W A E : Type 0} → (W → Option (List ℕ)) → (noted : Bool) → Extras → List ℕ → Kind → BoardState
    → (before after : CountedView W) → Result A E → Type 0
Draws contents noted x text kind b before after result =
    (file : List ℕ) × IsWavesOf noted x text kind b file × WritesAll contents before after file result

-- The exit status of a play that ended with this one, and whose waves were then drawn so.
abbrev pub status_behind : {A : Type 0} → ℕ → Result A Undrawn → ℕ
status_behind status (Ok x) = status
status_behind status (Err undrawn.Broken) = number exits.Lost
status_behind status (Err undrawn.NoMemory) = number exits.NoMemory

-- The waves of a text are those of its program.
use Rattle.std.proofs.Common.{ℕ, Bool, List}
use Rattle.svf_programs.specs.Periods.{period_in}
use Rattle.svf_programs.specs.Sizes.{Holding, program_of}
use Rattle.board_model.specs.Chain.{BoardState}
use Rattle.play_model.specs.declared.kind.Kind.{Kind}
use Rattle.play_direct.specs.Accepting.{Accepts, KeepsPeriodsOf}
use Rattle.wave_files.specs.declared.extras.Extras.{Extras}
use Rattle.play_waves.specs.Texts.{IsWavesOf}
use Rattle.play_drawing.specs.Waves.{wave_file}

pub are_waves : (noted : Bool) (x : Extras) (text : List ℕ) (kind : Kind) (b : BoardState) (p : Holding) → Accepts text (program_of p) → KeepsPeriodsOf text p.periods
    → IsWavesOf noted x text kind b (wave_file noted x (period_in p.periods) kind (program_of p) b)
are_waves noted x text kind b p (ss, spells, is) keeps =
    let kept = keeps ss spells in
    record {
      said = ss;
      spelled = spells;
      accepted = is.0;
      is = λ i. wave_file noted x (λ (n : ℕ). kept.at n i) kind (is.1 i) b;
    }

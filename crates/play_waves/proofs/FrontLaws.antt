-- Each wave file begins with its front.
use Rattle.std.proofs.Common.{◌≡◌, ℕ, Bool, List, ◌++◌, length, refl, ◌∙◌, arith}
use Rattle.std.specs.Prelude.{codes}
use Rattle.std.proofs.Math.Seq.{take-append_seam}
use Rattle.std.proofs.lemmas.List.{take-take}
use Rattle.pin_nets.specs.Wired.{Net}
use Rattle.svf_programs.specs.Steps.{Program}
use Rattle.board_model.specs.Chain.{BoardState, ChipState}
use Rattle.play_model.specs.declared.kind.Kind.{Kind}
use Rattle.play_model.specs.Play.{turns}
use Rattle.play_drawing.specs.Drawing.{shown}
use Rattle.play_waves.specs.Fronts.{EachBeginsSo, front}
use Rattle.wave_files.specs.declared.extras.Extras.{Extras}
use Rattle.wave_files.specs.Heading.{all_extra_variables, device_variables, first_values, net_variable, noted_variables}
use Rattle.play_drawing.specs.Pens.{begun}
use Rattle.wave_files.specs.Values.{by_numbers, first_of_devices, first_of_nets, first_of_notes, variables_of_device}
use Rattle.play_drawing.specs.Waves.{noting, stopped_in, wave, wave_file}

-- the variables behind the front
abbrev further : (noted : Bool) → Extras → List ChipState → List Net → List ℕ
further noted x cs nets =
    (noted_variables noted (first_of_notes cs nets) ++ codes "$upscope $end\n")
    ++ (by_numbers device_variables variables_of_device first_of_devices cs
    ++ (by_numbers net_variable 1 (first_of_nets cs) nets
    ++ (all_extra_variables x cs nets ++ codes "$upscope $end\n$enddefinitions $end\n")))

abbrev rest : (noted : Bool) → Extras → (ℕ → ℕ) → Kind → Program → BoardState → List ℕ
rest noted x period_of kind program b =
    (further noted x b.chips b.nets ++ first_values noted x (shown (begun x b)) b.chips b.nets)
    ++ wave (noting noted kind) period_of (stopped_in kind program b) (turns program.steps) (begun x b)

long : length front ≡ 218
long = refl

pub each_begins_so : EachBeginsSo
each_begins_so noted x period_of kind program b n enough =
    take-take (length front) n (wave_file noted x period_of kind program b) (omega (arith, enough, long))
    ∙ take-append_seam front (rest noted x period_of kind program b)

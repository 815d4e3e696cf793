-- The premises are met by the samples, and needed by the two plays.
use Rattle.std.proofs.Common.{◌≡◌, ◌≢◌, true, false, refl, arith}
use Rattle.jt_tap.specs.declared.State.{State}
use Rattle.jt_tap.specs.declared.State.TheVariants.{Reset}
use Rattle.board_model.specs.Bare.{bare}
use Rattle.bitbang.specs.Steps.{Step, Trst}
use Rattle.svf_words.specs.declared.keywords.TrstWord.TheVariants.{Absent}
use Rattle.bitbang.specs.Legal.{IsFormed, leaves_reset, IsLegalAt}
use Rattle.bsdl_device.specs.Sound.{IsSoundDevice}
use Rattle.play_model.specs.LegalSamples.{PremisesAreNeeded, PremisesCanBeMet, rich}

released : (place : State) (step : Step) → IsFormed place step → IsLegalAt place false step
released place step formed = record { formed = formed; stays = λ on here. absurd (cc); not_absent = λ on. absurd (cc) }

asserted : (step : Step) → IsFormed Reset step → leaves_reset step ≡ false → step ≢ Trst Absent → IsLegalAt Reset true step
asserted step formed stays other = record { formed = formed; stays = λ on here. stays; not_absent = λ on. other }

bare-sound : IsSoundDevice bare
bare-sound = record { instruction = omega arith; capture = omega arith; cells = omega arith; idcode = tt; usercode = tt; accesses = tt }

rich-sound : IsSoundDevice rich
rich-sound = record {
  instruction = omega arith;
  capture = omega arith;
  cells = omega arith;
  idcode = omega arith;
  usercode = tt;
  accesses = ((omega arith, tt), tt);
}

pub met : PremisesCanBeMet
met = record {
  program = (
    released Reset _ tt,
    (
      asserted _ (refl, refl) refl (λ e. cc),
      (
        asserted _ ((refl, (refl, tt)), refl) refl (λ e. cc),
        (
          asserted _ refl refl (λ e. cc),
          (
            asserted _ tt refl (λ e. cc),
            (
              released _ _ (omega arith, refl),
              (
                released _ _ (omega arith, refl),
                (
                  released _ _ ((refl, (refl, (refl, (refl, (refl, tt))))), refl),
                  (
                    released _ _ (refl, refl),
                    (
                      released _ _ tt,
                      (
                        released _ _ tt,
                        (released _ _ refl, tt),
                      ),
                    ),
                  ),
                ),
              ),
            ),
          ),
        ),
      ),
    ),
  );
  devices = (record { description = rich-sound; powered_up = refl }, (record { description = bare-sound; powered_up = refl }, tt));
}

pub needed : PremisesAreNeeded
needed = record { no_device_by_edges = refl; no_device_by_registers = refl; empty_by_edges = refl; empty_by_registers = refl; held_by_edges = refl; held_by_registers = refl }

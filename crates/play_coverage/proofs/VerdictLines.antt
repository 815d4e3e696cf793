-- What is told of a program that does not pass on the board itself.
use Rattle.std.proofs.Common.{◌≡◌, Bool, ℕ, List, Option, Result, Ok, Err, refl, subst}
use Rattle.std.specs.Prelude.{IsErr, IsErrAnd}
use Rattle.byte_streams.specs.Counts.{CountedView}
use Rattle.byte_streams.specs.Writes.{WritesAll}
use Rattle.svf_programs.specs.Steps.{Program}
use Rattle.board_plan.specs.Planned.{Wiring}
use Rattle.board_description.specs.declared.whole.Untold.{Untold}
use Rattle.board_description.specs.declared.whole.Untold.TheVariants.{Broken, NoMemory}
use Rattle.board_faults.specs.Made.{board_of}
use Rattle.play_model.specs.declared.ending.Ending.{Ending}
use Rattle.play_model.specs.declared.ending.Ending.TheVariants.{Pass, Fail, Lost, BadAnswer}
use Rattle.play_model.specs.Endings.{status_of, verdict_line}
use Rattle.play_model.specs.Play.{play}
use Rattle.fault_serving.specs.Written.{Tells}
use Rattle.play_coverage.specs.Covering.{Covers, CoversFrom, IsCover}

other : (program : Program) (w : Wiring) (listed : Bool) (e : Ending) → (e ≡ Pass → ⊥) → CoversFrom program w listed e (verdict_line e) (status_of e)
other program w listed Pass not = absurd (not refl)
other program w listed (Fail command part bit) not = record { lines = refl; is_status = refl }
other program w listed (Lost command) not = record { lines = refl; is_status = refl }
other program w listed (BadAnswer command byte) not = record { lines = refl; is_status = refl }

pub verdict_is : (program : Program) (w : Wiring) (listed : Bool) (e : Ending) → (e ≡ Pass → ⊥) → e ≡ (play program (board_of w)).ending
    → IsCover program w listed (verdict_line e) (status_of e)
verdict_is program w listed e not is = subst (λ (d : Ending). CoversFrom program w listed d (verdict_line e) (status_of e)) is (other program w listed e not)

pub verdict_lost : {W A E : Type 0} (contents : W → Option (List ℕ)) (old new : CountedView W) (program : Program) (w : Wiring) (listed : Bool) (e : Ending) (write : Result A E) (result : Result ℕ Untold)
    → (e ≡ Pass → ⊥) → e ≡ (play program (board_of w)).ending → WritesAll contents old new (verdict_line e) write → IsErr write → IsErrAnd result (λ x. x ≡ Broken)
    → Tells contents old new (IsCover program w listed) result
verdict_lost contents old new program w listed e (Err x) (Err Broken) not is one err so =
    (verdict_line e, status_of e, verdict_is program w listed e not is, one.broken.0 refl, one.front)
verdict_lost contents old new program w listed e (Err x) (Err NoMemory) not is one err so = absurd cc
verdict_lost contents old new program w listed e (Err x) (Ok s) not is one err so = absurd so
verdict_lost contents old new program w listed e (Ok x) result not is one err so = absurd cc

pub passed : {W : Type 0} (contents : W → Option (List ℕ)) (old new : CountedView W) (program : Program) (w : Wiring) (listed : Bool) (result : Result ℕ Untold)
    → Pass ≡ (play program (board_of w)).ending → Tells contents old new (Covers program w listed) result → Tells contents old new (IsCover program w listed) result
passed contents old new program w listed (Ok s) is told = (told.0, subst (λ (d : Ending). CoversFrom program w listed d told.0 s) is told.1, told.2, told.3)
passed contents old new program w listed (Err NoMemory) is told = told
passed contents old new program w listed (Err Broken) is told =
    (told.0, told.1, subst (λ (d : Ending). CoversFrom program w listed d told.0 told.1) is told.2, told.3, told.4)

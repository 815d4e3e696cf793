-- What is written of what is made of a board's faults, and what is answered.
use Rattle.std.specs.Prelude.{◌≡◌, ℕ, List, Option, Result, Ok, Err}
use Rattle.std.specs.Io.KnownBytes.{Appends}
use Rattle.byte_streams.specs.Counts.{CountedView}
use Rattle.byte_streams.specs.Writes.{AppendsFront}
use Rattle.board_description.specs.declared.whole.Untold.{Untold}
use Rattle.board_description.specs.declared.whole.Untold.TheVariants.{Broken, NoMemory}

-- All of what is printed so was written, and this is the status; or memory ran out, and nothing was; or the writer's
-- first loss came, and a front part of it was.
abbrev pub Tells : {W : Type 0} → (W → Option (List ℕ)) → CountedView W → CountedView W
    → ((out : List ℕ) (status : ℕ) → Type 0) → Result ℕ Untold → Type 0
Tells contents old new Prints (Ok status) =
    (out : List ℕ) × Prints out status × (new.failures ≡ 0) × Appends (contents old.inner) (contents new.inner) out
Tells contents old new Prints (Err NoMemory) = new ≡ old
Tells contents old new Prints (Err Broken) =
    (out : List ℕ) × (status : ℕ) × Prints out status × (new.failures ≡ 1)
    × AppendsFront (contents old.inner) (contents new.inner) out

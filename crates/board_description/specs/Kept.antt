-- What is kept of a device while its lines are made, and how much of a board was told.
use Rattle.std.specs.Prelude.{◌≡◌, ◌<◌, ℕ, List, [], get_or, length, map, slice_set, Result, Ok, Err, Option}
use Rattle.std.specs.Io.KnownBytes.{Appends}
use Rattle.byte_streams.specs.Counts.{CountedView}
use Rattle.byte_streams.specs.Writes.{AppendsFront}
use Rattle.bsdl_device.specs.declared.Place.{Place}
use Rattle.bsdl_device.specs.declared.Place.TheVariants.{AtUser}
use Rattle.bsdl_device.specs.Device.{Access, Device}
use Rattle.board_description.specs.declared.whole.Untold.{Untold}
use Rattle.board_description.specs.declared.whole.Untold.TheVariants.{Broken, NoMemory}
use Rattle.board_description.specs.Words.{first_user}

-- the names of a device's own instructions
abbrev pub own_names : Device → List (List ℕ)
own_names d = map (λ (a : Access). a.instruction) d.accesses

-- of each of a device's user registers the first of these instructions that selects it
pub record NamesUsers (users : List ℕ) (accesses : List Access) (names : List (List ℕ)) : Type 0 where
  pub long : length names ≡ length users
  pub each : (k : ℕ) → k < length users → get_or names k [] ≡ first_user k accesses

-- so many names, none of which is entered yet
pub record NoNames (count : ℕ) (names : List (List ℕ)) : Type 0 where
  pub long : length names ≡ count
  pub none : (k : ℕ) → get_or names k [] ≡ []

-- names with that of an instruction entered for the user register that it selects, if it selects one of these
abbrev pub with_name : Place → List ℕ → List (List ℕ) → List (List ℕ)
with_name (AtUser k) name names = slice_set names k name
with_name _ name names = names

-- These bytes were written, or memory ran out with no write lost, or the writer's first loss came; there a front part
-- of them was.
abbrev pub Told : {W A : Type 0} → (W → Option (List ℕ)) → CountedView W → CountedView W → List ℕ → Result A Untold
    → Type 0
Told contents old new bytes (Ok x) = (new.failures ≡ 0) × Appends (contents old.inner) (contents new.inner) bytes
Told contents old new bytes (Err NoMemory) =
    (new.failures ≡ 0) × AppendsFront (contents old.inner) (contents new.inner) bytes
Told contents old new bytes (Err Broken) =
    (new.failures ≡ 1) × AppendsFront (contents old.inner) (contents new.inner) bytes

-- What a board file makes within some limits, and lies within others, it makes within those too.
use Rattle.std.proofs.Common.{◌≡◌, ℕ, List, [], ◌∷◌, Option, Some, None, Result, Ok, Err, refl, ap, arith}
use Rattle.std.specs.List.{AllByRecursion}
use Rattle.jt_limits.specs.declared.Limits.{Limits}
use Rattle.jt_limits.specs.Limits.{IsAtMost, earlier_limits, limits}
use Rattle.toml.specs.Data.{Members}
use Rattle.bsdl_device.specs.Device.{Device}
use Rattle.bsdl.specs.Describing.{Refusal}
use Rattle.bsdl.specs.Judging.{text_says_within}
use Rattle.bsdl.proofs.WithinLaws as bsdl
use Rattle.board_tables.specs.Files.{file_names}
use Rattle.board_parts.specs.Files.{File, text_of}
use Rattle.board_file.specs.Within.{WiringWithin, SaysToo}
use Rattle.board_file.proofs.WithinLaws as board
use Rattle.jt_board.specs.FromText.{said_device_within}
use Rattle.jt_board.specs.Within.{EarlierBoardsAreMade, FileWithin, LargerLimitsMakeTheSame, WhatLiesWithinIsTheSame}

abbrev device_in : Result Device Refusal → Option Device
device_in r = elim r [ Ok d ↦ Some d | Err f ↦ None ]

is_said : (r : Result Device Refusal) (d : Device) → device_in r ≡ Some d → r ≡ Ok d
is_said (Ok e) d h = cc
is_said (Err f) d h = absurd cc

larger_says : (a b : Limits) → IsAtMost a b → (o : Option (List ℕ)) → SaysToo (said_device_within a) (said_device_within b) o
larger_says a b h None = tt
larger_says a b h (Some text) = λ d e. ap device_in (bsdl.larger_say_more a b h text d (is_said (text_says_within a text) d e))

all_larger : (a b : Limits) → IsAtMost a b → (files : List File) (names : List (List ℕ)) → AllByRecursion (λ name. SaysToo (said_device_within a) (said_device_within b) (text_of files name)) names
all_larger a b h files [] = tt
all_larger a b h files (n ∷ names) = (larger_says a b h (text_of files n), all_larger a b h files names)

pub larger_make : LargerLimitsMakeTheSame
larger_make a b h files t w e =
    let few = board.made_within a (said_device_within a) files t w e in
    board.lies_within b a (said_device_within a) (said_device_within b) files t w (all_larger a b h files (file_names t)) e
    (record { devices = omega (arith, few.devices, h.devices); nets = omega (arith, few.nets, h.nets) })

fewer_says : (a b : Limits) (o : Option (List ℕ)) → FileWithin a b o → SaysToo (said_device_within b) (said_device_within a) o
fewer_says a b None within = tt
fewer_says a b (Some text) within = λ d e.
    let says = is_said (text_says_within b text) d e in
    let described = bsdl.said_within b text d says in
    ap device_in (bsdl.lies_within a b text d described.0 says described.1 (within described.0 described.1))

all_fewer : (a b : Limits) (files : List File) (names : List (List ℕ)) → AllByRecursion (λ name. FileWithin a b (text_of files name)) names
    → AllByRecursion (λ name. SaysToo (said_device_within b) (said_device_within a) (text_of files name)) names
all_fewer a b files [] within = tt
all_fewer a b files (n ∷ names) within = (fewer_says a b (text_of files n) within.0, all_fewer a b files names within.1)

pub lies_within : WhatLiesWithinIsTheSame
lies_within a b files t w e wiring within =
    board.lies_within a b (said_device_within b) (said_device_within a) files t w (all_fewer a b files (file_names t) within) e wiring

lower : IsAtMost earlier_limits limits
lower = record {
  text_bytes = omega arith;
  statements = omega arith;
  scan_bits = omega arith;
  vector_bits = omega arith;
  cycles = omega arith;
  picoseconds = omega arith;
  description_bytes = omega arith;
  instruction_bits = omega arith;
  instructions = omega arith;
  cells = omega arith;
  port_bits = omega arith;
  user_registers = omega arith;
  user_bits = omega arith;
  devices = omega arith;
  nets = omega arith;
}

pub earlier_made : EarlierBoardsAreMade
earlier_made files t w e = larger_make earlier_limits limits lower files t w e

-- Boards as their users have them: as they are made, and after whatever bytes they took.
use Rattle.std.specs.Prelude.{◌≡◌, ◌<◌, ◌≤◌, ℕ, List, Ok}
use Rattle.jt_limits.specs.Limits.{limits}
use Rattle.toml.specs.Data.{Members}
use Rattle.board_loops.specs.Loops.{HasNoLoop}
use Rattle.board_parts.specs.Files.{File}
use Rattle.board_loops.specs.Depending.{dependencies}
use Rattle.board_tables.specs.Files.{Reads}
use Rattle.board_plan.specs.Planned as planned
use Rattle.board_file.specs.Wiring.{makes}
use Rattle.board_model.specs.Bare.{bare_board}
use Rattle.board_model.specs.Chain.{BoardState, after_bytes}
use Rattle.jt_board.specs.FromText.{said_device}
use Rattle.jt_board.specs.Made.{board_of}

-- A board as it powers up: that of a board file in TOML and of the files handed in with it, whose texts are
-- descriptions, if no string is on a loop; or one of bare devices, one or more and no more than the limit.
pub data IsMade : BoardState → Type 0 where
  described : (board_file : List ℕ) (table : Members) (files : List File) (w : planned.Wiring)
      → Reads board_file table → makes said_device files table ≡ Ok w → HasNoLoop (dependencies w)
      → IsMade (board_of w)
  bare : (n : ℕ) → 0 < n → n ≤ limits.devices → IsMade (bare_board n)

-- A board that was made so, after some bytes, whatever they were: TCK high or low, in mid-scan too.
pub record IsInUse (b : BoardState) : Type 0 where
  pub at_first : BoardState
  pub made : IsMade at_first
  pub taken : List ℕ
  pub now : b ≡ after_bytes taken at_first

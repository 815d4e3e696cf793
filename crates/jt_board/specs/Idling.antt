-- Runs of bytes that only move TCK: a board whose devices all rest hears nothing else in a byte that writes TMS low.
use Rattle.std.specs.Prelude.{◌≡◌, Bool, true, false, ◌&&◌, not, ℕ, List, Option, Some, None, if◌then◌else◌}
use Rattle.std.specs.List.{list_all, prefix_len}
use Rattle.jt_tap.specs.declared.State.{State}
use Rattle.jt_tap.specs.declared.State.TheVariants.{Idle, DrPause, IrPause}
use Rattle.bitbang_protocol.specs.declared.Message.{Message}
use Rattle.bitbang_protocol.specs.declared.Message.TheVariants.{Write}
use Rattle.bitbang_protocol.specs.Protocol.{decode}
use Rattle.board_model.specs.Chain.{BoardState, after_bytes}

-- written levels with TMS low
abbrev pub writes_idle : Option Message → Bool
writes_idle (Some (Write tck tms tdi)) = not tms
writes_idle _ = false

abbrev pub is_idle_byte : ℕ → Bool
is_idle_byte byte = writes_idle (decode byte)

-- IDLE and the two pauses, once TDO is let go: TMS low keeps them, and nothing works in them (clause 6).
abbrev pub rests : State → Option Bool → Bool
rests Idle None = true
rests DrPause None = true
rests IrPause None = true
rests _ _ = false

-- Every device rests so, and TRST is released.
abbrev pub idles : BoardState → Bool
idles b = not b.trst && list_all (λ c. rests c.state c.tdo) b.chips

-- How many of the first of these bytes move TCK alone.
abbrev pub idle_count : List ℕ → BoardState → ℕ
idle_count bytes b = if idles b then prefix_len is_idle_byte bytes else 0

-- the level of TCK after a message
abbrev pub level : Option Message → Bool → Bool
level (Some (Write tck tms tdi)) was = tck
level _ was = was

-- What bytes did so far is that TCK has this level.
abbrev pub Moved : List ℕ → Bool → Bool → Type 0
Moved bytes was tck = (b : BoardState) → idles b ≡ true → b.tck ≡ was → after_bytes bytes b ≡ record b { tck = tck }

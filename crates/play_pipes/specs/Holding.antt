-- What the two pipes of a joined play hold, of either kind, after any events.
use Rattle.std.specs.Prelude.{◌≡◌, true, false, ℕ, ◌+◌, ◌==◌, List, [], ◌∷◌, ◌++◌, count_by, is_some, length, map}
use Rattle.bitbang_protocol.specs.declared.Message.{Message}
use Rattle.bitbang_protocol.specs.declared.Message.TheVariants.{Quit}
use Rattle.bitbang_protocol.specs.Protocol.{ask_byte, encode}
use Rattle.svf_programs.specs.Steps.{Program}
use Rattle.board_model.specs.Chain.{BoardState}
use Rattle.play_model.specs.Events.{Event, World}
use Rattle.play_model.specs.declared.kind.Kind.{Kind}
use Rattle.play_model.specs.Streams as stream
use Rattle.play_model.specs.Streams.{StreamState}
use Rattle.play_pipes.specs.Laws.{joined_after_of}
use Rattle.player.specs.Window.{window}

-- The down pipe holds whole messages of the protocol, a byte each, and the up pipe answers. As many answers are owed as
-- are asked for in the one and stand in the other. `Q` stands last, from when the player gave it out, which is its end,
-- until the board takes it.
pub record HoldsWhatIsOwed (w : World StreamState) : Type 0 where
  pub queued : List Message
  pub down : w.down ≡ map encode queued
  pub owed : stream.owed window w.player ≡ count_by (λ b. b == ask_byte) w.down + length w.up
  pub last : (before behind : List Message) → queued ≡ before ++ Quit ∷ behind → behind ≡ []
  pub stands : is_some (stream.ending_of_stream window w.player) ≡ true → w.quit ≡ false
      → (before : List Message) × (queued ≡ before ++ Quit ∷ [])

abbrev pub WhatIsJoinedHoldsWhatIsOwed : Type 0
WhatIsJoinedHoldsWhatIsOwed = (kind : Kind) (program : Program) (b : BoardState) (down_room up_room : ℕ)
    (es : List Event) → HoldsWhatIsOwed (joined_after_of kind program b down_room up_room es)

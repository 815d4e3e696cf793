-- The messages of a step (Serial Vector Format, revision E; OpenOCD's remote_bitbang).
use Rattle.std.specs.Prelude.{true, false, ℕ, List, [], ◌∷◌, ◌++◌, map}
use Rattle.jt_tap.specs.declared.State.{State}
use Rattle.bitbang_protocol.specs.declared.Message.{Message}
use Rattle.bitbang_protocol.specs.declared.Message.TheVariants.{Lines}
use Rattle.bitbang_protocol.specs.Protocol.{encode}
use Rattle.bitbang_protocol.specs.Cycles.{closed_messages}
use Rattle.tck_cycles.specs.TrstWord.TheVariants as word
use Rattle.tck_cycles.specs.Steps.{Step, Trst}
use Rattle.tck_cycles.specs.Cycles.{cycles}

-- What TRST ON, OFF and Z send before any cycle.
abbrev pub line_message : Step → List Message
line_message (Trst word.On) = Lines true false ∷ []
line_message (Trst word.Absent) = []
line_message (Trst w) = Lines false false ∷ []
line_message _ = []

-- The messages of a step.
abbrev pub step_messages : State → Step → List Message
step_messages place step = line_message step ++ closed_messages (cycles place step)

-- The bytes of a step.
abbrev pub step_bytes : State → Step → List ℕ
step_bytes place step = map encode (step_messages place step)

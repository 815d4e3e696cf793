-- Cycles of TCK, and the messages of a list of them (OpenOCD's remote_bitbang).
use Rattle.std.specs.Prelude.{false, List, [], ◌∷◌, ◌++◌, replicate, flat_map}
use Rattle.jt_tap.specs.declared.State.{State}
use Rattle.jt_tap.specs.declared.State.TheVariants.{Reset}
use Rattle.jt_tap.specs.Controller.{entered_by}
use Rattle.bitbang_protocol.specs.declared.Message.{Message}
use Rattle.bitbang_protocol.specs.declared.Message.TheVariants.{Write, Lines}
use Rattle.bitbang_protocol.specs.declared.Cycle.{Cycle}
use Rattle.bitbang_protocol.specs.Protocol.{cycle_messages}

-- the cycle that enters a state
abbrev pub entering : State → Cycle
entering s = record { tms = entered_by s; tdi = false; read = false }

-- five cycles with TMS 1, which lead every controller to RESET
abbrev pub five_resets : List Cycle
five_resets = replicate 5 (entering Reset)

-- a step that has cycles is closed by a low byte
abbrev pub closed_messages : List Cycle → List Message
closed_messages [] = []
closed_messages (c ∷ cs) = flat_map cycle_messages (c ∷ cs) ++ Write false false false ∷ []

-- TRST released and five cycles with TMS 1
abbrev pub opening : List Message
opening = Lines false false ∷ closed_messages five_resets

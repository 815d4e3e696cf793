-- The board by its bytes, and what a message leaves alike.
use Rattle.std.proofs.Common.{◌≡◌, List, ◌∷◌, [], refl, ◌∙◌}
use Rattle.bitbang_protocol.specs.declared.Message.{Message}
use Rattle.bitbang_protocol.specs.declared.Message.TheVariants.{Write, Ask, Quit, Light, Lines}
use Rattle.bitbang_protocol.specs.Protocol.{encode}
use Rattle.board_model.specs.Chain.{BoardState, after_byte, after_message, hear}
use Rattle.board_model.proofs.BytesAndMessages.{after_all-encoded}

pub by_byte : (m : Message) (b : BoardState) → after_byte (encode m) b ≡ after_message m b
by_byte m b = after_all-encoded (m ∷ []) b

pub same_nets : (m : Message) (b : BoardState) → (after_message m b).nets ≡ b.nets
same_nets (Write tck tms tdi) b = refl
same_nets (Lines trst srst) b = refl
same_nets Ask b = refl
same_nets Quit b = refl
same_nets (Light on) b = refl

pub heard_nets : (ms : List Message) (b : BoardState) → (hear ms b).board.nets ≡ b.nets
heard_nets [] b = refl
heard_nets (m ∷ ms) b = heard_nets ms (after_message m b) ∙ same_nets m b

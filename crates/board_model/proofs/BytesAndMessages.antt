-- Bytes that spell messages do what the messages do.
use Rattle.std.proofs.Common.{◌≡◌, List, [], ◌∷◌, map, refl, ap, ◌∙◌}
use Rattle.std.specs.Prelude.{Option, Some, None}
use Rattle.bitbang_protocol.specs.declared.Message.{Message}
use Rattle.bitbang_protocol.specs.Protocol.{encode}
use Rattle.bitbang_protocol.proofs.Bytes.{decode-encode}
use Rattle.board_model.specs.Chain.{BoardState, after_bytes, hear, after_message}

pub after_all-encoded : (messages : List Message) (b : BoardState) → after_bytes (map encode messages) b ≡ (hear messages b).board
after_all-encoded [] b = refl
after_all-encoded (m ∷ messages) b =
    ap (λ (o : Option Message). after_bytes (map encode messages) (elim o [ Some n ↦ after_message n b | None ↦ b ])) (decode-encode m)
    ∙ after_all-encoded messages (after_message m b)

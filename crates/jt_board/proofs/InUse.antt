-- Boards in use are chains of sound devices, one or more and no more than the limit.
use Rattle.std.proofs.Common.{◌≡◌, ℕ, List, [], ◌∷◌, refl, sym, subst}
use Rattle.std.specs.Prelude.{Option, Some, None}
use Rattle.bitbang_protocol.specs.declared.Message.{Message}
use Rattle.bitbang_protocol.specs.Protocol.{decode}
use Rattle.board_file.proofs.FitLaws.{board_fits, board_said}
use Rattle.board_model.specs.Chain.{BoardState, after_byte, after_bytes}
use Rattle.board_model.specs.Sound.{IsChain}
use Rattle.board_model.proofs.SoundEdges.{IsChain-told}
use Rattle.jt_board.specs.FromText.{said_device}
use Rattle.jt_board.specs.InUse.{IsMade, bare, described}
use Rattle.jt_board.specs.Laws.{EveryBoardInUseIsSound}
use Rattle.jt_board.proofs.Bares.{bare_is, bare_sound, sound_chain}
use Rattle.jt_board.proofs.TextLaws.{sound_wiring}
use Rattle.jt_board.specs.Bares.{bare_wiring}

-- ---- as they are made

made_chain : (b : BoardState) → IsMade b → IsChain b.chips
made_chain _ (described board_file table files w reads made free) =
    sound_chain w (sound_wiring w (board_fits said_device files table w made) (board_said said_device files table w made))
made_chain _ (bare n some most) =
    subst (λ (b : BoardState). IsChain b.chips) (bare_is n) (sound_chain (bare_wiring n) (bare_sound n some most))

-- ---- after bytes

chain-byte : (byte : ℕ) (b : BoardState) → IsChain b.chips → IsChain (after_byte byte b).chips
chain-byte byte b is = by (decode byte) refl
  where
    by : (o : Option Message) → decode byte ≡ o → IsChain (after_byte byte b).chips
    by None e = rw (e, after_byte) is
    by (Some m) e = rw (e, after_byte) (IsChain-told m b is)

chain-bytes : (bytes : List ℕ) (b : BoardState) → IsChain b.chips → IsChain (after_bytes bytes b).chips
chain-bytes [] b is = is
chain-bytes (byte ∷ bytes) b is = chain-bytes bytes (after_byte byte b) (chain-byte byte b is)

pub every_board : EveryBoardInUseIsSound
every_board b met =
    subst (λ (it : BoardState). IsChain it.chips) (sym met.now) (chain-bytes met.taken met.at_first (made_chain met.at_first met.made))

-- Plays over connections, of an accepted text and a board in use.
use Rattle.std.proofs.Common.{◌≡◌, ℕ, List, [], ◌∷◌, refl, ◌∙◌}
use Rattle.board_model.specs.Chain.{BoardState, after_byte, after_bytes, reply}
use Rattle.board_model.specs.declared.Reply.{Reply}
use Rattle.board_model.specs.declared.Reply.TheVariants as said
use Rattle.play_direct.specs.InUse.{IsInUse}
use Rattle.play_direct.proofs.InUse.{every_board}
use Rattle.play_pipes.specs.Serves.{ServedBytes, serve_bytes, serve_one}
use Rattle.play_pipes.proofs.HonestLink.{has_found_all, means_the_program}
use Rattle.jt_player.specs.Connected.{AnHonestEndHasFoundAllOfTheText, AnHonestEndMeansTheText}
use Rattle.jt_player.proofs.HeadlineLaws.{in_use_after, legal}

pub honest_means : AnHonestEndMeansTheText
honest_means text p accepted b met ending honest ends =
    let chain = every_board b met in
    means_the_program p b ending honest ends (legal text p.program accepted) chain.sound chain.some

pub honest_finds : AnHonestEndHasFoundAllOfTheText
honest_finds text p accepted b met ending honest ends =
    let chain = every_board b met in
    has_found_all p b ending honest ends (legal text p.program accepted) chain.sound chain.some

-- the bytes that a board took of those that it was served
abbrev Took : List ℕ → BoardState → BoardState → Type 0
Took bytes b after = (taken : List ℕ) × (after ≡ after_bytes taken b)

took : (bytes : List ℕ) (b : BoardState) → Took bytes b (serve_bytes bytes b).board
took [] b = ([], refl)
took (byte ∷ bytes) b = one (reply byte b) (took bytes (after_byte byte b))
  where
    rest : ServedBytes
    rest = serve_bytes bytes (after_byte byte b)

    one : (a : Reply) → Took bytes (after_byte byte b) rest.board → Took (byte ∷ bytes) b (serve_one a rest (after_byte byte b)).board
    one said.Nothing later = (byte ∷ later.0, later.1)
    one (said.Answer a) later = (byte ∷ later.0, later.1)
    one said.Quit later = (byte ∷ [], refl)
    one (said.Refused x) later = (byte ∷ [], refl)

pub served_in_use : (bytes : List ℕ) (start after : BoardState) → IsInUse start → after ≡ (serve_bytes bytes start).board → IsInUse after
served_in_use bytes start after met is =
    let some = took bytes start in in_use_after start after met some.0 (is ∙ some.1)

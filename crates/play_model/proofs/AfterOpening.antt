-- The state after the opening.
use Rattle.std.proofs.Common.{◌≡◌, false, List, [], ◌∷◌, map, refl, sym, ap, ◌∙◌}
use Rattle.jt_tap.specs.declared.State.{State}
use Rattle.jt_tap.specs.declared.State.TheVariants.{Reset}
use Rattle.bitbang_protocol.specs.declared.Message.TheVariants.{Lines}
use Rattle.board_model.specs.Cells.{Member}
use Rattle.board_model.specs.Chain.{BoardState, members, after_message}
use Rattle.board_model.specs.Resting.{chip_at_rest}
use Rattle.board_model.proofs.FiveOnes.{opening-rests, reset_from_here}
use Rattle.play_model.specs.DirectPlay.{opened_state}

pub standing-members : (p : State) (ms : List Member) → members (map (chip_at_rest p) ms) ≡ ms
standing-members p [] = refl
standing-members p (m ∷ ms) = ap (λ r. m ∷ r) (standing-members p ms)

pub opened-is-reset : (b : BoardState) → reset_from_here (after_message (Lines false false) b) ≡ opened_state b
opened-is-reset b =
    let m = reset_from_here (after_message (Lines false false) b) in
    let same = sym (ap (λ h. members h.board.chips) (opening-rests b) ∙ standing-members Reset m.members) in
    λ i. record { place = Reset; trst = false; nets = b.nets; members = same i }

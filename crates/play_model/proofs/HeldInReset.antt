-- While a step stays in RESET nothing changes, whether or not TRST holds a device there.
use Rattle.std.proofs.Common.{◌≡◌, Bool, true, false, ℕ, zero, suc, List, [], ◌∷◌, replicate, refl, ap, ◌∙◌, map}
use Rattle.std.specs.Prelude.{if◌then◌else◌}
use Rattle.jt_tap.specs.declared.State.TheVariants.{Reset}
use Rattle.board_model.specs.Cells.{Member}
use Rattle.pin_nets.specs.Wired.{Net}
use Rattle.board_model.specs.Chain.{ChipState, BoardState, fall, is_held, hear}
use Rattle.board_model.specs.Whole.{reset_member}
use Rattle.bitbang_protocol.specs.Cycles.{entering, closed_messages}
use Rattle.board_model.specs.Resting.{chip_at_rest, board_at_rest}
use Rattle.board_model.proofs.OneCycle.{tail}
use Rattle.board_model.proofs.Walks.{at_rest}
use Rattle.board_model.proofs.Resets.{up, board, one, one-low, one-high, standing-quiet}

same-either : (held : Bool) (c : ChipState) → (if held then c else c) ≡ c
same-either true c = refl
same-either false c = refl

ups : (trst : Bool) (ms : List Member) → map (up trst) (map (chip_at_rest Reset) ms) ≡ map (chip_at_rest Reset) ms
ups trst [] = refl
ups trst (m ∷ ms) = λ i. same-either (is_held trst m) (chip_at_rest Reset m) i ∷ ups trst ms i

falls : (ms : List Member) → map reset_member ms ≡ ms → map fall (map (chip_at_rest Reset) ms) ≡ map (chip_at_rest Reset) ms
falls ms kept = go ms ∙ ap (map (chip_at_rest Reset)) kept
  where
    go : (ms : List Member) → map fall (map (chip_at_rest Reset) ms) ≡ map (chip_at_rest Reset) (map reset_member ms)
    go [] = refl
    go (m ∷ ms) = ap (λ r. chip_at_rest Reset (reset_member m) ∷ r) (go ms)

abbrev here : Bool → Bool → List Net → List Member → BoardState
here tck trst nets ms = board tck trst nets (map (chip_at_rest Reset) ms)

-- one cycle with TMS 1 from either level of TCK
one-more : (tck trst : Bool) (nets : List Net) (ms : List Member) → map reset_member ms ≡ ms → one (here tck trst nets ms) ≡ here true trst nets ms
one-more false trst nets ms kept =
    one-low trst nets (map (chip_at_rest Reset) ms) (standing-quiet Reset ms refl) ∙ ap (board true trst nets) (ups trst ms)
one-more true trst nets ms kept =
    one-high trst nets (map (chip_at_rest Reset) ms) (standing-quiet Reset ms refl)
    ∙ ap (λ cs. board true trst nets (map (up trst) cs)) (falls ms kept)
    ∙ ap (board true trst nets) (ups trst ms)

stay : (n : ℕ) (tck trst : Bool) (nets : List Net) (ms : List Member) → map reset_member ms ≡ ms
    → hear (tail (replicate n (entering Reset))) (here tck trst nets ms) ≡ record { answers = []; board = here false trst nets ms }
stay zero false trst nets ms kept = refl
stay zero true trst nets ms kept = λ i. record { answers = []; board = board false trst nets (falls ms kept i) }
stay (suc n) tck trst nets ms kept =
    (λ i. hear (tail (replicate n (entering Reset))) (one-more tck trst nets ms kept i)) ∙ stay n true trst nets ms kept

-- From rest in RESET, any number of cycles with TMS 1 leave the board as it is.
pub held-law : (n : ℕ) (trst : Bool) (nets : List Net) (ms : List Member) → map reset_member ms ≡ ms
    → hear (closed_messages (replicate n (entering Reset))) (board_at_rest (at_rest Reset trst nets ms)) ≡ record { answers = []; board = board_at_rest (at_rest Reset trst nets ms) }
held-law zero trst nets ms kept = refl
held-law (suc n) trst nets ms kept = stay (suc n) false trst nets ms kept

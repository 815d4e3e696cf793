-- Five cycles with TMS 1 bring every board to rest in RESET, whatever bytes came before.
use Rattle.std.proofs.Common.{◌≡◌, Bool, true, false, ℕ, suc, List, [], ◌∷◌, refl, ap, ◌∙◌, map}
use Rattle.std.specs.List.{AllByRecursion}
use Rattle.jt_tap.specs.declared.State.{State}
use Rattle.jt_tap.specs.declared.State.TheVariants.{Reset, Idle, DrSelect, DrCapture, DrShift, DrExit1, DrPause, DrExit2, DrUpdate, IrSelect, IrCapture, IrShift, IrExit1, IrPause, IrExit2, IrUpdate}
use Rattle.jt_tap.specs.Controller.{next}
use Rattle.board_model.specs.Cells.{Told}
use Rattle.board_model.specs.Nets.{told}
use Rattle.bitbang_protocol.specs.declared.Message.TheVariants.{Write, Lines}
use Rattle.board_model.specs.Chain.{ChipState, BoardState, fall, rise_all, members, after_levels, after_message, hear}
use Rattle.board_model.specs.Whole.{AtRest, reset_member}
use Rattle.bitbang_protocol.specs.Cycles.{five_resets, closed_messages, opening}
use Rattle.board_model.specs.Resting.{chip_at_rest, board_at_rest}

abbrev pub states : List ChipState → List State
states cs = map (λ c. c.state) cs

abbrev ones : List State → List State
ones ss = map (λ s. next s true) ss

states-fall : (cs : List ChipState) → states (map fall cs) ≡ states cs
states-fall [] = refl
states-fall (c ∷ cs) = ap (λ r. c.state ∷ r) (states-fall cs)

states-rise : (tdi : Bool) (about : ℕ → Told) (k : ℕ) (cs : List ChipState) → states (rise_all false true tdi about k cs) ≡ ones (states cs)
states-rise tdi about k [] = refl
states-rise tdi about k (c ∷ cs) = ap (λ r. next c.state true ∷ r) (states-rise tdi about (suc k) cs)

states-low : (tck : Bool) (b : BoardState) → states (after_levels tck false true false b) ≡ states b.chips
states-low true b = states-fall b.chips
states-low false b = refl

-- one cycle with TMS 1, TRST released
abbrev one : BoardState → BoardState
one b = after_message (Write true true false) (after_message (Write false true false) b)

states-one : (b : BoardState) → b.trst ≡ false → states (one b).chips ≡ ones (states b.chips)
states-one b released =
    ap (λ t. states (rise_all t true false (told b.nets (members (after_levels b.tck false true false b))) 0 (after_levels b.tck false true false b))) released
    ∙ states-rise false _ 0 (after_levels b.tck false true false b)
    ∙ ap ones (states-low b.tck b)

five : (s : State) → next (next (next (next (next s true) true) true) true) true ≡ Reset
five Reset = refl
five Idle = refl
five DrSelect = refl
five DrCapture = refl
five DrShift = refl
five DrExit1 = refl
five DrPause = refl
five DrExit2 = refl
five DrUpdate = refl
five IrSelect = refl
five IrCapture = refl
five IrShift = refl
five IrExit1 = refl
five IrPause = refl
five IrExit2 = refl
five IrUpdate = refl

abbrev pub AllReset : List ChipState → Type 0
AllReset cs = AllByRecursion (λ c. c.state ≡ Reset) cs

five-all : (cs ds : List ChipState) → states ds ≡ ones (ones (ones (ones (ones (states cs))))) → AllReset ds
five-all cs [] e = tt
five-all [] (d ∷ ds) e = absurd (cc)
five-all (c ∷ cs) (d ∷ ds) e = (head e ∙ five c.state, five-all cs ds (rest e))
  where
    first : List State → State
    first [] = Reset
    first (s ∷ ss) = s

    others : List State → List State
    others [] = []
    others (s ∷ ss) = ss

    head : states (d ∷ ds) ≡ ones (ones (ones (ones (ones (states (c ∷ cs)))))) → d.state ≡ next (next (next (next (next c.state true) true) true) true) true
    head e = ap first e

    rest : states (d ∷ ds) ≡ ones (ones (ones (ones (ones (states (c ∷ cs)))))) → states ds ≡ ones (ones (ones (ones (ones (states cs)))))
    rest e = ap others e

-- where every controller stands in RESET, the falling edge leaves a board at rest there
fall-reset : (cs : List ChipState) → AllReset cs → map fall cs ≡ map (chip_at_rest Reset) (map reset_member (members cs))
fall-reset [] all = refl
fall-reset (c ∷ cs) all = λ i. one-chip c all.0 i ∷ fall-reset cs all.1 i
  where
    one-chip : (c : ChipState) → c.state ≡ Reset → fall c ≡ chip_at_rest Reset (reset_member c.member)
    one-chip c e = ap (λ s. fall (record { member = c.member; state = s; tdo = c.tdo })) e

-- the board before the last low byte
abbrev high : BoardState → BoardState
high b = one (one (one (one (one b))))

abbrev pub reset_from_here : BoardState → AtRest
reset_from_here b = record { place = Reset; trst = b.trst; nets = b.nets; members = map reset_member (members (high b).chips) }

five-states : (b : BoardState) → b.trst ≡ false → states (high b).chips ≡ ones (ones (ones (ones (ones (states b.chips)))))
five-states b released =
    states-one (one (one (one (one b)))) released
    ∙ ap ones (states-one (one (one (one b))) released
    ∙ ap ones (states-one (one (one b)) released
    ∙ ap ones (states-one (one b) released
    ∙ ap ones (states-one b released))))

-- Five cycles with TMS 1 and TRST released: from every board to rest in RESET, nothing answered.
pub five-ones : (b : BoardState) → b.trst ≡ false
    → hear (closed_messages five_resets) b ≡ record { answers = []; board = board_at_rest (reset_from_here b) }
five-ones b released =
    λ i. record {
      answers = [];
      board = record { tck = false; trst = b.trst; nets = b.nets; chips = fall-reset (high b).chips (five-all b.chips (high b).chips (five-states b released)) i };
    }

-- The opening brings every board, in mid-scan too, to rest in RESET with TRST released.
pub opening-rests : (b : BoardState) → hear opening b ≡ record { answers = []; board = board_at_rest (reset_from_here (after_message (Lines false false) b)) }
opening-rests b = five-ones (after_message (Lines false false) b) refl

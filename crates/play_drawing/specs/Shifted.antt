-- Cycles that shift, drawn at once: TCK moves, and where it goes low TDI and TDO may. Nothing else changes.
use Rattle.std.specs.Prelude.{◌≡◌, ◌<◌, ℕ, zero, suc, ◌+◌, ◌-◌, ◌/◌, nat_lt, Bool, true, false, not, ◌&&◌, ◌||◌}
use Rattle.std.specs.Prelude.{List, [], ◌∷◌, ◌++◌, length, Some, if◌then◌else◌}
use Rattle.std.specs.List.{list_all}
use Rattle.jt_bits.specs.Packed.{has_bit}
use Rattle.jt_tap.specs.declared.State.{State}
use Rattle.jt_tap.specs.declared.State.TheVariants.{DrShift, IrShift}
use Rattle.jt_tap.specs.Controller.{is_at}
use Rattle.bitbang_protocol.specs.declared.Message.{Message}
use Rattle.bitbang_protocol.specs.declared.Message.TheVariants.{Write}
use Rattle.board_model.specs.Chain.{BoardState, ChipState}
use Rattle.board_model.specs.Sound.{IsSoundBoard}
use Rattle.output_words.specs.Digits.{digit}
use Rattle.jt_board.specs.Shifting.{shifts}
use Rattle.play_drawing.specs.Drawing.{later}
use Rattle.wave_files.specs.Changes.{stamp}
use Rattle.play_drawing.specs.Pens.{Pen}
use Rattle.wave_files.specs.Values.{byte_change, byte_line}

-- every controller stands in this state
abbrev pub all_at : State → List ChipState → Bool
all_at state cs = list_all (λ c. is_at c.state state) cs

-- TCK is high, TRST released, and all controllers stand in one and the same Shift state.
abbrev pub stands_in_shift : BoardState → Bool
stands_in_shift b = b.tck && (not b.trst && (all_at DrShift b.chips || all_at IrShift b.chips))

-- such a board, with what every board keeps
pub record StandsInShift (b : BoardState) : Type 0 where
  pub stands : stands_in_shift b ≡ true
  pub some : 0 < length b.chips
  pub sound : IsSoundBoard b

-- TCK low was drawn last, of a cycle that shifts and has this TDI. No TDO is drawn but that of the board.
pub record IsShifting (tdi : Bool) (p : Pen) : Type 0 where
  pub alone : p.extras.tdos ≡ false
  pub board : shifts p.board ≡ true
  pub lines : p.marks
      ≡ record { tck = Some false; tms = Some false; tdi = Some tdi; time = p.marks.time; rested = 0 }

-- TCK goes high, and low in the next cycle, so many times. Cycle j has bit j of TDI.
abbrev pub edges : (tdi : ℕ → Bool) → (j times : ℕ) → List Message
edges tdi j zero = []
edges tdi j (suc n) = Write true false (tdi j) ∷ Write false false (tdi (j + 1)) ∷ edges tdi (j + 1) n

-- what is written where TCK goes high
abbrev pub high_text : (time : ℕ) → List ℕ
high_text time = stamp time ++ byte_line 0 (digit true)

-- and where it goes low
abbrev pub low_text : (time : ℕ) → (tdi next_tdi tdo next_tdo : Bool) → List ℕ
low_text time tdi next_tdi tdo next_tdo =
    stamp time
    ++ (byte_line 0 (digit false)
    ++ (byte_change 2 (digit tdi) (digit next_tdi) ++ byte_change 3 (digit tdo) (digit next_tdo)))

-- TCK high lasts one half of a period, and TCK low the other.
abbrev pub low_time : (period time : ℕ) → ℕ
low_time period time = later time (period / 2)

abbrev pub next_time : (period time : ℕ) → ℕ
next_time period time = later (low_time period time) (period - period / 2)

-- what is written of these edges, the first of them at a time
abbrev pub edges_text : (period time : ℕ) → (tdi tdo : ℕ → Bool) → (j times : ℕ) → List ℕ
edges_text period time tdi tdo j zero = []
edges_text period time tdi tdo j (suc n) =
    (high_text time ++ low_text (low_time period time) (tdi j) (tdi (j + 1)) (tdo j) (tdo (j + 1)))
    ++ edges_text period (next_time period time) tdi tdo (j + 1) n

-- TDO of cycle j: a bit of a word, and behind the last of them one more
abbrev pub tdo_bit : (word count : ℕ) → (last : Bool) → ℕ → Bool
tdo_bit word count last j = if nat_lt j count then has_bit word j else last

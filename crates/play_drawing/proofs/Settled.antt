-- A cycle of a rest: what is written of it, and the pen behind it.
use Rattle.std.proofs.Common.{◌≡◌, Bool, true, false, ◌&&◌, ℕ, suc, ◌-◌, ◌/◌, min, List, [], ◌++◌, map, is_none, refl, sym, ap, subst, ◌∙◌, Option, Some, None, nat_le}
use Rattle.std.proofs.lemmas.List.{append-nil}
use Rattle.std.specs.Prelude.{if◌then◌else◌}
use Rattle.std.specs.List.{list_all}
use Rattle.pin_nets.specs.Wired.{Net}
use Rattle.bitbang_protocol.specs.declared.Cycle.{Cycle}
use Rattle.bitbang_protocol.specs.declared.Message.{Message}
use Rattle.bitbang_protocol.specs.declared.Message.TheVariants.{Write}
use Rattle.bitbang_protocol.specs.Protocol.{cycle_messages}
use Rattle.board_model.specs.Chain.{ChipState, fall, members}
use Rattle.board_model.specs.Nets.{told}
use Rattle.output_words.specs.Digits.{digit}
use Rattle.play_drawing.specs.Drawing.{after_drawing, after_mark, between, draw, drawn_rests, is_drawn_so, is_resting, lasting, later, mark, shown, taken, tck_drawn}
use Rattle.wave_files.specs.declared.extras.Extras.{Extras}
use Rattle.wave_files.specs.Changes.{board_changes, line_changes, stamp}
use Rattle.wave_files.specs.Extras.{all_extra_changes}
use Rattle.play_drawing.specs.Holding.{stays}
use Rattle.play_drawing.specs.Pens.{Pen}
use Rattle.play_drawing.specs.Settled.{IsSettled, tick, ticked_high, ticked_low, ticks}
use Rattle.wave_files.specs.Values.{byte_change, first_tdo, trst_byte, undriven, unknown, wire}
use Rattle.play_drawing.proofs.Cycles.{cycle-drawn, cycle-pen}
use Rattle.play_drawing.proofs.Held.{and_both, and_made, drawn-same, fallen_all, pen, rest_there, risen_all, stay_fallen}
use Rattle.wave_files.proofs.Pins.{unchanged}
use Rattle.play_drawing.proofs.Unmoved.{no_extra_same, unmoved_same}

abbrev counted : ℕ → ℕ
counted rested = min (suc rested) (suc drawn_rests)

module _ (period : ℕ) (c : Cycle) (x : Extras) (trst : Bool) (nets : List Net) where
  abbrev low : Message
  low = Write false c.tms c.tdi

  abbrev high : Message
  high = Write true c.tms c.tdi

  abbrev pen_at : (k : Option Bool) (t r : ℕ) (tck : Bool) (cs : List ChipState) → Pen
  pen_at k t r tck cs = pen x k (Some c.tms) (Some c.tdi) t r tck trst nets cs

  -- the pen behind a message that is, or is not, one of a rest
  abbrev behind : (r t : ℕ) (u y z tck : Bool) → List ChipState → Pen
  behind r t u y z tck cs =
      let n = if u && (y && z) then counted r else 0 in
      pen x (if nat_le n drawn_rests then Some tck else None) (Some c.tms) (Some c.tdi) t n tck trst nets cs

  -- ---- what is written where only TCK may differ

  all_told : (was is : Option Bool) (t r s : ℕ) (b d : Bool) (cs : List ChipState)
      → stamp t ++ (line_changes (shown (pen_at was t r b cs)) (shown (pen_at is t s d cs)) ++ (board_changes nets cs cs ++ all_extra_changes x nets cs cs))
      ≡ stamp t ++ byte_change 0 (wire unknown was) (wire unknown is)
  all_told was is t r s b d cs =
      let change = byte_change 0 (wire unknown was) (wire unknown is) in
      let tdo = wire undriven (first_tdo cs) in
      (λ i. stamp t
      ++ ((change
      ++ (unchanged 1 (digit c.tms) i ++ (unchanged 2 (digit c.tdi) i ++ (unchanged 3 tdo i ++ unchanged 4 (trst_byte trst) i))))
      ++ (unmoved_same nets cs i ++ no_extra_same x nets cs i)))
      ∙ ap (λ (l : List ℕ). stamp t ++ l) (append-nil (change ++ []) ∙ append-nil change)

  still_text : (was is : Option Bool) (t r s : ℕ) (b d : Bool) (cs : List ChipState)
      → between (pen_at was t r b cs) (pen_at is t s d cs) ≡ tick t was is
  still_text was is t r s b d cs = ap (λ (l : List ℕ). if is_none was && is_none is then [] else l) (all_told was is t r s b d cs)

  module _ (cs : List ChipState) (stay : list_all (stays trst c.tms) cs ≡ true) where
    taken_low : (k : Option Bool) (t r : ℕ) → map fall cs ≡ cs
        → taken low (pen_at k t r true cs) ≡ pen_at (tck_drawn (counted r) false) t (counted r) false cs
    taken_low k t r fell =
        (λ i. behind r t (drawn-same c.tms i) (drawn-same c.tdi i) (rest_there trst c.tms (map fall cs) (stay_fallen trst c.tms cs stay) i) false (map fall cs))
        ∙ ap (λ (l : List ChipState). pen_at (tck_drawn (counted r) false) t (counted r) false l) fell

    taken_high : (k : Option Bool) (t r : ℕ) → taken high (pen_at k t r false cs) ≡ pen_at (tck_drawn (counted r) true) t (counted r) true cs
    taken_high k t r =
        let same = risen_all trst c.tms c.tdi (told nets (members cs)) 0 cs stay in
        (λ i. behind r t (is_drawn_so (Some c.tms) c.tms) (is_drawn_so (Some c.tdi) c.tdi) (is_resting (same i)) true (same i))
        ∙ (λ i. behind r t (drawn-same c.tms i) (drawn-same c.tdi i) (rest_there trst c.tms cs stay i) true cs)

    -- ---- a cycle

    module _ (k : Option Bool) (t r : ℕ) (fell : map fall cs ≡ cs) where
      abbrev p : Pen
      p = pen_at k t r true cs

      abbrev q : Pen
      q = pen_at (tck_drawn (counted r) false) (later t (period - period / 2)) (counted r) false cs

      to_q : after_mark period low p ≡ q
      to_q = ap (lasting (period - period / 2)) (taken_low k t r fell)

      pub rest_text : draw period (cycle_messages c) p ≡ ticks p.marks (ticked_low period p.marks) (ticked_high period p.marks)
      rest_text =
          let is_low = tck_drawn (counted r) false in
          let is_high = tck_drawn (counted (counted r)) true in
          let first : mark low p ≡ tick t k is_low =
          ap (between p) (taken_low k t r fell) ∙ still_text k is_low t r (counted r) true false cs in
          let second : mark high q ≡ tick q.marks.time is_low is_high =
          ap (between q) (taken_high is_low q.marks.time (counted r))
          ∙ still_text is_low is_high q.marks.time (counted r) (counted (counted r)) false true cs in
          cycle-drawn period c p
          ∙ (λ i. first i ++ (mark high (to_q i) ++ []))
          ∙ ap (λ (l : List ℕ). tick t k is_low ++ (l ++ [])) second
          ∙ ap (λ (l : List ℕ). tick t k is_low ++ l) (append-nil (tick q.marks.time is_low is_high))

      pub rest_pen : after_drawing period (cycle_messages c) p ≡ record { marks = ticked_high period p.marks; extras = p.extras; board = p.board }
      rest_pen =
          cycle-pen period c p
          ∙ ap (after_mark period high) to_q
          ∙ ap (lasting (period / 2)) (taken_high (tck_drawn (counted r) false) q.marks.time (counted r))

  -- ---- what a cycle leaves

  module _ (k a b : Option Bool) (t r : ℕ) (cs : List ChipState) (stay : list_all (stays trst c.tms) cs ≡ true) where
    abbrev from : Pen
    from = pen x k a b t r true trst nets cs

    settles_at : IsSettled c (after_drawing period (cycle_messages c) from)
    settles_at =
        let down = map fall cs in
        let stay_down = stay_fallen trst c.tms cs stay in
        let same = risen_all trst c.tms c.tdi (told nets (members down)) 0 down stay_down in
        subst (λ (q : Pen). IsSettled c q) (sym (cycle-pen period c from))
        (record {
          tck = refl;
          stay = ap (list_all (stays trst c.tms)) same ∙ stay_down;
          fell = ap (map fall) same ∙ fallen_all trst c.tms cs stay ∙ sym same;
          tms = refl;
          tdi = refl;
        })

-- ---- a pen that is settled

settled_at : (c : Cycle) (p : Pen) → IsSettled c p
    → p ≡ pen p.extras p.marks.tck (Some c.tms) (Some c.tdi) p.marks.time p.marks.rested true p.board.trst p.board.nets p.board.chips
settled_at c p is = λ i. record {
  marks = record { tck = p.marks.tck; tms = is.tms i; tdi = is.tdi i; time = p.marks.time; rested = p.marks.rested };
  extras = p.extras;
  board = record { tck = is.tck i; trst = p.board.trst; nets = p.board.nets; chips = p.board.chips };
}

module _ (period : ℕ) (c : Cycle) (p : Pen) where
  pub settled_text : IsSettled c p → draw period (cycle_messages c) p ≡ ticks p.marks (ticked_low period p.marks) (ticked_high period p.marks)
  settled_text is =
      subst (λ (q : Pen). draw period (cycle_messages c) q ≡ ticks q.marks (ticked_low period q.marks) (ticked_high period q.marks))
      (sym (settled_at c p is))
      (rest_text period c p.extras p.board.trst p.board.nets p.board.chips is.stay p.marks.tck p.marks.time p.marks.rested is.fell)

  pub settled_pen : IsSettled c p → record { marks = ticked_high period p.marks; extras = p.extras; board = p.board } ≡ after_drawing period (cycle_messages c) p
  settled_pen is =
      subst (λ (q : Pen). record { marks = ticked_high period q.marks; extras = q.extras; board = q.board } ≡ after_drawing period (cycle_messages c) q)
      (sym (settled_at c p is))
      (sym (rest_pen period c p.extras p.board.trst p.board.nets p.board.chips is.stay p.marks.tck p.marks.time p.marks.rested is.fell))

  -- behind a cycle that moved no controller
  pub settles : (p.board.tck && list_all (stays p.board.trst c.tms) p.board.chips) ≡ true → IsSettled c (after_drawing period (cycle_messages c) p)
  settles left =
      let parts = and_both p.board.tck (list_all (stays p.board.trst c.tms) p.board.chips) left in
      subst (λ (tck : Bool). IsSettled c (after_drawing period (cycle_messages c)
      (pen p.extras p.marks.tck p.marks.tms p.marks.tdi p.marks.time p.marks.rested tck p.board.trst p.board.nets p.board.chips)))
      (sym parts.0)
      (settles_at period c p.extras p.board.trst p.board.nets p.marks.tck p.marks.tms p.marks.tdi p.marks.time p.marks.rested p.board.chips parts.1)

  -- and again
  pub still_settled : IsSettled c p → IsSettled c (after_drawing period (cycle_messages c) p)
  still_settled is = settles (and_made p.board.tck (list_all (stays p.board.trst c.tms) p.board.chips) is.tck is.stay)

-- Cycles that shift, one after another and all at once.
use Rattle.std.proofs.Common.{◌≡◌, ◌<◌, ◌≤◌, ℕ, zero, suc, ◌+◌, ◌-◌, ◌*◌, ◌/◌, min, nat_lt, Bool, true, false, ◌&&◌, ◌||◌, not, List, [], ◌∷◌, ◌++◌, drop, map, length, refl, sym, ap, ap₂, subst, ◌∙◌, arith, append_assoc, Option, Some, None, ⊎_elim, ◌⊎◌, inl, inr}
use Rattle.std.proofs.lemmas.List.{append-nil}
use Rattle.std.proofs.lemmas.Bool.Decides.{nat_tests}
use Rattle.std.proofs.Math.Nat.{suc-mul}
use Rattle.std.specs.Prelude.{slice_get, unwrap_or, if◌then◌else◌}
use Rattle.std.specs.List.{AllByRecursion, list_all, range_with_len}
use Rattle.jt_limits.specs.Limits.{limits}
use Rattle.jt_bits.specs.Packed.{has_bit}
use Rattle.jt_bits.specs.Words.{bit_of, word_bits}
use Rattle.jt_tap.specs.declared.Column.{Column}
use Rattle.jt_tap.specs.declared.Column.TheVariants.{Dr, Ir}
use Rattle.jt_tap.specs.declared.State.{State}
use Rattle.jt_tap.specs.declared.State.TheVariants.{DrShift, IrShift}
use Rattle.jt_tap.specs.Controller.{is_at, is_stable, next, work}
use Rattle.chip_registers.specs.Registers.{selected_bits}
use Rattle.scan_registers.specs.Edges.{after_fall, tdo_after}
use Rattle.pin_nets.specs.Wired.{Net}
use Rattle.bitbang_protocol.specs.declared.Message.{Message}
use Rattle.bitbang_protocol.specs.declared.Message.TheVariants.{Write}
use Rattle.bitbang_protocol.specs.Cycles.{closed_messages}
use Rattle.board_model.specs.Cells.{Told, surroundings, untold}
use Rattle.board_model.specs.Chain.{BoardState, ChipState, Heard, fall, hear, members, rise_all, tdi_before}
use Rattle.board_model.specs.Nets.{told}
use Rattle.board_model.specs.Sound.{AllSound, IsSoundBoard}
use Rattle.board_model.specs.Whole.{selected_bits_of}
use Rattle.board_model.proofs.Shift.{shift_state}
use Rattle.board_model.proofs.Sound.{chosen-bit}
use Rattle.board_model.proofs.SoundEdges.{count-told, sound-told}
use Rattle.board_chain.specs.Shifting.{all_shift, is_shift_of, shows}
use Rattle.output_words.specs.Digits.{digit}
use Rattle.jt_board.specs.Shifting.{shift_cycles, shifts}
use Rattle.jt_board.proofs.ShiftRuns.{shift_of}
use Rattle.play_drawing.specs.declared.marks.Marks.{Marks}
use Rattle.play_drawing.specs.Drawing.{after_drawing, after_mark, draw, drawn_rests, is_drawn_so, is_resting, lasting, later, mark, shown, taken, tck_drawn}
use Rattle.wave_files.specs.declared.extras.Extras.{Extras}
use Rattle.wave_files.specs.Changes.{line_changes, stamp}
use Rattle.play_drawing.specs.Pens.{Pen}
use Rattle.play_drawing.specs.Quiet.{keeps_drives}
use Rattle.play_drawing.specs.Shifted.{IsShifting, StandsInShift, all_at, edges, edges_text, high_text, low_text, low_time, next_time, tdo_bit}
use Rattle.wave_files.specs.Values.{byte_change, byte_line, first_tdo, undriven, wire}
use Rattle.play_drawing.proofs.Held.{and_both, and_made, later-later}
use Rattle.wave_files.proofs.Pins.{unchanged}
use Rattle.play_drawing.proofs.Messages.{heard_nets}
use Rattle.play_drawing.proofs.Strokes.{AreAlike, pen}
use Rattle.play_drawing.proofs.Unmoved.{quiet_lines, states_of}

-- ---- devices in a Shift state

abbrev pub AllIn : Column → List ChipState → Type 0
AllIn column cs = AllByRecursion (λ (c : ChipState). c.state ≡ shift_state column) cs

stays : (column : Column) → next (shift_state column) false ≡ shift_state column
stays Dr = refl
stays Ir = refl

keeps_shift : (column : Column) → keeps_drives (work (shift_state column)) ≡ true
keeps_shift Dr = refl
keeps_shift Ir = refl

moves : (column : Column) → is_stable (shift_state column) ≡ false
moves Dr = refl
moves Ir = refl

all_keep : (column : Column) (cs : List ChipState) → AllIn column cs → list_all (λ (c : ChipState). keeps_drives (work c.state)) cs ≡ true
all_keep column [] all = refl
all_keep column (c ∷ cs) all =
    and_made (keeps_drives (work c.state)) (list_all (λ (d : ChipState). keeps_drives (work d.state)) cs)
    (ap (λ (s : State). keeps_drives (work s)) all.0 ∙ keeps_shift column) (all_keep column cs all.1)

no_rest : (column : Column) (cs : List ChipState) → AllIn column cs → 0 < length cs → is_resting cs ≡ false
no_rest column [] all some = absurd (omega (arith, some))
no_rest column (c ∷ cs) all some = ap (λ (b : Bool). b && is_resting cs) (ap is_stable all.0 ∙ moves column)

all_risen : (column : Column) (tdi : Bool) (about : ℕ → Told) (k : ℕ) (cs : List ChipState) → AllIn column cs
    → AllIn column (rise_all false false tdi about k cs)
all_risen column tdi about k [] all = tt
all_risen column tdi about k (c ∷ cs) all =
    (ap (λ (s : State). next s false) all.0 ∙ stays column, all_risen column tdi about (suc k) cs all.1)

all_fallen : (column : Column) (cs : List ChipState) → AllIn column cs → AllIn column (map fall cs)
all_fallen column [] all = tt
all_fallen column (c ∷ cs) all = (all.0, all_fallen column cs all.1)

states_risen : (column : Column) (tdi : Bool) (about : ℕ → Told) (k : ℕ) (cs : List ChipState) → AllIn column cs
    → states_of cs ≡ states_of (rise_all false false tdi about k cs)
states_risen column tdi about k [] all = refl
states_risen column tdi about k (c ∷ cs) all =
    let same : c.state ≡ next c.state false = all.0 ∙ sym (ap (λ (s : State). next s false) all.0 ∙ stays column) in
    λ i. same i ∷ states_risen column tdi about (suc k) cs all.1 i

states_fallen : (cs : List ChipState) → states_of cs ≡ states_of (map fall cs)
states_fallen [] = refl
states_fallen (c ∷ cs) = ap (λ (l : List State). c.state ∷ l) (states_fallen cs)

-- TDO changes on a falling edge alone
tdo_risen : (tdi : Bool) (about : ℕ → Told) (k : ℕ) (cs : List ChipState) → first_tdo (rise_all false false tdi about k cs) ≡ first_tdo cs
tdo_risen tdi about k [] = refl
tdo_risen tdi about k (c ∷ cs) = refl

-- and is driven then
abbrev Driven : List ChipState → Type 0
Driven cs = (tdo : Bool) × (first_tdo cs ≡ Some tdo)

first_bit : (bits : List Bool) → 0 < length bits → (b : Bool) × (slice_get bits 0 ≡ Some b)
first_bit [] some = absurd (omega (arith, some))
first_bit (b ∷ bits) some = (b, refl)

fallen_tdo : (column : Column) (c : ChipState) → c.state ≡ shift_state column → (fall c).tdo ≡ slice_get (selected_bits_of column c.member) 0
fallen_tdo Dr c at =
    ap (λ (s : State). tdo_after (work s) c.member.device (after_fall (work s) c.member.device (surroundings untold c.member) c.member.registers)) at
fallen_tdo Ir c at =
    ap (λ (s : State). tdo_after (work s) c.member.device (after_fall (work s) c.member.device (surroundings untold c.member) c.member.registers)) at

drives : (column : Column) (cs : List ChipState) → AllIn column cs → AllSound (members cs) → 0 < length cs → Driven (map fall cs)
drives column [] all sound some = absurd (omega (arith, some))
drives column (c ∷ cs) all sound some =
    let bit = first_bit (selected_bits_of column c.member) (chosen-bit c.member.device column c.member.registers sound.0.it) in
    (bit.0, fallen_tdo column c all.0 ∙ bit.1)

given : (cs : List ChipState) (tdo : Bool) → first_tdo cs ≡ Some tdo → tdi_before true cs ≡ tdo
given [] tdo e = cc
given (c ∷ cs) tdo e = ap (λ (o : Option Bool). unwrap_or o true) e

-- ---- one cycle

abbrev board : Bool → List Net → List ChipState → BoardState
board tck nets cs = record { tck = tck; trst = false; nets = nets; chips = cs }

abbrev pub pen_at : Extras → (tck tdi : Bool) → (time : ℕ) → List Net → List ChipState → Pen
pen_at x tck tdi time nets cs = record {
  marks = record { tck = Some tck; tms = Some false; tdi = Some tdi; time = time; rested = 0 };
  extras = x;
  board = board tck nets cs;
}

not_rested : (r : ℕ) (a b c : Bool) → c ≡ false → (if a && (b && c) then min (suc r) (suc drawn_rests) else 0) ≡ 0
not_rested r true true c e = ap (λ (x : Bool). if x then min (suc r) (suc drawn_rests) else 0) e
not_rested r true false c e = refl
not_rested r false b c e = refl

module _ (x : Extras) (alone : x.tdos ≡ false) (nets : List Net) where
  abbrev pub risen : Bool → List ChipState → List ChipState
  risen tdi cs = rise_all false false tdi (told nets (members cs)) 0 cs

  -- the pen behind a message, which is none of a rest
  abbrev behind : (tck tdi : Bool) → (time rested : ℕ) → List ChipState → Pen
  behind tck tdi time rested cs = record {
    marks = record { tck = tck_drawn rested tck; tms = Some false; tdi = Some tdi; time = time; rested = rested };
    extras = x;
    board = board tck nets cs;
  }

  count_risen : (tdi : Bool) (cs : List ChipState) → length (risen tdi cs) ≡ length cs
  count_risen tdi cs = count-told (Write true false tdi) (board false nets cs)

  count_fallen : (cs : List ChipState) → length (map fall cs) ≡ length cs
  count_fallen cs = count-told (Write false false false) (board true nets cs)

  sound_risen : (tdi : Bool) (cs : List ChipState) → AllSound (members cs) → AllSound (members (risen tdi cs))
  sound_risen tdi cs sound = sound-told (Write true false tdi) (board false nets cs) sound

  sound_fallen : (cs : List ChipState) → AllSound (members cs) → AllSound (members (map fall cs))
  sound_fallen cs sound = sound-told (Write false false false) (board true nets cs) sound

  module _ (column : Column) where
    taken_high : (tdi : Bool) (time : ℕ) (cs : List ChipState) → AllIn column cs → 0 < length cs
        → taken (Write true false tdi) (pen_at x false tdi time nets cs) ≡ pen_at x true tdi time nets (risen tdi cs)
    taken_high tdi time cs all some =
        let none : is_resting (risen tdi cs) ≡ false =
        no_rest column (risen tdi cs) (all_risen column tdi (told nets (members cs)) 0 cs all) (omega (arith, some, count_risen tdi cs)) in
        ap (λ (n : ℕ). behind true tdi time n (risen tdi cs))
        (not_rested 0 (is_drawn_so (Some false) false) (is_drawn_so (Some tdi) tdi) (is_resting (risen tdi cs)) none)

    taken_low : (tdi next_tdi : Bool) (time : ℕ) (cs : List ChipState) → AllIn column cs → 0 < length cs
        → taken (Write false false next_tdi) (pen_at x true tdi time nets cs) ≡ pen_at x false next_tdi time nets (map fall cs)
    taken_low tdi next_tdi time cs all some =
        let none : is_resting (map fall cs) ≡ false =
        no_rest column (map fall cs) (all_fallen column cs all) (omega (arith, some, count_fallen cs)) in
        ap (λ (n : ℕ). behind false next_tdi time n (map fall cs))
        (not_rested 0 (is_drawn_so (Some false) false) (is_drawn_so (Some tdi) next_tdi) (is_resting (map fall cs)) none)

    -- what is written
    told_high : (tdi : Bool) (time : ℕ) (cs : List ChipState) → AllIn column cs → 0 < length cs
        → mark (Write true false tdi) (pen_at x false tdi time nets cs) ≡ high_text time
    told_high tdi time cs all some =
        let p = pen_at x false tdi time nets cs in
        let m : Message = Write true false tdi in
        let tdo : first_tdo (risen tdi cs) ≡ first_tdo cs = tdo_risen tdi (told nets (members cs)) 0 cs in
        let was = wire undriven (first_tdo cs) in
        quiet_lines m p alone refl refl (states_risen column tdi (told nets (members cs)) 0 cs all) refl
        ∙ ap (λ (q : Pen). stamp time ++ line_changes (shown p) (shown q)) (taken_high tdi time cs all some)
        ∙ ap (λ (o : Option Bool). stamp time ++ (byte_line 0 (digit true) ++ (byte_change 2 (digit tdi) (digit tdi) ++ (byte_change 3 was (wire undriven o) ++ [])))) tdo
        ∙ ap₂ (λ (a b : List ℕ). stamp time ++ (byte_line 0 (digit true) ++ (a ++ (b ++ [])))) (unchanged 2 (digit tdi)) (unchanged 3 was)

    told_low : (tdi next_tdi tdo next_tdo : Bool) (time : ℕ) (cs : List ChipState) → AllIn column cs → 0 < length cs
        → first_tdo cs ≡ Some tdo → first_tdo (map fall cs) ≡ Some next_tdo
        → mark (Write false false next_tdi) (pen_at x true tdi time nets cs) ≡ low_text time tdi next_tdi tdo next_tdo
    told_low tdi next_tdi tdo next_tdo time cs all some shows shows_next =
        let p = pen_at x true tdi time nets cs in
        let m : Message = Write false false next_tdi in
        quiet_lines m p alone refl refl (states_fallen cs) (all_keep column cs all)
        ∙ ap (λ (q : Pen). stamp time ++ line_changes (shown p) (shown q)) (taken_low tdi next_tdi time cs all some)
        ∙ (λ i. stamp time ++ (byte_line 0 (digit false) ++ (byte_change 2 (digit tdi) (digit next_tdi)
        ++ (byte_change 3 (wire undriven (shows i)) (wire undriven (shows_next i)) ++ []))))
        ∙ ap (λ (l : List ℕ). stamp time ++ (byte_line 0 (digit false) ++ (byte_change 2 (digit tdi) (digit next_tdi) ++ l)))
        (append-nil (byte_change 3 (digit tdo) (digit next_tdo)))

    module _ (period : ℕ) where
      goes_high : (tdi : Bool) (time : ℕ) (cs : List ChipState) → AllIn column cs → 0 < length cs
          → after_mark period (Write true false tdi) (pen_at x false tdi time nets cs) ≡ pen_at x true tdi (low_time period time) nets (risen tdi cs)
      goes_high tdi time cs all some = ap (lasting (period / 2)) (taken_high tdi time cs all some)

      goes_low : (tdi next_tdi : Bool) (time : ℕ) (cs : List ChipState) → AllIn column cs → 0 < length cs
          → after_mark period (Write false false next_tdi) (pen_at x true tdi time nets cs)
          ≡ pen_at x false next_tdi (later time (period - period / 2)) nets (map fall cs)
      goes_low tdi next_tdi time cs all some = ap (lasting (period - period / 2)) (taken_low tdi next_tdi time cs all some)

      -- ---- many cycles

      abbrev pub time_behind : (time times : ℕ) → ℕ
      time_behind time zero = time
      time_behind time (suc n) = time_behind (next_time period time) n

      -- the board takes the first of them, and then the others
      heard-first : (t : Bool) (us : List Bool) (cs : List ChipState)
          → let others = hear (closed_messages (shift_cycles us)) (board false nets (map fall (risen t cs))) in
          hear (closed_messages (shift_cycles (t ∷ us))) (board false nets cs) ≡ record { answers = tdi_before true cs ∷ others.answers; board = others.board }
      heard-first t [] cs = refl
      heard-first t (u ∷ us) cs = refl

      module _ (tdi shown_tdo tdo : ℕ → Bool) where
        abbrev shifted_bits : (j n : ℕ) → List Bool
        shifted_bits j n = map tdi (range_with_len j n)

        pub record Drawn (n j time : ℕ) (cs : List ChipState) (end : BoardState) : Type 0 where
          pub first : first_tdo cs ≡ Some (tdo j)
          pub text : draw period (edges tdi j n) (pen_at x false (tdi j) time nets cs) ≡ edges_text period time tdi tdo j n
          pub pen : after_drawing period (edges tdi j n) (pen_at x false (tdi j) time nets cs)
              ≡ record {
                marks = record { tck = Some false; tms = Some false; tdi = Some (tdi (j + n)); time = time_behind time n; rested = 0 };
                extras = x;
                board = end;
              }

        abbrev pen_behind : (j n time : ℕ) → BoardState → Pen
        pen_behind j n time end = record {
          marks = record { tck = Some false; tms = Some false; tdi = Some (tdi (j + n)); time = time_behind time n; rested = 0 };
          extras = x;
          board = end;
        }

        pub drawn : (n j time : ℕ) (cs : List ChipState) (end : BoardState) → AllIn column cs → AllSound (members cs) → 0 < length cs → Driven cs
            → hear (closed_messages (shift_cycles (shifted_bits j n))) (board false nets cs)
            ≡ record { answers = map shown_tdo (range_with_len j n); board = end }
            → ((k : ℕ) → j ≤ k → k < j + n → tdo k ≡ shown_tdo k) → tdo (j + n) ≡ tdi_before true end.chips
            → Drawn n j time cs end
        drawn zero j time cs end all sound some driven heard same last =
            let none : j + 0 ≡ j = omega arith in
            let stays : board false nets cs ≡ end = ap (λ (h : Heard). h.board) heard in
            let is : tdo j ≡ driven.0 =
            ap tdo (sym none) ∙ last ∙ ap (λ (b : BoardState). tdi_before true b.chips) (sym stays) ∙ given cs driven.0 driven.1 in
            record {
              first = driven.1 ∙ ap (λ (b : Bool). Some b) (sym is);
              text = refl;
              pen = (λ i. record {
                marks = record { tck = Some false; tms = Some false; tdi = Some (tdi (sym none i)); time = time; rested = 0 };
                extras = x;
                board = stays i;
              });
            }
        drawn (suc n) j time cs end all sound some driven heard same last =
            let about = told nets (members cs) in
            let t = tdi j in
            let up = risen t cs in
            let down = map fall up in
            let all_up = all_risen column t about 0 cs all in
            let some_up : 0 < length up = omega (arith, some, count_risen t cs) in
            let some_down : 0 < length down = omega (arith, some_up, count_fallen up) in
            let sound_up = sound_risen t cs sound in
            let parts = sym (heard-first t (shifted_bits (j + 1) n) cs) ∙ heard in
            let answer : tdi_before true cs ≡ shown_tdo j = ap (λ (h : Heard). unwrap_or (slice_get h.answers 0) false) parts in
            let far : j + 1 + n ≡ j + suc n = omega arith in
            let here : j < j + suc n = omega arith in
            let rest = drawn n (j + 1) (next_time period time) down end (all_fallen column up all_up) (sound_fallen up sound_up) some_down
            (drives column up all_up sound_up some_up)
            (λ i. record { answers = drop 1 (parts i).answers; board = (parts i).board })
            (λ k least most. same k (omega (arith, least)) (omega (arith, most))) (ap tdo far ∙ last) in
            let first : first_tdo cs ≡ Some (tdo j) =
            driven.1 ∙ ap (λ (b : Bool). Some b) (sym (given cs driven.0 driven.1) ∙ answer ∙ sym (same j (omega arith) here)) in
            let first_up : first_tdo up ≡ Some (tdo j) = tdo_risen t about 0 cs ∙ first in
            let p = pen_at x false t time nets cs in
            let q = pen_at x true t (low_time period time) nets up in
            let r = pen_at x false (tdi (j + 1)) (next_time period time) nets down in
            let high : Message = Write true false t in
            let low : Message = Write false false (tdi (j + 1)) in
            let ms = edges tdi (j + 1) n in
            let to_q : after_mark period high p ≡ q = goes_high t time cs all some in
            let to_r : after_mark period low q ≡ r = goes_low t (tdi (j + 1)) (low_time period time) up all_up some_up in
            record {
              first = first;
              text = (λ i. told_high t time cs all some i ++ (mark low (to_q i) ++ draw period ms (after_mark period low (to_q i))))
                  ∙ (λ i. high_text time ++ (told_low t (tdi (j + 1)) (tdo j) (tdo (j + 1)) (low_time period time) up all_up some_up first_up rest.first i
                  ++ draw period ms (to_r i)))
                  ∙ sym (append_assoc (high_text time) (low_text (low_time period time) t (tdi (j + 1)) (tdo j) (tdo (j + 1))) (draw period ms r))
                  ∙ ap (λ (l : List ℕ). (high_text time ++ low_text (low_time period time) t (tdi (j + 1)) (tdo j) (tdo (j + 1))) ++ l) rest.text;
              pen = (λ i. after_drawing period ms (after_mark period low (to_q i)))
                  ∙ (λ i. after_drawing period ms (to_r i))
                  ∙ rest.pen
                  ∙ ap (λ (k : ℕ). record {
                    marks = record { tck = Some false; tms = Some false; tdi = Some (tdi k); time = time_behind (next_time period time) n; rested = 0 };
                    extras = x;
                    board = end;
                  }) far;
            }

      -- the time behind some cycles
      pub time_of : (time n : ℕ) → time_behind time (suc n) ≡ later time (suc n * period)
      time_of time zero =
          let one : period / 2 + (period - period / 2) ≡ 1 * period = omega arith in
          later-later time (period / 2) (period - period / 2) ∙ ap (later time) one
      time_of time (suc n) =
          let whole : period / 2 + (period - period / 2) + suc n * period ≡ suc (suc n) * period = omega (arith, suc-mul (suc n) period) in
          time_of (next_time period time) n
          ∙ ap (λ (t : ℕ). later t (suc n * period)) (later-later time (period / 2) (period - period / 2))
          ∙ later-later time (period / 2 + (period - period / 2)) (suc n * period)
          ∙ ap (later time) whole

-- ---- a board that shifts

shift_in : (column : Column) (s : State) → is_shift_of column s ≡ true → s ≡ shift_state column
shift_in Dr DrShift h = refl
shift_in Ir IrShift h = refl
shift_in Dr _ h = cc
shift_in Ir _ h = cc

is_driven : (b : Bool) (o : Option Bool) → shows b o ≡ true → (tdo : Bool) × (o ≡ Some tdo)
is_driven b (Some tdo) h = (tdo, refl)
is_driven true None h = absurd cc
is_driven false None h = absurd cc

all_in : (column : Column) (cs : List ChipState) → all_shift column cs ≡ true → AllIn column cs
all_in column [] h = tt
all_in column (c ∷ cs) h =
    let parts = and_both (is_shift_of column c.state && shows (bit_of (selected_bits_of column c.member) 0) c.tdo) (all_shift column cs) h in
    let own = and_both (is_shift_of column c.state) (shows (bit_of (selected_bits_of column c.member) 0) c.tdo) parts.0 in
    (shift_in column c.state own.0, all_in column cs parts.1)

all_driven : (column : Column) (cs : List ChipState) → all_shift column cs ≡ true → 0 < length cs → Driven cs
all_driven column [] h some = absurd (omega (arith, some))
all_driven column (c ∷ cs) h some =
    let parts = and_both (is_shift_of column c.state && shows (bit_of (selected_bits_of column c.member) 0) c.tdo) (all_shift column cs) h in
    let own = and_both (is_shift_of column c.state) (shows (bit_of (selected_bits_of column c.member) 0) c.tdo) parts.0 in
    is_driven (bit_of (selected_bits_of column c.member) 0) c.tdo own.1

either : (x y : Bool) → (x || y) ≡ true → (x ≡ true) ⊎ (y ≡ true)
either true y h = inl refl
either false y h = inr h

-- what was drawn where a word was shifted
pub record DrawnWord (period tdi count out : ℕ) (last : Bool) (p : Pen) (end : BoardState) : Type 0 where
  pub text : draw period (edges (has_bit tdi) 0 count) p ≡ edges_text period p.marks.time (has_bit tdi) (tdo_bit out count last) 0 count
  pub pen : after_drawing period (edges (has_bit tdi) 0 count) p
      ≡ record {
        marks = record { tck = Some false; tms = Some false; tdi = Some (has_bit tdi count); time = later p.marks.time (count * period); rested = 0 };
        extras = p.extras;
        board = end;
      }

within_word : (out count : ℕ) (last : Bool) (k : ℕ) → k < count → tdo_bit out count last k ≡ has_bit out k
within_word out count last k less =
    let yes : nat_lt k count ≡ true = grind (arith, nat_tests, less) in
    ap (λ (b : Bool). if b then has_bit out k else last) yes

behind_word : (out count : ℕ) (last : Bool) → tdo_bit out count last count ≡ last
behind_word out count last =
    let no : nat_lt count count ≡ false = grind (arith, nat_tests) in
    ap (λ (b : Bool). if b then has_bit out count else last) no

time_so : (x : Extras) (alone : x.tdos ≡ false) (period time count : ℕ) (nets : List Net) (column : Column) → 0 < count
    → time_behind x alone nets column period time count ≡ later time (count * period)
time_so x alone period time zero nets column some = absurd (omega (arith, some))
time_so x alone period time (suc n) nets column some = time_of x alone nets column period time n

pub drawn_word : (period tdi count out : ℕ) (last : Bool) (p : Pen) (end : BoardState) → IsShifting (has_bit tdi 0) p → IsSoundBoard p.board
    → 0 < length p.board.chips → 0 < count
    → hear (closed_messages (shift_cycles (word_bits tdi count))) p.board ≡ record { answers = word_bits out count; board = end }
    → last ≡ tdi_before true end.chips → DrawnWord period tdi count out last p end
unfolding word_bits
drawn_word period tdi count out last p end shifting sound there some heard is =
    let shift = shift_of p.board shifting.board in
    let nets = p.board.nets in
    let cs = p.board.chips in
    let at : p ≡ pen_at p.extras false (has_bit tdi 0) p.marks.time nets cs =
    (λ i. record { marks = shifting.lines i; extras = p.extras; board = record { tck = shift.tck i; trst = shift.trst i; nets = nets; chips = cs } }) in
    let here : p.board ≡ board false nets cs = (λ i. record { tck = shift.tck i; trst = shift.trst i; nets = nets; chips = cs }) in
    let so = ap (hear (closed_messages (shift_cycles (map (has_bit tdi) (range_with_len 0 count))))) (sym here) ∙ heard in
    ⊎_elim (λ dr. by Dr at so dr) (λ ir. by Ir at so ir) (either (all_shift Dr cs) (all_shift Ir cs) shift.one)
  where
    by : (column : Column) → p ≡ pen_at p.extras false (has_bit tdi 0) p.marks.time p.board.nets p.board.chips
        → hear (closed_messages (shift_cycles (map (has_bit tdi) (range_with_len 0 count)))) (board false p.board.nets p.board.chips)
        ≡ record { answers = map (has_bit out) (range_with_len 0 count); board = end }
        → all_shift column p.board.chips ≡ true → DrawnWord period tdi count out last p end
    by column at so h =
        let nets = p.board.nets in
        let cs = p.board.chips in
        let all : 0 + count ≡ count = omega arith in
        let it = drawn p.extras shifting.alone nets column period (has_bit tdi) (has_bit out) (tdo_bit out count last) count 0 p.marks.time cs end
        (all_in column cs h) sound there (all_driven column cs h there) so
        (λ k least most. within_word out count last k (omega (arith, most))) (ap (tdo_bit out count last) all ∙ behind_word out count last ∙ is) in
        record {
          text = ap (draw period (edges (has_bit tdi) 0 count)) at ∙ it.text;
          pen = ap (after_drawing period (edges (has_bit tdi) 0 count)) at ∙ it.pen
              ∙ (λ i. record {
                marks = record {
                  tck = Some false;
                  tms = Some false;
                  tdi = Some (has_bit tdi (all i));
                  time = time_so p.extras shifting.alone period p.marks.time count nets column some i;
                  rested = 0;
                };
                extras = p.extras;
                board = end;
              });
        }

-- what is left to write of edges, one cycle after another
pub one_left : (period time : ℕ) (tdi tdo : ℕ → Bool) (j count : ℕ) → j < count
    → edges_text period time tdi tdo j (count - j)
    ≡ (high_text time ++ low_text (low_time period time) (tdi j) (tdi (j + 1)) (tdo j) (tdo (j + 1)))
    ++ edges_text period (next_time period time) tdi tdo (j + 1) (count - (j + 1))
one_left period time tdi tdo j count less =
    let next : count - j ≡ suc (count - (j + 1)) = omega (arith, less) in
    ap (edges_text period time tdi tdo j) next

pub none_left : (period time : ℕ) (tdi tdo : ℕ → Bool) (j count : ℕ) → count ≤ j → edges_text period time tdi tdo j (count - j) ≡ []
none_left period time tdi tdo j count over =
    let none : count - j ≡ 0 = omega (arith, over) in
    ap (edges_text period time tdi tdo j) none

-- the lines behind a word
pub shifted_lines : (m : Marks) (p : Pen) (tdi next_tdi : Bool) (time : ℕ) (end : BoardState) → m ≡ p.marks → IsShifting tdi p
    → pen p.extras (record m { tdi = Some next_tdi; time = time }) end
    ≡ pen p.extras (record { tck = Some false; tms = Some false; tdi = Some next_tdi; time = time; rested = 0 }) end
shifted_lines m p tdi next_tdi time end same shifting =
    ap (λ (k : Marks). pen p.extras (record k { tdi = Some next_tdi; time = time }) end) (same ∙ shifting.lines)

pub no_edges : (tdi : ℕ → Bool) (count : ℕ) → count ≡ 0 → edges tdi 0 count ≡ []
no_edges tdi count none = ap (edges tdi 0) none

-- two boards that heard the same are alike still
pub word_alike : (ms : List Message) (a b c d : BoardState) → AreAlike a b → (hear ms a).board ≡ c → (hear ms b).board ≡ d → length c.chips ≤ limits.devices
    → AreAlike c d
word_alike ms a b c d is to_c to_d few = (
  sym to_c ∙ ap (λ (x : BoardState). (hear ms x).board) is.0 ∙ to_d,
  few,
  omega (arith, is.2, ap (λ (ns : List Net). length ns) (sym (ap (λ (x : BoardState). x.nets) to_c) ∙ heard_nets ms a)),
)

-- ---- a board that stands in Shift

at_shift_dr : (s : State) → is_at s DrShift ≡ true → s ≡ DrShift
at_shift_dr DrShift h = refl
at_shift_dr _ h = cc

at_shift_ir : (s : State) → is_at s IrShift ≡ true → s ≡ IrShift
at_shift_ir IrShift h = refl
at_shift_ir _ h = cc

at_shift : (column : Column) (s : State) → is_at s (shift_state column) ≡ true → s ≡ shift_state column
at_shift Dr s h = at_shift_dr s h
at_shift Ir s h = at_shift_ir s h

all_there : (column : Column) (cs : List ChipState) → all_at (shift_state column) cs ≡ true → AllIn column cs
all_there column [] h = tt
all_there column (c ∷ cs) h =
    let parts = and_both (is_at c.state (shift_state column)) (all_at (shift_state column) cs) h in
    (at_shift column c.state parts.0, all_there column cs parts.1)

is_of : (column : Column) → is_shift_of column (shift_state column) ≡ true
is_of Dr = refl
is_of Ir = refl

shows_first : (bits : List Bool) → 0 < length bits → shows (bit_of bits 0) (slice_get bits 0) ≡ true
shows_first [] some = absurd (omega (arith, some))
shows_first (true ∷ bits) some = refl
shows_first (false ∷ bits) some = refl

same_bits : (column : Column) (c : ChipState) → c.state ≡ shift_state column → selected_bits_of column (fall c).member ≡ selected_bits_of column c.member
same_bits Dr c at =
    ap (λ (s : State). selected_bits c.member.device Dr (after_fall (work s) c.member.device (surroundings untold c.member) c.member.registers)) at
same_bits Ir c at =
    ap (λ (s : State). selected_bits c.member.device Ir (after_fall (work s) c.member.device (surroundings untold c.member) c.member.registers)) at

fallen_shifts : (column : Column) (cs : List ChipState) → AllIn column cs → AllSound (members cs) → all_shift column (map fall cs) ≡ true
fallen_shifts column [] all sound = refl
fallen_shifts column (c ∷ cs) all sound =
    let bits = selected_bits_of column c.member in
    let state = ap (is_shift_of column) all.0 ∙ is_of column in
    let tdo = (λ i. shows (bit_of (same_bits column c all.0 i) 0) (fallen_tdo column c all.0 i))
    ∙ shows_first bits (chosen-bit c.member.device column c.member.registers sound.0.it) in
    and_made (is_shift_of column c.state && shows (bit_of (selected_bits_of column (fall c).member) 0) (fall c).tdo) (all_shift column (map fall cs))
    (and_made (is_shift_of column c.state) (shows (bit_of (selected_bits_of column (fall c).member) 0) (fall c).tdo) state tdo)
    (fallen_shifts column cs all.1 sound.1)

one_shifts : (column : Column) (x y : Bool) → (if_dr : column ≡ Dr → x ≡ true) → (if_ir : column ≡ Ir → y ≡ true) → (x || y) ≡ true
one_shifts Dr x y dr ir = ap (λ (b : Bool). b || y) (dr refl)
one_shifts Ir true y dr ir = refl
one_shifts Ir false y dr ir = ir refl

shifts_low : (column : Column) (nets : List Net) (cs : List ChipState) → AllIn column cs → AllSound (members cs) → shifts (board false nets (map fall cs)) ≡ true
shifts_low column nets cs all sound =
    one_shifts column (all_shift Dr (map fall cs)) (all_shift Ir (map fall cs))
    (λ e. subst (λ (k : Column). all_shift k (map fall cs) ≡ true) e (fallen_shifts column cs all sound))
    (λ e. subst (λ (k : Column). all_shift k (map fall cs) ≡ true) e (fallen_shifts column cs all sound))

-- TCK low of a cycle that shifts
pub begins_shift : (period : ℕ) (tdi : Bool) (p : Pen) → p.extras.tdos ≡ false → StandsInShift p.board → IsShifting tdi (after_mark period (Write false false tdi) p)
begins_shift period tdi p alone it =
    ⊎_elim (λ dr. by Dr dr) (λ ir. by Ir ir) (either (all_at DrShift p.board.chips) (all_at IrShift p.board.chips) (released p.board.trst states high.1).1)
  where
    states : Bool
    states = all_at DrShift p.board.chips || all_at IrShift p.board.chips

    high : (p.board.tck ≡ true) × ((not p.board.trst && states) ≡ true)
    high = and_both p.board.tck (not p.board.trst && states) it.stands

    released : (trst others : Bool) → (not trst && others) ≡ true → (trst ≡ false) × (others ≡ true)
    released true others h = cc
    released false others h = (refl, h)

    by : (column : Column) → all_at (shift_state column) p.board.chips ≡ true → IsShifting tdi (after_mark period (Write false false tdi) p)
    by column h =
        let cs = p.board.chips in
        let nets = p.board.nets in
        let all = all_there column cs h in
        let m : Message = Write false false tdi in
        let low = map fall cs in
        let none : is_resting low ≡ false = no_rest column low (all_fallen column cs all) (omega (arith, it.some, count_fallen p.extras alone nets cs)) in
        let time = later p.marks.time (period - period / 2) in
        let so : after_mark period m (record { marks = p.marks; extras = p.extras; board = board true nets cs }) ≡ pen_at p.extras false tdi time nets low =
        ap (λ (n : ℕ). behind p.extras alone nets false tdi time n low)
        (not_rested p.marks.rested (is_drawn_so p.marks.tms false) (is_drawn_so p.marks.tdi tdi) (is_resting low) none) in
        let at : p ≡ record { marks = p.marks; extras = p.extras; board = board true nets cs } =
        (λ i. record { marks = p.marks; extras = p.extras; board = record { tck = high.0 i; trst = (released p.board.trst states high.1).0 i; nets = nets; chips = cs } }) in
        subst (λ (q : Pen). IsShifting tdi q) (sym (ap (after_mark period m) at ∙ so))
        (record { alone = alone; board = shifts_low column nets cs all it.sound; lines = refl })

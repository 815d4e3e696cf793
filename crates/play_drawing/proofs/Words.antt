-- The cycles of a word, edge by edge.
use Rattle.std.proofs.Common.{◌≡◌, ◌<◌, ℕ, zero, suc, ◌+◌, ◌-◌, Bool, true, false, List, [], ◌∷◌, ◌++◌, map, sym, ap, ◌∙◌, arith}
use Rattle.std.proofs.lemmas.List.{append-nil}
use Rattle.std.specs.List.{range_with_len}
use Rattle.jt_bits.specs.Packed.{has_bit}
use Rattle.bitbang_protocol.specs.declared.Cycle.{Cycle}
use Rattle.bitbang_protocol.specs.declared.Message.{Message}
use Rattle.bitbang_protocol.specs.declared.Message.TheVariants.{Write}
use Rattle.bitbang_protocol.specs.Protocol.{cycle_messages}
use Rattle.tck_cycles.specs.declared.shifts.Shifts.{Shifts}
use Rattle.tck_cycles.specs.Shifts.{shift_cycle, shift_cycles}
use Rattle.play_drawing.specs.Drawing.{after_drawing, after_mark, draw, mark}
use Rattle.play_drawing.specs.Pens.{Pen}
use Rattle.play_drawing.specs.Shifted.{edges}
use Rattle.play_drawing.proofs.Cycles.{both, cycle-drawn, cycle-pen, pen-both}
use Rattle.play_drawing.proofs.Runs.{messages_of}

module _ (period : ℕ) (s : Shifts) where
  abbrev tdi : ℕ → Bool
  tdi = has_bit s.tdi

  abbrev cycles : (j n : ℕ) → List Cycle
  cycles j n = map (shift_cycle s) (range_with_len j n)

  -- TCK low of the first, the edges between them, and TCK high of the last
  abbrev lines : (j n : ℕ) → List Message
  lines j n = Write false false (tdi j) ∷ (edges tdi j n ++ Write true false (tdi (j + n)) ∷ [])

  abbrev one : ℕ → List Message
  one j = Write false false (tdi j) ∷ Write true false (tdi j) ∷ []

  first : (j : ℕ) (p : Pen) → draw period (cycle_messages (shift_cycle s j)) p ≡ draw period (one j) p
  first j p = cycle-drawn period (shift_cycle s j) p

  first-pen : (j : ℕ) (p : Pen) → after_drawing period (cycle_messages (shift_cycle s j)) p ≡ after_drawing period (one j) p
  first-pen j p = cycle-pen period (shift_cycle s j) p

  ends : (j n : ℕ) → one j ++ lines (j + 1) n ≡ lines j (suc n)
  ends j n =
      let far : j + 1 + n ≡ j + suc n = omega arith in
      ap (λ (k : ℕ). one j ++ (Write false false (tdi (j + 1)) ∷ (edges tdi (j + 1) n ++ Write true false (tdi k) ∷ []))) far

  alone : (j : ℕ) → one j ≡ lines j 0
  alone j =
      let here : j ≡ j + 0 = omega arith in
      ap (λ (k : ℕ). Write false false (tdi j) ∷ Write true false (tdi k) ∷ []) here

  drawn : (n j : ℕ) (p : Pen) → draw period (messages_of (cycles j (suc n))) p ≡ draw period (lines j n) p
  drawn zero j p =
      ap (λ (ms : List Message). draw period ms p) (append-nil (cycle_messages (shift_cycle s j)))
      ∙ first j p ∙ ap (λ (ms : List Message). draw period ms p) (alone j)
  drawn (suc n) j p =
      let others = messages_of (cycles (j + 1) (suc n)) in
      both period (cycle_messages (shift_cycle s j)) others p
      ∙ (λ i. first j p i ++ draw period others (first-pen j p i))
      ∙ ap (λ (l : List ℕ). draw period (one j) p ++ l) (drawn n (j + 1) (after_drawing period (one j) p))
      ∙ sym (both period (one j) (lines (j + 1) n) p)
      ∙ ap (λ (ms : List Message). draw period ms p) (ends j n)

  drawn-pen : (n j : ℕ) (p : Pen) → after_drawing period (messages_of (cycles j (suc n))) p ≡ after_drawing period (lines j n) p
  drawn-pen zero j p =
      ap (λ (ms : List Message). after_drawing period ms p) (append-nil (cycle_messages (shift_cycle s j)))
      ∙ first-pen j p ∙ ap (λ (ms : List Message). after_drawing period ms p) (alone j)
  drawn-pen (suc n) j p =
      let others = messages_of (cycles (j + 1) (suc n)) in
      pen-both period (cycle_messages (shift_cycle s j)) others p
      ∙ ap (after_drawing period others) (first-pen j p)
      ∙ drawn-pen n (j + 1) (after_drawing period (one j) p)
      ∙ sym (pen-both period (one j) (lines (j + 1) n) p)
      ∙ ap (λ (ms : List Message). after_drawing period ms p) (ends j n)

  abbrev behind : ℕ
  behind = s.len - 1

  -- the same in three parts
  module _ (p q r : Pen) (some : 0 < s.len) (low high : Message) (is_low : low ≡ Write false false (tdi 0)) (is_high : high ≡ Write true false (tdi behind))
      (at_q : q ≡ after_mark period low p) (at_r : r ≡ after_drawing period (edges tdi 0 behind) q) where
    all : s.len ≡ suc behind
    all = omega (arith, some)

    last : 0 + behind ≡ behind
    last = omega arith

    whole : lines 0 behind ≡ low ∷ (edges tdi 0 behind ++ high ∷ [])
    whole =
        ap (λ (k : ℕ). Write false false (tdi 0) ∷ (edges tdi 0 behind ++ Write true false (tdi k) ∷ [])) last
        ∙ (λ i. sym is_low i ∷ (edges tdi 0 behind ++ sym is_high i ∷ []))

    pub word_drawn : mark low p ++ (draw period (edges tdi 0 behind) q ++ mark high r) ≡ draw period (messages_of (shift_cycles s)) p
    word_drawn =
        (λ i. mark low p ++ (draw period (edges tdi 0 behind) (at_q i) ++ sym (append-nil (mark high r)) i))
        ∙ ap (λ (x : Pen). mark low p ++ (draw period (edges tdi 0 behind) (after_mark period low p) ++ (mark high x ++ [])))
        (at_r ∙ ap (after_drawing period (edges tdi 0 behind)) at_q)
        ∙ ap (λ (l : List ℕ). mark low p ++ l) (sym (both period (edges tdi 0 behind) (high ∷ []) (after_mark period low p)))
        ∙ ap (λ (ms : List Message). draw period ms p) (sym whole)
        ∙ sym (ap (λ (n : ℕ). draw period (messages_of (cycles 0 n)) p) all ∙ drawn behind 0 p)

    pub word_pen : (end : Pen) → end ≡ after_mark period high r → end ≡ after_drawing period (messages_of (shift_cycles s)) p
    word_pen end at =
        at ∙ ap (after_mark period high) (at_r ∙ ap (after_drawing period (edges tdi 0 behind)) at_q)
        ∙ sym (pen-both period (edges tdi 0 behind) (high ∷ []) (after_mark period low p))
        ∙ ap (λ (ms : List Message). after_drawing period ms p) (sym whole)
        ∙ sym (ap (λ (n : ℕ). after_drawing period (messages_of (cycles 0 n)) p) all ∙ drawn-pen behind 0 p)

-- no cycles
pub no_word : (s : Shifts) → s.len ≡ 0 → messages_of (shift_cycles s) ≡ []
no_word s none = ap (λ (n : ℕ). messages_of (map (shift_cycle s) (range_with_len 0 n))) none

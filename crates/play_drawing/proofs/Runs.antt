-- Cycles that are drawn one after another, and what is left of a step.
use Rattle.std.proofs.Common.{◌≡◌, ◌<◌, ℕ, ◌+◌, ◌-◌, ◌*◌, true, List, [], ◌∷◌, ◌++◌, length, refl, sym, ap, ◌∙◌, append_assoc, arith, Result, Ok, Err}
use Rattle.std.specs.Prelude.{flat_map, OnOk}
use Rattle.std.proofs.lemmas.List.{append-nil}
use Rattle.std.proofs.lemmas.Grind.{flat_map-append}
use Rattle.bitbang_protocol.specs.declared.Cycle.{Cycle}
use Rattle.bitbang_protocol.specs.declared.Message.{Message}
use Rattle.bitbang_protocol.specs.Cycles.{closed_messages}
use Rattle.bitbang_protocol.specs.Protocol.{cycle_messages}
use Rattle.play_drawing.specs.Drawing.{after_drawing, closing_messages, draw, lasting}
use Rattle.play_drawing.specs.Holding.{is_held_by}
use Rattle.play_drawing.specs.Pens.{Pen}
use Rattle.play_drawing.proofs.Cycles.{both, cycles_of, in_two, once_more, pen-both}
use Rattle.play_drawing.proofs.Held.{after_held, drawn_held}

-- some messages, and then others from where those left the pen
pub then_drawn : (period : ℕ) (xs ys : List Message) (p q : Pen) → q ≡ after_drawing period xs p
    → draw period xs p ++ draw period ys q ≡ draw period (xs ++ ys) p
then_drawn period xs ys p q at = ap (λ (r : Pen). draw period xs p ++ draw period ys r) at ∙ sym (both period xs ys p)

pub then_pen : (period : ℕ) (xs ys : List Message) (p q r : Pen) → q ≡ after_drawing period xs p → r ≡ after_drawing period ys q
    → r ≡ after_drawing period (xs ++ ys) p
then_pen period xs ys p q r at next = next ∙ ap (after_drawing period ys) at ∙ sym (pen-both period xs ys p)

module _ (period : ℕ) (c : Cycle) (i : ℕ) (p q : Pen) (at : q ≡ after_drawing period (cycles_of c i) p) where
  pub drawn_more : draw period (cycles_of c i) p ++ draw period (cycle_messages c) q ≡ draw period (cycles_of c (i + 1)) p
  drawn_more =
      then_drawn period (cycles_of c i) (cycle_messages c) p q at ∙ ap (λ (ms : List Message). draw period ms p) (sym (once_more c i))

  pub pen_more : (r : Pen) → r ≡ after_drawing period (cycle_messages c) q → r ≡ after_drawing period (cycles_of c (i + 1)) p
  pen_more r next =
      then_pen period (cycles_of c i) (cycle_messages c) p q r at next ∙ ap (λ (ms : List Message). after_drawing period ms p) (sym (once_more c i))

  -- of many cycles
  module _ (times : ℕ) (less : i < times) where
    abbrev others : ℕ
    others = times - i - 1

    all : i + 1 + others ≡ times
    all = omega (arith, less)

    left_off : after_drawing period (cycles_of c (i + 1)) p ≡ after_drawing period (cycle_messages c) q
    left_off = sym (pen_more (after_drawing period (cycle_messages c) q) refl)

    split_times : cycles_of c times ≡ cycles_of c (i + 1) ++ cycles_of c others
    split_times = ap (cycles_of c) (sym all) ∙ in_two c (i + 1) others

    pub cut_here : draw period (cycles_of c times) p
        ≡ (draw period (cycles_of c i) p ++ draw period (cycle_messages c) q) ++ draw period (cycles_of c others) (after_drawing period (cycles_of c (i + 1)) p)
    cut_here =
        ap (λ (ms : List Message). draw period ms p) split_times
        ∙ both period (cycles_of c (i + 1)) (cycles_of c others) p
        ∙ ap (λ (l : List ℕ). l ++ draw period (cycles_of c others) (after_drawing period (cycles_of c (i + 1)) p)) (sym drawn_more)

    -- the others from where the next cycle left the pen
    pub pen_cut : (r end : Pen) → r ≡ after_drawing period (cycle_messages c) q → end ≡ after_drawing period (cycles_of c others) r
        → end ≡ after_drawing period (cycles_of c times) p
    pen_cut r end next last =
        last ∙ ap (after_drawing period (cycles_of c others)) (pen_more r next)
        ∙ sym (pen-both period (cycles_of c (i + 1)) (cycles_of c others) p)
        ∙ sym (ap (λ (ms : List Message). after_drawing period ms p) split_times)

    -- where what is behind the next cycle is held
    module _ (held : is_held_by c q ≡ true) where
      pub drawn_all : draw period (cycles_of c i) p ++ draw period (cycle_messages c) q ≡ draw period (cycles_of c times) p
      drawn_all =
          let first = draw period (cycles_of c i) p ++ draw period (cycle_messages c) q in
          sym (cut_here
          ∙ ap (λ (r : Pen). first ++ draw period (cycles_of c others) r) left_off
          ∙ ap (λ (l : List ℕ). first ++ l) (drawn_held period c q others held)
          ∙ append-nil first)

      pub pen_all : lasting (others * period) (after_drawing period (cycle_messages c) q) ≡ after_drawing period (cycles_of c times) p
      pen_all =
          sym (ap (λ (ms : List Message). after_drawing period ms p) split_times
          ∙ pen-both period (cycles_of c (i + 1)) (cycles_of c others) p
          ∙ ap (after_drawing period (cycles_of c others)) left_off
          ∙ after_held period c q others held)

-- a pen that is known where a call succeeded
pub on_ok_pen : {A E : Type 0} {P Q : Type 0} (r : Result A E) → (P → Q) → OnOk r P → OnOk r Q
on_ok_pen (Ok x) f h = f h
on_ok_pen (Err e) f h = tt

-- ---- cycles that are left

abbrev pub messages_of : List Cycle → List Message
messages_of cs = flat_map cycle_messages cs

pub both_of : (xs ys : List Cycle) → messages_of (xs ++ ys) ≡ messages_of xs ++ messages_of ys
both_of xs ys = flat_map-append cycle_messages xs ys

-- the next cycles of those that are left
pub next_split : (whole past left word rest : List Cycle) → whole ≡ past ++ left → left ≡ word ++ rest → whole ≡ (past ++ word) ++ rest
next_split whole past left word rest split next = split ∙ ap (λ (cs : List Cycle). past ++ cs) next ∙ sym (append_assoc past word rest)

module _ (period : ℕ) (past word : List Cycle) (p q : Pen) (at : q ≡ after_drawing period (messages_of past) p) where
  pub next_text : draw period (messages_of past) p ++ draw period (messages_of word) q ≡ draw period (messages_of (past ++ word)) p
  next_text =
      then_drawn period (messages_of past) (messages_of word) p q at
      ∙ ap (λ (ms : List Message). draw period ms p) (sym (both_of past word))

  pub next_pen : (r : Pen) → r ≡ after_drawing period (messages_of word) q → r ≡ after_drawing period (messages_of (past ++ word)) p
  next_pen r next =
      then_pen period (messages_of past) (messages_of word) p q r at next
      ∙ ap (λ (ms : List Message). after_drawing period ms p) (sym (both_of past word))

  -- and those behind them
  pub all_text : (whole rest : List Cycle) → whole ≡ (past ++ word) ++ rest
      → draw period (messages_of whole) p
      ≡ (draw period (messages_of past) p ++ draw period (messages_of word) q)
      ++ draw period (messages_of rest) (after_drawing period (messages_of (past ++ word)) p)
  all_text whole rest split =
      ap (λ (cs : List Cycle). draw period (messages_of cs) p) split
      ∙ ap (λ (ms : List Message). draw period ms p) (both_of (past ++ word) rest)
      ∙ both period (messages_of (past ++ word)) (messages_of rest) p
      ∙ ap (λ (l : List ℕ). l ++ draw period (messages_of rest) (after_drawing period (messages_of (past ++ word)) p)) (sym next_text)

-- a pen that is known anyway
pub always : {A E : Type 0} {P : Type 0} (r : Result A E) → P → OnOk r P
always (Ok x) h = h
always (Err e) h = tt

-- ---- cycles that are closed

pub closed_none : (cs : List Cycle) → length cs ≡ 0 → closed_messages cs ≡ []
closed_none [] none = refl
closed_none (c ∷ cs) none = absurd (omega (arith, none))

pub closed_some : (cs : List Cycle) → 0 < length cs → messages_of cs ++ closing_messages ≡ closed_messages cs
closed_some [] some = absurd (omega (arith, some))
closed_some (c ∷ cs) some = refl

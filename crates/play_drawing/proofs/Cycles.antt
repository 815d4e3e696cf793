-- Messages that are drawn one after another.
use Rattle.std.proofs.Common.{◌≡◌, ℕ, zero, suc, ◌+◌, List, [], ◌∷◌, ◌++◌, refl, sym, ap, ◌∙◌, arith, append_assoc, replicate, Bool, true, false}
use Rattle.std.specs.Prelude.{flat_map}
use Rattle.std.proofs.lemmas.List.{append-nil}
use Rattle.std.proofs.lemmas.Grind.{flat_map-append}
use Rattle.bitbang_protocol.specs.declared.Cycle.{Cycle}
use Rattle.bitbang_protocol.specs.declared.Message.{Message}
use Rattle.bitbang_protocol.specs.declared.Message.TheVariants.{Write}
use Rattle.bitbang_protocol.specs.Protocol.{cycle_messages}
use Rattle.play_drawing.specs.Drawing.{after_drawing, after_mark, draw, mark}
use Rattle.play_drawing.specs.Pens.{Pen}

module _ (period : ℕ) where
  pub pen-both : (xs ys : List Message) (p : Pen) → after_drawing period (xs ++ ys) p ≡ after_drawing period ys (after_drawing period xs p)
  pen-both [] ys p = refl
  pen-both (m ∷ xs) ys p = pen-both xs ys (after_mark period m p)

  pub both : (xs ys : List Message) (p : Pen) → draw period (xs ++ ys) p ≡ draw period xs p ++ draw period ys (after_drawing period xs p)
  both [] ys p = refl
  both (m ∷ xs) ys p =
      ap (λ l. mark m p ++ l) (both xs ys (after_mark period m p))
      ∙ sym (append_assoc (mark m p) (draw period xs (after_mark period m p)) (draw period ys (after_drawing period xs (after_mark period m p))))

-- the messages of a cycle that comes so often
abbrev pub cycles_of : Cycle → ℕ → List Message
cycles_of c n = flat_map cycle_messages (replicate n c)

-- once more, at the end
again : (c : Cycle) (n : ℕ) → replicate (suc n) c ≡ replicate n c ++ c ∷ []
again c zero = refl
again c (suc n) = ap (λ l. c ∷ l) (again c n)

pub once_more : (c : Cycle) (n : ℕ) → cycles_of c (n + 1) ≡ cycles_of c n ++ cycle_messages c
once_more c n =
    let next : n + 1 ≡ suc n = omega arith in
    ap (cycles_of c) next ∙ ap (flat_map cycle_messages) (again c n)
    ∙ flat_map-append cycle_messages (replicate n c) (c ∷ [])
    ∙ ap (λ l. cycles_of c n ++ l) (append-nil (cycle_messages c))

split : (c : Cycle) (n k : ℕ) → replicate (n + k) c ≡ replicate n c ++ replicate k c
split c zero k = ap (λ m. replicate m c) (omega arith)
split c (suc n) k = let next : suc n + k ≡ suc (n + k) = omega arith in ap (λ m. replicate m c) next ∙ ap (λ l. c ∷ l) (split c n k)

pub in_two : (c : Cycle) (n k : ℕ) → cycles_of c (n + k) ≡ cycles_of c n ++ cycles_of c k
in_two c n k = ap (flat_map cycle_messages) (split c n k) ∙ flat_map-append cycle_messages (replicate n c) (replicate k c)

-- the question within a cycle draws nothing
module _ (period : ℕ) (tms tdi : Bool) (p : Pen) where
  abbrev lines : List Message
  lines = Write false tms tdi ∷ Write true tms tdi ∷ []

  drawn-so : (read : Bool) → draw period (cycle_messages (record { tms = tms; tdi = tdi; read = read })) p ≡ draw period lines p
  drawn-so false = refl
  drawn-so true = refl

  pen-so : (read : Bool) → after_drawing period (cycle_messages (record { tms = tms; tdi = tdi; read = read })) p ≡ after_drawing period lines p
  pen-so false = refl
  pen-so true = refl

pub cycle-drawn : (period : ℕ) (c : Cycle) (p : Pen) → draw period (cycle_messages c) p ≡ draw period (Write false c.tms c.tdi ∷ Write true c.tms c.tdi ∷ []) p
cycle-drawn period c p = drawn-so period c.tms c.tdi p c.read

pub cycle-pen : (period : ℕ) (c : Cycle) (p : Pen)
    → after_drawing period (cycle_messages c) p ≡ after_drawing period (Write false c.tms c.tdi ∷ Write true c.tms c.tdi ∷ []) p
cycle-pen period c p = pen-so period c.tms c.tdi p c.read

-- a cycle, drawn level by level
module _ (period : ℕ) (c : Cycle) (p q : Pen) (low high : Message) (is_low : low ≡ Write false c.tms c.tdi) (is_high : high ≡ Write true c.tms c.tdi)
    (at : q ≡ after_mark period low p) where
  between : q ≡ after_mark period (Write false c.tms c.tdi) p
  between = at ∙ ap (λ (m : Message). after_mark period m p) is_low

  pub drawn_in_two : mark low p ++ mark high q ≡ draw period (cycle_messages c) p
  drawn_in_two =
      let first : Message = Write false c.tms c.tdi in
      let second : List ℕ = mark (Write true c.tms c.tdi) (after_mark period first p) in
      (λ i. mark (is_low i) p ++ mark (is_high i) (between i))
      ∙ ap (λ (l : List ℕ). mark first p ++ l) (sym (append-nil second))
      ∙ sym (cycle-drawn period c p)

  pub pen_in_two : (r : Pen) → r ≡ after_mark period high q → r ≡ after_drawing period (cycle_messages c) p
  pen_in_two r next = next ∙ (λ i. after_mark period (is_high i) (between i)) ∙ sym (cycle-pen period c p)

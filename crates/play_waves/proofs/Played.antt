-- The turns of a play, drawn one after another.
use Rattle.std.proofs.Common.{◌≡◌, ℕ, Bool, true, false, List, ◌∷◌, ◌++◌, refl, sym, ap, ◌∙◌, arith, append_assoc, Option, Some, None}
use Rattle.std.proofs.lemmas.Bool.Decides.{nat_tests}
use Rattle.std.specs.Prelude.{if◌then◌else◌}
use Rattle.play_model.specs.Play.{Turn}
use Rattle.play_model.specs.declared.kind.Kind.{Kind}
use Rattle.play_drawing.specs.Drawing.{after_drawing}
use Rattle.play_drawing.specs.Pens.{Pen}
use Rattle.play_drawing.specs.Waves.{closing, draw_turn, is_played, wave}

-- the opening is one of every play
pub opens : (failed : Option ℕ) → is_played failed 0 ≡ true
opens None = refl
opens (Some n) = grind (arith, nat_tests)

module _ (noted : Option Kind) (period_of : ℕ → ℕ) (failed : Option ℕ) (t : Turn) (ts : List Turn) (p : Pen) where
  abbrev rest : Pen → List ℕ
  rest q = wave noted period_of failed ts q

  drawn : is_played failed t.command ≡ true
      → wave noted period_of failed (t ∷ ts) p ≡ draw_turn noted (period_of t.command) t p ++ rest (after_drawing (period_of t.command) t.messages p)
  drawn played = ap (λ (b : Bool). if b then draw_turn noted (period_of t.command) t p ++ rest (after_drawing (period_of t.command) t.messages p) else closing p) played

  -- the play stopped before this turn
  pub not_drawn : is_played failed t.command ≡ false → wave noted period_of failed (t ∷ ts) p ≡ closing p
  not_drawn stopped = ap (λ (b : Bool). if b then draw_turn noted (period_of t.command) t p ++ rest (after_drawing (period_of t.command) t.messages p) else closing p) stopped

  -- what was written, this turn, and those behind it
  pub one_more : (all sent : List ℕ) (now : ℕ) (q : Pen) → all ≡ sent ++ wave noted period_of failed (t ∷ ts) p → is_played failed t.command ≡ true
      → now ≡ period_of t.command → q ≡ after_drawing now t.messages p → all ≡ (sent ++ draw_turn noted now t p) ++ rest q
  one_more all sent now q split played is at =
      split
      ∙ ap (λ (l : List ℕ). sent ++ l) (drawn played)
      ∙ ap (λ (n : ℕ). sent ++ (draw_turn noted n t p ++ rest (after_drawing n t.messages p))) (sym is)
      ∙ ap (λ (r : Pen). sent ++ (draw_turn noted now t p ++ rest r)) (sym at)
      ∙ sym (append_assoc sent (draw_turn noted now t p) (rest q))

-- What is told to fail is what the answers say.
use Rattle.std.proofs.Common.{◌≡◌, ℕ, Bool, true, false, List, [], ◌∷◌, ◌++◌, refl, sym, ap, ◌∙◌, append_assoc, Option, Some, None}
use Rattle.std.specs.Prelude.{flat_map, map, if◌then◌else◌}
use Rattle.bitbang_protocol.specs.declared.Cycle.{Cycle}
use Rattle.bitbang_protocol.specs.declared.Message.{Message}
use Rattle.bitbang_protocol.specs.declared.Message.TheVariants.{Write, Ask}
use Rattle.bitbang_protocol.specs.Cycles.{closed_messages}
use Rattle.bitbang_protocol.specs.Protocol.{cycle_messages}
use Rattle.scan_vectors.specs.declared.part.Part.{Part}
use Rattle.scan_vectors.specs.declared.failures.Mismatch.{Mismatch}
use Rattle.scan_vectors.specs.Failures.{differing}
use Rattle.scan_vectors.specs.Vector.{VectorBit, differs, judge}
use Rattle.board_model.specs.Chain.{hear}
use Rattle.play_model.specs.declared.kind.Kind.{Kind}
use Rattle.play_model.specs.declared.kind.Kind.TheVariants.{Stops, PlaysOn}
use Rattle.play_drawing.specs.Drawing.{after_mark, closing_messages}
use Rattle.play_drawing.specs.Judging.{tdo_of, wanted_behind}
use Rattle.play_waves.specs.Laws.{WhatFailsIsTold, all_failing, first_failing, told_failing}
use Rattle.play_drawing.specs.Pens.{Pen}

-- by the kind of player
abbrev verdicts : Kind → List VectorBit → List Bool → List (Part × ℕ)
verdicts Stops vs answers = first_failing vs answers
verdicts PlaysOn vs answers = all_failing vs answers

none_wanted : (kind : Kind) (answers : List Bool) → [] ≡ verdicts kind [] answers
none_wanted Stops answers = refl
none_wanted PlaysOn answers = refl

none_answered : (kind : Kind) (vs : List VectorBit) → [] ≡ verdicts kind vs []
none_answered Stops [] = refl
none_answered Stops (v ∷ vs) = refl
none_answered PlaysOn [] = refl
none_answered PlaysOn (v ∷ vs) = refl

-- one bit, and those behind it
abbrev failing_where : VectorBit → (differ : Bool) → Option (Part × ℕ)
failing_where v differ = if differ then Some (v.part, v.place) else None

abbrev listed : Option (Part × ℕ) → List (Part × ℕ)
listed f = elim f [ Some x ↦ x ∷ [] | None ↦ [] ]

one_wanted : (kind : Kind) (v : VectorBit) (vs : List VectorBit) (b : Bool) (answers : List Bool)
    → listed (failing_where v (differs v.wanted b)) ++ verdicts kind (wanted_behind kind (failing_where v (differs v.wanted b)) vs) answers
    ≡ verdicts kind (v ∷ vs) (b ∷ answers)
one_wanted Stops v vs b answers = by (differs v.wanted b)
  where
    by : (differ : Bool) → listed (failing_where v differ) ++ first_failing (wanted_behind Stops (failing_where v differ) vs) answers
        ≡ listed (if differ then Some (v.part, v.place) else judge vs answers)
    by true = refl
    by false = refl
one_wanted PlaysOn v vs b answers = by (differs v.wanted b)
  where
    by : (differ : Bool) → listed (failing_where v differ) ++ all_failing vs answers
        ≡ map (λ (f : Mismatch). (f.part, f.bit))
        (if differ then record { command = 0; part = v.part; bit = v.place } ∷ differing 0 vs answers else differing 0 vs answers)
    by true = refl
    by false = refl

abbrev closed_of : List Cycle → List Message
closed_of cs = flat_map cycle_messages cs ++ closing_messages

module _ (kind : Kind) (period : ℕ) where
  told_so : (cs : List Cycle) (vs : List VectorBit) (p : Pen) → told_failing kind period (closed_of cs) vs p ≡ verdicts kind vs (hear (closed_of cs) p.board).answers
  told_so [] vs p = none_answered kind vs
  told_so (c ∷ cs) vs p =
      ap (λ (ms : List Message). told_failing kind period ms vs p) apart
      ∙ by (λ ws. told_so cs ws high) c.read vs
      ∙ sym (ap (λ (ms : List Message). verdicts kind vs (hear ms p.board).answers) apart)
    where
      apart : closed_of (c ∷ cs) ≡ cycle_messages c ++ closed_of cs
      apart = append_assoc (cycle_messages c) (flat_map cycle_messages cs) closing_messages

      messages_at : Bool → List Message
      messages_at read = (Write false c.tms c.tdi ∷ (if read then Ask ∷ [] else []) ++ Write true c.tms c.tdi ∷ []) ++ closed_of cs

      low : Pen
      low = after_mark period (Write false c.tms c.tdi) p

      high : Pen
      high = after_mark period (Write true c.tms c.tdi) low

      by : ((ws : List VectorBit) → told_failing kind period (closed_of cs) ws high ≡ verdicts kind ws (hear (closed_of cs) high.board).answers)
          → (read : Bool) (ws : List VectorBit) → told_failing kind period (messages_at read) ws p ≡ verdicts kind ws (hear (messages_at read) p.board).answers
      by rest false ws = rest ws
      by rest true [] = rest [] ∙ sym (none_wanted kind (hear (closed_of cs) high.board).answers) ∙ none_wanted kind (hear (messages_at true) p.board).answers
      by rest true (w ∷ ws) =
          let b = tdo_of low in
          let failing = failing_where w (differs w.wanted b) in
          ap (λ (l : List (Part × ℕ)). listed failing ++ l) (rest (wanted_behind kind failing ws))
          ∙ one_wanted kind w ws b (hear (closed_of cs) high.board).answers

  pub told_fails : (cs : List Cycle) (vs : List VectorBit) (p : Pen) → told_failing kind period (closed_messages cs) vs p ≡ verdicts kind vs (hear (closed_messages cs) p.board).answers
  told_fails [] vs p = none_answered kind vs
  told_fails (c ∷ cs) vs p = told_so (c ∷ cs) vs p

pub what_fails : WhatFailsIsTold
what_fails = record { stops = λ period cs vs p. told_fails Stops period cs vs p; plays_on = λ period cs vs p. told_fails PlaysOn period cs vs p }

-- What is drawn is what is played, and how long it takes.
use Rattle.std.proofs.Common.{◌≡◌, ◌⊎◌, inl, inr, ◌≤◌, ◌+◌, ◌-◌, ◌*◌, ℕ, suc, Bool, true, false, min, List, [], ◌∷◌, ◌++◌, length, Option, Some, None, refl, ap, ◌∙◌, arith}
use Rattle.std.specs.Prelude.{◌/◌, flat_map, unwrap_or, if◌then◌else◌}
use Rattle.bitbang_protocol.specs.declared.Cycle.{Cycle}
use Rattle.bitbang_protocol.specs.declared.Message.{Message}
use Rattle.bitbang_protocol.specs.declared.Message.TheVariants.{Write, Ask, Quit, Light, Lines}
use Rattle.bitbang_protocol.specs.Cycles.{closed_messages}
use Rattle.bitbang_protocol.specs.Protocol.{cycle_messages}
use Rattle.bitbang.specs.StepMessages.{line_message}
use Rattle.svf_programs.specs.Steps.{Step, Scan, Go, Path, Run, Trst}
use Rattle.svf_words.specs.declared.keywords.TrstWord.TheVariants.{On, Off, Z, Absent}
use Rattle.tck_cycles.specs.Cycles.{cycles}
use Rattle.board_model.specs.Chain.{ChipState, reply_of}
use Rattle.board_model.specs.declared.Reply.TheVariants.{Answer}
use Rattle.output_words.specs.Digits.{digit}
use Rattle.play_drawing.specs.Drawing.{after_mark, lasts, latest, shown}
use Rattle.play_waves.specs.Laws.{EachStepTakesItsCycles, EachTdoIsHandedOn, TdoDrawnIsTheAnswer, TimeGoesOn, WhatIsDrawnIsTheBoard, step_time, time_of}
use Rattle.play_drawing.specs.Pens.{Pen}
use Rattle.wave_files.specs.Values.{undriven, wire}

-- ---- the board

pub drawn_board : WhatIsDrawnIsTheBoard
drawn_board period [] p = refl
drawn_board period (Write tck tms tdi ∷ ms) p = drawn_board period ms (after_mark period (Write tck tms tdi) p)
drawn_board period (Lines trst srst ∷ ms) p = drawn_board period ms (after_mark period (Lines trst srst) p)
drawn_board period (Ask ∷ ms) p = drawn_board period ms p
drawn_board period (Quit ∷ ms) p = drawn_board period ms p
drawn_board period (Light on ∷ ms) p = drawn_board period ms p

abbrev Shows : Pen → List ChipState → Type 0
Shows p cs = let q = record p { board = record p.board { chips = cs } } in
    (reply_of Ask q.board ≡ Answer (shown q).tdo) ⊎ (((shown q).tdo ≡ undriven) × (reply_of Ask q.board ≡ Answer (digit true)))

pub drawn_tdo : TdoDrawnIsTheAnswer
drawn_tdo p = by p.board.chips
  where
    one : (c : ChipState) (cs : List ChipState) (o : Option Bool) → Shows p (record c { tdo = o } ∷ cs)
    one c cs None = inr (refl, refl)
    one c cs (Some true) = inl refl
    one c cs (Some false) = inl refl

    by : (cs : List ChipState) → Shows p cs
    by [] = inr (refl, refl)
    by (c ∷ cs) = one c cs c.tdo

pub handed_on : EachTdoIsHandedOn
handed_on tdi c cs = by c.tdo
  where
    by : (o : Option Bool) → (wire undriven o ≡ digit (unwrap_or o true)) ⊎ ((wire undriven o ≡ undriven) × (unwrap_or o true ≡ true))
    by None = inr (refl, refl)
    by (Some b) = inl refl

-- ---- time

one_message : (period : ℕ) (m : Message) (p : Pen) → p.marks.time ≤ latest → (after_mark period m p).marks.time ≡ min (p.marks.time + lasts period m) latest
one_message period (Write tck tms tdi) p le = refl
one_message period (Lines trst srst) p le = refl
one_message period Ask p le = omega (arith, le)
one_message period Quit p le = omega (arith, le)
one_message period (Light on) p le = omega (arith, le)

pub time_goes_on : TimeGoesOn
time_goes_on period [] p le = omega (arith, le)
time_goes_on period (m ∷ ms) p le =
    let one = one_message period m p le in
    let rest = time_goes_on period ms (after_mark period m p) (omega (arith, one)) in
    omega (arith, le, one, rest)

time-append : (period : ℕ) (xs ys : List Message) → time_of period (xs ++ ys) ≡ time_of period xs + time_of period ys
time-append period [] ys = omega arith
time-append period (x ∷ xs) ys = let rest = time-append period xs ys in omega (arith, rest)

time-lines : (period : ℕ) (step : Step) → time_of period (line_message step) ≡ period * length (line_message step)
time-lines period (Trst On) = omega arith
time-lines period (Trst Off) = omega arith
time-lines period (Trst Z) = omega arith
time-lines period (Trst Absent) = omega arith
time-lines period (Scan column v end) = omega arith
time-lines period (Go s) = omega arith
time-lines period (Path path) = omega arith
time-lines period (Run run n end) = omega arith

one_cycle : (period : ℕ) (c : Cycle) → time_of period (cycle_messages c) ≡ period
one_cycle period c = by c.read
  where
    by : (read : Bool) → time_of period (Write false c.tms c.tdi ∷ (if read then Ask ∷ [] else []) ++ Write true c.tms c.tdi ∷ []) ≡ period
    by true = omega arith
    by false = omega arith

time-cycles : (period : ℕ) (cs : List Cycle) → time_of period (flat_map cycle_messages cs) ≡ period * length cs
time-cycles period [] = omega arith
time-cycles period (c ∷ cs) =
    let rest = time-cycles period cs in
    time-append period (cycle_messages c) (flat_map cycle_messages cs)
    ∙ (λ i. one_cycle period c i + rest i)
    ∙ one_more (length cs)
  where
    one_more : (n : ℕ) → period + period * n ≡ period * suc n
    one_more n = omega arith

closed : (period : ℕ) (lines : ℕ) (cs : List Cycle) → period * lines + time_of period (closed_messages cs) ≡ step_time period lines (length cs)
closed period lines [] = omega arith
closed period lines (c ∷ cs) =
    let all = time-cycles period (c ∷ cs) in
    let end = time-append period (flat_map cycle_messages (c ∷ cs)) (Write false false false ∷ []) in
    ap (λ (n : ℕ). period * lines + n) (end ∙ (λ i. all i + ((period - period / 2) + 0)) ∙ none (period * length (c ∷ cs)))
  where
    none : (n : ℕ) → n + ((period - period / 2) + 0) ≡ n + (period - period / 2)
    none n = omega arith

pub each_step : EachStepTakesItsCycles
each_step period place step =
    time-append period (line_message step) (closed_messages (cycles place step))
    ∙ ap (λ (n : ℕ). n + time_of period (closed_messages (cycles place step))) (time-lines period step)
    ∙ closed period (length (line_message step)) (cycles place step)

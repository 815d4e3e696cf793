-- A cycle that comes again and again to devices that stay: behind the first one only time goes on.
use Rattle.std.proofs.Common.{◌≡◌, ◌≤◌, ◌<◌, Bool, true, false, ◌&&◌, ◌||◌, ℕ, zero, suc, ◌+◌, ◌-◌, ◌*◌, ◌/◌, min, List, [], ◌∷◌, ◌++◌, map, refl, sym, ap, subst, ◌∙◌, arith, Option, Some, None, nat_le, nat_lt, is_none}
use Rattle.std.proofs.lemmas.Bool.{ltb-true}
use Rattle.std.proofs.Math.Nat.{suc-mul}
use Rattle.std.specs.Prelude.{if◌then◌else◌}
use Rattle.std.specs.List.{list_all}
use Rattle.jt_tap.specs.declared.State.{State}
use Rattle.jt_tap.specs.declared.State.TheVariants.{Reset, Idle, DrPause, IrPause}
use Rattle.jt_tap.specs.Controller.{is_at, is_stable, next}
use Rattle.pin_nets.specs.Wired.{Net}
use Rattle.bitbang_protocol.specs.declared.Cycle.{Cycle}
use Rattle.bitbang_protocol.specs.declared.Message.{Message}
use Rattle.bitbang_protocol.specs.declared.Message.TheVariants.{Write}
use Rattle.bitbang_protocol.specs.Protocol.{cycle_messages}
use Rattle.board_model.specs.Cells.{Member, Told}
use Rattle.board_model.specs.Nets.{told}
use Rattle.board_model.specs.Chain.{ChipState, fall, is_held, members, rise, rise_all, tdi_before}
use Rattle.board_model.proofs.Resets.{reset-twice}
use Rattle.play_drawing.specs.Drawing.{after_drawing, after_mark, between, draw, drawn_rests, is_drawn_so, is_resting, lasting, later, latest, mark, shown, taken}
use Rattle.wave_files.specs.declared.extras.Extras.{Extras}
use Rattle.wave_files.specs.Changes.{board_changes, line_changes, stamp}
use Rattle.wave_files.specs.Extras.{all_extra_changes}
use Rattle.play_drawing.specs.Holding.{is_held_by, stays}
use Rattle.play_drawing.specs.Pens.{Pen}
use Rattle.play_drawing.proofs.Cycles.{cycle-drawn, cycle-pen, cycles_of, pen-both, both}

pub and_both : (x y : Bool) → (x && y) ≡ true → (x ≡ true) × (y ≡ true)
and_both true true h = (refl, refl)
and_both true false h = cc
and_both false y h = cc

-- ---- one device

fallen : (s : State) (m : Member) (o : Option Bool) → is_stable s ≡ true → let c : ChipState = record { member = m; state = s; tdo = o } in fall (fall c) ≡ fall c
fallen Reset m o h = λ i. record { member = reset-twice m i; state = Reset; tdo = None }
fallen Idle m o h = refl
fallen DrPause m o h = refl
fallen IrPause m o h = refl
fallen _ m o h = absurd cc

risen : (s : State) (m : Member) (o : Option Bool) (held tms tdi : Bool) (about : Told) (trst : Bool) → is_held trst m ≡ held → is_stable s ≡ true
    → (held || is_at (next s tms) s) ≡ true
    → let c : ChipState = record { member = m; state = s; tdo = o } in rise trst tms tdi about c ≡ c
risen s m o true tms tdi about trst e h stay = rw e refl
risen Reset m o false true tdi about trst e h stay = rw e refl
risen Idle m o false false tdi about trst e h stay = rw e refl
risen DrPause m o false false tdi about trst e h stay = rw e refl
risen IrPause m o false false tdi about trst e h stay = rw e refl
risen _ m o false tms tdi about trst e h stay = absurd cc

-- ---- all devices

pub fallen_all : (trst tms : Bool) (cs : List ChipState) → list_all (stays trst tms) cs ≡ true → map fall (map fall cs) ≡ map fall cs
fallen_all trst tms [] h = refl
fallen_all trst tms (c ∷ cs) h =
    let parts = and_both (stays trst tms c) (list_all (stays trst tms) cs) h in
    let own = and_both (is_stable c.state) (is_held trst c.member || is_at (next c.state tms) c.state) parts.0 in
    λ i. fallen c.state c.member c.tdo own.0 i ∷ fallen_all trst tms cs parts.1 i

pub risen_all : (trst tms tdi : Bool) (about : ℕ → Told) (k : ℕ) (cs : List ChipState) → list_all (stays trst tms) cs ≡ true
    → rise_all trst tms tdi about k cs ≡ cs
risen_all trst tms tdi about k [] h = refl
risen_all trst tms tdi about k (c ∷ cs) h =
    let parts = and_both (stays trst tms c) (list_all (stays trst tms) cs) h in
    let own = and_both (is_stable c.state) (is_held trst c.member || is_at (next c.state tms) c.state) parts.0 in
    λ i. risen c.state c.member c.tdo (is_held trst c.member) tms (tdi_before tdi cs) (about k) trst refl own.0 own.1 i
    ∷ risen_all trst tms tdi about (suc k) cs parts.1 i

pub and_made : (x y : Bool) → x ≡ true → y ≡ true → (x && y) ≡ true
and_made x y ex ey = λ i. ex i && ey i

pub stay_fallen : (trst tms : Bool) (cs : List ChipState) → list_all (stays trst tms) cs ≡ true → list_all (stays trst tms) (map fall cs) ≡ true
stay_fallen trst tms [] h = refl
stay_fallen trst tms (c ∷ cs) h =
    let parts = and_both (stays trst tms c) (list_all (stays trst tms) cs) h in
    and_made (stays trst tms c) (list_all (stays trst tms) (map fall cs)) parts.0 (stay_fallen trst tms cs parts.1)

pub rest_there : (trst tms : Bool) (cs : List ChipState) → list_all (stays trst tms) cs ≡ true → is_resting cs ≡ true
rest_there trst tms [] h = refl
rest_there trst tms (c ∷ cs) h =
    let parts = and_both (stays trst tms c) (list_all (stays trst tms) cs) h in
    let own = and_both (is_stable c.state) (is_held trst c.member || is_at (next c.state tms) c.state) parts.0 in
    and_made (is_stable c.state) (is_resting cs) own.0 (rest_there trst tms cs parts.1)

-- ---- time

pub later-later : (t a b : ℕ) → later (later t a) b ≡ later t (a + b)
later-later t a b = omega arith

pub later-none : (t : ℕ) → t ≤ latest → later t 0 ≡ t
later-none t h = omega (arith, h)

halves : (period : ℕ) → period - period / 2 + period / 2 ≡ period
halves period = omega arith

-- ---- a pen within a stretch

abbrev pub pen : Extras → Option Bool → Option Bool → Option Bool → ℕ → ℕ → Bool → Bool → List Net → List ChipState → Pen
pen x k a b t r tck trst nets cs = record {
  marks = record { tck = k; tms = a; tdi = b; time = t; rested = r };
  extras = x;
  board = record { tck = tck; trst = trst; nets = nets; chips = cs };
}

pub drawn-same : (x : Bool) → is_drawn_so (Some x) x ≡ true
drawn-same true = refl
drawn-same false = refl

module _ (period : ℕ) (c : Cycle) (x : Extras) (trst : Bool) (nets : List Net) where
  abbrev still : ℕ → Bool → List ChipState → Pen
  still t tck cs = pen x None (Some c.tms) (Some c.tdi) t (suc drawn_rests) tck trst nets cs

  abbrev low : Message
  low = Write false c.tms c.tdi

  abbrev high : Message
  high = Write true c.tms c.tdi

  -- the pen behind a message that is, or is not, one of a rest
  abbrev behind : (r t : ℕ) (u y z tck : Bool) → List ChipState → Pen
  behind r t u y z tck cs =
      let n = if u && (y && z) then min (suc r) (suc drawn_rests) else 0 in
      pen x (if nat_le n drawn_rests then Some tck else None) (Some c.tms) (Some c.tdi) t n tck trst nets cs

  counted : (r t : ℕ) (tck : Bool) (cs : List ChipState) → drawn_rests < r → behind r t true true true tck cs ≡ still t tck cs
  counted r t tck cs over =
      let most : min (suc r) (suc drawn_rests) ≡ suc drawn_rests = omega (arith, over) in
      ap (λ (n : ℕ). pen x (if nat_le n drawn_rests then Some tck else None) (Some c.tms) (Some c.tdi) t n tck trst nets cs) most

  falls : (k a b : Option Bool) (t r : ℕ) (cs : List ChipState) → drawn_rests < r → is_drawn_so a c.tms ≡ true → is_drawn_so b c.tdi ≡ true
      → list_all (stays trst c.tms) cs ≡ true
      → after_mark period low (pen x k a b t r true trst nets cs) ≡ still (later t (period - period / 2)) false (map fall cs)
  falls k a b t r cs over ea eb stay =
      (λ i. behind r (later t (period - period / 2)) (ea i) (eb i) (rest_there trst c.tms (map fall cs) (stay_fallen trst c.tms cs stay) i) false (map fall cs))
      ∙ counted r (later t (period - period / 2)) false (map fall cs) over

  rises : (t : ℕ) (cs : List ChipState) → list_all (stays trst c.tms) cs ≡ true
      → after_mark period high (still t false cs) ≡ still (later t (period / 2)) true cs
  rises t cs stay =
      let same : (about : ℕ → Told) → rise_all trst c.tms c.tdi about 0 cs ≡ cs = λ about. risen_all trst c.tms c.tdi about 0 cs stay in
      let about = told nets (members cs) in
      (λ i. behind (suc drawn_rests) (later t (period / 2)) (is_drawn_so (Some c.tms) c.tms) (is_drawn_so (Some c.tdi) c.tdi) (is_resting (same about i)) true (same about i))
      ∙ (λ i. behind (suc drawn_rests) (later t (period / 2)) (drawn-same c.tms i) (drawn-same c.tdi i) (rest_there trst c.tms cs stay i) true cs)
      ∙ counted (suc drawn_rests) (later t (period / 2)) true cs (omega arith)

  nothing_between : (p q : Pen) → p.marks.tck ≡ None → q.marks.tck ≡ None → between p q ≡ []
  nothing_between p q ep eq =
      λ i. if is_none (ep i) && is_none (eq i) then [] else stamp p.marks.time
      ++ (line_changes (shown p) (shown q)
      ++ (board_changes p.board.nets p.board.chips q.board.chips
      ++ all_extra_changes p.extras p.board.nets p.board.chips q.board.chips))

  -- one cycle within a stretch, of devices that fell
  module _ (cs : List ChipState) (stay : list_all (stays trst c.tms) cs ≡ true) where
    abbrev fell : List ChipState
    fell = map fall cs

    stays_so : list_all (stays trst c.tms) fell ≡ true
    stays_so = stay_fallen trst c.tms cs stay

    falls_again : (t : ℕ) → after_mark period low (still t true fell) ≡ still (later t (period - period / 2)) false fell
    falls_again t =
        falls None (Some c.tms) (Some c.tdi) t (suc drawn_rests) fell (omega arith) (drawn-same c.tms) (drawn-same c.tdi) stays_so
        ∙ ap (still (later t (period - period / 2)) false) (fallen_all trst c.tms cs stay)

    both_halves : (t : ℕ) → later (later t (period - period / 2)) (period / 2) ≡ later t period
    both_halves t = later-later t (period - period / 2) (period / 2) ∙ ap (later t) (halves period)

    goes_on : (t : ℕ) → after_drawing period (cycle_messages c) (still t true fell) ≡ still (later t period) true fell
    goes_on t =
        cycle-pen period c (still t true fell)
        ∙ ap (after_mark period high) (falls_again t)
        ∙ rises (later t (period - period / 2)) fell stays_so
        ∙ ap (λ u. still u true fell) (both_halves t)

    draws_nothing : (t : ℕ) → draw period (cycle_messages c) (still t true fell) ≡ []
    draws_nothing t =
        let p = still t true fell in
        let q = still (later t (period - period / 2)) false fell in
        let first : mark low p ≡ [] = nothing_between p (taken low p) refl (ap (λ (x : Pen). x.marks.tck) (falls_again t)) in
        let second : mark high q ≡ [] =
        nothing_between q (taken high q) refl (ap (λ (x : Pen). x.marks.tck) (rises (later t (period - period / 2)) fell stays_so)) in
        cycle-drawn period c p
        ∙ ap (λ l. l ++ (mark high (after_mark period low p) ++ [])) first
        ∙ ap (λ (x : Pen). mark high x ++ []) (falls_again t)
        ∙ ap (λ l. l ++ []) second

    pub stands : (n t : ℕ) → t ≤ latest → after_drawing period (cycles_of c n) (still t true fell) ≡ still (later t (n * period)) true fell
    stands zero t few =
        let none : 0 * period ≡ 0 = omega arith in
        ap (λ u. still u true fell) (sym (later-none t few)) ∙ ap (λ k. still (later t k) true fell) (sym none)
    stands (suc n) t few =
        let more : period + n * period ≡ suc n * period = omega (arith, suc-mul n period) in
        pen-both period (cycle_messages c) (cycles_of c n) (still t true fell)
        ∙ ap (after_drawing period (cycles_of c n)) (goes_on t)
        ∙ stands n (later t period) (omega arith)
        ∙ ap (λ u. still u true fell) (later-later t period (n * period) ∙ ap (later t) more)

    pub silent : (n t : ℕ) → draw period (cycles_of c n) (still t true fell) ≡ []
    silent zero t = refl
    silent (suc n) t =
        both period (cycle_messages c) (cycles_of c n) (still t true fell)
        ∙ ap (λ l. l ++ draw period (cycles_of c n) (after_drawing period (cycle_messages c) (still t true fell))) (draws_nothing t)
        ∙ ap (draw period (cycles_of c n)) (goes_on t)
        ∙ silent n (later t period)

  -- behind a cycle that is held
  module _ (k a b : Option Bool) (t r : ℕ) (cs : List ChipState) (over : drawn_rests < r) (ea : is_drawn_so a c.tms ≡ true) (eb : is_drawn_so b c.tdi ≡ true)
      (stay : list_all (stays trst c.tms) cs ≡ true) where
    abbrev start : Pen
    start = pen x k a b t r true trst nets cs

    enters : after_drawing period (cycle_messages c) start ≡ still (later t period) true (map fall cs)
    enters =
        cycle-pen period c start
        ∙ ap (after_mark period high) (falls k a b t r cs over ea eb stay)
        ∙ rises (later t (period - period / 2)) (map fall cs) (stays_so cs stay)
        ∙ ap (λ u. still u true (map fall cs)) (both_halves cs stay t)

    pub held-pen : (n : ℕ) → after_drawing period (cycles_of c n) (after_drawing period (cycle_messages c) start)
        ≡ lasting (n * period) (after_drawing period (cycle_messages c) start)
    held-pen n =
        ap (after_drawing period (cycles_of c n)) enters
        ∙ stands cs stay n (later t period) (omega arith)
        ∙ ap (lasting (n * period)) (sym enters)

    pub held-drawn : (n : ℕ) → draw period (cycles_of c n) (after_drawing period (cycle_messages c) start) ≡ []
    held-drawn n = ap (draw period (cycles_of c n)) enters ∙ silent cs stay n (later t period)

-- ---- what it is to be held

record Held (c : Cycle) (p : Pen) : Type 0 where
  over : drawn_rests < p.marks.rested
  tms : is_drawn_so p.marks.tms c.tms ≡ true
  tdi : is_drawn_so p.marks.tdi c.tdi ≡ true
  tck : p.board.tck ≡ true
  stay : list_all (stays p.board.trst c.tms) p.board.chips ≡ true

held_so : (c : Cycle) (p : Pen) → is_held_by c p ≡ true → Held c p
held_so c p h =
    let stay = list_all (stays p.board.trst c.tms) p.board.chips in
    let one = and_both (nat_lt drawn_rests p.marks.rested) (is_drawn_so p.marks.tms c.tms && (is_drawn_so p.marks.tdi c.tdi && (p.board.tck && stay))) h in
    let two = and_both (is_drawn_so p.marks.tms c.tms) (is_drawn_so p.marks.tdi c.tdi && (p.board.tck && stay)) one.1 in
    let three = and_both (is_drawn_so p.marks.tdi c.tdi) (p.board.tck && stay) two.1 in
    let four = and_both p.board.tck stay three.1 in
    record { over = ltb-true drawn_rests p.marks.rested one.0; tms = two.0; tdi = three.0; tck = four.0; stay = four.1 }

pub after_held : (period : ℕ) (c : Cycle) (p : Pen) (n : ℕ) → is_held_by c p ≡ true
    → after_drawing period (cycles_of c n) (after_drawing period (cycle_messages c) p) ≡ lasting (n * period) (after_drawing period (cycle_messages c) p)
after_held period c p n h =
    let k = held_so c p h in
    subst (λ (tck : Bool). let q : Pen = pen p.extras p.marks.tck p.marks.tms p.marks.tdi p.marks.time p.marks.rested tck p.board.trst p.board.nets p.board.chips in
    after_drawing period (cycles_of c n) (after_drawing period (cycle_messages c) q) ≡ lasting (n * period) (after_drawing period (cycle_messages c) q))
    (sym k.tck)
    (held-pen period c p.extras p.board.trst p.board.nets p.marks.tck p.marks.tms p.marks.tdi p.marks.time p.marks.rested p.board.chips k.over k.tms k.tdi k.stay n)

pub drawn_held : (period : ℕ) (c : Cycle) (p : Pen) (n : ℕ) → is_held_by c p ≡ true
    → draw period (cycles_of c n) (after_drawing period (cycle_messages c) p) ≡ []
drawn_held period c p n h =
    let k = held_so c p h in
    subst (λ (tck : Bool). let q : Pen = pen p.extras p.marks.tck p.marks.tms p.marks.tdi p.marks.time p.marks.rested tck p.board.trst p.board.nets p.board.chips in
    draw period (cycles_of c n) (after_drawing period (cycle_messages c) q) ≡ [])
    (sym k.tck)
    (held-drawn period c p.extras p.board.trst p.board.nets p.marks.tck p.marks.tms p.marks.tdi p.marks.time p.marks.rested p.board.chips k.over k.tms k.tdi k.stay n)

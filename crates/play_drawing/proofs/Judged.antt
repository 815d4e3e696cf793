-- What is told of the bits that a scan wants, cycle by cycle.
use Rattle.std.proofs.Common.{◌≡◌, ◌⊎◌, inl, inr, ◌<◌, ℕ, zero, suc, ◌+◌, ◌==◌, Bool, true, false, ◌&&◌, List, [], ◌∷◌, ◌++◌, drop, length, refl, sym, ap, subst, ◌∙◌, arith, append_assoc, Option, Some, None, option_map}
use Rattle.std.specs.Prelude.{MatchOption, codes, flat_map, is_some, option_and_then, slice_get, unwrap_or, if◌then◌else◌}
use Rattle.std.proofs.lemmas.Bool.{eq-eqb}
use Rattle.std.proofs.lemmas.List.{append-nil}
use Rattle.bitbang_protocol.specs.declared.Cycle.{Cycle}
use Rattle.bitbang_protocol.specs.declared.Message.{Message}
use Rattle.bitbang_protocol.specs.declared.Message.TheVariants.{Write, Ask, Quit, Light, Lines}
use Rattle.bitbang_protocol.specs.Protocol.{cycle_messages}
use Rattle.jt_tap.specs.declared.Column.{Column}
use Rattle.jt_tap.specs.declared.State.{State}
use Rattle.scan_vectors.specs.declared.part.Part.{Part}
use Rattle.scan_vectors.specs.declared.vector.Vector as declared_vector
use Rattle.svf_programs.specs.Seen as seen
use Rattle.svf_programs.specs.declared.step.Action.{Action}
use Rattle.svf_programs.specs.declared.step.Action.TheVariants as action
use Rattle.scan_vectors.specs.Vector.{VectorBit, differs, wanted_bits}
use Rattle.play_model.specs.Play.{Turn, wants_of}
use Rattle.play_model.specs.declared.kind.Kind.{Kind}
use Rattle.play_model.specs.declared.kind.Kind.TheVariants.{Stops}
use Rattle.wave_files.specs.Changes.{stamp}
use Rattle.wave_files.specs.Codes.{binary}
use Rattle.wave_files.specs.Values.{bits_line, first_of_notes}
use Rattle.play_drawing.specs.declared.notes.Note.{Note}
use Rattle.play_drawing.specs.Drawing.{after_drawing, after_mark, closing_messages, draw, mark}
use Rattle.play_drawing.specs.Judging.{Asks, asked_bit, cycle_text, draw_judging, high_note, high_of, low_note, low_of, low_pen, note_behind, noted_mark, wanted_behind}
use Rattle.play_drawing.specs.Notes.{fail_byte, no_note, note_change, note_lines, place_bits, shows_same, wanted_byte}
use Rattle.play_drawing.specs.Pens.{Pen}
use Rattle.play_drawing.specs.Waves.{turn_text}
use Rattle.play_drawing.proofs.Cycles.{cycle-pen, pen-both}

-- ---- notes

module _ (time n : ℕ) (a b : Note) where
  abbrev all : List ℕ
  all = stamp time ++ note_lines n a b

  pub still : (same : Bool) → same ≡ shows_same a b → same ≡ true → [] ≡ note_change time n a b
  still same is so = sym (ap (λ (x : Bool). if x then [] else all) (sym is ∙ so))

  pub moved : (same : Bool) → same ≡ shows_same a b → same ≡ false → all ≡ note_change time n a b
  moved same is so = sym (ap (λ (x : Bool). if x then [] else all) (sym is ∙ so))

both_true : (x y : Bool) → x ≡ true → y ≡ true → (x && y) ≡ true
both_true x y hx hy = ap (λ (b : Bool). b && y) hx ∙ hy

same_note : (a : Note) → shows_same a a ≡ true
same_note a =
    both_true (wanted_byte a == wanted_byte a) (fail_byte a == fail_byte a)
    (eq-eqb (wanted_byte a) (wanted_byte a) refl) (eq-eqb (fail_byte a) (fail_byte a) refl)

unchanged_note : (time n : ℕ) (a : Note) → note_change time n a a ≡ []
unchanged_note time n a = ap (λ (x : Bool). if x then [] else (stamp time ++ note_lines n a a)) (same_note a)

pub first_place : (n place : ℕ) → place ≡ 0 → bits_line n (codes "0") ≡ bits_line n (place_bits place)
first_place n place is = sym (ap (λ (k : ℕ). bits_line n (place_bits k)) is)

pub further_place : (n place : ℕ) → 0 < place → bits_line n (binary place) ≡ bits_line n (place_bits place)
further_place n zero some = absurd (omega (arith, some))
further_place n (suc k) some = refl

-- ---- where nothing is wanted

module _ (kind : Kind) (n period : ℕ) where
  pub unjudged : (ms : List Message) (p : Pen) → draw_judging kind n period ms [] no_note p ≡ draw period ms p
  unjudged [] p = refl
  unjudged (Write true tms tdi ∷ ms) p = ap (λ (l : List ℕ). mark (Write true tms tdi) p ++ l) (unjudged ms (after_mark period (Write true tms tdi) p))
  unjudged (Write false tms tdi ∷ ms) p = ap (λ (l : List ℕ). mark (Write false tms tdi) p ++ l) (unjudged ms (after_mark period (Write false tms tdi) p))
  unjudged (Lines trst srst ∷ ms) p = ap (λ (l : List ℕ). mark (Lines trst srst) p ++ l) (unjudged ms (after_mark period (Lines trst srst) p))
  unjudged (Quit ∷ ms) p = unjudged ms p
  unjudged (Light on ∷ ms) p = unjudged ms p
  unjudged (Ask ∷ []) p = refl
  unjudged (Ask ∷ m ∷ ms) p = unjudged (m ∷ ms) p

pub told_nothing : (noted : Option Kind) (period : ℕ) (t : Turn) (p : Pen) → t.wants ≡ [] → draw period t.messages p ≡ turn_text noted period t p
told_nothing None period t p none = refl
told_nothing (Some kind) period t p none =
    let n = first_of_notes p.board.chips p.board.nets in
    sym (ap (λ (vs : List VectorBit). draw_judging kind n period t.messages vs no_note p) none ∙ unjudged kind n period t.messages p)

-- ---- one cycle

module _ (kind : Kind) (n period : ℕ) (rest : List Message) (note : Note) (p : Pen) where
  abbrev others : List VectorBit → Note → Pen → List ℕ
  others vs next q = draw_judging kind n period rest vs next q

  -- what is wanted behind a cycle in which this bit is judged, if one is
  abbrev pub wants_left : Cycle → Option VectorBit → List VectorBit → List VectorBit
  wants_left c None vs = vs
  wants_left c (Some v) vs = wanted_behind kind (note_behind period c (Some v) note p).failing vs

  pen_behind : (c : Cycle) → after_mark period (high_of c) (low_pen period c p) ≡ after_drawing period (cycle_messages c) p
  pen_behind c = sym (cycle-pen period c p)

  -- what is told, and the message
  spread : (a b d e : List ℕ) (l : List ℕ) → a ++ (b ++ (d ++ (e ++ l))) ≡ (a ++ b) ++ ((d ++ e) ++ l)
  spread a b d e l = ap (λ (k : List ℕ). a ++ (b ++ k)) (sym (append_assoc d e l)) ∙ sym (append_assoc a b ((d ++ e) ++ l))

  abbrev low_change : Cycle → List ℕ
  low_change c = note_change p.marks.time n note (low_note note)

  abbrev high_change : Cycle → Option VectorBit → List ℕ
  high_change c o = note_change (low_pen period c p).marks.time n (low_note note) (note_behind period c o note p)

  -- of two messages
  together : (a b : List ℕ) (vs : List VectorBit) (next : Note) (c : Cycle)
      → a ++ (b ++ others vs next (after_mark period (high_of c) (low_pen period c p)))
      ≡ (a ++ b) ++ others vs next (after_drawing period (cycle_messages c) p)
  together a b vs next c =
      sym (append_assoc a b (others vs next (after_mark period (high_of c) (low_pen period c p))))
      ∙ ap (λ (q : Pen). (a ++ b) ++ others vs next q) (pen_behind c)

  abbrev messages_at : Cycle → (read : Bool) → List Message
  messages_at c read = (low_of c ∷ (if read then Ask ∷ [] else []) ++ high_of c ∷ []) ++ rest

  pub judged_cycle : (c : Cycle) (v : VectorBit) (vs : List VectorBit) → c.read ≡ true
      → draw_judging kind n period (cycle_messages c ++ rest) (v ∷ vs) note p
      ≡ cycle_text n period c (Some v) note p
      ++ others (wants_left c (Some v) vs) (note_behind period c (Some v) note p) (after_drawing period (cycle_messages c) p)
  judged_cycle c v vs read =
      ap (λ (b : Bool). draw_judging kind n period (messages_at c b) (v ∷ vs) note p) read
      ∙ spread (low_change c) (mark (low_of c) p) (high_change c (Some v)) (mark (high_of c) (low_pen period c p))
      (others (wants_left c (Some v) vs) (note_behind period c (Some v) note p) (after_mark period (high_of c) (low_pen period c p)))
      ∙ together (noted_mark n note (low_note note) (low_of c) p)
      (noted_mark n (low_note note) (note_behind period c (Some v) note p) (high_of c) (low_pen period c p))
      (wants_left c (Some v) vs) (note_behind period c (Some v) note p) c

  pub plain_cycle : (c : Cycle) (vs : List VectorBit) → (c.read ≡ false) ⊎ (vs ≡ [])
      → draw_judging kind n period (cycle_messages c ++ rest) vs note p
      ≡ cycle_text n period c None note p ++ others vs (note_behind period c None note p) (after_drawing period (cycle_messages c) p)
  plain_cycle c vs (inl none) =
      ap (λ (b : Bool). draw_judging kind n period (messages_at c b) vs note p) none
      ∙ spread (low_change c) (mark (low_of c) p) (high_change c None) (mark (high_of c) (low_pen period c p))
      (others vs (note_behind period c None note p) (after_mark period (high_of c) (low_pen period c p)))
      ∙ together (noted_mark n note (low_note note) (low_of c) p)
      (noted_mark n (low_note note) (note_behind period c None note p) (high_of c) (low_pen period c p)) vs (note_behind period c None note p) c
  plain_cycle c vs (inr none) =
      ap (λ (ws : List VectorBit). draw_judging kind n period (messages_at c c.read) ws note p) none
      ∙ by c.read
      ∙ spread (low_change c) (mark (low_of c) p) (high_change c None) (mark (high_of c) (low_pen period c p))
      (others [] (note_behind period c None note p) (after_mark period (high_of c) (low_pen period c p)))
      ∙ together (noted_mark n note (low_note note) (low_of c) p)
      (noted_mark n (low_note note) (note_behind period c None note p) (high_of c) (low_pen period c p)) [] (note_behind period c None note p) c
      ∙ ap (λ (ws : List VectorBit). cycle_text n period c None note p ++ others ws (note_behind period c None note p) (after_drawing period (cycle_messages c) p)) (sym none)
    where
      high : List ℕ
      high =
          high_change c None
          ++ (mark (high_of c) (low_pen period c p)
          ++ others [] (note_behind period c None note p) (after_mark period (high_of c) (low_pen period c p)))

      -- a question behind the last bit that is wanted tells nothing
      by : (read : Bool) → draw_judging kind n period (messages_at c read) [] note p ≡ low_change c ++ (mark (low_of c) p ++ high)
      by false = refl
      by true =
          ap (λ (l : List ℕ). low_change c ++ (mark (low_of c) p ++ (l ++ high))) (unchanged_note (low_pen period c p).marks.time n (low_note note))

  abbrev text : Cycle → Option VectorBit → List VectorBit → List ℕ
  text c o vs = cycle_text n period c o note p ++ others vs (note_behind period c o note p) (after_drawing period (cycle_messages c) p)

  -- a cycle that asks for this bit, from a place of a vector on
  judged_from : (c : Cycle) (bits : List VectorBit) (at i : ℕ) → Asks c.read bits at (Some i)
      → draw_judging kind n period (cycle_messages c ++ rest) (wanted_bits (drop at bits)) note p
      ≡ text c (slice_get bits i) (wanted_behind kind (note_behind period c (slice_get bits i) note p).failing (wanted_bits (drop (i + 1) bits)))
  judged_from c bits at i asks =
      let v = asks.2.0 in
      let there : slice_get bits i ≡ Some v = asks.2.1 in
      let behind = wanted_bits (drop (i + 1) bits) in
      ap (λ (vs : List VectorBit). draw_judging kind n period (cycle_messages c ++ rest) vs note p) asks.2.2
      ∙ judged_cycle c v behind asks.0
      ∙ (λ j. text c (sym there j) (wanted_behind kind (note_behind period c (sym there j) note p).failing behind))

  -- a cycle that asks so, from a place of a vector on
  pub told_cycle : (c : Cycle) (bits : List VectorBit) (at behind : ℕ) (asked : Option ℕ) → Asks c.read bits at asked
      → MatchOption asked (behind ≡ at)
      (λ i. wanted_bits (drop behind bits) ≡ wanted_behind kind (note_behind period c (asked_bit bits asked) note p).failing (wanted_bits (drop (i + 1) bits)))
      → draw_judging kind n period (cycle_messages c ++ rest) (wanted_bits (drop at bits)) note p
      ≡ cycle_text n period c (asked_bit bits asked) note p
      ++ others (wanted_bits (drop behind bits)) (note_behind period c (asked_bit bits asked) note p) (after_drawing period (cycle_messages c) p)
  told_cycle c bits at behind None asks is =
      plain_cycle c (wanted_bits (drop at bits)) asks
      ∙ ap (λ (k : ℕ). cycle_text n period c None note p ++ others (wanted_bits (drop k bits)) (note_behind period c None note p) (after_drawing period (cycle_messages c) p)) (sym is)
  told_cycle c bits at behind (Some i) asks is =
      judged_from c bits at i asks
      ∙ ap (text c (slice_get bits i)) (sym is)

  -- whatever is wanted behind it
  pub told_any : (c : Cycle) (bits : List VectorBit) (at : ℕ) (asked : Option ℕ) → Asks c.read bits at asked
      → (l : List ℕ) × (draw_judging kind n period (cycle_messages c ++ rest) (wanted_bits (drop at bits)) note p ≡ cycle_text n period c (asked_bit bits asked) note p ++ l)
  told_any c bits at None asks =
      (others (wanted_bits (drop at bits)) (note_behind period c None note p) (after_drawing period (cycle_messages c) p), plain_cycle c (wanted_bits (drop at bits)) asks)
  told_any c bits at (Some i) asks =
      let o = slice_get bits i in (
        others (wanted_behind kind (note_behind period c o note p).failing (wanted_bits (drop (i + 1) bits))) (note_behind period c o note p) (after_drawing period (cycle_messages c) p),
        judged_from c bits at i asks,
      )

-- ---- the cycles of a scan

abbrev pub closed_of : List Cycle → List Message
closed_of cs = flat_map cycle_messages cs ++ closing_messages

pub next_closed : (c : Cycle) (cs : List Cycle) → closed_of (c ∷ cs) ≡ cycle_messages c ++ closed_of cs
next_closed c cs = append_assoc (cycle_messages c) (flat_map cycle_messages cs) closing_messages

pub pen_left : (period : ℕ) (c : Cycle) (cs : List Cycle) (p q : Pen) → q ≡ after_drawing period (cycle_messages c) p
    → after_drawing period (closed_of (c ∷ cs)) p ≡ after_drawing period (closed_of cs) q
pen_left period c cs p q at =
    ap (λ (ms : List Message). after_drawing period ms p) (next_closed c cs)
    ∙ pen-both period (cycle_messages c) (closed_of cs) p
    ∙ ap (after_drawing period (closed_of cs)) (sym at)

-- the low level that closes them
pub closed_text : (kind : Kind) (n period : ℕ) (vs : List VectorBit) (note : Note) (p : Pen)
    → noted_mark n note (low_note note) (Write false false false) p ≡ draw_judging kind n period closing_messages vs note p
closed_text kind n period vs note p =
    ap (λ (l : List ℕ). note_change p.marks.time n note (low_note note) ++ l) (sym (append-nil (mark (Write false false false) p)))

-- ---- which bit is asked for

pub asks_of : (read : Bool) (bits : List VectorBit) (at : ℕ) (r : Option ℕ) → read ≡ true
    → MatchOption r (wanted_bits (drop at bits) ≡ [])
    (λ i. (i < length bits) × (v : VectorBit) × (slice_get bits i ≡ Some v) × (wanted_bits (drop at bits) ≡ v ∷ wanted_bits (drop (i + 1) bits)))
    → Asks read bits at r
asks_of read bits at None is m = inr m
asks_of read bits at (Some i) is m = (is, m.0, (m.1, m.2, m.3))

pub asked_inside : (read : Bool) (bits : List VectorBit) (at : ℕ) (r : Option ℕ) → Asks read bits at r → (i : ℕ) → r ≡ Some i → i < length bits
asked_inside read bits at None asks i e = absurd cc
asked_inside read bits at (Some k) asks i e = subst (λ (j : ℕ). j < length bits) (ap (λ (o : Option ℕ). unwrap_or o 0) e) asks.1

-- what is told of it where TCK goes high
pub high_so : (o : Option VectorBit) (tdo : Bool) (low : Note) (r : Bool × Option Bool) (f : Option (Part × ℕ))
    → option_map {U = Bool × Option Bool} (λ b. (b.tdi, b.wanted)) o ≡ Some r
    → ((v : VectorBit) → o ≡ Some v → f ≡ (if differs v.wanted tdo then Some (v.part, v.place) else None))
    → record { wanted = r.1; failing = f } ≡ high_note o tdo low
high_so None tdo low r f bit fails = absurd cc
high_so (Some v) tdo low r f bit fails =
    let want : r.1 ≡ v.wanted = sym (ap (λ (o : Option (Bool × Option Bool)). option_and_then (λ x. x.1) o) bit) in
    (λ i. record { wanted = want i; failing = fails v refl i })

-- ---- one cycle of those that are left

module _ (kind : Kind) (n period : ℕ) (bits : List VectorBit) (at : ℕ) (asked : Option ℕ) (c : Cycle) (cs rest : List Cycle) (first : cs ≡ c ∷ rest) (asks : Asks c.read bits at asked)
    (note : Note) (p : Pen) where
  abbrev now : List ℕ
  now = draw_judging kind n period (closed_of cs) (wanted_bits (drop at bits)) note p

  opened : now ≡ draw_judging kind n period (cycle_messages c ++ closed_of rest) (wanted_bits (drop at bits)) note p
  opened = ap (λ (ms : List Message). draw_judging kind n period ms (wanted_bits (drop at bits)) note p) (ap closed_of first ∙ next_closed c rest)

  pub one_lost : (l : List ℕ) × (now ≡ cycle_text n period c (asked_bit bits asked) note p ++ l)
  one_lost = let any = told_any kind n period (closed_of rest) note p c bits at asked asks in (any.0, opened ∙ any.1)

  pub one_told : (behind : ℕ) (next : Note) (q : Pen) → next ≡ note_behind period c (asked_bit bits asked) note p → q ≡ after_drawing period (cycle_messages c) p
      → MatchOption asked (behind ≡ at) (λ i. wanted_bits (drop behind bits) ≡ wanted_behind kind next.failing (wanted_bits (drop (i + 1) bits)))
      → now ≡ cycle_text n period c (asked_bit bits asked) note p ++ draw_judging kind n period (closed_of rest) (wanted_bits (drop behind bits)) next q
  one_told behind next q same left is =
      opened
      ∙ told_cycle kind n period (closed_of rest) note p c bits at behind asked asks
      (subst (λ (x : Note). MatchOption asked (behind ≡ at) (λ i. wanted_bits (drop behind bits) ≡ wanted_behind kind x.failing (wanted_bits (drop (i + 1) bits)))) same is)
      ∙ (λ j. cycle_text n period c (asked_bit bits asked) note p ++ draw_judging kind n period (closed_of rest) (wanted_bits (drop behind bits)) (sym same j) (sym left j))

  pub one_pen : (q : Pen) → q ≡ after_drawing period (cycle_messages c) p → after_drawing period (closed_of cs) p ≡ after_drawing period (closed_of rest) q
  one_pen q left = ap (λ (l : List Cycle). after_drawing period (closed_of l) p) first ∙ pen_left period c rest p q left

-- ---- where bits are wanted behind a cycle

pub drop_whole : {X : Type 0} (xs : List X) → drop (length xs) xs ≡ []
drop_whole [] = refl
drop_whole (x ∷ xs) = drop_whole xs

pub stops_behind : (failing : Option (Part × ℕ)) (vs : List VectorBit) → is_some failing ≡ true → [] ≡ wanted_behind Stops failing vs
stops_behind (Some f) vs is = refl
stops_behind None vs is = cc

pub goes_on_behind : (failing : Option (Part × ℕ)) (vs : List VectorBit) → is_some failing ≡ false → vs ≡ wanted_behind Stops failing vs
goes_on_behind (Some f) vs is = cc
goes_on_behind None vs is = refl

-- ---- steps

-- a step that is no scan wants nothing
pub no_scan : (a : Action) → ((column : Column) (v : declared_vector.Vector) (end : State) → ¬ (a ≡ action.Scan column v end)) → wants_of (seen.step a) ≡ []
no_scan (action.Scan column v end) never = absurd (never column v end refl)
no_scan (action.Go s) never = refl
no_scan (action.Path path) never = refl
no_scan (action.Run run n end) never = refl
no_scan (action.Trst word) never = refl

-- `Quit` among messages: the full play ends with its only one, and the player sends it only for all answers.
use Rattle.std.proofs.Common.{◌≡◌, Bool, true, false, ◌||◌, ℕ, zero, suc, ◌+◌, ◌<◌, ◌≤◌, min, List, [], ◌∷◌, ◌++◌, length, drop, refl, sym, ap, ◌∙◌, subst, arith, append_assoc, length-append, length-drop, Option, Some, None}
use Rattle.std.proofs.lemmas.Bool.{ltb-true, ltb-false}
use Rattle.std.specs.Prelude.{nat_lt, flat_map}
use Rattle.std.specs.List.{AllByRecursion}
use Rattle.jt_tap.specs.declared.State.{State}
use Rattle.jt_tap.specs.declared.State.TheVariants.{Reset}
use Rattle.bitbang_protocol.specs.declared.Cycle.{Cycle}
use Rattle.bitbang_protocol.specs.declared.Message.{Message}
use Rattle.bitbang_protocol.specs.declared.Message.TheVariants.{Write, Ask, Quit, Light, Lines}
use Rattle.bitbang_protocol.specs.Protocol.{cycle_messages}
use Rattle.board_model.specs.Chain.{BoardState, hear}
use Rattle.scan_vectors.specs.declared.part.Part.{Part}
use Rattle.scan_vectors.specs.Vector.{judge}
use Rattle.bitbang.specs.Steps.{Step, Scan, Go, Path, Run, Trst, place_after, Numbered}
use Rattle.svf_words.specs.declared.keywords.TrstWord.TheVariants.{On, Off, Z, Absent}
use Rattle.bitbang_protocol.specs.Cycles.{closed_messages}
use Rattle.bitbang.specs.Cycles.{cycles}
use Rattle.bitbang.specs.StepMessages.{line_message, step_messages}
use Rattle.play_model.specs.Play.{Turn, full_play, sent, step_turns, turns, up_to_asks}
use Rattle.play_model.proofs.Asks.{AllAsk, asks, hear-asks, played_of}
use Rattle.play_model.proofs.GrowthByPrefix.{judge-more}
use Rattle.play_model.proofs.Fronts.{empty-append, empty-length}

abbrev pub has_quit : List Message → Bool
has_quit [] = false
has_quit (Quit ∷ ms) = true
has_quit (m ∷ ms) = has_quit ms

pub quit-append : (xs ys : List Message) → has_quit (xs ++ ys) ≡ has_quit xs || has_quit ys
quit-append [] ys = refl
quit-append (Quit ∷ xs) ys = refl
quit-append (Ask ∷ xs) ys = quit-append xs ys
quit-append (Write tck tms tdi ∷ xs) ys = quit-append xs ys
quit-append (Light l ∷ xs) ys = quit-append xs ys
quit-append (Lines t s ∷ xs) ys = quit-append xs ys

pub or-right : (a b : Bool) → a ≡ false → (a || b) ≡ b
or-right true b e = absurd (cc)
or-right false b e = refl

pub or-right-false : (a b : Bool) → (a || b) ≡ false → b ≡ false
or-right-false true b e = absurd (cc)
or-right-false false b e = e

-- in a list that ends with its only `Quit`, what has one is all of it
pub quit-last : (ms rest init : List Message) → ms ++ rest ≡ init ++ Quit ∷ [] → has_quit init ≡ false → has_quit ms ≡ true → rest ≡ []
quit-last [] rest init e none some = absurd (cc)
quit-last (m ∷ ms) rest [] e none some = empty-append ms rest (ap (λ l. drop 1 l) e)
quit-last (m ∷ ms) rest (i ∷ init) e none some =
    split m i ms rest init (head-same e) (ap (λ l. drop 1 l) e) none some (λ n s. quit-last ms rest init (ap (λ l. drop 1 l) e) n s)
  where
    head_or : List Message → Message
    head_or [] = m
    head_or (x ∷ xs) = x

    head-same : m ∷ (ms ++ rest) ≡ i ∷ (init ++ Quit ∷ []) → m ≡ i
    head-same e = ap head_or e

    split : (m i : Message) (ms rest init : List Message) → m ≡ i → ms ++ rest ≡ init ++ Quit ∷ [] → has_quit (i ∷ init) ≡ false → has_quit (m ∷ ms) ≡ true
        → (has_quit init ≡ false → has_quit ms ≡ true → rest ≡ []) → rest ≡ []
    split m Quit ms rest init same e none some more = absurd (cc)
    split m Ask ms rest init same e none some more = more none (subst (λ (n : Message). has_quit (n ∷ ms) ≡ true) same some)
    split m (Write tck tms tdi) ms rest init same e none some more = more none (subst (λ (n : Message). has_quit (n ∷ ms) ≡ true) same some)
    split m (Light l) ms rest init same e none some more = more none (subst (λ (n : Message). has_quit (n ∷ ms) ≡ true) same some)
    split m (Lines t s) ms rest init same e none some more = more none (subst (λ (n : Message). has_quit (n ∷ ms) ≡ true) same some)

-- A part of a turn without `Quit` has none.
pub asks-no-quit : (ms : List Message) (n : ℕ) → has_quit ms ≡ false → has_quit (up_to_asks ms n) ≡ false
asks-no-quit [] n e = refl
asks-no-quit (Ask ∷ ms) zero e = refl
asks-no-quit (Ask ∷ ms) (suc n) e = asks-no-quit ms n e
asks-no-quit (Quit ∷ ms) n e = absurd (cc)
asks-no-quit (Write tck tms tdi ∷ ms) n e = asks-no-quit ms n e
asks-no-quit (Light l ∷ ms) n e = asks-no-quit ms n e
asks-no-quit (Lines t s ∷ ms) n e = asks-no-quit ms n e

-- It has as many questions as are allowed, or all.
pub asks-up-to : (ms : List Message) (n : ℕ) → asks (up_to_asks ms n) ≡ min (asks ms) n
asks-up-to [] n = omega arith
asks-up-to (Ask ∷ ms) zero = omega arith
asks-up-to (Ask ∷ ms) (suc n) = let e = asks-up-to ms n in omega arith
asks-up-to (Quit ∷ ms) n = asks-up-to ms n
asks-up-to (Write tck tms tdi ∷ ms) n = asks-up-to ms n
asks-up-to (Light l ∷ ms) n = asks-up-to ms n
asks-up-to (Lines t s ∷ ms) n = asks-up-to ms n

pub asks-append : (xs ys : List Message) → asks (xs ++ ys) ≡ asks xs + asks ys
asks-append [] ys = omega arith
asks-append (Ask ∷ xs) ys = let e = asks-append xs ys in omega arith
asks-append (Write tck tms tdi ∷ xs) ys = asks-append xs ys
asks-append (Quit ∷ xs) ys = asks-append xs ys
asks-append (Light l ∷ xs) ys = asks-append xs ys
asks-append (Lines t s ∷ xs) ys = asks-append xs ys

-- No step has a `Quit`.
quit-cycle : (tms tdi read : Bool) → has_quit (cycle_messages (record { tms = tms; tdi = tdi; read = read })) ≡ false
quit-cycle tms tdi true = refl
quit-cycle tms tdi false = refl

quit-cycles : (cs : List Cycle) → has_quit (flat_map cycle_messages cs) ≡ false
quit-cycles [] = refl
quit-cycles (c ∷ cs) =
    quit-append (cycle_messages c) (flat_map cycle_messages cs) ∙ or-right _ _ (quit-cycle c.tms c.tdi c.read) ∙ quit-cycles cs

quit-closed : (cs : List Cycle) → has_quit (closed_messages cs) ≡ false
quit-closed [] = refl
quit-closed (c ∷ cs) = quit-append (flat_map cycle_messages (c ∷ cs)) (Write false false false ∷ []) ∙ or-right _ _ (quit-cycles (c ∷ cs))

quit-line : (step : Step) → has_quit (line_message step) ≡ false
quit-line (Scan column v end) = refl
quit-line (Go s) = refl
quit-line (Path path) = refl
quit-line (Run run n end) = refl
quit-line (Trst On) = refl
quit-line (Trst Off) = refl
quit-line (Trst Z) = refl
quit-line (Trst Absent) = refl

quit-step : (place : State) (step : Step) → has_quit (step_messages place step) ≡ false
quit-step place step = quit-append (line_message step) (closed_messages (cycles place step)) ∙ or-right _ _ (quit-line step) ∙ quit-closed (cycles place step)

abbrev pub NoneQuit : List Turn → Type 0
NoneQuit ts = AllByRecursion (λ t. has_quit t.messages ≡ false) ts

steps-no-quit : (place : State) (ss : List Numbered) → NoneQuit (step_turns place ss)
steps-no-quit place [] = tt
steps-no-quit place (s ∷ ss) = (quit-step place s.what, steps-no-quit (place_after place s.what) ss)

pub turns-no-quit : (ss : List Numbered) → NoneQuit (turns ss)
turns-no-quit ss = (refl, steps-no-quit Reset ss)

-- What the player sends and what is played, by cases that a proof can turn.
abbrev pub sent_of : (window : ℕ) → Turn → List Turn → List Bool → Bool → Option (Part × ℕ) → List Message
sent_of window t ts got short found =
    let rest = sent window ts (drop (length t.wants) got) in
    elim short [
      | true ↦ up_to_asks t.messages (length got + window)
      | false ↦ t.messages ++ elim found [ None ↦ rest | Some f ↦ Quit ∷ [] ]
    ]

-- The full play's messages end with their only `Quit`.
pub ends-with-quit : (ts : List Turn) (b : BoardState) → NoneQuit ts
    → (init : List Message) × (init ++ Quit ∷ [] ≡ (full_play ts b).messages) × (has_quit init ≡ false)
ends-with-quit [] b none = ([], refl, refl)
ends-with-quit (t ∷ ts) b none =
    one (judge t.wants (hear t.messages b).answers) (ends-with-quit ts (hear t.messages b).board none.1)
  where
    one : (found : Option (Part × ℕ))
        → ((init : List Message) × (init ++ Quit ∷ [] ≡ (full_play ts (hear t.messages b).board).messages) × (has_quit init ≡ false))
        → (init : List Message) × (init ++ Quit ∷ [] ≡ (played_of t ts (hear t.messages b) found).messages) × (has_quit init ≡ false)
    one None rest = (
      t.messages ++ rest.0,
      append_assoc t.messages rest.0 (Quit ∷ []) ∙ ap (λ r. t.messages ++ r) rest.1,
      quit-append t.messages rest.0 ∙ or-right _ _ none.0 ∙ rest.2,
    )
    one (Some f) rest = (t.messages, refl, none.0)

pub full-last : (ts : List Turn) (b : BoardState) → NoneQuit ts → (ms rest : List Message)
    → ms ++ rest ≡ (full_play ts b).messages → has_quit ms ≡ true → rest ≡ []
full-last ts b none ms rest e some =
    let ends = ends-with-quit ts b none in
    quit-last ms rest ends.0 (e ∙ sym ends.1) ends.2 some

pub full-quits : (ts : List Turn) (b : BoardState) → NoneQuit ts → has_quit (full_play ts b).messages ≡ true
full-quits ts b none =
    let ends = ends-with-quit ts b none in
    ap has_quit (sym ends.1) ∙ quit-append ends.0 (Quit ∷ []) ∙ or-right _ _ ends.2

-- A player with a window that has not sent `Quit` has asked more than was answered.
eager-one : (window : ℕ) → 0 < window → (t : Turn) (ts : List Turn) (got : List Bool) → asks t.messages ≡ length t.wants
    → (has_quit (sent window ts (drop (length t.wants) got)) ≡ false → length (drop (length t.wants) got) < asks (sent window ts (drop (length t.wants) got)))
    → (short : Bool) (found : Option (Part × ℕ)) → nat_lt (length got) (length t.wants) ≡ short
    → has_quit (sent_of window t ts got short found) ≡ false → length got < asks (sent_of window t ts got short found)
eager-one window some t ts got fits rest true found e none =
    omega (arith, asks-up-to t.messages (length got + window), ltb-true (length got) (length t.wants) e)
eager-one window some t ts got fits rest false None e none =
    let later = sent window ts (drop (length t.wants) got) in
    let more : length (drop (length t.wants) got) < asks later = rest (or-right-false _ _ (sym (quit-append t.messages later) ∙ none)) in
    omega (arith, asks-append t.messages later, length-drop (length t.wants) got)
eager-one window some t ts got fits rest false (Some f) e none =
    absurd (impossible (or-right-false (has_quit t.messages) true (sym (quit-append t.messages (Quit ∷ [])) ∙ none)))
  where
    impossible : true ≡ false → ⊥
    impossible e = cc

pub sent-eager : (window : ℕ) → 0 < window → (ts : List Turn) → AllAsk ts → (got : List Bool)
    → has_quit (sent window ts got) ≡ false → length got < asks (sent window ts got)
sent-eager window some [] all got none = absurd (cc)
sent-eager window some (t ∷ ts) all got none =
    eager-one window some t ts got all.0 (λ n. sent-eager window some ts all.1 (drop (length t.wants) got) n)
    (nat_lt (length got) (length t.wants)) (judge t.wants got) refl none

-- The player sends `Quit` for all answers alone.
pub append-front : (A R got more : List Bool) → length A ≤ length got → got ++ more ≡ A ++ R
    → (got ≡ A ++ drop (length A) got) × (drop (length A) got ++ more ≡ R)
append-front [] R got more le e = (refl, e)
append-front (a ∷ A) R [] more le e = absurd (omega arith)
append-front (a ∷ A) R (g ∷ got) more le e =
    let tails : got ++ more ≡ A ++ R = ap (λ l. drop 1 l) e in
    let rest = append-front A R got more (omega arith) tails in
    let same : g ≡ a = ap head_or e in
    ((λ i. same i ∷ rest.0 i), rest.1)
  where
    head_or : List Bool → Bool
    head_or [] = g
    head_or (x ∷ xs) = x

pub sent-whole : (window : ℕ) (ts : List Turn) (b : BoardState) → AllAsk ts → NoneQuit ts → (got more : List Bool)
    → got ++ more ≡ (full_play ts b).answers → has_quit (sent window ts got) ≡ true → more ≡ []
sent-whole window [] b all none got more e some = empty-append got more e
sent-whole window (t ∷ ts) b all none got more e some =
    one (nat_lt (length got) (length t.wants)) refl (judge t.wants H) refl (judge t.wants got) refl e some
    (λ g m p q. sent-whole window ts (hear t.messages b).board all.1 none.1 g m p q)
  where
    H : List Bool
    H = (hear t.messages b).answers

    long : length H ≡ length t.wants
    long = hear-asks t.messages b ∙ all.0

    later : List Bool
    later = drop (length t.wants) got

    one : (short : Bool) → nat_lt (length got) (length t.wants) ≡ short
        → (found : Option (Part × ℕ)) → judge t.wants H ≡ found → (now : Option (Part × ℕ)) → judge t.wants got ≡ now
        → got ++ more ≡ (played_of t ts (hear t.messages b) found).answers → has_quit (sent_of window t ts got short now) ≡ true
        → ((g m : List Bool) → g ++ m ≡ (full_play ts (hear t.messages b).board).answers → has_quit (sent window ts g) ≡ true → m ≡ [])
        → more ≡ []
    one true s found f now g e some rest = absurd (clash (asks-no-quit t.messages (length got + window) none.0) some)
      where
        clash : {x : Bool} → x ≡ false → x ≡ true → ⊥
        clash p q = cc
    one false s (Some x) f now g e some rest =
        let enough = ltb-false (length got) (length t.wants) s in
        empty-length more (omega (arith, length-append got more, ap length e, long))
    one false s None f (Some x) g e some rest = absurd (clash g same)
      where
        enough : length H ≤ length got
        enough = omega (arith, ltb-false (length got) (length t.wants) s, long)

        parts : (got ≡ H ++ drop (length H) got) × (drop (length H) got ++ more ≡ (full_play ts (hear t.messages b).board).answers)
        parts = append-front H _ got more enough e

        same : judge t.wants got ≡ None
        same = ap (judge t.wants) parts.0 ∙ judge-more t.wants H (drop (length H) got) (omega (arith, long)) ∙ f

        clash : judge t.wants got ≡ Some x → judge t.wants got ≡ None → ⊥
        clash p q = cc
    one false s None f None g e some rest =
        let enough : length H ≤ length got = omega (arith, ltb-false (length got) (length t.wants) s, long) in
        let parts = append-front H _ got more enough e in
        rest later more
        (ap (λ n. drop n got ++ more) (sym long) ∙ parts.1)
        (sym (or-right _ _ none.0) ∙ sym (quit-append t.messages (sent window ts later)) ∙ some)

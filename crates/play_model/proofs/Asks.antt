-- As many `R` as wanted bits in each turn; so for the full play's answers the player sends the full play's messages.
use Rattle.std.proofs.Common.{◌≡◌, Bool, true, false, ℕ, zero, suc, ◌+◌, ◌≤◌, List, [], ◌∷◌, ◌++◌, length, drop, replicate, refl, sym, ap, ◌∙◌, map, arith, length-append}
use Rattle.std.proofs.Math.Seq.{drop-append_seam}
use Rattle.std.proofs.lemmas.Bool.{ltb-true}
use Rattle.std.specs.Prelude.{Option, Some, None, if◌then◌else◌, is_some, filter, flat_map, nat_lt}
use Rattle.std.specs.List.{AllByRecursion}
use Rattle.jt_tap.specs.declared.State.{State}
use Rattle.jt_tap.specs.declared.State.TheVariants.{Reset}
use Rattle.bitbang_protocol.specs.declared.Message.{Message}
use Rattle.bitbang_protocol.specs.declared.Message.TheVariants.{Write, Ask, Quit, Light, Lines}
use Rattle.board_model.specs.Chain.{BoardState, Heard, hear, after_message}
use Rattle.scan_vectors.specs.declared.part.Part.{Part}
use Rattle.scan_vectors.specs.Vector.{VectorBit, judge}
use Rattle.bitbang.specs.Steps.{Step, Scan, Go, Path, Run, Trst, Numbered, place_after}
use Rattle.svf_words.specs.declared.keywords.TrstWord.TheVariants.{On, Off, Z, Absent}
use Rattle.play_model.specs.declared.ending.Ending.TheVariants.{Fail}
use Rattle.jt_tap.specs.Paths.{go, to_shift, from_exit1}
use Rattle.bitbang_protocol.specs.declared.Cycle.{Cycle}
use Rattle.bitbang_protocol.specs.Cycles.{entering, closed_messages}
use Rattle.bitbang.specs.Cycles.{scan_cycles, go_unless_there, cycles}
use Rattle.bitbang.specs.StepMessages.{line_message, step_messages}
use Rattle.bitbang_protocol.specs.Protocol.{cycle_messages}
use Rattle.play_model.specs.Play.{Turn, Played, wants_of, step_turns, turns, up_to_asks, sent, full_play}
use Rattle.play_model.proofs.GrowthByPrefix.{judge-more, hear-append}

-- how many questions a list of messages has
abbrev pub asks : List Message → ℕ
asks [] = 0
asks (Ask ∷ ms) = suc (asks ms)
asks (m ∷ ms) = asks ms

pub hear-asks : (ms : List Message) (b : BoardState) → length (hear ms b).answers ≡ asks ms
hear-asks [] b = refl
hear-asks (Ask ∷ ms) b = ap (λ n. suc n) (hear-asks ms (after_message Ask b))
hear-asks (Write tck tms tdi ∷ ms) b = hear-asks ms (after_message (Write tck tms tdi) b)
hear-asks (Quit ∷ ms) b = hear-asks ms (after_message Quit b)
hear-asks (Light l ∷ ms) b = hear-asks ms (after_message (Light l) b)
hear-asks (Lines t s ∷ ms) b = hear-asks ms (after_message (Lines t s) b)

asks-append : (xs ys : List Message) → asks (xs ++ ys) ≡ asks xs + asks ys
asks-append [] ys = omega arith
asks-append (Ask ∷ xs) ys = let e = asks-append xs ys in omega arith
asks-append (Write tck tms tdi ∷ xs) ys = asks-append xs ys
asks-append (Quit ∷ xs) ys = asks-append xs ys
asks-append (Light l ∷ xs) ys = asks-append xs ys
asks-append (Lines t s ∷ xs) ys = asks-append xs ys

-- how many cycles read
abbrev reads : List Cycle → ℕ
reads [] = 0
reads (c ∷ cs) = (if c.read then 1 else 0) + reads cs

asks-cycle : (tms tdi read : Bool) → asks (cycle_messages (record { tms = tms; tdi = tdi; read = read })) ≡ (if read then 1 else 0)
asks-cycle tms tdi true = refl
asks-cycle tms tdi false = refl

asks-cycles : (cs : List Cycle) → asks (flat_map cycle_messages cs) ≡ reads cs
asks-cycles [] = refl
asks-cycles (c ∷ cs) =
    asks-append (cycle_messages c) (flat_map cycle_messages cs) ∙ (λ i. asks-cycle c.tms c.tdi c.read i + asks-cycles cs i)

asks-closed : (cs : List Cycle) → asks (closed_messages cs) ≡ reads cs
asks-closed [] = refl
asks-closed (c ∷ cs) =
    let e = asks-append (flat_map cycle_messages (c ∷ cs)) (Write false false false ∷ []) in
    let f = asks-cycles (c ∷ cs) in
    e ∙ ap (λ n. n + 0) f ∙ omega arith

reads-append : (xs ys : List Cycle) → reads (xs ++ ys) ≡ reads xs + reads ys
reads-append [] ys = omega arith
reads-append (x ∷ xs) ys = let e = reads-append xs ys in omega arith

reads-walk : (path : List State) → reads (map entering path) ≡ 0
reads-walk [] = refl
reads-walk (s ∷ path) = let e = reads-walk path in omega arith

reads-stay : (n : ℕ) (s : State) → reads (replicate n (entering s)) ≡ 0
reads-stay zero s = refl
reads-stay (suc n) s = let e = reads-stay n s in omega arith

abbrev wanted_of : List VectorBit → List VectorBit
wanted_of v = filter (λ b. is_some b.wanted) v

wants-one : (b : Bool) (v : VectorBit) (n : ℕ) (vs : List VectorBit) → n ≡ length vs
    → (if b then 1 else 0) + n ≡ length (if b then v ∷ vs else vs)
wants-one true v n vs e = omega arith
wants-one false v n vs e = omega arith

reads-scan : (v : List VectorBit) → reads (scan_cycles v) ≡ length (wanted_of v)
reads-scan [] = refl
reads-scan (v ∷ []) = wants-one (is_some v.wanted) v 0 [] refl
reads-scan (v ∷ w ∷ vs) = wants-one (is_some v.wanted) v (reads (scan_cycles (w ∷ vs))) (wanted_of (w ∷ vs)) (reads-scan (w ∷ vs))

reads-step : (place : State) (step : Step) → reads (cycles place step) ≡ length (wants_of step)
reads-step place (Scan column v end) =
    let first = map entering (to_shift place column) in
    let last = map entering (from_exit1 column end) in
    let a = reads-append (first ++ scan_cycles v) last in
    let b = reads-append first (scan_cycles v) in
    let c = reads-walk (to_shift place column) in
    let d = reads-walk (from_exit1 column end) in
    let e = reads-scan v in
    omega arith
reads-step place (Go s) = reads-walk (go place s)
reads-step place (Path path) = reads-walk path
reads-step place (Run run n end) =
    let first = map entering (go_unless_there place run) in
    let last = map entering (go_unless_there run end) in
    let a = reads-append (first ++ replicate n (entering run)) last in
    let b = reads-append first (replicate n (entering run)) in
    let c = reads-walk (go_unless_there place run) in
    let d = reads-walk (go_unless_there run end) in
    let e = reads-stay n run in
    omega arith
reads-step place (Trst On) = refl
reads-step place (Trst Off) = refl
reads-step place (Trst Z) = refl
reads-step place (Trst Absent) = refl

no-asks : (step : Step) → asks (line_message step) ≡ 0
no-asks (Scan column v end) = refl
no-asks (Go s) = refl
no-asks (Path path) = refl
no-asks (Run run n end) = refl
no-asks (Trst On) = refl
no-asks (Trst Off) = refl
no-asks (Trst Z) = refl
no-asks (Trst Absent) = refl

-- A step asks as often as it wants a bit.
pub asks-step : (place : State) (step : Step) → asks (step_messages place step) ≡ length (wants_of step)
asks-step place step =
    asks-append (line_message step) (closed_messages (cycles place step))
    ∙ (λ i. no-asks step i + asks-closed (cycles place step) i)
    ∙ omega (arith, reads-step place step)

abbrev pub AllAsk : List Turn → Type 0
AllAsk ts = AllByRecursion (λ t. asks t.messages ≡ length t.wants) ts

steps-ask : (place : State) (ss : List Numbered) → AllAsk (step_turns place ss)
steps-ask place [] = tt
steps-ask place (s ∷ ss) = (asks-step place s.what, steps-ask (place_after place s.what) ss)

pub turns-ask : (ss : List Numbered) → AllAsk (turns ss)
turns-ask ss = (refl, steps-ask Reset ss)

abbrev sent_of : (window : ℕ) → Turn → List Turn → List Bool → Bool → Option (Part × ℕ) → List Message
sent_of window t ts got short found =
    let rest = sent window ts (drop (length t.wants) got) in
    elim short [
      | true ↦ up_to_asks t.messages (length got + window)
      | false ↦ t.messages ++ elim found [ None ↦ rest | Some f ↦ Quit ∷ [] ]
    ]

-- What is played where the first turn's judging ends so.
abbrev pub played_of : Turn → List Turn → Heard → Option (Part × ℕ) → Played
played_of t ts heard found =
    let rest = full_play ts heard.board in
    elim found [
      | None ↦ record { messages = t.messages ++ rest.messages; answers = heard.answers ++ rest.answers; ending = rest.ending; board = rest.board }
      | Some f ↦ record { messages = t.messages ++ Quit ∷ []; answers = heard.answers; ending = Fail t.command f.0 f.1; board = heard.board }
    ]

not-short : (n k : ℕ) (b : Bool) → nat_lt n k ≡ b → k ≤ n → b ≡ false
not-short n k true e le = absurd (omega (arith, ltb-true n k e))
not-short n k false e le = refl

full-one : (window : ℕ) (t : Turn) (ts : List Turn) (b : BoardState) → asks t.messages ≡ length t.wants
    → sent window ts (full_play ts (hear t.messages b).board).answers ≡ (full_play ts (hear t.messages b).board).messages
    → (found : Option (Part × ℕ)) → judge t.wants (hear t.messages b).answers ≡ found
    → sent window (t ∷ ts) (played_of t ts (hear t.messages b) found).answers ≡ (played_of t ts (hear t.messages b) found).messages
full-one window t ts b fits rest None e =
    let A = (hear t.messages b).answers in
    let B = (full_play ts (hear t.messages b).board).answers in
    let long : length A ≡ length t.wants = hear-asks t.messages b ∙ fits in
    let short : nat_lt (length (A ++ B)) (length t.wants) ≡ false =
    not-short (length (A ++ B)) (length t.wants) (nat_lt (length (A ++ B)) (length t.wants)) refl (omega (arith, length-append A B)) in
    let judged : judge t.wants (A ++ B) ≡ None = judge-more t.wants A B (omega arith) ∙ e in
    let dropped : drop (length t.wants) (A ++ B) ≡ B = ap (λ n. drop n (A ++ B)) (sym long) ∙ drop-append_seam A B in
    (λ i. sent_of window t ts (A ++ B) (short i) (judged i))
    ∙ (λ i. t.messages ++ sent window ts (dropped i))
    ∙ (λ i. t.messages ++ rest i)
full-one window t ts b fits rest (Some f) e =
    let A = (hear t.messages b).answers in
    let long : length A ≡ length t.wants = hear-asks t.messages b ∙ fits in
    let short : nat_lt (length A) (length t.wants) ≡ false =
    not-short (length A) (length t.wants) (nat_lt (length A) (length t.wants)) refl (omega arith) in
    (λ i. sent_of window t ts A (short i) (e i))

-- For the full play's answers the player sends exactly the full play's messages.
pub sent-full : (window : ℕ) (ts : List Turn) (b : BoardState) → AllAsk ts → sent window ts (full_play ts b).answers ≡ (full_play ts b).messages
sent-full window [] b all = refl
sent-full window (t ∷ ts) b all =
    full-one window t ts b all.0 (sent-full window ts (hear t.messages b).board all.1) (judge t.wants (hear t.messages b).answers) refl

-- the board answers the full play's messages by the full play's answers, and ends where it ends
pub hear-full : (ts : List Turn) (b : BoardState) → hear (full_play ts b).messages b ≡ record { answers = (full_play ts b).answers; board = (full_play ts b).board }
hear-full [] b = refl
hear-full (t ∷ ts) b = full-heard t ts b (judge t.wants (hear t.messages b).answers) (hear-full ts (hear t.messages b).board)
  where
    append-nil : (xs : List Bool) → xs ++ [] ≡ xs
    append-nil [] = refl
    append-nil (x ∷ xs) = ap (λ r. x ∷ r) (append-nil xs)

    full-heard : (t : Turn) (ts : List Turn) (b : BoardState) (found : Option (Part × ℕ))
        → hear (full_play ts (hear t.messages b).board).messages (hear t.messages b).board
        ≡ record { answers = (full_play ts (hear t.messages b).board).answers; board = (full_play ts (hear t.messages b).board).board }
        → hear (played_of t ts (hear t.messages b) found).messages b
        ≡ record { answers = (played_of t ts (hear t.messages b) found).answers; board = (played_of t ts (hear t.messages b) found).board }
    full-heard t ts b None rest =
        hear-append t.messages _ b
        ∙ (λ i. record { answers = (hear t.messages b).answers ++ (rest i).answers; board = (rest i).board })
    full-heard t ts b (Some f) rest =
        hear-append t.messages (Quit ∷ []) b
        ∙ (λ i. record { answers = append-nil (hear t.messages b).answers i; board = (hear t.messages b).board })

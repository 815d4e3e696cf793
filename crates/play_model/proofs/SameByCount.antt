-- What may be sent, the command in work and the ending, from how many answers there were and whether one differed.
use Rattle.std.proofs.Common.{◌≡◌, Bool, true, false, ◌||◌, ℕ, zero, suc, ◌+◌, ◌-◌, ◌<◌, ◌≤◌, List, [], ◌∷◌, ◌++◌, map, length, take, drop, find, refl, sym, ap, ◌∙◌, subst, arith, length-drop, Option, Some, None}
use Rattle.std.proofs.lemmas.Bool.{ltb-true, ltb-false, leb-true, leb-false}
use Rattle.std.proofs.lemmas.List.{length-map, drop-map}
use Rattle.std.specs.Prelude.{◌&&◌, ◌==◌, nat_le, nat_lt, if◌then◌else◌}
use Rattle.bitbang_protocol.specs.declared.Message.{Message}
use Rattle.bitbang_protocol.specs.declared.Message.TheVariants.{Quit}
use Rattle.scan_vectors.specs.declared.part.Part.{Part}
use Rattle.scan_vectors.specs.Vector.{VectorBit, judge}
use Rattle.play_model.specs.declared.ending.Ending.{Ending}
use Rattle.play_model.specs.declared.ending.Ending.TheVariants.{Fail, BadAnswer}
use Rattle.play_model.specs.Play.{Turn, ending_for, in_work, is_bad, sent, up_to_asks}
use Rattle.play_model.proofs.Asks.{AllAsk, asks}
use Rattle.play_model.specs.PlayingOn.{any_value, differing, ending_of, failures, unjudged}
use Rattle.play_model.proofs.AllFailures.{Judged, none, some, judged}
use Rattle.play_model.proofs.Fronts.{empty-length}
use Rattle.play_model.proofs.Quits.{NoneQuit, asks-append, asks-no-quit, has_quit, or-right, quit-append, sent_of}
use Rattle.play_model.specs.Histories.{bits_told}
use Rattle.play_model.specs.StreamLaws.{good}
use Rattle.play_model.specs.Streams.{command_at, may_send, some_differ, command_at_work}
use Rattle.play_model.proofs.Hearing.{failures-none}

le-test : (n k : ℕ) → n ≤ k → nat_le n k ≡ true
le-test n k le = one (nat_le n k) refl
  where
    one : (b : Bool) → nat_le n k ≡ b → b ≡ true
    one true e = refl
    one false e = absurd (omega (arith, leb-false n k e))

lt-test : (n k : ℕ) → n < k → nat_lt n k ≡ true
lt-test n k lt = one (nat_lt n k) refl
  where
    one : (b : Bool) → nat_lt n k ≡ b → b ≡ true
    one true e = refl
    one false e = absurd (omega (arith, ltb-false n k e))

not-lt-test : (n k : ℕ) → k ≤ n → nat_lt n k ≡ false
not-lt-test n k le = one (nat_lt n k) refl
  where
    one : (b : Bool) → nat_lt n k ≡ b → b ≡ false
    one true e = absurd (omega (arith, ltb-true n k e))
    one false e = refl

and-false : (a b : Bool) → b ≡ false → (a && b) ≡ false
and-false true b e = e
and-false false b e = refl

-- a turn that failed, was all answered, and is the last
pub record IsFailed (t : Turn) (ts : List Turn) (got : List Bool) : Type 0 where
  pub differ : some_differ (failures (t ∷ ts) got) ≡ true
  pub last : length got ≤ length t.wants

is-failed : (window : ℕ) (t : Turn) (ts : List Turn) (got : List Bool) → asks t.messages ≡ length t.wants → (f : Part × ℕ) → judge t.wants got ≡ Some f
    → length got ≤ asks (sent_of window t ts got false (Some f)) → IsFailed t ts got
is-failed window t ts got fits f e le =
    record { differ = of (subst (λ o. Judged t.command t.wants got o) e (judged t.command t.wants got)); last = omega (arith, le, fits, asks-append t.messages (Quit ∷ [])) }
  where
    of : Judged t.command t.wants got (Some f) → some_differ (failures (t ∷ ts) got) ≡ true
    of (some _ rest q) = ap (λ l. some_differ (l ++ failures ts (drop (length t.wants) got))) q

-- a turn that passed adds nothing, and no stop
pub record IsPassed (t : Turn) (ts : List Turn) (got : List Bool) : Type 0 where
  pub same : failures (t ∷ ts) got ≡ failures ts (drop (length t.wants) got)
  pub goes_on : (some_differ (failures (t ∷ ts) got) && nat_le (length got) (length t.wants)) ≡ false
  pub later : length (drop (length t.wants) got) ≡ length got - length t.wants

is-passed : (t : Turn) (ts : List Turn) (got : List Bool) → judge t.wants got ≡ None → IsPassed t ts got
is-passed t ts got e = record { same = alike; goes_on = one (nat_le (length got) w) refl; later = length-drop w got }
  where
    w : ℕ
    w = length t.wants

    of : Judged t.command t.wants got None → differing t.command t.wants got ≡ []
    of (none q) = q

    alike : failures (t ∷ ts) got ≡ failures ts (drop w got)
    alike = ap (λ l. l ++ failures ts (drop w got)) (of (subst (λ o. Judged t.command t.wants got o) e (judged t.command t.wants got)))

    one : (b : Bool) → nat_le (length got) w ≡ b → (some_differ (failures (t ∷ ts) got) && b) ≡ false
    one false q = and-false (some_differ (failures (t ∷ ts) got)) false refl
    one true q =
        let nothing : drop w got ≡ [] = empty-length (drop w got) (omega (arith, length-drop w got, leb-true (length got) w q)) in
        let no : failures (t ∷ ts) got ≡ [] = alike ∙ ap (failures ts) nothing ∙ failures-none ts in
        ap (λ l. some_differ l && true) no

later-asked : (window : ℕ) (t : Turn) (ts : List Turn) (got : List Bool) → asks t.messages ≡ length t.wants
    → length got ≤ asks (sent_of window t ts got false None)
    → length (drop (length t.wants) got) ≤ asks (sent window ts (drop (length t.wants) got))
later-asked window t ts got fits le =
    omega (arith, le, fits, asks-append t.messages (sent window ts (drop (length t.wants) got)), length-drop (length t.wants) got)

abbrev sends_of : (window : ℕ) → Turn → List Turn → ℕ → Bool → Bool → Bool → List Message
sends_of window t ts n stops short last =
    if short then up_to_asks t.messages (n + window) else
    t.messages ++ (if last then Quit ∷ [] else may_send window ts (n - length t.wants) stops)

pub sends-same : (window : ℕ) (ts : List Turn) → AllAsk ts → (got : List Bool) → length got ≤ asks (sent window ts got)
    → sent window ts got ≡ may_send window ts (length got) (some_differ (failures ts got))
sends-same window [] all got le = refl
sends-same window (t ∷ ts) all got le = one (nat_lt (length got) (length t.wants)) (judge t.wants got) refl le (sends-same window ts all.1 (drop (length t.wants) got))
  where
    D : Bool
    D = some_differ (failures (t ∷ ts) got)

    one : (short : Bool) (found : Option (Part × ℕ)) → judge t.wants got ≡ found → length got ≤ asks (sent_of window t ts got short found)
        → (length (drop (length t.wants) got) ≤ asks (sent window ts (drop (length t.wants) got))
        → sent window ts (drop (length t.wants) got)
        ≡ may_send window ts (length (drop (length t.wants) got)) (some_differ (failures ts (drop (length t.wants) got))))
        → sent_of window t ts got short found ≡ sends_of window t ts (length got) D short (D && nat_le (length got) (length t.wants))
    one true found e le rest = refl
    one false (Some f) e le rest =
        let h = is-failed window t ts got all.0 f e le in
        let both : (D && nat_le (length got) (length t.wants)) ≡ true =
        (λ i. h.differ i && le-test (length got) (length t.wants) h.last i) in
        λ i. t.messages ++ (if sym both i then Quit ∷ [] else may_send window ts (length got - length t.wants) D)
    one false None e le rest =
        let h = is-passed t ts got e in
        (λ i. t.messages ++ (rest (later-asked window t ts got all.0 le)
        ∙ (λ j. may_send window ts (h.later j) (some_differ (sym h.same j)))) i)
        ∙ (λ i. t.messages ++ (if sym h.goes_on i then Quit ∷ [] else may_send window ts (length got - length t.wants) D))

abbrev works_of : (statements : ℕ) → Turn → List Turn → (given n : ℕ) → Bool → Bool → Bool → ℕ
works_of statements t ts given n stops unsent last =
    if unsent then t.command else
    if last then suc statements else command_at_work statements ts (given - length t.messages) (n - length t.wants) stops

abbrev in_work_of : (statements : ℕ) → Turn → List Turn → ℕ → List Bool → Bool → Option (Part × ℕ) → ℕ
in_work_of statements t ts given got unsent found =
    elim unsent [
      | true ↦ t.command
      | false ↦ elim found [ None ↦ in_work statements ts (given - length t.messages) (drop (length t.wants) got) | Some f ↦ suc statements ]
    ]

or-right-false : (a b : Bool) → (a || b) ≡ false → b ≡ false
or-right-false true b e = absurd (cc)
or-right-false false b e = e

pub works-same : (statements window : ℕ) (ts : List Turn) → AllAsk ts → (given : ℕ) (got : List Bool) → length got ≤ asks (sent window ts got)
    → in_work statements ts given got ≡ command_at_work statements ts given (length got) (some_differ (failures ts got))
works-same statements window [] all given got le = refl
works-same statements window (t ∷ ts) all given got le =
    one (nat_lt given (length t.messages) || nat_lt (length got) (length t.wants)) refl (nat_lt (length got) (length t.wants)) refl (judge t.wants got) refl le
    (works-same statements window ts all.1 (given - length t.messages) (drop (length t.wants) got))
  where
    D : Bool
    D = some_differ (failures (t ∷ ts) got)

    one : (unsent : Bool) → (nat_lt given (length t.messages) || nat_lt (length got) (length t.wants)) ≡ unsent
        → (short : Bool) → nat_lt (length got) (length t.wants) ≡ short
        → (found : Option (Part × ℕ)) → judge t.wants got ≡ found → length got ≤ asks (sent_of window t ts got short found)
        → (length (drop (length t.wants) got) ≤ asks (sent window ts (drop (length t.wants) got))
        → in_work statements ts (given - length t.messages) (drop (length t.wants) got)
        ≡ command_at_work statements ts (given - length t.messages) (length (drop (length t.wants) got)) (some_differ (failures ts (drop (length t.wants) got))))
        → in_work_of statements t ts given got unsent found
        ≡ works_of statements t ts given (length got) D unsent (D && nat_le (length got) (length t.wants))
    one true u short s found e le rest = refl
    one false u true s found e le rest = absurd (clash (sym s ∙ or-right-false (nat_lt given (length t.messages)) (nat_lt (length got) (length t.wants)) u))
      where
        clash : true ≡ false → ⊥
        clash p = cc
    one false u false s (Some f) e le rest =
        let h = is-failed window t ts got all.0 f e le in
        let both : (D && nat_le (length got) (length t.wants)) ≡ true =
        (λ i. h.differ i && le-test (length got) (length t.wants) h.last i) in
        λ i. if sym both i then suc statements else command_at_work statements ts (given - length t.messages) (length got - length t.wants) D
    one false u false s None e le rest =
        let h = is-passed t ts got e in
        rest (later-asked window t ts got all.0 le)
        ∙ (λ j. command_at_work statements ts (given - length t.messages) (h.later j) (some_differ (sym h.same j)))
        ∙ (λ i. if sym h.goes_on i then suc statements else command_at_work statements ts (given - length t.messages) (length got - length t.wants) D)

-- the ending
abbrev end_of : Turn → List Turn → List ℕ → Option ℕ → Bool → Option (Part × ℕ) → Option Ending
end_of t ts got bad short found =
    let rest = ending_for ts (drop (length t.wants) got) in
    elim bad [
      | Some b ↦ Some (BadAnswer t.command b)
      | None ↦ if short then None else elim found [ None ↦ rest | Some f ↦ Some (Fail t.command f.0 f.1) ]
    ]

take-good : (n : ℕ) (got : List ℕ) → find is_bad got ≡ None → find is_bad (take n got) ≡ None
take-good zero got e = refl
take-good (suc n) [] e = refl
take-good (suc n) (g ∷ got) e = one (is_bad g) e (take-good n got)
  where
    one : (bad : Bool) → (if bad then Some g else find is_bad got) ≡ None → (find is_bad got ≡ None → find is_bad (take n got) ≡ None)
        → (if bad then Some g else find is_bad (take n got)) ≡ None
    one true e rest = e
    one false e rest = rest e

drop-good : (n : ℕ) (got : List ℕ) → find is_bad got ≡ None → find is_bad (drop n got) ≡ None
drop-good zero got e = e
drop-good (suc n) [] e = refl
drop-good (suc n) (g ∷ got) e = one (is_bad g) e (drop-good n got)
  where
    one : (bad : Bool) → (if bad then Some g else find is_bad got) ≡ None → (find is_bad got ≡ None → find is_bad (drop n got) ≡ None)
        → find is_bad (drop n got) ≡ None
    one true e rest = absurd (clash e)
      where
        clash : Some g ≡ None → ⊥
        clash p = cc
    one false e rest = rest e

-- Once `Q` is sent, and no bad answer came, the play has passed, or failed by the first that differs.
pub ends-good : (window : ℕ) (ts : List Turn) → NoneQuit ts → (got : List ℕ) → find is_bad got ≡ None → has_quit (sent window ts (bits_told got)) ≡ true
    → ending_for ts got ≡ Some (ending_of (failures ts (bits_told got)))
ends-good window [] all got ok quit = refl
ends-good window (t ∷ ts) all got ok quit =
    (λ i. end_of t ts got (take-good w got ok i) (nat_lt (sym (length-map got (λ b. b == 49)) i) w) (judge t.wants (bits_told got)))
    ∙ one (nat_lt (length (bits_told got)) w) (judge t.wants (bits_told got)) refl quit
    (λ q. ends-good window ts all.1 (drop w got) (drop-good w got ok) q)
  where
    w : ℕ
    w = length t.wants

    cut : drop w (bits_told got) ≡ bits_told (drop w got)
    cut = drop-map (λ b. b == 49) w got

    of : (f : Part × ℕ) → Judged t.command t.wants (bits_told got) (Some f)
        → Some (Fail t.command f.0 f.1) ≡ Some (ending_of (failures (t ∷ ts) (bits_told got)))
    of f (some _ rest q) = sym (ap (λ l. Some (ending_of (l ++ failures ts (drop w (bits_told got))))) q)

    one : (short : Bool) (found : Option (Part × ℕ)) → judge t.wants (bits_told got) ≡ found → has_quit (sent_of window t ts (bits_told got) short found) ≡ true
        → (has_quit (sent window ts (bits_told (drop w got))) ≡ true → ending_for ts (drop w got) ≡ Some (ending_of (failures ts (bits_told (drop w got)))))
        → end_of t ts got None short found ≡ Some (ending_of (failures (t ∷ ts) (bits_told got)))
    one true found e quit rest = absurd (clash (sym quit ∙ asks-no-quit t.messages (length (bits_told got) + window) all.0))
      where
        clash : true ≡ false → ⊥
        clash p = cc
    one false (Some f) e quit rest = of f (subst (λ o. Judged t.command t.wants (bits_told got) o) e (judged t.command t.wants (bits_told got)))
    one false None e quit rest =
        let more : has_quit (sent window ts (bits_told (drop w got))) ≡ true =
        ap (λ l. has_quit (sent window ts l)) (sym cut)
        ∙ sym (quit-append t.messages (sent window ts (drop w (bits_told got))) ∙ or-right (has_quit t.messages) _ all.0) ∙ quit in
        rest more ∙ (λ i. Some (ending_of (failures ts (sym cut i)))) ∙ (λ i. Some (ending_of (sym (is-passed t ts (bits_told got) e).same i)))

-- where the first bad answer is
data Split (n : ℕ) (got : List ℕ) (x : ℕ) : Type 0 where
  here : find is_bad (take n got) ≡ Some x → length (good got) < n → Split n got x
  later : find is_bad (take n got) ≡ None → find is_bad (drop n got) ≡ Some x → length (good got) ≡ n + length (good (drop n got)) → n < length got
      → Split n got x

split : (n : ℕ) (got : List ℕ) (x : ℕ) → find is_bad got ≡ Some x → Split n got x
split n [] x e = absurd (clash e)
  where
    clash : None ≡ Some x → ⊥
    clash p = cc
split zero (g ∷ got) x e = later refl e (omega arith) (omega arith)
split (suc n) (g ∷ got) x e = one (is_bad g) refl e (split n got x)
  where
    one : (bad : Bool) → is_bad g ≡ bad → (if bad then Some g else find is_bad got) ≡ Some x → (find is_bad got ≡ Some x → Split n got x) → Split (suc n) (g ∷ got) x
    one true q e rest = here
        (ap (λ b. if b then Some g else find is_bad (take n got)) q ∙ e)
        (omega (arith, ap length (ap (λ (b : Bool). if b then [] else g ∷ good got) q)))
    one false q e rest = of (rest e)
      where
        longer : good (g ∷ got) ≡ g ∷ good got
        longer = ap (λ (b : Bool). if b then [] else g ∷ good got) q

        of : Split n got x → Split (suc n) (g ∷ got) x
        of (here a b) = here (ap (λ b. if b then Some g else find is_bad (take n got)) q ∙ a) (omega (arith, b, ap length longer))
        of (later a b c d) = later (ap (λ b. if b then Some g else find is_bad (take n got)) q ∙ a) b (omega (arith, c, ap length longer)) (omega (arith, d))

-- A bad answer that was asked for ends the play at the command that it belongs to.
pub ends-bad : (window : ℕ) (ts : List Turn) → AllAsk ts → (got : List ℕ) (x : ℕ) → find is_bad got ≡ Some x
    → length (bits_told got) ≤ asks (sent window ts (bits_told got)) → ending_for ts got ≡ Some (BadAnswer (command_at ts (length (good got))) x)
ends-bad window [] all got x e le = absurd (clash (sym (ap (find is_bad) (empty got (omega (arith, le, length-map got (λ b. b == 49))))) ∙ e))
  where
    empty : (l : List ℕ) → length l ≡ 0 → l ≡ []
    empty [] p = refl
    empty (y ∷ l) p = absurd (omega arith)

    clash : None ≡ Some x → ⊥
    clash p = cc
ends-bad window (t ∷ ts) all got x e le = of (split w got x e) (λ b q. ends-bad window ts all.1 (drop (length t.wants) got) x b q)
  where
    w : ℕ
    w = length t.wants

    cut : drop w (bits_told got) ≡ bits_told (drop w got)
    cut = drop-map (λ b. b == 49) w got

    of : Split w got x → (find is_bad (drop w got) ≡ Some x → length (bits_told (drop w got)) ≤ asks (sent window ts (bits_told (drop w got)))
        → ending_for ts (drop w got) ≡ Some (BadAnswer (command_at ts (length (good (drop w got)))) x))
        → ending_for (t ∷ ts) got ≡ Some (BadAnswer (command_at (t ∷ ts) (length (good got))) x)
    of (here a b) rest =
        (λ i. end_of t ts got (a i) (nat_lt (length got) w) (judge t.wants (bits_told got)))
        ∙ (λ i. Some (BadAnswer (if sym (lt-test (length (good got)) w b) i then t.command else command_at ts (length (good got) - w)) x))
    of (later a b c d) rest =
        (λ i. end_of t ts got (a i) (not-lt-test (length got) w (omega (arith, d)) i) (judge t.wants (bits_told got)))
        ∙ one (judge t.wants (bits_told got)) refl
        (subst (λ s. length (bits_told got) ≤ asks (sent_of window t ts (bits_told got) s (judge t.wants (bits_told got))))
        (not-lt-test (length (bits_told got)) w (omega (arith, d, length-map got (λ b. b == 49)))) le)
        ∙ (λ i. Some (BadAnswer (if sym (not-lt-test (length (good got)) w (omega (arith, c))) i then t.command else command_at ts (length (good got) - w)) x))
      where
        far : length (good (drop w got)) ≡ length (good got) - w
        far = omega (arith, c)

        one : (found : Option (Part × ℕ)) → judge t.wants (bits_told got) ≡ found → length (bits_told got) ≤ asks (sent_of window t ts (bits_told got) false found)
            → end_of t ts got None false found ≡ Some (BadAnswer (command_at ts (length (good got) - w)) x)
        one (Some f) q le = absurd (omega (arith, (is-failed window t ts (bits_told got) all.0 f q le).last, d, length-map got (λ b. b == 49)))
        one None q le =
            rest b
            (subst (λ l. length l ≤ asks (sent window ts l)) cut (later-asked window t ts (bits_told got) all.0 le))
            ∙ ap (λ n. Some (BadAnswer (command_at ts n) x)) far

-- A player that plays on: its turns want the same bits_told, and none differs.
pub same-length : (vs : List VectorBit) → length (map any_value vs) ≡ length vs
same-length vs = length-map vs any_value

pub unjudged-sends : (window : ℕ) (ts : List Turn) (n : ℕ) → may_send window (map unjudged ts) n false ≡ may_send window ts n false
unjudged-sends window [] n = refl
unjudged-sends window (t ∷ ts) n = λ i.
    (if nat_lt n (same-length t.wants i) then up_to_asks t.messages (n + window) else t.messages ++ (unjudged-sends window ts (n - length (map any_value t.wants))
    ∙ (λ j. may_send window ts (n - same-length t.wants j) false)) i)

pub unjudged-works : (statements : ℕ) (ts : List Turn) (given n : ℕ) → command_at_work statements (map unjudged ts) given n false ≡ command_at_work statements ts given n false
unjudged-works statements [] given n = refl
unjudged-works statements (t ∷ ts) given n = λ i.
    (if nat_lt given (length t.messages) || nat_lt n (same-length t.wants i) then t.command else (unjudged-works statements ts (given - length t.messages) (n - length (map any_value t.wants))
    ∙ (λ j. command_at_work statements ts (given - length t.messages) (n - same-length t.wants j) false)) i)

pub unjudged-command : (ts : List Turn) (n : ℕ) → command_at (map unjudged ts) n ≡ command_at ts n
unjudged-command [] n = refl
unjudged-command (t ∷ ts) n = λ i.
    (if nat_lt n (same-length t.wants i) then t.command else (unjudged-command ts (n - length (map any_value t.wants)) ∙ (λ j. command_at ts (n - same-length t.wants j))) i)

none-differ : (command : ℕ) (vs : List VectorBit) (got : List Bool) → differing command (map any_value vs) got ≡ []
none-differ command [] [] = refl
none-differ command [] (g ∷ got) = refl
none-differ command (v ∷ vs) [] = refl
none-differ command (v ∷ vs) (g ∷ got) = none-differ command vs got

pub unjudged-failures : (ts : List Turn) (got : List Bool) → failures (map unjudged ts) got ≡ []
unjudged-failures [] got = refl
unjudged-failures (t ∷ ts) got =
    ap (λ l. l ++ failures (map unjudged ts) (drop (length (map any_value t.wants)) got)) (none-differ t.command t.wants got)
    ∙ unjudged-failures ts (drop (length (map any_value t.wants)) got)

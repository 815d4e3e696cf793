-- Player and board grow by prefix.
use Rattle.std.proofs.Common.{◌≡◌, Bool, true, false, ℕ, zero, suc, ◌+◌, ◌≤◌, List, [], ◌∷◌, ◌++◌, length, drop, refl, sym, ap, ◌∙◌, subst, arith, append_assoc, length-append}
use Rattle.std.proofs.lemmas.List.{drop-append-le}
use Rattle.std.proofs.lemmas.Bool.{ltb-true, ltb-false}
use Rattle.std.specs.Prelude.{Option, Some, None, if◌then◌else◌, nat_lt}
use Rattle.bitbang_protocol.specs.declared.Message.{Message}
use Rattle.bitbang_protocol.specs.declared.Message.TheVariants.{Write, Ask, Quit, Light, Lines}
use Rattle.board_model.specs.Chain.{BoardState, hear, after_message, answers}
use Rattle.scan_vectors.specs.declared.part.Part.{Part}
use Rattle.scan_vectors.specs.Vector.{VectorBit, judge, differs}
use Rattle.play_model.specs.Play.{Turn, up_to_asks, sent}

abbrev pub IsMessagePrefix : List Message → List Message → Type 0
IsMessagePrefix xs ys = (rest : List Message) × (xs ++ rest ≡ ys)

prefix-cons : (m : Message) (xs ys : List Message) → IsMessagePrefix xs ys → IsMessagePrefix (m ∷ xs) (m ∷ ys)
prefix-cons m xs ys p = (p.0, ap (λ r. m ∷ r) p.1)

prefix-append : (xs ys zs : List Message) → IsMessagePrefix ys zs → IsMessagePrefix (xs ++ ys) (xs ++ zs)
prefix-append xs ys zs p = (p.0, append_assoc xs ys p.0 ∙ ap (λ r. xs ++ r) p.1)

-- what may be asked of a turn is a prefix of it, and more may be asked with more answers
pub asks-prefix : (n : ℕ) (ms more : List Message) → IsMessagePrefix (up_to_asks ms n) (ms ++ more)
asks-prefix n [] more = (more, refl)
asks-prefix zero (Ask ∷ ms) more = (Ask ∷ ms ++ more, refl)
asks-prefix (suc n) (Ask ∷ ms) more = prefix-cons Ask _ _ (asks-prefix n ms more)
asks-prefix n (Write tck tms tdi ∷ ms) more = prefix-cons (Write tck tms tdi) _ _ (asks-prefix n ms more)
asks-prefix n (Quit ∷ ms) more = prefix-cons Quit _ _ (asks-prefix n ms more)
asks-prefix n (Light b ∷ ms) more = prefix-cons (Light b) _ _ (asks-prefix n ms more)
asks-prefix n (Lines t s ∷ ms) more = prefix-cons (Lines t s) _ _ (asks-prefix n ms more)

pub asks-more : (n k : ℕ) (ms : List Message) → n ≤ k → IsMessagePrefix (up_to_asks ms n) (up_to_asks ms k)
asks-more n k [] le = ([], refl)
asks-more zero k (Ask ∷ ms) le = (up_to_asks (Ask ∷ ms) k, refl)
asks-more (suc n) zero (Ask ∷ ms) le = absurd (omega arith)
asks-more (suc n) (suc k) (Ask ∷ ms) le = prefix-cons Ask _ _ (asks-more n k ms (omega arith))
asks-more n k (Write tck tms tdi ∷ ms) le = prefix-cons (Write tck tms tdi) _ _ (asks-more n k ms le)
asks-more n k (Quit ∷ ms) le = prefix-cons Quit _ _ (asks-more n k ms le)
asks-more n k (Light b ∷ ms) le = prefix-cons (Light b) _ _ (asks-more n k ms le)
asks-more n k (Lines t s ∷ ms) le = prefix-cons (Lines t s) _ _ (asks-more n k ms le)

-- further answers change no verdict on a turn that has all of its own
pub judge-more : (ws : List VectorBit) (got more : List Bool) → length ws ≤ length got → judge ws (got ++ more) ≡ judge ws got
judge-more [] got more le = empty got
  where
    empty : (got : List Bool) → judge [] (got ++ more) ≡ judge [] got
    empty [] = refl
    empty (g ∷ got) = refl
judge-more (w ∷ ws) [] more le = absurd (omega arith)
judge-more (w ∷ ws) (g ∷ got) more le = ap (λ r. if differs w.wanted g then Some (w.part, w.place) else r) (judge-more ws got more (omega arith))

pub hear-append : (xs ys : List Message) (b : BoardState)
    → hear (xs ++ ys) b ≡ record { answers = (hear xs b).answers ++ (hear ys (hear xs b).board).answers; board = (hear ys (hear xs b).board).board }
hear-append [] ys b = refl
hear-append (m ∷ xs) ys b =
    let e = hear-append xs ys (after_message m b) in
    let first = hear xs (after_message m b) in
    let second = hear ys first.board in
    (λ i. record { answers = answers m b ++ (e i).answers; board = (e i).board })
    ∙ (λ i. record { answers = sym (append_assoc (answers m b) first.answers second.answers) i; board = second.board })

-- A turn whose answers are all there is sent whole.
abbrev turn_sent : (window : ℕ) → Turn → List Turn → List Bool → Bool → List Message
turn_sent window t ts got short =
    let rest = sent window ts (drop (length t.wants) got) in
    elim short [
      | true ↦ up_to_asks t.messages (length got + window)
      | false ↦ t.messages ++ elim (judge t.wants got) [ None ↦ rest | Some f ↦ Quit ∷ [] ]
    ]

abbrev end_sent : List Message → Option (Part × ℕ) → List Message
end_sent rest found = elim found [ None ↦ rest | Some f ↦ Quit ∷ [] ]

more-ends : (found : Option (Part × ℕ)) (xs ys : List Message) → IsMessagePrefix xs ys → IsMessagePrefix (end_sent xs found) (end_sent ys found)
more-ends None xs ys p = p
more-ends (Some f) xs ys p = ([], refl)

turn-grows : (window : ℕ) (t : Turn) (ts : List Turn) (got more : List Bool)
    → IsMessagePrefix (sent window ts (drop (length t.wants) got)) (sent window ts (drop (length t.wants) got ++ more))
    → (short short_still : Bool) → nat_lt (length got) (length t.wants) ≡ short → nat_lt (length (got ++ more)) (length t.wants) ≡ short_still
    → IsMessagePrefix (turn_sent window t ts got short) (turn_sent window t ts (got ++ more) short_still)
turn-grows window t ts got more rest true true e f =
    asks-more (length got + window) (length (got ++ more) + window) t.messages (omega (arith, length-append got more))
turn-grows window t ts got more rest true false e f = asks-prefix (length got + window) t.messages _
turn-grows window t ts got more rest false true e f =
    absurd (omega (arith, length-append got more, ltb-false (length got) (length t.wants) e, ltb-true (length (got ++ more)) (length t.wants) f))
turn-grows window t ts got more rest false false e f =
    let enough : length t.wants ≤ length got = ltb-false (length got) (length t.wants) e in
    let whole = t.messages ++ end_sent (sent window ts (drop (length t.wants) got)) (judge t.wants got) in
    let same : end_sent (sent window ts (drop (length t.wants) got ++ more)) (judge t.wants got)
    ≡ end_sent (sent window ts (drop (length t.wants) (got ++ more))) (judge t.wants (got ++ more)) =
    (λ i. end_sent (sent window ts (sym (drop-append-le (length t.wants) got more enough) i)) (sym (judge-more t.wants got more enough) i)) in
    subst (λ (end : List Message). IsMessagePrefix whole (t.messages ++ end)) same
    (prefix-append t.messages _ _ (more-ends (judge t.wants got) _ _ rest))

-- The player grows: with further answers it may send what it might before, and perhaps more.
pub sent-grows : (window : ℕ) (ts : List Turn) (got more : List Bool) → IsMessagePrefix (sent window ts got) (sent window ts (got ++ more))
sent-grows window [] got more = ([], refl)
sent-grows window (t ∷ ts) got more =
    turn-grows window t ts got more (sent-grows window ts (drop (length t.wants) got) more)
    (nat_lt (length got) (length t.wants)) (nat_lt (length (got ++ more)) (length t.wants)) refl refl

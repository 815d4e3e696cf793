-- The verdict for all answers is the full play's; and what is in work is the first turn made of which something is left.
use Rattle.std.proofs.Common.{◌≡◌, Bool, true, false, ◌||◌, ◌⊎◌, inl, inr, ℕ, suc, ◌+◌, ◌-◌, ◌<◌, ◌≤◌, List, [], ◌∷◌, ◌++◌, length, drop, refl, sym, ap, ◌∙◌, subst, arith, length-append, length-drop, Option, Some, None}
use Rattle.std.proofs.Math.Seq.{drop-append_seam}
use Rattle.std.proofs.lemmas.Bool.{ltb-true, ltb-false}
use Rattle.std.specs.Prelude.{nat_lt}
use Rattle.board_model.specs.Chain.{BoardState, hear}
use Rattle.scan_vectors.specs.declared.part.Part.{Part}
use Rattle.scan_vectors.specs.Vector.{judge}
use Rattle.play_model.specs.declared.ending.Ending.{Ending}
use Rattle.play_model.specs.declared.ending.Ending.TheVariants.{Fail}
use Rattle.play_model.specs.Play.{Turn, full_play, in_work, verdict}
use Rattle.play_model.proofs.Asks.{AllAsk, hear-asks, played_of}
use Rattle.play_model.proofs.GrowthByPrefix.{judge-more}
use Rattle.play_model.specs.Fronts.{IsPrefix}
use Rattle.play_model.specs.InWork.{IsInWork, at_turn, at_quit, answers_in, bytes_in, turns_made}
use Rattle.play_model.proofs.Quits.{append-front}

abbrev verdict_of : Turn → List Turn → List Bool → Option (Part × ℕ) → Ending
verdict_of t ts got found = let rest = verdict ts (drop (length t.wants) got) in elim found [ None ↦ rest | Some f ↦ Fail t.command f.0 f.1 ]

pub verdict-full : (ts : List Turn) (b : BoardState) → AllAsk ts → verdict ts (full_play ts b).answers ≡ (full_play ts b).ending
verdict-full [] b all = refl
verdict-full (t ∷ ts) b all = one (judge t.wants H) refl (verdict-full ts (hear t.messages b).board all.1)
  where
    H : List Bool
    H = (hear t.messages b).answers

    long : length H ≡ length t.wants
    long = hear-asks t.messages b ∙ all.0

    one : (found : Option (Part × ℕ)) → judge t.wants H ≡ found
        → verdict ts (full_play ts (hear t.messages b).board).answers ≡ (full_play ts (hear t.messages b).board).ending
        → verdict (t ∷ ts) (played_of t ts (hear t.messages b) found).answers ≡ (played_of t ts (hear t.messages b) found).ending
    one None e rest =
        let R = (full_play ts (hear t.messages b).board).answers in
        (λ i. verdict_of t ts (H ++ R) ((judge-more t.wants H R (omega (arith, long)) ∙ e) i))
        ∙ ap (verdict ts) (ap (λ n. drop n (H ++ R)) (sym long) ∙ drop-append_seam H R) ∙ rest
    one (Some f) e rest = λ i. verdict_of t ts H (e i)

-- the same with more turns before
later-turn : (n given got : ℕ) (t : Turn) (ts : List Turn) (c : ℕ) → length t.messages ≤ given → length t.wants ≤ got
    → IsInWork n ts (given - length t.messages) (got - length t.wants) c → IsInWork n (t ∷ ts) given got c
later-turn n given got t ts _ bytes answers (at_turn before u later split sent taken is_left) =
    at_turn (t ∷ before) u later (ap (λ l. t ∷ l) split) (omega arith) (omega arith) (wider is_left)
  where
    wider : (given - length t.messages < bytes_in before + length u.messages) ⊎ (got - length t.wants < answers_in before + length u.wants)
        → (given < bytes_in (t ∷ before) + length u.messages) ⊎ (got < answers_in (t ∷ before) + length u.wants)
    wider (inl p) = inl (omega arith)
    wider (inr p) = inr (omega arith)
later-turn n given got t ts _ bytes answers (at_quit sent taken) = at_quit (omega arith) (omega arith)

or-is_left : (a b : Bool) → (a || b) ≡ true → (a ≡ true) ⊎ (b ≡ true)
or-is_left true b e = inl refl
or-is_left false b e = inr e

abbrev work_of : ℕ → Turn → List Turn → ℕ → List Bool → Bool → Option (Part × ℕ) → ℕ
work_of n t ts given got is_left found =
    let rest = in_work n ts (given - length t.messages) (drop (length t.wants) got) in
    elim is_left [ true ↦ t.command | false ↦ elim found [ None ↦ rest | Some f ↦ suc n ] ]

abbrev made_of : Turn → List Turn → BoardState → Option (Part × ℕ) → List Turn
made_of t ts b found =
    let rest = turns_made ts (hear t.messages b).board in
    elim found [ None ↦ t ∷ rest | Some f ↦ t ∷ [] ]

pub work-is : (n : ℕ) (ts : List Turn) (b : BoardState) → AllAsk ts → (given : ℕ) (got : List Bool) → IsPrefix got (full_play ts b).answers
    → IsInWork n (turns_made ts b) given (length got) (in_work n ts given got)
work-is n [] b all given got front = at_quit (omega arith) (omega arith)
work-is n (t ∷ ts) b all given got front =
    one (nat_lt given (length t.messages) || nat_lt (length got) (length t.wants)) refl (judge t.wants H) refl (judge t.wants got) refl front
    (λ p. work-is n ts (hear t.messages b).board all.1 (given - length t.messages) (drop (length t.wants) got) p)
  where
    H : List Bool
    H = (hear t.messages b).answers

    long : length H ≡ length t.wants
    long = hear-asks t.messages b ∙ all.0

    one : (is_left : Bool) → (nat_lt given (length t.messages) || nat_lt (length got) (length t.wants)) ≡ is_left
        → (found : Option (Part × ℕ)) → judge t.wants H ≡ found → (now : Option (Part × ℕ)) → judge t.wants got ≡ now
        → IsPrefix got (played_of t ts (hear t.messages b) found).answers
        → (IsPrefix (drop (length t.wants) got) (full_play ts (hear t.messages b).board).answers
        → IsInWork n (turns_made ts (hear t.messages b).board) (given - length t.messages) (length (drop (length t.wants) got))
        (in_work n ts (given - length t.messages) (drop (length t.wants) got)))
        → IsInWork n (made_of t ts b found) given (length got) (work_of n t ts given got is_left now)
    one true o found f now g front rest = first found (or-is_left _ _ o)
      where
        left_over : (nat_lt given (length t.messages) ≡ true) ⊎ (nat_lt (length got) (length t.wants) ≡ true)
            → (given < 0 + length t.messages) ⊎ (length got < 0 + length t.wants)
        left_over (inl p) = inl (omega (arith, ltb-true given (length t.messages) p))
        left_over (inr p) = inr (omega (arith, ltb-true (length got) (length t.wants) p))

        first : (found : Option (Part × ℕ)) → (nat_lt given (length t.messages) ≡ true) ⊎ (nat_lt (length got) (length t.wants) ≡ true)
            → IsInWork n (made_of t ts b found) given (length got) t.command
        first None o = at_turn [] t (turns_made ts (hear t.messages b).board) refl (omega arith) (omega arith) (left_over o)
        first (Some f) o = at_turn [] t [] refl (omega arith) (omega arith) (left_over o)
    one false o found f now g front rest = closed found f now g front
      where
        shut : (nat_lt given (length t.messages) ≡ false) × (nat_lt (length got) (length t.wants) ≡ false)
        shut = or-shut _ _ o
          where
            or-shut : (a b : Bool) → (a || b) ≡ false → (a ≡ false) × (b ≡ false)
            or-shut true b e = absurd (cc)
            or-shut false b e = (refl, e)

        bytes : length t.messages ≤ given
        bytes = ltb-false given (length t.messages) shut.0

        enough : length t.wants ≤ length got
        enough = ltb-false (length got) (length t.wants) shut.1

        closed : (found : Option (Part × ℕ)) → judge t.wants H ≡ found → (now : Option (Part × ℕ)) → judge t.wants got ≡ now
            → IsPrefix got (played_of t ts (hear t.messages b) found).answers
            → IsInWork n (made_of t ts b found) given (length got) (work_of n t ts given got false now)
        closed None f None g front =
            let parts = append-front H (full_play ts (hear t.messages b).board).answers got front.0 (omega (arith, long, enough)) front.1 in
            let after : drop (length t.wants) got ++ front.0 ≡ (full_play ts (hear t.messages b).board).answers =
            ap (λ k. drop k got ++ front.0) (sym long) ∙ parts.1 in
            later-turn n given (length got) t (turns_made ts (hear t.messages b).board) _ bytes enough
            (subst (λ k. IsInWork n (turns_made ts (hear t.messages b).board) (given - length t.messages) k
            (in_work n ts (given - length t.messages) (drop (length t.wants) got))) (length-drop (length t.wants) got)
            (rest (front.0, after)))
        closed None f (Some x) g front =
            let parts = append-front H (full_play ts (hear t.messages b).board).answers got front.0 (omega (arith, long, enough)) front.1 in
            absurd (clash g (ap (judge t.wants) parts.0 ∙ judge-more t.wants H (drop (length H) got) (omega (arith, long)) ∙ f))
          where
            clash : {x : Part × ℕ} → judge t.wants got ≡ Some x → judge t.wants got ≡ None → ⊥
            clash p q = cc
        closed (Some x) f None g front =
            absurd (clash (sym (ap (judge t.wants) same) ∙ g) f)
          where
            count : length got + length front.0 ≡ length H
            count = sym (length-append got front.0) ∙ ap length front.1

            none : front.0 ≡ []
            none = empty-length front.0 (omega (arith, count, long, enough))
              where
                empty-length : (xs : List Bool) → length xs ≡ 0 → xs ≡ []
                empty-length [] e = refl
                empty-length (x ∷ xs) e = absurd (omega arith)

            same : got ≡ H
            same = sym (append-nil got) ∙ ap (λ l. got ++ l) (sym none) ∙ front.1
              where
                append-nil : (xs : List Bool) → xs ++ [] ≡ xs
                append-nil [] = refl
                append-nil (x ∷ xs) = ap (λ r. x ∷ r) (append-nil xs)

            clash : {x : Part × ℕ} → judge t.wants H ≡ None → judge t.wants H ≡ Some x → ⊥
            clash p q = cc
        closed (Some x) f (Some y) g front = at_quit (omega (arith, bytes)) (omega (arith, enough))

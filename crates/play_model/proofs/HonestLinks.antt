-- Over an honest link: answers that a board gave to the player's bytes for them are the full play's.
use Rattle.std.proofs.Common.{◌≡◌, Bool, true, false, ℕ, zero, suc, ◌+◌, ◌≤◌, ◌==◌, List, [], ◌∷◌, ◌++◌, map, length, take, drop, refl, sym, ap, ◌∙◌, subst, arith, append-nil, length-append, find, Option, Some, None}
use Rattle.std.proofs.Math.Seq.{drop-append_seam}
use Rattle.std.proofs.lemmas.Bool.{ltb-true, ltb-false}
use Rattle.std.specs.Prelude.{nat_lt, if◌then◌else◌}
use Rattle.std.specs.List.{list_any}
use Rattle.bitbang_protocol.specs.declared.Message.TheVariants.{Quit}
use Rattle.bitbang_protocol.specs.Protocol.{answer}
use Rattle.board_model.specs.Chain.{BoardState, hear}
use Rattle.scan_vectors.specs.declared.part.Part.{Part}
use Rattle.scan_vectors.specs.Vector.{judge}
use Rattle.play_model.specs.declared.ending.Ending.{Ending}
use Rattle.play_model.specs.declared.ending.Ending.TheVariants.{Fail, BadAnswer}
use Rattle.play_model.specs.Play.{Turn, ending_for, full_play, is_bad, sent, up_to_asks}
use Rattle.play_model.proofs.Asks.{AllAsk, hear-asks, played_of}
use Rattle.play_model.proofs.GrowthByPrefix.{asks-prefix, hear-append, judge-more}
use Rattle.play_model.specs.Fronts.{IsPrefix}
use Rattle.play_model.specs.ScheduleLaws.{HonestAnswersAreTheFullPlays}
use Rattle.play_model.specs.PlayingOn.{turns_for}
use Rattle.play_model.proofs.BothPlayers.{ask-for}
use Rattle.play_model.proofs.Fronts.{empty-append, front-append, front-trans}
use Rattle.play_model.proofs.InsideFullPlay.{hear-front}
use Rattle.play_model.proofs.Quits.{append-front, sent_of}
use Rattle.play_model.proofs.SafetyLaws.{answered-encoded}

-- the answers to the present turn begin all answers
first-answers : (t : Turn) (ts : List Turn) (b : BoardState) (found : Option (Part × ℕ))
    → IsPrefix (hear t.messages b).answers (played_of t ts (hear t.messages b) found).answers
first-answers t ts b None = ((full_play ts (hear t.messages b).board).answers, refl)
first-answers t ts b (Some f) = ([], append-nil (hear t.messages b).answers)

pub honest : (window : ℕ) (ts : List Turn) (b : BoardState) → AllAsk ts → (got : List Bool)
    → IsPrefix got (hear (sent window ts got) b).answers → IsPrefix got (full_play ts b).answers
honest window [] b all got front = front
honest window (t ∷ ts) b all got front =
    one (nat_lt (length got) (length t.wants)) refl (judge t.wants H) refl (judge t.wants got) refl front
    (λ g p. honest window ts (hear t.messages b).board all.1 g p)
  where
    H : List Bool
    H = (hear t.messages b).answers

    later : List Bool
    later = drop (length t.wants) got

    long : length H ≡ length t.wants
    long = hear-asks t.messages b ∙ all.0

    one : (short : Bool) → nat_lt (length got) (length t.wants) ≡ short
        → (found : Option (Part × ℕ)) → judge t.wants H ≡ found → (now : Option (Part × ℕ)) → judge t.wants got ≡ now
        → IsPrefix got (hear (sent_of window t ts got short now) b).answers
        → ((g : List Bool) → IsPrefix g (hear (sent window ts g) (hear t.messages b).board).answers
        → IsPrefix g (full_play ts (hear t.messages b).board).answers)
        → IsPrefix got (played_of t ts (hear t.messages b) found).answers
    one true s found f now g front rest =
        let part = asks-prefix (length got + window) t.messages [] in
        let asked : IsPrefix (up_to_asks t.messages (length got + window)) t.messages = (part.0, part.1 ∙ append-nil t.messages) in
        front-trans _ _ _ front (front-trans _ _ _ (hear-front _ _ b asked) (first-answers t ts b found))
    one false s found f now g front rest = judged found f now g front
      where
        enough : length H ≤ length got
        enough = omega (arith, ltb-false (length got) (length t.wants) s, long)

        judged : (found : Option (Part × ℕ)) → judge t.wants H ≡ found → (now : Option (Part × ℕ)) → judge t.wants got ≡ now
            → IsPrefix got (hear (sent_of window t ts got false now) b).answers
            → IsPrefix got (played_of t ts (hear t.messages b) found).answers
        judged found f (Some x) g front =
            let said : got ++ front.0 ≡ H ++ [] = front.1 ∙ ap (λ h. h.answers) (hear-append t.messages (Quit ∷ []) b) in
            let parts = append-front H [] got front.0 enough said in
            let none : front.0 ≡ [] = empty-append (drop (length H) got) front.0 parts.1 in
            let same : got ≡ H = sym (append-nil got) ∙ ap (λ l. got ++ l) (sym none) ∙ said ∙ append-nil H in
            subst (λ l. IsPrefix l (played_of t ts (hear t.messages b) found).answers) (sym same) (first-answers t ts b found)
        judged found f None g front =
            let R = (hear (sent window ts later) (hear t.messages b).board).answers in
            let said : got ++ front.0 ≡ H ++ R = front.1 ∙ ap (λ h. h.answers) (hear-append t.messages (sent window ts later) b) in
            let parts = append-front H R got front.0 enough said in
            let cut : drop (length H) got ≡ later = ap (λ n. drop n got) long in
            let whole : got ≡ H ++ later = parts.0 ∙ ap (λ l. H ++ l) cut in
            let deep = rest later (front.0, ap (λ l. l ++ front.0) (sym cut) ∙ parts.1) in
            passes found f whole deep
          where
            passes : (found : Option (Part × ℕ)) → judge t.wants H ≡ found → got ≡ H ++ later → IsPrefix later (full_play ts (hear t.messages b).board).answers
                → IsPrefix got (played_of t ts (hear t.messages b) found).answers
            passes None f whole deep =
                subst (λ l. IsPrefix l (H ++ (full_play ts (hear t.messages b).board).answers)) (sym whole)
                (front-append H later (full_play ts (hear t.messages b).board).answers deep)
            passes (Some x) f whole deep =
                absurd (clash (sym (ap (judge t.wants) whole ∙ judge-more t.wants H later (omega (arith, long))) ∙ g) f)
              where
                clash : judge t.wants H ≡ None → judge t.wants H ≡ Some x → ⊥
                clash p q = cc

pub honest_answers : HonestAnswersAreTheFullPlays
honest_answers l steps b got front =
    honest l.window (turns_for l.kind steps) b (ask-for l.kind steps) got
    (subst (λ z. IsPrefix got z) (answered-encoded (sent l.window (turns_for l.kind steps) got) b) front)

-- answer bytes tell their bits, and none is bad
pub told-bits : (got : List Bool) → map (λ b. b == 49) (map answer got) ≡ got
told-bits [] = refl
told-bits (true ∷ got) = ap (λ l. true ∷ l) (told-bits got)
told-bits (false ∷ got) = ap (λ l. false ∷ l) (told-bits got)

none-bad : (n : ℕ) (got : List Bool) → find is_bad (take n (map answer got)) ≡ None
none-bad zero got = refl
none-bad (suc n) [] = refl
none-bad (suc n) (true ∷ got) = none-bad n got
none-bad (suc n) (false ∷ got) = none-bad n got

pub none-bad-any : (got : List Bool) → list_any is_bad (map answer got) ≡ false
none-bad-any [] = refl
none-bad-any (true ∷ got) = none-bad-any got
none-bad-any (false ∷ got) = none-bad-any got

drop-answers : (n : ℕ) (got : List Bool) → drop n (map answer got) ≡ map answer (drop n got)
drop-answers zero got = refl
drop-answers (suc n) [] = refl
drop-answers (suc n) (g ∷ got) = drop-answers n got

length-answers : (got : List Bool) → length (map answer got) ≡ length got
length-answers [] = refl
length-answers (g ∷ got) = ap (λ n. suc n) (length-answers got)

abbrev ending_of : Turn → List Turn → List ℕ → Option ℕ → Bool → Option (Part × ℕ) → Option Ending
ending_of t ts got bad short found =
    let rest = ending_for ts (drop (length t.wants) got) in
    elim bad [
      | Some b ↦ Some (BadAnswer t.command b)
      | None ↦ if short then None else elim found [ None ↦ rest | Some f ↦ Some (Fail t.command f.0 f.1) ]
    ]

not-short : (n k : ℕ) → k ≤ n → nat_lt n k ≡ false
not-short n k le = one (nat_lt n k) refl
  where
    one : (b : Bool) → nat_lt n k ≡ b → b ≡ false
    one true e = absurd (omega (arith, ltb-true n k e))
    one false e = refl

-- for all answers, as bytes, the player ends as the full play does
pub ending-full : (ts : List Turn) (b : BoardState) → AllAsk ts → ending_for ts (map answer (full_play ts b).answers) ≡ Some (full_play ts b).ending
ending-full [] b all = refl
ending-full (t ∷ ts) b all = one (judge t.wants H) refl (ending-full ts (hear t.messages b).board all.1)
  where
    H : List Bool
    H = (hear t.messages b).answers

    long : length H ≡ length t.wants
    long = hear-asks t.messages b ∙ all.0

    step : (got : List Bool) → length t.wants ≤ length got → (found : Option (Part × ℕ)) → judge t.wants got ≡ found
        → ending_for (t ∷ ts) (map answer got) ≡ ending_of t ts (map answer got) None false found
    step got le found e =
        let short : nat_lt (length (map answer got)) (length t.wants) ≡ false = not-short _ _ (omega (arith, length-answers got)) in
        λ i. ending_of t ts (map answer got) (none-bad (length t.wants) got i) (short i) ((ap (judge t.wants) (told-bits got) ∙ e) i)

    one : (found : Option (Part × ℕ)) → judge t.wants H ≡ found
        → ending_for ts (map answer (full_play ts (hear t.messages b).board).answers) ≡ Some (full_play ts (hear t.messages b).board).ending
        → ending_for (t ∷ ts) (map answer (played_of t ts (hear t.messages b) found).answers) ≡ Some (played_of t ts (hear t.messages b) found).ending
    one None e rest =
        let R = (full_play ts (hear t.messages b).board).answers in
        step (H ++ R) (omega (arith, length-append H R, long)) None (judge-more t.wants H R (omega (arith, long)) ∙ e)
        ∙ ap (ending_for ts) (drop-answers (length t.wants) (H ++ R) ∙ ap (map answer) (ap (λ n. drop n (H ++ R)) (sym long) ∙ drop-append_seam H R))
        ∙ rest
    one (Some f) e rest = step H (omega (arith, long)) (Some f) e

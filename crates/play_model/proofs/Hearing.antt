-- What is heard one by one is a function of the history.
use Rattle.std.proofs.Common.{◌≡◌, Bool, true, false, ◌||◌, ℕ, zero, suc, ◌+◌, List, [], ◌∷◌, ◌++◌, map, length, take, drop, find, refl, sym, ap, ◌∙◌, arith, append_assoc, append-nil, length-append, Option, Some, None}
use Rattle.std.proofs.lemmas.List.{map-append, length-map}
use Rattle.std.specs.Prelude.{◌==◌, is_some, if◌then◌else◌}
use Rattle.scan_vectors.specs.Vector.{VectorBit, differs}
use Rattle.play_model.specs.Play.{Turn, is_bad, turns}
use Rattle.bitbang.specs.Steps.{Program}
use Rattle.play_model.specs.declared.kind.Kind.{Kind}
use Rattle.play_model.specs.declared.kind.Kind.TheVariants.{Stops, PlaysOn}
use Rattle.play_model.specs.PlayingOn.{Mismatch, differing, failures}
use Rattle.play_model.specs.Histories.{bits_told}
use Rattle.play_model.specs.StreamLaws.{FreshAgrees, HearingIsTheHistory, good, stream_of}
use Rattle.play_model.specs.Streams.{StreamState, Wanted, count_kept, found_of, hear, hear_bytes, mismatch_of, most_kept, with_more, all_wanted}

abbrev no_bits : List Bool
no_bits = []

drop-none : (n : ℕ) → drop n no_bits ≡ no_bits
drop-none zero = refl
drop-none (suc n) = refl

pub differing-none : (command : ℕ) (vs : List VectorBit) → differing command vs [] ≡ []
differing-none command [] = refl
differing-none command (v ∷ vs) = refl

pub differing-nothing : (command : ℕ) (got : List Bool) → differing command [] got ≡ []
differing-nothing command [] = refl
differing-nothing command (g ∷ got) = refl

pub failures-none : (ts : List Turn) → failures ts [] ≡ []
failures-none [] = refl
failures-none (t ∷ ts) = (λ i. differing-none t.command t.wants i ++ failures ts (drop-none (length t.wants) i)) ∙ failures-none ts

-- all that differs, answer by answer
abbrev failing : List Wanted → List Bool → List Mismatch
failing [] got = []
failing (w ∷ ws) [] = []
failing (w ∷ ws) (g ∷ got) = mismatch_of (w ∷ ws) g ++ failing ws got

failing-none : (ws : List Wanted) → failing ws [] ≡ []
failing-none [] = refl
failing-none (w ∷ ws) = refl

failing-turn : (command : ℕ) (vs : List VectorBit) (ws : List Wanted) (got : List Bool)
    → failing (map (λ v. record { command = command; bit = v }) vs ++ ws) got ≡ differing command vs got ++ failing ws (drop (length vs) got)
failing-turn command [] ws got = sym (ap (λ l. l ++ failing ws got) (differing-nothing command got))
failing-turn command (v ∷ vs) ws [] = sym (failing-none ws)
failing-turn command (v ∷ vs) ws (g ∷ got) = one (differs v.wanted g) (failing-turn command vs ws got)
  where
    m : Mismatch
    m = record { command = command; part = v.part; bit = v.place }

    one : (d : Bool)
        → failing (map (λ v. record { command = command; bit = v }) vs ++ ws) got ≡ differing command vs got ++ failing ws (drop (length vs) got)
        → (if d then m ∷ [] else []) ++ failing (map (λ v. record { command = command; bit = v }) vs ++ ws) got
        ≡ (if d then m ∷ differing command vs got else differing command vs got) ++ failing ws (drop (length vs) got)
    one true e = ap (λ l. m ∷ l) e
    one false e = e

failing-is : (ts : List Turn) (got : List Bool) → failures ts got ≡ failing (all_wanted ts) got
failing-is [] got = refl
failing-is (t ∷ ts) got =
    ap (λ l. differing t.command t.wants got ++ l) (failing-is ts (drop (length t.wants) got))
    ∙ sym (failing-turn t.command t.wants (all_wanted ts) got)

failing-push : (ws : List Wanted) (got : List Bool) (b : Bool) → failing ws (got ++ b ∷ []) ≡ failing ws got ++ mismatch_of (drop (length got) ws) b
failing-push [] [] b = refl
failing-push [] (g ∷ got) b = refl
failing-push (w ∷ ws) [] b = ap (λ l. mismatch_of (w ∷ ws) b ++ l) (failing-none ws) ∙ append-nil (mismatch_of (w ∷ ws) b)
failing-push (w ∷ ws) (g ∷ got) b =
    ap (λ l. mismatch_of (w ∷ ws) g ++ l) (failing-push ws got b)
    ∙ sym (append_assoc (mismatch_of (w ∷ ws) g) (failing ws got) (mismatch_of (drop (length got) ws) b))

-- what is kept of more
take-twice : (k : ℕ) (xs ys : List Mismatch) → take k (take k xs ++ ys) ≡ take k (xs ++ ys)
take-twice zero xs ys = refl
take-twice (suc k) [] ys = refl
take-twice (suc k) (x ∷ xs) ys = ap (λ l. x ∷ l) (take-twice k xs ys)

counted-more : (kind : Kind) (n k : ℕ) → count_kept kind (count_kept kind n + k) ≡ count_kept kind (n + k)
counted-more Stops n k = omega arith
counted-more PlaysOn n k = refl

noted-more : (kind : Kind) (all more : List Mismatch) → with_more kind more (found_of kind all) ≡ found_of kind (all ++ more)
noted-more kind all more = λ i. record {
  list = take-twice (most_kept kind) all more i;
  total = (counted-more kind (length all) (length more) ∙ ap (count_kept kind) (sym (length-append all more))) i;
}

-- the first bad one, and those before it
abbrev after_find : ℕ → Option ℕ → Option ℕ
after_find b (Some x) = Some x
after_find b None = if is_bad b then Some b else None

find-push : (got : List ℕ) (b : ℕ) → find is_bad (got ++ b ∷ []) ≡ after_find b (find is_bad got)
find-push [] b = refl
find-push (g ∷ got) b = one (is_bad g) (find-push got b)
  where
    one : (bad : Bool) → find is_bad (got ++ b ∷ []) ≡ after_find b (find is_bad got)
        → (if bad then Some g else find is_bad (got ++ b ∷ [])) ≡ after_find b (if bad then Some g else find is_bad got)
    one true e = refl
    one false e = e

abbrev one_more : Bool → ℕ → List ℕ
one_more stop b = if stop then [] else b ∷ []

good-push : (got : List ℕ) (b : ℕ) → good (got ++ b ∷ []) ≡ good got ++ one_more (is_some (find is_bad got) || is_bad b) b
good-push [] b = refl
good-push (g ∷ got) b = one (is_bad g) (good-push got b)
  where
    one : (bad : Bool) → good (got ++ b ∷ []) ≡ good got ++ one_more (is_some (find is_bad got) || is_bad b) b
        → (if bad then [] else g ∷ good (got ++ b ∷ []))
        ≡ (if bad then [] else g ∷ good got) ++ one_more (is_some (if bad then Some g else find is_bad got) || is_bad b) b
    one true e = refl
    one false e = ap (λ l. g ∷ l) e

abbrev state : Kind → Program → ℕ → List ℕ → Option ℕ → StreamState
state kind program given g bad = record {
  program = program;
  kind = kind;
  given = given;
  answered = length g;
  found = found_of kind (failures (turns program.steps) (bits_told g));
  bad = bad;
}

abbrev heard_as : StreamState → ℕ → Option ℕ → Bool → StreamState
heard_as s b before bad =
    if is_some before then s else
    if bad then record s { bad = Some b } else
    record s { answered = s.answered + 1; found = with_more s.kind (mismatch_of (drop s.answered (all_wanted (turns s.program.steps))) (b == 49)) s.found }

hear-one : (kind : Kind) (program : Program) (given : ℕ) (got : List ℕ) (b : ℕ)
    → hear b (state kind program given (good got) (find is_bad got)) ≡ state kind program given (good (got ++ b ∷ [])) (find is_bad (got ++ b ∷ []))
hear-one kind program given got b =
    one (find is_bad got) (is_bad b) refl refl
    ∙ (λ i. state kind program given (sym (good-push got b) i) (sym (find-push got b) i))
  where
    G : List ℕ
    G = good got

    one : (f : Option ℕ) (bad : Bool) → find is_bad got ≡ f → is_bad b ≡ bad
        → heard_as (state kind program given G f) b f bad
        ≡ state kind program given (G ++ one_more (is_some f || bad) b) (elim f [ Some x ↦ Some x | None ↦ if bad then Some b else None ])
    one (Some x) bad e q = λ i. state kind program given (sym (append-nil G) i) (Some x)
    one None true e q = λ i. state kind program given (sym (append-nil G) i) (Some b)
    one None false e q = λ i. record {
      program = program;
      kind = kind;
      given = given;
      answered = sym (length-append G (b ∷ [])) i;
      found = found_same i;
      bad = None;
    }
      where
        W : List Wanted
        W = all_wanted (turns program.steps)

        all_same : failures (turns program.steps) (bits_told G) ++ mismatch_of (drop (length G) W) (b == 49) ≡ failures (turns program.steps) (bits_told (G ++ b ∷ []))
        all_same =
            (λ i. failing-is (turns program.steps) (bits_told G) i ++ mismatch_of (drop (sym (length-map G (λ b. b == 49)) i) W) (b == 49))
            ∙ sym (failing-push W (bits_told G) (b == 49))
            ∙ sym (failing-is (turns program.steps) (bits_told G ++ (b == 49) ∷ []))
            ∙ ap (failures (turns program.steps)) (sym (map-append (λ b. b == 49) G (b ∷ [])))

        found_same : with_more kind (mismatch_of (drop (length G) W) (b == 49)) (found_of kind (failures (turns program.steps) (bits_told G)))
            ≡ found_of kind (failures (turns program.steps) (bits_told (G ++ b ∷ [])))
        found_same = noted-more kind (failures (turns program.steps) (bits_told G)) (mismatch_of (drop (length G) W) (b == 49)) ∙ ap (found_of kind) all_same

pub hearing : HearingIsTheHistory
hearing kind p [] = λ i. stream_of kind (record p { got = sym (append-nil p.got) i })
hearing kind p (b ∷ bytes) =
    ap (hear_bytes bytes) (hear-one kind p.program p.given p.got b)
    ∙ hearing kind (record p { got = p.got ++ b ∷ [] }) bytes
    ∙ (λ i. stream_of kind (record p { got = append_assoc p.got (b ∷ []) bytes i }))

pub fresh_agrees : FreshAgrees
fresh_agrees Stops program = ap (λ l. record {
  program = program;
  kind = Stops;
  given = 0;
  answered = 0;
  found = found_of Stops l;
  bad = None;
}) (failures-none (turns program.steps))
fresh_agrees PlaysOn program = ap (λ l. record {
  program = program;
  kind = PlaysOn;
  given = 0;
  answered = 0;
  found = found_of PlaysOn l;
  bad = None;
}) (failures-none (turns program.steps))

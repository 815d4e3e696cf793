-- Answers that are taken some at a time.
use Rattle.std.proofs.Common.{◌≡◌, true, false, ℕ, zero, suc, ◌+◌, ◌-◌, ◌<◌, ◌≤◌, List, [], ◌∷◌, ◌++◌, length, take, drop, refl, sym, ap, ◌∙◌, append_assoc, arith, length-drop, Option, Some, None}
use Rattle.std.proofs.Math.Seq.{take-add}
use Rattle.std.proofs.lemmas.List.{append-nil, drop-drop, length-take}
use Rattle.std.specs.Option.{option_to_list}
use Rattle.std.specs.Prelude.{filter, is_some, slice_get}
use Rattle.scan_vectors.specs.Vector.{VectorBit, wanted_bits}
use Rattle.svf_programs.specs.Steps.{Numbered, Program}
use Rattle.play_model.specs.Play.{is_bad}
use Rattle.play_model.specs.PlayingOn.{Mismatch}
use Rattle.play_model.specs.Streams as stream
use Rattle.play_model.specs.Streams.{StreamState, answers_taken, hear, hear_bytes, stops_for, with_more}
use Rattle.player.specs.declared.progress.Progress.{Progress}
use Rattle.player.specs.Each.{hear_each}
use Rattle.player.specs.Findings.{IsKeptOf, Keeping, keeping}
use Rattle.player.specs.PlaceInPlay.{differing_bit}
use Rattle.player.specs.Progress.{IsProgressOf, standing_at, state_of, vector_bits}
use Rattle.player.specs.Taking.{TakesFirst, behind_answers}
use Rattle.player.specs.WordAhead.{IsExpectedBy}
use Rattle.player.proofs.AnswersTaken.{counts-keeps, counts-on, counts-same, noted-stops, reads-bit, takes-none, takes-on, wanted-most, where-owed}
use Rattle.player.proofs.Each.{each-one, each-unowed, none-of-none}
use Rattle.player.proofs.PlayerPlaces.{in-step, is-in, later, no-elements, turn}
use Rattle.player.proofs.Steps.{cut, same-first, wants-of-vector}
use Rattle.player.proofs.TurnPlaces.{reached}
use Rattle.player.proofs.WantedAhead.{as-wanted, next}

pub hears-append : (xs ys : List ℕ) (s : StreamState) → hear_bytes (xs ++ ys) s ≡ hear_bytes ys (hear_bytes xs s)
hears-append [] ys s = refl
hears-append (x ∷ xs) ys s = hears-append xs ys (hear x s)

-- what is left of a slice
pub take-whole : (n : ℕ) (l : List ℕ) → length l ≤ n → take n l ≡ l
take-whole zero [] le = refl
take-whole zero (x ∷ l) le = absurd (omega (arith, le))
take-whole (suc n) [] le = refl
take-whole (suc n) (x ∷ l) le = ap (λ r. x ∷ r) (take-whole n l (omega (arith, le)))

-- none is taken
pub takes-zero : (program : Program) (p : Progress) (k : Keeping) (bytes : List ℕ) → IsProgressOf program.steps p → IsKeptOf (state_of program p) k
    → TakesFirst program p k bytes p k 0
takes-zero program p k bytes stands keeps = record {
  most = omega arith;
  stands = stands;
  keeps = keeps;
  at = refl;
  taken = refl;
  state = refl;
  each = refl;
}

-- one is taken
pub takes-next : (program : Program) (p q : Progress) (k l : Keeping) (byte : ℕ) (more : List ℕ) → IsProgressOf program.steps p → p.bad ≡ None → 0 < p.owed
    → IsKeptOf (state_of program p) k → IsProgressOf program.steps q → IsKeptOf (state_of program q) l → q.at ≡ p.at
    → (is_bad byte ≡ false → (q.owed + 1 ≡ p.owed) × (q.bad ≡ None)) → (is_bad byte ≡ true → q.bad ≡ Some byte)
    → keeping l (state_of program q) ≡ hear byte (keeping k (state_of program p)) → TakesFirst program p k (byte ∷ more) q l 1
takes-next program p q k l byte more stands good some keeps then_stands then_keeps at taken_one bad_one heard = record {
  most = omega arith;
  stands = then_stands;
  keeps = then_keeps;
  at = at;
  taken = takes-on program p q byte more stands good some then_stands taken_one bad_one;
  state = heard;
  each = each-one (state_of program p) (state_of program q) k keeps byte more
      (takes-on program p q byte [] stands good some then_stands taken_one bad_one) (keeping l (state_of program q)) heard;
}

-- some are taken, and then others
pub takes-both : (program : Program) (p q r : Progress) (k l m : Keeping) (bytes : List ℕ) (n c : ℕ) → TakesFirst program p k bytes q l n
    → TakesFirst program q l (drop n bytes) r m c → TakesFirst program p k bytes r m (n + c)
takes-both program p q r k l m bytes n c one other = record {
  most = omega (arith, one.most, other.most, length-drop n bytes);
  stands = other.stands;
  keeps = other.keeps;
  at = other.at ∙ one.at;
  taken = one.taken ∙ ap (λ (x : List ℕ). take n bytes ++ x) other.taken
      ∙ sym (append_assoc (take n bytes) (take c (drop n bytes)) (answers_taken 256 (state_of program r) (drop c (drop n bytes))))
      ∙ (λ i. sym (take-add n c bytes) i ++ answers_taken 256 (state_of program r) (drop-drop c n bytes i));
  state = other.state ∙ ap (hear_bytes (take c (drop n bytes))) one.state
      ∙ sym (hears-append (take n bytes) (take c (drop n bytes)) (keeping k (state_of program p)))
      ∙ ap (λ (x : List ℕ). hear_bytes x (keeping k (state_of program p))) (sym (take-add n c bytes));
  each = one.each ∙ other.each ∙ ap (λ (x : List ℕ). hear_each x (keeping m (state_of program r))) (drop-drop c n bytes);
}

-- no more are taken
pub record TakesAll (program : Program) (p q : Progress) (k l : Keeping) (bytes : List ℕ) (n : ℕ) : Type 0 where
  pub count : n ≡ length (answers_taken 256 (state_of program p) bytes)
  pub state : keeping l (state_of program q) ≡ hear_bytes (answers_taken 256 (state_of program p) bytes) (keeping k (state_of program p))
  pub each : keeping l (state_of program q) ≡ hear_each bytes (keeping k (state_of program p))

module _ (program : Program) (p q : Progress) (k l : Keeping) (bytes : List ℕ) (n : ℕ) (first : TakesFirst program p k bytes q l n) where
  ends : answers_taken 256 (state_of program q) (drop n bytes) ≡ [] → keeping l (state_of program q) ≡ hear_each (drop n bytes) (keeping l (state_of program q))
      → TakesAll program p q k l bytes n
  ends none rests =
      let all : answers_taken 256 (state_of program p) bytes ≡ take n bytes =
      first.taken ∙ ap (λ (x : List ℕ). take n bytes ++ x) none ∙ append-nil (take n bytes) in
      record {
        count = omega (arith, first.most, ap length all, length-take n bytes);
        state = first.state ∙ ap (λ (x : List ℕ). hear_bytes x (keeping k (state_of program p))) (sym all);
        each = rests ∙ sym first.each;
      }

  pub ends-unowed : stream.owed 256 (state_of program q) ≡ 0 → TakesAll program p q k l bytes n
  ends-unowed none =
      ends (takes-none (state_of program q) (drop n bytes) none) (each-unowed (state_of program q) l first.keeps (drop n bytes) none)

  pub ends-empty : length bytes ≤ n → TakesAll program p q k l bytes n
  ends-empty le =
      let empty = no-elements (drop n bytes) (omega (arith, length-drop n bytes, le)) in
      ends (ap (answers_taken 256 (state_of program q)) empty ∙ none-of-none (state_of program q))
      (ap (λ (x : List ℕ). hear_each x (keeping l (state_of program q))) (sym empty))

-- an answer that is as the next wanted bit is to be
module _ (program : Program) (p : Progress) (stands : IsProgressOf program.steps p) (good : p.bad ≡ None) (some : 0 < p.owed)
    (s : Numbered) (first : slice_get program.steps p.at ≡ Some s) (v : List VectorBit) (scans : vector_bits s.what ≡ v)
    (k : Keeping) (keeps : IsKeptOf (state_of program p) k) (goes : stops_for k.kind k.found.list ≡ false)
    (calm : with_more k.kind [] k.found ≡ k.found) where
  module _ (byte i : ℕ) (more : List ℕ) (e : IsExpectedBy v p.judged byte i) where
    abbrev r : Progress
    r = record p { judged = i + 1 }

    full : stops_for k.kind k.found.list ≡ true → (r ≡ p) × (k ≡ k) × ((more : List Mismatch) → with_more k.kind more k.found ≡ k.found)
    full stops = let clash : false ≡ true = sym goes ∙ stops in absurd (cc)

    one : stops_for k.kind k.found.list ≡ false → (w : VectorBit) (ws : List VectorBit) → filter (λ v. is_some v.wanted) (drop p.judged v) ≡ w ∷ ws
        → (filter (λ v. is_some v.wanted) (drop (i + 1) v) ≡ ws)
        × (k ≡ record k { found = with_more k.kind (option_to_list (differing_bit s.number w e.bit)) k.found })
    one goes w ws is =
        let (b, wanted, found) = next v i e.bit e.there in
        let same : w ∷ ws ≡ b ∷ wanted_bits (drop (i + 1) v) = sym is ∙ e.next ∙ found in
        let its : w ≡ b = cc in
        let others : wanted_bits (drop (i + 1) v) ≡ ws = cc in (
          others,
          (λ j. record k { found = sym calm j })
              ∙ ap (λ (o : Option Mismatch). record k { found = with_more k.kind (option_to_list o) k.found })
              (sym (as-wanted s.number w e.bit (ap (λ (x : VectorBit). x.wanted) its ∙ wanted))),
        )

    pub takes-expected : TakesFirst program p k (byte ∷ more) (behind_answers p (i + 1) 1) k 1
    takes-expected =
        let stops_then : stops_for k.kind k.found.list ≡ p.stopped = keeps.stops ∙ noted-stops p.stopped in
        takes-next program p (behind_answers p (i + 1) 1) k k byte more stands good some keeps
        (counts-on program p r stands good some byte e.bit e.told s first v scans k k keeps refl stops_then full one)
        (counts-keeps program p r stands good some byte e.bit e.told s first v scans k k keeps refl stops_then full one)
        refl
        (λ is. (omega (arith, some), good))
        (λ is. let clash : false ≡ true = sym (reads-bit byte e.bit e.told).1 ∙ is in absurd (cc))
        (counts-same program p r stands good some byte e.bit e.told s first v scans k k keeps refl stops_then full one)

  -- no more are heard and owed than the vector has bits
  pub wanted-below : p.heard + p.owed ≤ length v
  wanted-below =
      let at = where-owed program p stands some in
      let work = in-step program p at.0 at.1 stands in
      let same : s ≡ work.step = same-first (drop p.at program.steps) s work.step (drop (suc p.at) program.steps) work.later (cut program.steps p.at s first) work.is in
      let bits_same : v ≡ vector_bits work.step.what = sym scans ∙ ap (λ (x : Numbered). vector_bits x.what) same in
      omega (
        arith,
        reached program (standing_at program.steps p) (turn program p at.0 at.1 stands) (later program p at.0 at.1 stands) p.owed
            (is-in program p at.0 at.1 stands),
        ap length (wants-of-vector work.step.what),
        ap length (ap (filter (λ v. is_some v.wanted)) bits_same),
        wanted-most v,
      )

-- behind some answers, and then others
pub behind-both : (p : Progress) (a n b m : ℕ) → behind_answers (behind_answers p a n) b m ≡ behind_answers p b (n + m)
behind-both p a n b m =
    let heard : p.heard + n + m ≡ p.heard + (n + m) = omega arith in
    let owed : p.owed - n - m ≡ p.owed - (n + m) = omega arith in
    (λ i. record p { heard = heard i; owed = owed i; judged = b })

pub behind-none : (p : Progress) → behind_answers p p.judged 0 ≡ p
behind-none p =
    let heard : p.heard + 0 ≡ p.heard = omega arith in
    let owed : p.owed - 0 ≡ p.owed = omega arith in
    (λ i. record p { heard = heard i; owed = owed i })

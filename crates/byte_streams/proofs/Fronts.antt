-- What writes one after another append.
use Rattle.std.proofs.Common.{◌≡◌, ℕ, zero, suc, Bool, List, [], refl, ◌++◌, ◌-◌, ◌<◌, length, take, drop, sym, ap, subst, ◌∙◌, append_assoc, Option, Result, Ok, arith}
use Rattle.std.proofs.lemmas.List.{append-nil, take-append-drop, length-drop}
use Rattle.std.proofs.Math.Seq.{take-length}
use Rattle.std.proofs.KnownBytes.{Appends-trans}
use Rattle.std.specs.Io.KnownBytes.{Appends}
use Rattle.std.specs.Prelude.{Err, IsOk, IsErr, OnOk}
use Rattle.byte_streams.specs.Counts.{CountedView}
use Rattle.byte_streams.specs.Writes.{AppendsFront, PutsAll, WritesAll, some_put}

-- known bytes grow by what stands before `rest` in `bytes`
pub record AppendsUpTo (old new : Option (List ℕ)) (bytes rest : List ℕ) : Type 0 where
  pub sent : List ℕ
  pub split : bytes ≡ sent ++ rest
  pub appends : Appends old new sent

-- one more write takes the first n bytes of the rest
AppendsUpTo-drop : {a b c : Option (List ℕ)} {bytes rest : List ℕ} (n : ℕ) → AppendsUpTo a b bytes rest
    → Appends b c (take n rest) → AppendsUpTo a c bytes (drop n rest)
AppendsUpTo-drop {a = a} {b = b} {c = c} {bytes = bytes} {rest = rest} n h more = record {
  sent = h.sent ++ take n rest;
  split = h.split ∙ ap (λ l. h.sent ++ l) (sym (take-append-drop n rest)) ∙ sym (append_assoc h.sent (take n rest) (drop n rest));
  appends = Appends-trans a b c h.sent (take n rest) h.appends more;
}

-- `&rest[n..]` is all that `drop` leaves
rest_from : (n : ℕ) (rest : List ℕ) → drop n rest ≡ take (length rest - n) (drop n rest)
rest_from n rest = rw (← length-drop n rest) (sym (take-length (drop n rest)))

pub AppendsUpTo-more : {a b c : Option (List ℕ)} {bytes rest : List ℕ} (n : ℕ) → AppendsUpTo a b bytes rest
    → Appends b c (take n rest) → AppendsUpTo a c bytes (take (length rest - n) (drop n rest))
AppendsUpTo-more {a = a} {c = c} {bytes = bytes} {rest = rest} n h more =
    subst (AppendsUpTo a c bytes) (rest_from n rest) (AppendsUpTo-drop n h more)

-- a front part of the first of two pieces is one of both
pub AppendsFront-first : {a b : Option (List ℕ)} {xs : List ℕ} (ys : List ℕ) → AppendsFront a b xs → AppendsFront a b (xs ++ ys)
AppendsFront-first ys h = record {
  sent = h.sent;
  rest = h.rest ++ ys;
  split = ap (λ l. l ++ ys) h.split ∙ append_assoc h.sent h.rest ys;
  appends = h.appends;
}

-- the whole of the first of two pieces, and a front part of the second
pub AppendsFront-next : (a b c : Option (List ℕ)) (xs ys : List ℕ) → Appends a b xs → AppendsFront b c ys → AppendsFront a c (xs ++ ys)
AppendsFront-next a b c xs ys whole h = record {
  sent = xs ++ h.sent;
  rest = h.rest;
  split = ap (λ l. xs ++ l) h.split ∙ sym (append_assoc xs h.sent h.rest);
  appends = Appends-trans a b c xs h.sent whole h.appends;
}

OnOk-then : {A E : Type 0} (a b c : Option (List ℕ)) (xs ys : List ℕ) (r : Result A E) → Appends a b xs → OnOk r (Appends b c ys)
    → OnOk r (Appends a c (xs ++ ys))
OnOk-then a b c xs ys (Ok x) one more = Appends-trans a b c xs ys one more
OnOk-then a b c xs ys (Err e) one more = tt

-- the same bytes
pub WritesAll-is : {W A E : Type 0} {contents : W → Option (List ℕ)} {a b : CountedView W} {xs ys : List ℕ} {result : Result A E} → xs ≡ ys
    → WritesAll contents a b xs result → WritesAll contents a b ys result
WritesAll-is {contents = contents} {a = a} {b = b} {result = result} same one = subst (λ (l : List ℕ). WritesAll contents a b l result) same one

-- one piece, and then another
pub WritesAll-then : {W A B E F : Type 0} {contents : W → Option (List ℕ)} {a b c : CountedView W} {xs ys : List ℕ} {first : Result A E}
    {result : Result B F} → WritesAll contents a b xs first → IsOk first → WritesAll contents b c ys result → WritesAll contents a c (xs ++ ys) result
WritesAll-then {contents = contents} {a = a} {b = b} {c = c} {xs = xs} {ys = ys} {first = Ok x} {result = result} one is more = record {
  ok = more.ok;
  broken = more.broken;
  whole = OnOk-then (contents a.inner) (contents b.inner) (contents c.inner) xs ys result one.whole more.whole;
  front = AppendsFront-next (contents a.inner) (contents b.inner) (contents c.inner) xs ys one.whole more.front;
}
WritesAll-then {first = Err e} one is more = absurd (cc)

-- the first piece was lost
pub WritesAll-stopped : {W A B E F : Type 0} {contents : W → Option (List ℕ)} {a b : CountedView W} {xs : List ℕ} {first : Result A E}
    {result : Result B F} (ys : List ℕ) → WritesAll contents a b xs first → IsErr first → IsErr result → WritesAll contents a b (xs ++ ys) result
WritesAll-stopped {first = Err f} {result = Err e} ys one is so = record {
  ok = (λ o. absurd (cc), λ o. let bad : 0 ≡ 1 = sym o ∙ one.broken.0 refl in absurd (cc));
  broken = (λ o. one.broken.0 refl, λ o. refl);
  whole = tt;
  front = AppendsFront-first ys one.front;
}
WritesAll-stopped {first = Ok x} ys one is so = absurd (cc)
WritesAll-stopped {first = Err f} {result = Ok x} ys one is so = absurd (cc)

-- some pieces were written, and of those that are left the first was lost
pub WritesAll-lost : {W A B E F : Type 0} {contents : W → Option (List ℕ)} {a b c : CountedView W} {ys : List ℕ} {first : Result A E}
    {result : Result B F} (all xs rest : List ℕ) → all ≡ (xs ++ ys) ++ rest → Appends (contents a.inner) (contents b.inner) xs
    → WritesAll contents b c ys first → IsErr first → IsErr result → WritesAll contents a c all result
WritesAll-lost {B = B} {F = F} {contents = contents} {a = a} {b = b} {c = c} {ys = ys} {first = first} {result = result} all xs rest split before one is so =
    let stopped : WritesAll contents b c (ys ++ rest) result = WritesAll-stopped rest one is so in
    record {
      ok = stopped.ok;
      broken = stopped.broken;
      whole = none result so;
      front = subst (AppendsFront (contents a.inner) (contents c.inner)) (sym split)
          (AppendsFront-first rest (AppendsFront-next (contents a.inner) (contents b.inner) (contents c.inner) xs ys before one.front));
    }
  where
    none : (r : Result B F) → IsErr r → OnOk r (Appends (contents a.inner) (contents c.inner) all)
    none (Err e) so = tt
    none (Ok x) so = absurd (cc)

-- all pieces were written
pub WritesAll-done : {W A E : Type 0} {contents : W → Option (List ℕ)} {a b : CountedView W} {xs : List ℕ} (x : A) → b.failures ≡ 0
    → Appends (contents a.inner) (contents b.inner) xs → WritesAll {A = A} {E = E} contents a b xs (Ok x)
WritesAll-done {contents = contents} {a = a} {b = b} {xs = xs} x none whole = record {
  ok = (λ is. none, λ e. refl);
  broken = (λ is. absurd (cc), λ e. absurd (cc));
  whole = whole;
  front = record { sent = xs; rest = []; split = sym (append-nil xs); appends = whole };
}

-- for a function that writes one piece after another
pub ruleset fronts = (WritesAll-then, WritesAll-stopped)

-- a call that took n bytes, and the calls for the rest
pub PutsAll-more : {S E : Type 0} {puts : S → List ℕ → Result ℕ E → S → Type 0} {s t u : S} {piece : List ℕ} {whole : Bool} (n : ℕ)
    → 0 < n → puts s piece (Ok n) t → PutsAll puts t (take (length piece - n) (drop n piece)) whole u → PutsAll puts s piece whole u
PutsAll-more zero above one others = absurd (omega arith)
PutsAll-more {puts = puts} {s = s} {t = t} {u = u} {piece = piece} {whole = whole} (suc n) above one others =
    some_put s piece n t whole u one (subst (λ l. PutsAll puts t l whole u) (sym (rest_from (suc n) piece)) others)

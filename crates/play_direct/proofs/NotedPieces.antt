-- What is noted of one piece after another.
use Rattle.std.proofs.Common.{◌≡◌, ℕ, zero, suc, ◌≤◌, List, [], Bool, true, false, Option, refl, sym, subst, ◌∙◌, inl, inr, arith}
use Rattle.std.specs.Prelude.{◌==◌, ◌⊎◌}
use Rattle.std.specs.Io.KnownBytes.{Appends}
use Rattle.std.proofs.KnownBytes.{Appends-nil}
use Rattle.byte_streams.specs.Counts.{CountedView}
use Rattle.byte_streams.specs.Writes.{WritesAll, flagged}
use Rattle.play_direct.specs.Noting.{Notes}

-- nothing is noted
pub Notes-none : {W : Type 0} (contents : W → Option (List ℕ)) (a : CountedView W) → a.failures ≤ 1 → Notes contents a a []
Notes-none contents a most =
    let nothing : Appends (contents a.inner) (contents a.inner) [] = Appends-nil _ in
    record {
      kept = λ lost. refl;
      whole = λ one none. nothing;
      front = λ one. record { sent = []; rest = []; split = refl; appends = nothing };
      most = most;
    }

-- the same bytes
pub Notes-is : {W : Type 0} {contents : W → Option (List ℕ)} {a b : CountedView W} {xs ys : List ℕ} → xs ≡ ys → Notes contents a b xs → Notes contents a b ys
Notes-is {contents = contents} {a = a} {b = b} same one = subst (λ (l : List ℕ). Notes contents a b l) same one

-- of the failures of one call there is one or none, and the flag says which
tells-which : (n : ℕ) (flag : Bool) → n ≤ 1 → flag ≡ (n == 0) → ((n ≡ 0) × (flag ≡ true)) ⊎ ((n ≡ 1) × (flag ≡ false))
tells-which zero flag most is = inl (refl, is)
tells-which (suc zero) flag most is = inr (refl, is)
tells-which (suc (suc n)) flag most is = absurd (omega (arith, most))

-- Of a writer that had lost nothing, what was noted is said as of any other call that writes.
pub noted-writes : {W : Type 0} (contents : W → Option (List ℕ)) (old new : CountedView W) (all : List ℕ) (flag : Bool) → flag ≡ (new.failures == 0)
    → old.failures ≡ 0 → Notes contents old new all → WritesAll contents old new all (flagged flag)
noted-writes contents old new all flag is none notes = by flag (tells-which new.failures flag notes.most is)
  where
    by : (flag : Bool) → ((new.failures ≡ 0) × (flag ≡ true)) ⊎ ((new.failures ≡ 1) × (flag ≡ false)) → WritesAll contents old new all (flagged flag)
    by true (inl some) = record {
      ok = (λ o. some.0, λ z. refl);
      broken = (λ o. absurd (cc), λ one. let bad : 0 ≡ 1 = sym some.0 ∙ one in absurd (cc));
      whole = notes.whole none some.0;
      front = notes.front none;
    }
    by false (inl some) = absurd (cc)
    by true (inr lost) = absurd (cc)
    by false (inr lost) = record {
      ok = (λ o. absurd (cc), λ z. let bad : 0 ≡ 1 = sym z ∙ lost.0 in absurd (cc));
      broken = (λ o. lost.0, λ one. refl);
      whole = tt;
      front = notes.front none;
    }

-- Writing beside a play: a writer that lost a byte is handed none any more, and the play goes on.
use Rattle.std.proofs.Common.{refl, sym, ap, subst, ◌∙◌}
use Rattle.std.proofs.KnownBytes.{Appends-trans}
use Rattle.std.specs.Prelude.{◌≡◌, ◌≢◌, ◌≤◌, ◌++◌, ℕ, zero, suc, List, Option}
use Rattle.std.specs.Io.KnownBytes.{Appends}
use Rattle.byte_streams.specs.Counts.{CountedView}
use Rattle.byte_streams.specs.Writes.{AppendsFront}
use Rattle.byte_streams.proofs.Fronts.{AppendsFront-first, AppendsFront-next}

-- What was noted of these bytes: all of them where no call of the writer was lost, a front part of them where the first
-- was lost, and nothing where one was lost before.
pub record Notes {W : Type 0} (contents : W → Option (List ℕ)) (old new : CountedView W) (bytes : List ℕ) : Type 0 where
  pub kept : old.failures ≢ 0 → new ≡ old
  pub whole : old.failures ≡ 0 → new.failures ≡ 0 → Appends (contents old.inner) (contents new.inner) bytes
  pub front : old.failures ≡ 0 → AppendsFront (contents old.inner) (contents new.inner) bytes
  pub most : new.failures ≤ 1

-- Of one piece, and then of another.
pub notes_then : {W : Type 0} (contents : W → Option (List ℕ)) (a b c : CountedView W) (xs ys : List ℕ)
    → Notes contents a b xs → Notes contents b c ys → Notes contents a c (xs ++ ys)
notes_then contents a b c xs ys one more = by b.failures refl
  where
    by : (n : ℕ) → b.failures ≡ n → Notes contents a c (xs ++ ys)
    by zero none = record {
      kept = λ lost.
          let same : b ≡ a = one.kept lost in
          absurd (lost (sym (ap (λ (v : CountedView _). v.failures) same) ∙ none));
      whole = λ e f. Appends-trans (contents a.inner) (contents b.inner) (contents c.inner) xs ys
          (one.whole e none) (more.whole none f);
      front = λ e. AppendsFront-next (contents a.inner) (contents b.inner) (contents c.inner) xs ys
          (one.whole e none) (more.front none);
      most = more.most;
    }
    by (suc n) some =
        let lost : b.failures ≢ 0 = λ e. let bad : 0 ≡ suc n = sym e ∙ some in absurd (cc) in
        let same : c ≡ b = more.kept lost in
        record {
          kept = λ before. same ∙ one.kept before;
          whole = λ e f. absurd (lost (sym (ap (λ (v : CountedView _). v.failures) same) ∙ f));
          front = λ e.
              subst (λ (v : CountedView _). AppendsFront (contents a.inner) (contents v.inner) (xs ++ ys)) (sym same)
              (AppendsFront-first ys (one.front e));
          most = more.most;
        }

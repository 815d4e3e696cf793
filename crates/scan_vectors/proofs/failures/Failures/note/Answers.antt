use Rattle.std.proofs.Common.{◌≡◌, ◌<◌, ◌+◌, ◌∷◌, ◌++◌, [], length, sym, ap, ◌∙◌, arith}
use Rattle.std.proofs.lemmas.Bool.Decides.{nat_tests}
use Rattle.scan_vectors.specs.Failures.{Found, found, most_listed, with_found}
use Rattle.scan_vectors.proofs.Listing.{keep-full, keep-more}
use Rattle.scan_vectors.proofs.failures.Failures.note.Goals as goal
use Rattle.scan_vectors.proofs.failures.Failures.note.Goals.{then-not-is_full, else-not-is_full}

pub returns : goal.returns
returns c =
    let old = c.args.self.now.list.items in
    let m = c.args.failure in
    let one : c.args.self.now.total + 1 ≡ c.args.self.now.total + length (m ∷ []) = omega arith in
    elim c.if-not-is_full.branch [
      | then-not-is_full w ↦
          let less : length old < 256 = grind (arith, nat_tests, c.is_full.ensures.value, c.is_full.ensures.fits, w.if-not-is_full.true) in
          ap (λ (s : _). found (record { list = s.list; total = s.total + 1 })) w.self-is
          ∙ (λ k. record { list = (w.push.ensures.items ∙ sym (keep-more most_listed old m less)) k; total = one k })
      | else-not-is_full w ↦
          let full : length old ≡ 256 = grind (arith, nat_tests, c.is_full.ensures.value, c.is_full.ensures.fits, w.if-not-is_full.false) in
          ap (λ (s : _). found (record { list = s.list; total = s.total + 1 })) w.self-is
          ∙ (λ k. record { list = sym (keep-full most_listed old m full) k; total = one k })
    ]

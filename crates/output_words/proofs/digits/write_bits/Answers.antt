use Rattle.std.proofs.Common.{◌≡◌, ℕ, ◌+◌, ◌-◌, List, [], ◌∷◌, ◌++◌, drop, take, refl, sym, ap, ◌∙◌, subst, arith}
use Rattle.std.specs.Io.KnownBytes.{Appends}
use Rattle.std.proofs.KnownBytes.{Appends-trans}
use Rattle.output_words.specs.Digits.{digits}
use Rattle.byte_streams.proofs.Fronts.{WritesAll-lost, WritesAll-done}
use Rattle.output_words.proofs.DigitLaws.{digits-more, digits-split}
use Rattle.output_words.proofs.digits.write_bits.Goals as goal

pub loop-i-preserved : goal.loop-i-preserved
loop-i-preserved g c =
    let n = c.loop-i.i - 1 in
    let up : c.loop-i.i ≡ n + 1 = omega (arith, c.loop-i-test.true) in
    let bits = c.args.bits.now in
    let more : digits (drop c.loop-i.i bits) ++ c.digit_of.result ∷ [] ≡ digits (drop n bits) =
    ap (λ d. digits (drop c.loop-i.i bits) ++ d ∷ []) c.digit_of.ensures ∙ digits-more bits n c.loop-i.i c.get.result up c.get.ensures in
    record {
      within = omega (arith, c.loop-i.invariant.within);
      none_lost = c.in_ok-put_all.ensures.writes.ok.0 refl;
      sent = subst (λ (l : List ℕ). Appends (g.W.Write.contents c.args.out.now.inner) (g.W.Write.contents c.put_all.new.out.inner) l) more
          (Appends-trans _ _ _ _ _ c.loop-i.invariant.sent c.in_ok-put_all.ensures.writes.whole);
    }

pub returns-in_err-put_all : goal.returns-in_err-put_all
returns-in_err-put_all g c =
    let n = c.loop-i.i - 1 in
    let up : c.loop-i.i ≡ n + 1 = omega (arith, c.loop-i-test.true) in
    let bits = c.args.bits.now in
    let more : digits (drop c.loop-i.i bits) ++ c.digit_of.result ∷ [] ≡ digits (drop n bits) =
    ap (λ d. digits (drop c.loop-i.i bits) ++ d ∷ []) c.digit_of.ensures ∙ digits-more bits n c.loop-i.i c.get.result up c.get.ensures in
    WritesAll-lost (digits bits) (digits (drop c.loop-i.i bits)) (digits (take n bits))
    (digits-split bits n ∙ ap (λ d. d ++ digits (take n bits)) (sym more))
    c.loop-i.invariant.sent c.in_err-put_all.ensures.writes refl c.from_residual.ensures.0

pub returns : goal.returns
returns g c =
    let none : c.loop-i.i ≡ 0 = omega (arith, c.loop-i-test.false) in
    WritesAll-done tt c.loop-i.invariant.none_lost
    (subst (λ (k : ℕ). Appends (g.W.Write.contents c.args.out.now.inner) (g.W.Write.contents c.loop-i.out.inner) (digits (drop k c.args.bits.now))) none c.loop-i.invariant.sent)

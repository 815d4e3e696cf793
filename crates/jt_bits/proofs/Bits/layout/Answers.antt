use Rattle.std.proofs.Common.{◌≡◌, ℕ, List, sym, ap, length, ◌∙◌, arith}
use Rattle.jt_bits.specs.Packed.{bits_in_words}
use Rattle.jt_bits.proofs.PackedWords.{listed-length}
use Rattle.jt_bits.proofs.Bits.layout.Goals as goal

pub returns-clause-bits : goal.returns-clause-bits
returns-clause-bits c =
    let long : c.self.inside.len ≡ length c.args.self.now = sym (listed-length c.self.inside.words.items c.self.inside.start c.self.inside.len) ∙ ap length c.self.view_is in
    sym (ap (λ (n : ℕ). bits_in_words c.deref.result.now c.self.inside.start n) (sym long)
    ∙ ap (λ (ws : List ℕ). bits_in_words ws c.self.inside.start c.self.inside.len) c.deref.ensures.value ∙ c.self.view_is)

pub returns-clause-few : goal.returns-clause-few
returns-clause-few c =
    let long : c.self.inside.len ≡ length c.args.self.now = sym (listed-length c.self.inside.words.items c.self.inside.start c.self.inside.len) ∙ ap length c.self.view_is in
    let same = ap length c.deref.ensures.value in
    (omega (arith, c.self.invariant.enough), omega (arith, c.self.invariant.no_more))

pub returns-clause-start : goal.returns-clause-start
returns-clause-start c = λ some.
    let long : c.self.inside.len ≡ length c.args.self.now = sym (listed-length c.self.inside.words.items c.self.inside.start c.self.inside.len) ∙ ap length c.self.view_is in
    let same = ap length c.deref.ensures.value in
    omega (arith, c.self.invariant.start (omega arith))

use Rattle.std.proofs.Common.{◌≡◌, ◌<◌, ◌≤◌, ◌*◌, ◌+◌, ℕ, sym, ap, length, get_or, false, ◌∙◌, arith}
use Rattle.jt_bits.proofs.PackedWords.{listed-length}
use Rattle.jt_bits.proofs.Lists.{no_word_at, nothing_past, word_is_at, bits_there, bit_of-get_or}
use Rattle.jt_bits.specs.Packed.{has_bit}
use Rattle.jt_bits.proofs.Bits.word_at.Goals as goal

pub returns-then-i-self : goal.returns-then-i-self
returns-then-i-self c =
    let long : c.self.inside.len ≡ length c.args.self.now = sym (listed-length c.self.inside.words.items c.self.inside.start c.self.inside.len) ∙ ap length c.self.view_is in
    let past : length c.args.self.now ≤ c.args.i = omega (arith, c.if-i-self.true) in
    record { value = no_word_at c.args.self.now c.args.i past; bits = nothing_past c.args.self.now c.args.i past }

pub returns : goal.returns
returns c =
    let less : c.args.i < c.self.inside.len = omega (arith, c.if-i-self.false) in
    let start : c.self.inside.start < 64 * length c.self.inside.words.items = c.self.invariant.start (omega (arith, less)) in
    let each : (j : ℕ) → j < 64 → has_bit c.lowest_bits.result j ≡ get_or c.args.self.now (c.args.i + j) false =
    bits_there c.self.inside.words.items c.deref.result.now c.self.inside.start c.self.inside.len c.args.i c.place-place.result c.window.result c.lowest_bits.result c.len.result c.args.self.now
    c.self.view_is c.self.invariant.enough start (omega (arith, less)) c.place-place.ensures (omega (arith, c.len.ensures, c.self.inside.words.ok.0)) c.deref.ensures.value
    c.window.ensures c.lowest_bits.ensures in
    record {
      value = word_is_at c.args.self.now c.args.i c.lowest_bits.result c.lowest_bits.type_inv each;
      bits = λ j h. each j h ∙ sym (bit_of-get_or c.args.self.now (c.args.i + j));
    }

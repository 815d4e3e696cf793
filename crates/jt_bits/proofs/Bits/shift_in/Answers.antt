use Rattle.std.proofs.Common.{◌≡◌, ◌<◌, ◌*◌, ◌%◌, ◌+◌, refl, sym, ap, length, ◌∙◌, arith}
use Rattle.std.proofs.lemmas.List.{with_items_is}
use Rattle.jt_bits.proofs.PackedWords.{listed-length}
use Rattle.jt_bits.proofs.Lists.{got_there, at_start, shifted_there}
use Rattle.jt_bits.proofs.Bits.shift_in.Goals as goal

pub shift-requires-clause-start_in : goal.shift-requires-clause-start_in
shift-requires-clause-start_in c =
    let long : c.self.inside.len ≡ length c.args.self.now = sym (listed-length c.self.inside.words.items c.self.inside.start c.self.inside.len) ∙ ap length c.self.view_is in
    let same = ap length c.deref_mut.ensures.value in
    omega (arith, same, c.self.invariant.start (omega (arith, c.requires)))

pub returns-clause-out : goal.returns-clause-out
returns-clause-out c =
    let long : c.self.inside.len ≡ length c.args.self.now = sym (listed-length c.self.inside.words.items c.self.inside.start c.self.inside.len) ∙ ap length c.self.view_is in
    let in_ : 0 < c.self.inside.len = omega (arith, c.requires) in
    got_there c.self.inside.words.items c.deref_mut.result.now c.self.inside.start c.self.inside.len 0 c.self.inside.start (length c.self.inside.words.items) c.args.self.now c.shift.result
    c.self.view_is in_ c.shift.ensures.out c.deref_mut.ensures.value (at_start c.self.inside.start (length c.self.inside.words.items) (c.self.invariant.start in_)) refl

pub returns-clause-bits : goal.returns-clause-bits
returns-clause-bits c =
    let long : c.self.inside.len ≡ length c.args.self.now = sym (listed-length c.self.inside.words.items c.self.inside.start c.self.inside.len) ∙ ap length c.self.view_is in
    let lent : length c.deref_mut.result.now ≡ length c.self.inside.words.items = ap length c.deref_mut.ensures.value in
    let kept : length c.shift.new.words ≡ length c.self.inside.words.items = c.shift.auto.words ∙ lent in
    let in_ : 0 < c.self.inside.len = omega (arith, c.requires) in
    shifted_there c.self.inside.words.items c.deref_mut.result.now c.shift.new.words _ c.self.inside.start c.shift.new.start c.self.inside.len
    ((c.self.inside.start + c.self.inside.len) % (64 * length c.deref_mut.result.now)) (length c.deref_mut.result.now)
    c.args.self.now c.args.bit
    c.self.view_is in_ c.self.invariant.enough (c.self.invariant.start in_) c.deref_mut.ensures.value kept
    (with_items_is c.self.inside.words c.shift.new.words (kept ∙ sym c.self.inside.words.ok.0)) refl c.shift.ensures.start lent c.shift.ensures.one_bit

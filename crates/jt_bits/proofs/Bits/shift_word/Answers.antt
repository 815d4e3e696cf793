use Rattle.std.proofs.Common.{◌≡◌, ◌++◌, ℕ, Bool, List, sym, ap, length, drop, ◌∙◌, arith}
use Rattle.std.proofs.lemmas.List.{with_items_is, length-drop, length-append}
use Rattle.jt_bits.specs.Words.{word_bits}
use Rattle.jt_bits.proofs.PackedWords.{listed-length}
use Rattle.jt_bits.proofs.WordShifts.{word_there, stays_there, shifts_are, length-word}
use Rattle.jt_bits.proofs.Bits.shift_word.Goals as goal

pub shift_word-requires-clause-start_in : goal.shift_word-requires-clause-start_in
shift_word-requires-clause-start_in c =
    let long : c.self.inside.len ≡ length c.args.self.now = sym (listed-length c.self.inside.words.items c.self.inside.start c.self.inside.len) ∙ ap length c.self.view_is in
    let same = ap length c.deref_mut.ensures.value in
    omega (arith, same, c.self.invariant.start (omega (arith, c.requires.some)))

pub returns-clause-out : goal.returns-clause-out
returns-clause-out c =
    word_there c.self.inside.words.items c.deref_mut.result.now c.shift_word.new.words c.shift_word.new.words c.self.inside.start c.self.inside.len c.args.bits c.args.n c.shift_word.result c.args.self.now
    c.self.view_is c.deref_mut.ensures.value c.shift_word.ensures.out

pub returns-clause-left : goal.returns-clause-left
returns-clause-left c =
    let long : c.self.inside.len ≡ length c.args.self.now = sym (listed-length c.self.inside.words.items c.self.inside.start c.self.inside.len) ∙ ap length c.self.view_is in
    let lent : length c.deref_mut.result.now ≡ length c.self.inside.words.items = ap length c.deref_mut.ensures.value in
    let kept : length c.shift_word.new.words ≡ length c.self.inside.words.items = c.shift_word.auto.words ∙ lent in
    stays_there c.self.inside.words.items c.deref_mut.result.now c.shift_word.new.words _ c.self.inside.start c.shift_word.new.start c.self.inside.len c.args.bits c.args.n c.args.self.now
    c.self.view_is c.self.invariant.enough (c.self.invariant.start (omega (arith, c.requires.some))) c.requires.few c.deref_mut.ensures.value kept
    (with_items_is c.self.inside.words c.shift_word.new.words (kept ∙ sym c.self.inside.words.ok.0)) c.shift_word.ensures.start c.shift_word.ensures.run

pub returns-clause-bits : goal.returns-clause-bits
returns-clause-bits c =
    returns-clause-left c
    ∙ sym (shifts_are c.args.self.now (word_bits c.args.bits c.args.n) c.requires.some
    ∙ ap (λ (k : ℕ). drop k (c.args.self.now ++ word_bits c.args.bits c.args.n)) (length-word c.args.bits c.args.n))

pub returns-clause-len : goal.returns-clause-len
returns-clause-len c =
    let held = c.args.self.now in
    let word = word_bits c.args.bits c.args.n in
    ap (λ (l : List Bool). length l) (returns-clause-left c)
    ∙ omega (arith, length-drop c.args.n (held ++ word), length-append held word, length-word c.args.bits c.args.n)

use Rattle.std.proofs.Common.{◌≡◌, ◌≢◌, ◌<◌, ℕ, true, false, sym, ap, ◌∙◌, arith}
use Rattle.std.specs.Int.Bits.{bit_and}
use Rattle.std.proofs.lemmas.Nat.{and_le_l}
use Rattle.jt_bits.specs.Packed.{has_bit}
use Rattle.jt_bits.proofs.PackedWords.{clears}
use Rattle.board_chips.proofs.BlockLaws.{no}
use Rattle.board_chips.proofs.words.without_bit.Goals as goal

below : (word mask j : ℕ) → has_bit word j ≡ true → has_bit (bit_and word mask) j ≡ false → bit_and word mask < word
below word mask j marked here =
    let apart : bit_and word mask ≢ word = λ e. no (sym here ∙ ap (λ (n : ℕ). has_bit n j) e ∙ marked) in
    omega (arith, and_le_l word mask, apart)

pub returns-clause-less : goal.returns-clause-less
returns-clause-less c = below c.args.word _ c.args.j c.requires.marked (clears c.args.word c.args.j c.requires.within).here

pub returns-clause-here : goal.returns-clause-here
returns-clause-here c = (clears c.args.word c.args.j c.requires.within).here

pub returns-clause-others : goal.returns-clause-others
returns-clause-others c = λ k h apart. (clears c.args.word c.args.j c.requires.within).others k h apart

use Rattle.std.proofs.Common.{◌≡◌, ◌∙◌, ◌++◌, ◌≤◌, ℕ, List, map, take, ap, subst}
use Rattle.board_model.specs.Chain.{members}
use Rattle.board_model.specs.Whole.{out_of_members, selected_bits_of}
use Rattle.board_chain.specs.Rows.{joined_registers}
use Rattle.board_chain.specs.Words.{word_bits}
use Rattle.board_chain.specs.Chains.{ChainValue}
use Rattle.board_chips.specs.WiredChips.{WiredChipValue, member_of}
use Rattle.board_chain.proofs.RestLaws.{word_comes_out}
use Rattle.board_chain.proofs.chain.Chain.word_out.Goals as goal

pub returns : goal.returns
returns c =
    let column = c.args.column in
    subst (λ (x : ChainValue). (n : ℕ) → n ≤ 64 → word_bits c.word_out.result n ≡ out_of_members column (word_bits c.args.bits n) (members x.chips)) c.self.view_is
    (λ n few. c.word_out.ensures n few
    ∙ ap (λ (l : List WiredChipValue). take n (joined_registers (map (λ (s : WiredChipValue). selected_bits_of column (member_of s)) l) ++ word_bits c.args.bits n)) c.chips.ensures
    ∙ word_comes_out column c.args.bits n c.self.inside.settled.chips)

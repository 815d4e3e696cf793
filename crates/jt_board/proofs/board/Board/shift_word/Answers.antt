use Rattle.std.proofs.Common.{◌≡◌, ◌∙◌, ◌<◌, true, false, length, map, ap, sym, subst, arith}
use Rattle.bitbang_protocol.specs.Cycles.{closed_messages}
use Rattle.bitbang_protocol.specs.declared.Message.TheVariants.{Write}
use Rattle.board_model.specs.Chain.{BoardState, fall, hear, members}
use Rattle.board_model.specs.Sound.{IsChain}
use Rattle.board_model.proofs.SoundEdges.{IsChain-told}
use Rattle.board_chain.specs.AtRest.{as_members, shifted_through}
use Rattle.board_chain.specs.Chains.{ChainValue}
use Rattle.board_chain.specs.Shifting.{all_shift}
use Rattle.board_chain.specs.Words.{word_bits}
use Rattle.jt_bits.proofs.WordShifts.{length-word}
use Rattle.jt_board.specs.Made.{board_at}
use Rattle.jt_board.specs.Shifting.{shift_cycles, shifts}
use Rattle.jt_board.specs.contracts.board.Board.{the_view}
use Rattle.jt_board.proofs.RestLaws.{chain-shifted}
use Rattle.jt_board.proofs.ShiftRuns.{heard_shift, shift_of}
use Rattle.jt_board.proofs.board.Board.shift_word.Goals as goal

pub invariant_of-self : goal.invariant_of-self
invariant_of-self c =
    let chain = c.self.inside.chain in
    let ts = word_bits c.args.bits c.args.n in
    let after = c.fall.ensures ∙ ap (λ (v : ChainValue). record v { chips = map fall v.chips }) c.shift_word.ensures in
    let column = c.shift_column-column.result in
    let low = as_members (shifted_through column ts (members chain.chips)) chain.chips in
    subst IsChain (sym (ap (λ (v : ChainValue). v.chips) after))
    (IsChain-told (Write false false false) (record { tck = true; trst = chain.trst; nets = chain.nets; chips = low })
    (chain-shifted column ts chain.chips c.self.invariant))

pub returns : goal.returns
returns c =
    let s = c.self.inside in
    let chain = s.chain in
    let n = c.args.n in
    let ts = word_bits c.args.bits n in
    let column = c.shift_column-column.result in
    let after = c.fall.ensures ∙ ap (λ (v : ChainValue). record v { chips = map fall v.chips }) c.shift_word.ensures in
    let is = shift_of (the_view s) (subst (λ (b : BoardState). shifts b ≡ true) (sym c.self.view_is) c.requires.shifts) in
    let all = subst (λ (b : BoardState). all_shift column b.chips ≡ true) (sym c.self.view_is) c.shift_column-column.ensures.shifts in
    let some : 0 < length ts = omega (arith, length-word c.args.bits n, c.requires.some) in
    subst (λ (b : BoardState). hear (closed_messages (shift_cycles ts)) b
    ≡ record { answers = word_bits c.word_out-out.result n; board = the_view (record s { chain = c.fall.new.self }) }) c.self.view_is
    (heard_shift column ts (the_view s) is.tck is.trst all c.self.invariant.sound c.self.invariant.some some
    ∙ (λ i. record { answers = sym (c.word_out-out.ensures n c.requires.few) i; board = board_at s.tck (sym after i) }))

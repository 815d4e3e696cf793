use Rattle.std.proofs.Common.{◌++◌, Bool, List, drop, map, subst}
use Rattle.board_model.specs.Whole.{selected_bits_of}
use Rattle.board_chain.specs.Rows.{joined_registers}
use Rattle.board_chain.specs.Words.{word_bits}
use Rattle.board_chips.specs.WiredChips.{WiredChipValue, member_of}
use Rattle.board_chain.specs.AtRest.{in_registers, shifted_through}
use Rattle.board_chain.specs.Settled.{as_told}
use Rattle.board_chain.proofs.Changing.{cut, quiet_becomes, quiet_holds}
use Rattle.board_chain.proofs.RestLaws.{Cut, shifted_still, word_chips}
use Rattle.board_chain.proofs.SettledLaws.{seen_as}
use Rattle.board_chain.proofs.settled.Settled.shift_word.Goals as goal

pub invariant_of-self : goal.invariant_of-self
invariant_of-self c =
    let s = c.self.inside in
    let old = s.chips.items in
    let mid = c.shift_word.new.chain in
    let column = c.args.column in
    let left-in : List WiredChipValue → List Bool = λ l. drop c.args.n (joined_registers (map (λ (x : WiredChipValue). selected_bits_of column (member_of x)) l) ++ word_bits c.args.bits c.args.n) in
    let is : Cut column (left-in old) old mid = subst (λ (l : List WiredChipValue). Cut column (left-in l) l mid) c.deref_mut.ensures.value c.shift_word.ensures in
    let change = cut column (in_registers (shifted_through column (word_bits c.args.bits c.args.n))) (left-in old) old mid is (word_chips column c.args.bits c.args.n old mid is) in
    quiet_holds s.chips mid s.nets.wiring s.nets.driving s.nets.strings.items c.self.invariant change.each (shifted_still column (left-in old) old mid is)

pub returns : goal.returns
returns c =
    let s = c.self.inside in
    let old = s.chips.items in
    let mid = c.shift_word.new.chain in
    let column = c.args.column in
    let left-in : List WiredChipValue → List Bool = λ l. drop c.args.n (joined_registers (map (λ (x : WiredChipValue). selected_bits_of column (member_of x)) l) ++ word_bits c.args.bits c.args.n) in
    let is : Cut column (left-in old) old mid = subst (λ (l : List WiredChipValue). Cut column (left-in l) l mid) c.deref_mut.ensures.value c.shift_word.ensures in
    let change = cut column (in_registers (shifted_through column (word_bits c.args.bits c.args.n))) (left-in old) old mid is (word_chips column c.args.bits c.args.n old mid is) in
    seen_as (λ v. in_registers (shifted_through column (word_bits c.args.bits c.args.n))) c.self.view_is (quiet_becomes as_told _ s.chips mid change s.nets.wiring.nets)

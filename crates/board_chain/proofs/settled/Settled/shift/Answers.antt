use Rattle.std.proofs.Common.{Bool, List, map, subst}
use Rattle.scan_vectors.specs.Held.{bits}
use Rattle.scan_vectors.specs.Vector.{tdis}
use Rattle.board_model.specs.Whole.{selected_bits_of}
use Rattle.board_chain.specs.Rows.{left}
use Rattle.board_chips.specs.WiredChips.{WiredChipValue, member_of}
use Rattle.board_chain.specs.AtRest.{in_registers, shifted_through}
use Rattle.board_chain.specs.Settled.{as_told}
use Rattle.board_chain.proofs.Changing.{cut, quiet_becomes, quiet_holds}
use Rattle.board_chain.proofs.RestLaws.{Cut, shifted_chips, shifted_still}
use Rattle.board_chain.proofs.SettledLaws.{seen_as}
use Rattle.board_chain.proofs.settled.Settled.shift.Goals as goal

pub invariant_of-self : goal.invariant_of-self
invariant_of-self c =
    let s = c.self.inside in
    let old = s.chips.items in
    let mid = c.shift_chain.new.chain in
    let column = c.args.column in
    let left-in : List WiredChipValue → List Bool = λ l. left (bits c.args.vector.now) (map (λ (x : WiredChipValue). selected_bits_of column (member_of x)) l) in
    let is : Cut column (left-in old) old mid = subst (λ (l : List WiredChipValue). Cut column (left-in l) l mid) c.deref_mut.ensures.value c.shift_chain.ensures in
    let change = cut column (in_registers (shifted_through column (tdis (bits c.args.vector.now)))) (left-in old) old mid is (shifted_chips column (bits c.args.vector.now) old mid is) in
    quiet_holds s.chips mid s.nets.wiring s.nets.driving s.nets.strings.items c.self.invariant change.each (shifted_still column (left-in old) old mid is)

pub returns : goal.returns
returns c =
    let s = c.self.inside in
    let old = s.chips.items in
    let mid = c.shift_chain.new.chain in
    let column = c.args.column in
    let left-in : List WiredChipValue → List Bool = λ l. left (bits c.args.vector.now) (map (λ (x : WiredChipValue). selected_bits_of column (member_of x)) l) in
    let is : Cut column (left-in old) old mid = subst (λ (l : List WiredChipValue). Cut column (left-in l) l mid) c.deref_mut.ensures.value c.shift_chain.ensures in
    let change = cut column (in_registers (shifted_through column (tdis (bits c.args.vector.now)))) (left-in old) old mid is (shifted_chips column (bits c.args.vector.now) old mid is) in
    seen_as (λ v. in_registers (shifted_through column (tdis (bits c.args.vector.now)))) c.self.view_is (quiet_becomes as_told _ s.chips mid change s.nets.wiring.nets)

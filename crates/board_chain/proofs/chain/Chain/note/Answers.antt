use Rattle.std.proofs.Common.{◌≡◌, ◌∙◌, List, Bool, map, ap, subst}
use Rattle.board_model.specs.Chain.{members}
use Rattle.board_model.specs.Whole.{out_of_members, selected_bits_of}
use Rattle.scan_vectors.specs.Failures.{differing, found, with_found}
use Rattle.scan_vectors.specs.Held.{bits}
use Rattle.scan_vectors.specs.Vector.{tdis}
use Rattle.board_chain.specs.Rows as rows
use Rattle.board_chain.specs.Chains.{ChainValue}
use Rattle.board_chips.specs.WiredChips.{WiredChipValue, member_of}
use Rattle.board_chain.proofs.RestLaws.{same_out}
use Rattle.board_chain.proofs.chain.Chain.note.Goals as goal

pub returns : goal.returns
returns c =
    let v = bits c.args.vector.now in
    let column = c.args.column in
    let command = c.args.command in
    let old = found c.args.failures.now in
    subst (λ (x : ChainValue). found c.note_chain.new.failures ≡ with_found (differing command v (out_of_members column (tdis v) (members x.chips))) old) c.self.view_is
    (c.note_chain.ensures
    ∙ ap (λ (l : List WiredChipValue). with_found (differing command v
    (rows.out v (map (λ (s : WiredChipValue). selected_bits_of column (member_of s)) l))) old) c.chips.ensures
    ∙ ap (λ (o : List Bool). with_found (differing command v o) old) (same_out column v c.self.inside.settled.chips))

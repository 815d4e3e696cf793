use Rattle.std.proofs.Common.{◌≡◌, ap, sym, ◌∙◌, map}
use Rattle.std.specs.Prelude.{option_map}
use Rattle.std.specs.List.{flat_map}
use Rattle.bsdl_values.specs.InstructionView as rows_view
use Rattle.bsdl_rules.specs.Namings.{earliest, repeated}
use Rattle.bsdl_rules.specs.Twice.{inside}
use Rattle.bsdl_rules.specs.Positions.{either}
use Rattle.bsdl_rules.specs.NamingView.{again}
use Rattle.bsdl_rules.proofs.PositionLaws.{earliest_of}
use Rattle.bsdl_rules.proofs.again.inside_again.Goals as goal

pub returns : goal.returns
returns c =
    let d = c.args.described.now in
    let opcodes = repeated (map (λ r. inside d.opcode_start r.name) (map rows_view.opcode_row d.opcodes.items)) in
    let owns = repeated (map (λ i. inside d.access_start i.name) (flat_map (λ r. r.instrs) (map rows_view.access_row d.accesses.items))) in
    let opcode : option_map again c.in_ok-opcode.opcode ≡ earliest opcodes =
    c.in_ok-opcode.ensures ∙ ap (λ rs. earliest (repeated (map (λ r. inside d.opcode_start r.name) (map rows_view.opcode_row rs)))) c.deref.ensures.value in
    let own : option_map again c.in_ok-own.own ≡ earliest owns =
    c.in_ok-own.ensures ∙ ap (λ rs. earliest (repeated (map (λ i. inside d.access_start i.name) (flat_map (λ r. r.instrs) (map rows_view.access_row rs))))) c.deref-2.ensures.value in
    c.earlier_again.ensures ∙ ap (λ o. either o (option_map again c.in_ok-own.own)) opcode ∙ ap (either (earliest opcodes)) own
    ∙ sym (earliest_of opcodes owns)

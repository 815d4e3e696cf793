use Rattle.std.proofs.Common.{ap, sym, ◌∙◌, map}
use Rattle.std.specs.List.{list_all}
use Rattle.bsdl_values.specs.InstructionView.{access_row, instr}
use Rattle.bsdl_rules.specs.Lengths.{row_len}
use Rattle.bsdl_rules.specs.Sizes.{captures_are}
use Rattle.bsdl_rules.proofs.SizeLaws.{all_captures, access_by}
use Rattle.bsdl_rules.proofs.lengths.access_fits.Goals as goal

pub returns-then-not-is_empty : goal.returns-then-not-is_empty
returns-then-not-is_empty c = λ n size.
    access_by n (access_row c.args.row.now) (sym c.if-not-is_empty.ensures)
    (c.captures_fit.ensures ∙ ap (λ is. list_all (captures_are c.row_size.result) (map instr is)) c.deref.ensures.value
    ∙ all_captures c.args.row.now.instrs.items c.row_size.result (row_len n (access_row c.args.row.now)) (c.row_size.ensures n size))

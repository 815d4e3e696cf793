use Rattle.std.proofs.Common.{◌∙◌, Bool, List, ap, map}
use Rattle.bsdl_values.specs.InstructionView.{access_row, instr}
use Rattle.bsdl_values.specs.declared.instructions.names.Instr.{Instr}
use Rattle.bsdl_rules.specs.Lengths.{row_len}
use Rattle.bsdl_sizes.specs.Lengths.{unfit_among}
use Rattle.bsdl_sizes.proofs.lengths.unfit_in_row.Goals as goal

pub returns : goal.returns
returns c = λ n size.
    let row = c.args.row.now in
    let len = row_len n (access_row row) in
    c.unfit_among.ensures len (c.row_size.ensures n size)
    ∙ ap (λ (is : List Instr). unfit_among c.is_empty.result len (map instr is)) c.deref.ensures.value
    ∙ ap (λ (b : Bool). unfit_among b len (map instr row.instrs.items)) c.is_empty.ensures

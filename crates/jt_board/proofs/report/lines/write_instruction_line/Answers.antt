use Rattle.std.proofs.Common.{refl, arith, ap, ◌∙◌, ℕ, List, ◌++◌}
use Rattle.std.proofs.lemmas.Grind.{common_steps}
use Rattle.std.specs.Prelude.{codes}
use Rattle.byte_streams.proofs.Fronts.{WritesAll-is, WritesAll-then, WritesAll-stopped}
use Rattle.jt_board.proofs.report.lines.write_instruction_line.Goals as goal

pub returns-in_err-write_field : goal.returns-in_err-write_field
returns-in_err-write_field g c =
    WritesAll-is (grind (arith, common_steps)) (WritesAll-stopped (c.args.name.now ++ codes " as BYPASS\n") c.in_err-write_field.ensures refl c.from_residual.ensures.0)

pub returns : goal.returns
returns g c =
    let name = c.as_bytes-2.result.now in
    WritesAll-is
    (ap (λ (d : List ℕ). (d ++ codes " treats ") ++ (name ++ codes " as BYPASS\n")) c.as_bytes.ensures.value
    ∙ ap (λ (n : List ℕ). (c.args.device.now ++ codes " treats ") ++ (n ++ codes " as BYPASS\n")) c.as_bytes-2.ensures.value)
    (WritesAll-then c.in_ok-write_field.ensures refl c.write_field-2.ensures)

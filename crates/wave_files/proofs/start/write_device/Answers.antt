use Rattle.std.proofs.Common.{◌++◌, refl}
use Rattle.byte_streams.proofs.Fronts.{WritesAll-is, WritesAll-stopped, WritesAll-then}
use Rattle.wave_files.specs.Values.{instruction_line, state_lines}
use Rattle.wave_files.proofs.start.write_device.Goals as goal

pub returns-in_err-write_state : goal.returns-in_err-write_state
returns-in_err-write_state g c =
    let rest = instruction_line c.args.number c.args.chip.now.chip.latch in
    WritesAll-is (λ i. state_lines c.args.number (c.state.ensures i) ++ rest)
    (WritesAll-stopped rest c.in_err-write_state.ensures refl c.from_residual.ensures.0)

pub returns : goal.returns
returns g c =
    WritesAll-is (λ i. state_lines c.args.number (c.state.ensures i) ++ instruction_line c.args.number (c.latch.ensures i))
    (WritesAll-then c.in_ok-write_state.ensures refl
    (c.write_instruction.ensures))

use Rattle.std.proofs.Common.{◌++◌, refl, sym}
use Rattle.board_chips.specs.WiredChips.{chip_state}
use Rattle.byte_streams.proofs.Fronts.{WritesAll-is, WritesAll-stopped, WritesAll-then}
use Rattle.wave_files.specs.Values.{instruction_change, latch, state_change}
use Rattle.wave_files.proofs.Instructions.{no_change}
use Rattle.wave_files.proofs.changes.write_device_change.Goals as goal

pub returns-in_err-write_state_change : goal.returns-in_err-write_state_change
returns-in_err-write_state_change g c =
    let rest = instruction_change c.args.number c.args.before.now.chip.latch c.args.after.now.chip.latch in
    WritesAll-is (λ i. state_change c.args.number (c.state.ensures i) (c.state-2.ensures i) ++ rest)
    (WritesAll-stopped rest c.in_err-write_state_change.ensures refl c.from_residual.ensures.0)

pub returns-then-quiet : goal.returns-then-quiet
returns-then-quiet g c =
    let was = latch (chip_state c.args.before.now) in
    let is = latch (chip_state c.args.after.now) in
    let none = sym (no_change c.args.number was is (c.requires.quiet c.if-quiet.true)) in
    WritesAll-is (λ i. state_change c.args.number (c.state.ensures i) (c.state-2.ensures i) ++ none i)
    (WritesAll-then c.in_ok-write_state_change.ensures refl c.put_all.ensures.writes)

pub returns : goal.returns
returns g c =
    WritesAll-is (λ i. state_change c.args.number (c.state.ensures i) (c.state-2.ensures i) ++ instruction_change c.args.number (c.latch.ensures i) (c.latch-2.ensures i))
    (WritesAll-then c.in_ok-write_state_change.ensures refl
    (c.write_instruction_change.ensures))

use Rattle.std.proofs.Common.{◌≡◌, false, length, sym, ap, subst, ◌∙◌}
use Rattle.std.proofs.lemmas.List.{length-replicate}
use Rattle.chip_instructions.specs.Device.{Device}
use Rattle.chip_instructions.specs.Fitting.{IsFormed, Fits}
use Rattle.chip_instructions.specs.Instruction.{reset_latch}
use Rattle.scan_registers.proofs.ChipLaws.{started, started_at, lengths_at_start}
use Rattle.scan_registers.proofs.chip.Chip.new.Goals as goal

pub invariant_of-result : goal.invariant_of-result
invariant_of-result g c =
    let d = c.in_ok-device.device in
    let described = c.get-description.result.now in
    let same : described ≡ d = c.get-description.ensures ∙ sym c.in_ok-device.ensures in
    let formed : IsFormed d = subst IsFormed (sym c.in_ok-device.ensures) c.requires.formed in
    let reset : c.in_ok-reset_latch.reset_latch ≡ reset_latch d = c.in_ok-reset_latch.ensures ∙ ap reset_latch same in
    let latch : c.in_ok-latch.latch ≡ reset_latch d = c.in_ok-latch.ensures ∙ reset in
    let many : c.instruction_length-length.result ≡ d.instruction_length = c.instruction_length-length.ensures ∙ ap (λ (x : Device). x.instruction_length) same in
    let fits : Fits d c.decode-decoded.result = subst (λ (x : Device). Fits x c.decode-decoded.result) (sym c.in_ok-device.ensures) c.decode-decoded.ensures.fits in
    let parts = c.in_ok-registers.ensures in
    record {
      formed = formed;
      reset_latch = reset;
      reset_decoded = started d c.args.device.now c.decode-decoded.result c.in_ok-latch.latch (sym c.in_ok-device.ensures) c.decode-decoded.ensures.meaning latch;
      reset_fits = fits;
      decoded = started_at d c.args.device.now c.decode-decoded.result c.in_ok-latch.latch (sym c.in_ok-device.ensures) c.decode-decoded.ensures.meaning;
      fits = fits;
      latch = ap length latch ∙ formed.reset;
      stage = ap length c.in_ok-stage.ensures ∙ length-replicate c.instruction_length-length.result false ∙ many;
      lengths = lengths_at_start g.B.Register.stage d described c.in_ok-registers.registers c.code_length.result c.args.boundary c.users.result.now same c.code_length.ensures c.users.ensures
          (c.requires.cells ∙ ap (λ (x : Device). length x.cells) (sym c.in_ok-device.ensures)) parts.1 parts.2 parts.3;
    }

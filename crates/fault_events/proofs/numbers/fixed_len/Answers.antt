use Rattle.std.proofs.Common.{Bool, List, length, unwrap_or, sym, ap, ◌∙◌}
use Rattle.chip_instructions.specs.declared.Selected.{Selected}
use Rattle.chip_instructions.specs.Fitting.{fixed_of}
use Rattle.chip_registers.specs.Registers.{user_latch}
use Rattle.board_chips.specs.WiredChips.{member_of}
use Rattle.fault_events.specs.Sources.{fixed_bits}
use Rattle.fault_events.proofs.Numbering.{unwrap_or_map, user_none, user_some}
use Rattle.fault_events.proofs.numbers.fixed_len.Goals as goal

pub returns-in-None : goal.returns-in-None
returns-in-None c =
    let chip = c.args.chip.now in
    let fixed = fixed_of chip.chip.device c.args.meant.fixed in
    sym (ap (λ (s : Selected). length (fixed_bits s fixed (member_of chip).registers)) c.in-User.is
    ∙ user_none c.in-User.k (unwrap_or fixed (user_latch c.in-User.k chip.chip.users)) chip.chip.users c.in-None.ensures)

pub returns-in-Some : goal.returns-in-Some
returns-in-Some c =
    let chip = c.args.chip.now in
    let k = c.in-User.k in
    let fixed = fixed_of chip.chip.device c.args.meant.fixed in
    let there = user_some k (unwrap_or fixed (user_latch k chip.chip.users)) chip.chip.users c.in-Some.field-0-0.now c.in-Some.latch.now c.in-Some.ensures in
    c.len.ensures
    ∙ ap (λ (b : _). length b.now) c.unwrap_or.ensures
    ∙ ap length (unwrap_or_map (λ (b : _). b.now) c.fixed_bits-fixed.result c.in-Some.latch)
    ∙ ap (λ (o : _). length (unwrap_or o c.in-Some.latch.now)) c.fixed_bits-fixed.ensures
    ∙ ap (λ (d : _). length (unwrap_or (fixed_of d c.args.meant.fixed) c.in-Some.latch.now)) c.device.ensures
    ∙ ap (λ (l : List Bool). length (unwrap_or fixed l)) (sym there.1)
    ∙ ap length (sym there.0)
    ∙ sym (ap (λ (s : Selected). length (fixed_bits s fixed (member_of chip).registers)) c.in-User.is)

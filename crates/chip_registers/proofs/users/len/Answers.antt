use Rattle.std.proofs.Common.{◌≡◌, length, get_or, sym, ap, ◌∙◌}
use Rattle.chip_registers.specs.declared.users.UserRegister.{UserRegister}
use Rattle.chip_registers.specs.Registers.{user_stage}
use Rattle.chip_registers.proofs.UserLaws.{stage_at}
use Rattle.chip_registers.proofs.users.len.Goals as goal

pub returns : goal.returns
returns c =
    let us = c.args.users.now in
    let k = c.args.k in
    let u = c.index-users-k.result in
    let stage : user_stage k us ≡ (get_or us k u).stage = stage_at us k u c.requires.there in
    c.len.ensures ∙ ap (λ (x : UserRegister). length x.stage) c.index-users-k.is ∙ sym (ap length stage)

use Rattle.std.proofs.Common.{◌≡◌, Bool, List, length, get_or, set, ap, ◌∙◌, arith}
use Rattle.chip_registers.specs.Registers.{user_stage, user_latch}
use Rattle.chip_registers.proofs.UserLaws.{stage_at, latch_at, updated_at}
use Rattle.chip_registers.proofs.users.update.Goals as goal

pub copy_from-requires : goal.copy_from-requires
copy_from-requires c =
    let us = c.args.users.now in
    let k = c.args.k in
    let u = c.index-users-k.result in
    let stage : user_stage k us ≡ (get_or us k u).stage = stage_at us k u c.requires.there in
    let latch : user_latch k us ≡ (get_or us k u).latch = latch_at us k u c.requires.there in
    omega (arith, c.requires.same, ap length stage, ap length latch)

pub returns : goal.returns
returns c =
    let us = c.args.users.now in
    let k = c.args.k in
    let u = c.index-users-k.result in
    let stage : user_stage k us ≡ (get_or us k u).stage = stage_at us k u c.requires.there in
    let latch : user_latch k us ≡ (get_or us k u).latch = latch_at us k u c.requires.there in
    let e = get_or us k u in
    ap (λ (s : List Bool). set us k (record e { latch = s })) c.copy_from.ensures
    ∙ updated_at us k u c.requires.there

use Rattle.std.proofs.Common.{◌≡◌, Bool, List, length, get_or, slice_get, sym, ap, ◌∙◌, arith}
use Rattle.chip_registers.specs.declared.users.UserRegister.{UserRegister}
use Rattle.chip_registers.specs.Registers.{user_stage, user_latch}
use Rattle.chip_registers.proofs.UserLaws.{stage_at, latch_at}
use Rattle.chip_registers.proofs.users.first_bit.Goals as goal

pub get-requires : goal.get-requires
get-requires c =
    let us = c.args.users.now in
    let k = c.args.k in
    let u = c.index-users-k.result in
    let stage : user_stage k us ≡ (get_or us k u).stage = stage_at us k u c.requires.there in
    let latch : user_latch k us ≡ (get_or us k u).latch = latch_at us k u c.requires.there in
    omega (arith, c.requires.some, ap length stage, ap (λ (x : UserRegister). length x.stage) c.index-users-k.is)

pub returns : goal.returns
returns c =
    let us = c.args.users.now in
    let k = c.args.k in
    let u = c.index-users-k.result in
    let stage : user_stage k us ≡ (get_or us k u).stage = stage_at us k u c.requires.there in
    let latch : user_latch k us ≡ (get_or us k u).latch = latch_at us k u c.requires.there in
    ap (λ (b : List Bool). slice_get b 0) stage ∙ ap (λ (x : UserRegister). slice_get x.stage 0) (sym c.index-users-k.is) ∙ c.get.ensures

use Rattle.std.proofs.Common.{◌≡◌, Bool, List, length, get_or, set, sym, ap, ◌∙◌, arith}
use Rattle.jt_bits.specs.Shifting.{after_shift}
use Rattle.chip_registers.specs.Registers.{user_stage, user_latch}
use Rattle.chip_registers.proofs.UserLaws.{stage_at, latch_at, with_stage_at}
use Rattle.chip_registers.proofs.users.shift.Goals as goal

pub shift_in-requires : goal.shift_in-requires
shift_in-requires c =
    let us = c.args.users.now in
    let k = c.args.k in
    let u = c.index-users-k.result in
    let stage : user_stage k us ≡ (get_or us k u).stage = stage_at us k u c.requires.there in
    let latch : user_latch k us ≡ (get_or us k u).latch = latch_at us k u c.requires.there in
    omega (arith, c.requires.some, ap length stage)

pub returns : goal.returns
returns c =
    let us = c.args.users.now in
    let k = c.args.k in
    let u = c.index-users-k.result in
    let stage : user_stage k us ≡ (get_or us k u).stage = stage_at us k u c.requires.there in
    let latch : user_latch k us ≡ (get_or us k u).latch = latch_at us k u c.requires.there in
    let e = get_or us k u in
    ap (λ (s : List Bool). set us k (record e { stage = s })) (c.shift_in.ensures.bits ∙ ap (λ (bits : List Bool). after_shift bits c.args.tdi) (sym stage))
    ∙ with_stage_at us k u (after_shift (user_stage k us) c.args.tdi) c.requires.there

use Rattle.std.proofs.Common.{◌≡◌, length, get_or, ap, arith}
use Rattle.chip_registers.specs.Registers.{user_stage}
use Rattle.chip_registers.proofs.UserLaws.{stage_at, run_put, users_put}
use Rattle.chip_registers.proofs.users.put_run.Goals as goal

pub put_run-requires-clause-inside : goal.put_run-requires-clause-inside
put_run-requires-clause-inside c =
    let us = c.args.users.now in
    let k = c.args.k in
    let u = c.index-users-k.result in
    let stage : user_stage k us ≡ (get_or us k u).stage = stage_at us k u c.requires.fit.there in
    omega (arith, c.requires.inside, ap length stage)

pub returns-clause-run : goal.returns-clause-run
returns-clause-run c =
    run_put c.args.users.now c.args.k c.index-users-k.result c.put_run.new.self c.args.at c.args.bits c.args.n c.requires.fit.there c.put_run.ensures

pub returns-clause-users : goal.returns-clause-users
returns-clause-users c = users_put c.args.users.now c.args.k c.index-users-k.result c.put_run.new.self c.requires.fit.there

use Rattle.std.proofs.Common.{◌≡◌, Bool, List, ◌++◌, length, get_or, set, take, drop, sym, ap, ◌∙◌, arith}
use Rattle.jt_bits.specs.Words.{word_bits}
use Rattle.chip_registers.specs.Registers.{user_stage}
use Rattle.chip_registers.proofs.UserLaws.{stage_at, with_stage_at}
use Rattle.chip_registers.proofs.users.shift_word.Goals as goal

pub shift_word-requires-clause-some : goal.shift_word-requires-clause-some
shift_word-requires-clause-some c =
    let us = c.args.users.now in
    let k = c.args.k in
    let u = c.index-users-k.result in
    let stage : user_stage k us ≡ (get_or us k u).stage = stage_at us k u c.requires.fit.there in
    omega (arith, c.requires.fit.some, ap length stage)

pub returns-clause-out : goal.returns-clause-out
returns-clause-out c =
    let us = c.args.users.now in
    let k = c.args.k in
    let stage : user_stage k us ≡ (get_or us k c.index-users-k.result).stage = stage_at us k c.index-users-k.result c.requires.fit.there in
    c.shift_word.ensures.out ∙ ap (λ (s : List Bool). take c.args.n (s ++ word_bits c.args.bits c.args.n)) (sym stage)

pub returns-clause-users : goal.returns-clause-users
returns-clause-users c =
    let us = c.args.users.now in
    let k = c.args.k in
    let u = c.index-users-k.result in
    let stage : user_stage k us ≡ (get_or us k u).stage = stage_at us k u c.requires.fit.there in
    let e = get_or us k u in
    ap (λ (s : List Bool). set us k (record e { stage = s })) (c.shift_word.ensures.left ∙ ap (λ (s : List Bool). drop c.args.n (s ++ word_bits c.args.bits c.args.n)) (sym stage))
    ∙ with_stage_at us k u (drop c.args.n (user_stage k us ++ word_bits c.args.bits c.args.n)) c.requires.fit.there

use Rattle.std.proofs.Common.{◌≡◌, Bool, List, length, get_or, set, unwrap_or, option_map, sym, ap, ◌∙◌}
use Rattle.chip_registers.specs.Registers.{user_stage, user_latch}
use Rattle.chip_registers.proofs.UserLaws.{stage_at, latch_at, with_stage_at}
use Rattle.chip_registers.proofs.users.capture.Goals as goal

pub capture-requires-clause-held : goal.capture-requires-clause-held
capture-requires-clause-held c =
    let us = c.args.users.now in
    let k = c.args.k in
    let u = c.index-users-k.result in
    let stage : user_stage k us ≡ (get_or us k u).stage = stage_at us k u c.requires.fit.there in
    let latch : user_latch k us ≡ (get_or us k u).latch = latch_at us k u c.requires.fit.there in
    sym (ap length stage) ∙ c.requires.fit.same ∙ ap length latch

pub capture-requires-clause-fixed : goal.capture-requires-clause-fixed
capture-requires-clause-fixed c =
    let us = c.args.users.now in
    let k = c.args.k in
    let u = c.index-users-k.result in
    let stage : user_stage k us ≡ (get_or us k u).stage = stage_at us k u c.requires.fit.there in
    let latch : user_latch k us ≡ (get_or us k u).latch = latch_at us k u c.requires.fit.there in
    λ b e. c.requires.fixed b e ∙ ap length stage

pub returns : goal.returns
returns c =
    let us = c.args.users.now in
    let k = c.args.k in
    let u = c.index-users-k.result in
    let stage : user_stage k us ≡ (get_or us k u).stage = stage_at us k u c.requires.fit.there in
    let latch : user_latch k us ≡ (get_or us k u).latch = latch_at us k u c.requires.fit.there in
    let e = get_or us k u in
    let bits : List Bool → List Bool = λ otherwise. unwrap_or (option_map {U = List Bool} (λ x. x.now) c.args.fixed) otherwise in
    ap (set us k) c.capture.ensures
    ∙ ap (λ (l : List Bool). set us k (record e { stage = bits l })) (sym latch)
    ∙ with_stage_at us k u (bits (user_latch k us)) c.requires.fit.there

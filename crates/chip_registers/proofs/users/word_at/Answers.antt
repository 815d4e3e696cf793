use Rattle.std.proofs.Common.{◌≡◌, ◌+◌, Bool, List, get_or, sym, ap, ◌∙◌}
use Rattle.jt_bits.specs.Words.{bit_of}
use Rattle.chip_registers.specs.declared.users.UserRegister.{UserRegister}
use Rattle.chip_registers.specs.Registers.{user_stage}
use Rattle.chip_registers.proofs.UserLaws.{stage_at}
use Rattle.chip_registers.proofs.users.word_at.Goals as goal

pub returns : goal.returns
returns c =
    let us = c.args.users.now in
    let k = c.args.k in
    let u = c.index-users-k.result in
    let stage : user_stage k us ≡ (get_or us k u).stage = stage_at us k u c.requires.there in
    λ j h. c.word_at.ensures.bits j h
    ∙ ap (λ (x : UserRegister). bit_of x.stage (c.args.i + j)) c.index-users-k.is ∙ sym (ap (λ (b : List Bool). bit_of b (c.args.i + j)) stage)

use Rattle.std.proofs.Common.{sym, ap, ◌∙◌}
use Rattle.std.specs.Option.{option_to_list}
use Rattle.play_model.specs.PlayingOn.{ending_of}
use Rattle.play_direct.proofs.Failing.{ending-first}
use Rattle.play_direct.proofs.steps.ending.Goals as goal

pub returns-in-None : goal.returns-in-None
returns-in-None c =
    ap (λ o. ending_of (option_to_list o)) (sym c.in-None.is)
    ∙ ending-first c.first.result c.args.failures.now.list.items c.first.ensures

pub returns-in-Some : goal.returns-in-Some
returns-in-Some c =
    ap (λ o. ending_of (option_to_list o)) (sym c.in-Some.is)
    ∙ ending-first c.first.result c.args.failures.now.list.items c.first.ensures

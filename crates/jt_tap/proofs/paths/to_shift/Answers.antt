use Rattle.std.proofs.Common.{◌≡◌, ◌++◌, ◌∙◌}
use Rattle.jt_tap.specs.Paths.{to_shift}
use Rattle.jt_tap.proofs.Legal.{shift_leads}
use Rattle.jt_tap.proofs.paths.to_shift.Goals as goal

pub returns-clause-legal : goal.returns-clause-legal
returns-clause-legal c =
    let is : c.append-2.new.path.items ≡ to_shift c.args.from c.args.column =
    c.append-2.ensures ∙ (λ i. (c.append.ensures ∙ (λ j. c.new-path.ensures j ++ c.towards_idle.ensures.path j)) i ++ c.shift_from_idle.ensures.path i) in
    rw is (shift_leads c.args.from c.args.column c.requires)

use Rattle.std.proofs.Common.{sym, ap, ◌∙◌}
use Rattle.std.specs.Option.{option_to_list}
use Rattle.scan_vectors.specs.Failures.{found}
use Rattle.play_model.specs.Streams.{stops_for, with_more}
use Rattle.player.specs.Findings.{Keeping}
use Rattle.player.proofs.Noted.{counts-more, nothing-more}
use Rattle.player.proofs.findings.Findings.note.Goals as goal

pub returns-in_default-clause-kept : goal.returns-in_default-clause-kept
returns-in_default-clause-kept c =
    let k = c.self.inside in
    sym c.self.view_is
    ∙ (λ i. record { kind = k.kind; found = sym (nothing-more k.kind (found k.failures) c.self.invariant) i })
    ∙ (λ i. record { kind = k.kind; found = with_more k.kind (option_to_list (sym c.in_default.is i)) (found k.failures) })
    ∙ ap (λ (s : Keeping). record s { found = with_more s.kind (option_to_list c.args.failure) s.found }) c.self.view_is

pub invariant_of-self : goal.invariant_of-self
invariant_of-self c =
    let k = c.self.inside in
    counts-more k.kind (found k.failures) (found c.note.new.self) c.in-Some.failure c.self.invariant
    (ap (λ (s : Keeping). stops_for s.kind s.found.list) c.self.view_is ∙ c.requires.goes_on) c.note.ensures

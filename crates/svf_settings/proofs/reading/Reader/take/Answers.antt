use Rattle.std.proofs.Common.{map, refl, subst, sym, ◌∙◌}
use Rattle.svf_parse.specs.View.{said_of}
use Rattle.svf_settings.specs.Held.{IsAlike, StandsIfNamed, settings_in}
use Rattle.svf_settings.specs.LookBack.{Settings}
use Rattle.svf_settings.proofs.OneStatementMore.{taken, told_behind}
use Rattle.svf_settings.proofs.reading.Reader.take.Goals as goal

pub returns-in-Some : goal.returns-in-Some
returns-in-Some c = λ all past o b stands.
    let own = map said_of c.args.statements.now in
    sym (told_behind own past (said_of c.args.statement.now) c.args.self.now c.refusal.result o c.refusal.ensures) ∙ c.in-Some.is

pub returns : goal.returns
returns c = λ all past o b stands.
    let own = map said_of c.args.statements.now in
    let s = said_of c.args.statement.now in
    let alike : IsAlike all own c.args.self.now.running = b.settings ∙ sym o.settings in
    let there : StandsIfNamed all (settings_in all c.args.self.now.running) c.args.index s = subst (λ (st : Settings). StandsIfNamed all st c.args.index s) (sym b.settings) stands in
    taken all own past s c.args.self.now c.pass-made.new.self c.pass-made.result c.place_behind-self.result o b
    (sym c.in_default.is ∙ c.refusal.ensures) (c.pass-made.ensures.next all alike there) (c.pass-made.ensures.step all alike there)
    (c.pass-made.ensures.step own refl (λ _. c.requires)) c.place_behind-self.ensures

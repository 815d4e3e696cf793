use Rattle.std.proofs.Common.{◌≡◌, map, not, true, false, Some, sym, ap, ◌∙◌}
use Rattle.svf_parse.specs.View.{said_of}
use Rattle.svf_programs.specs.Held.{part_in}
use Rattle.svf_settings.specs.LookBack as look
use Rattle.svf_settings.specs.Held.{settings_in, takes_over}
use Rattle.svf_settings.proofs.KeptFields.{same_part}
use Rattle.svf_settings.proofs.running.Running.in_force.Goals as goal

pub returns-in-Some : goal.returns-in-Some
returns-in-Some c = λ all alike smask stands.
    let a = c.args in
    let own = map said_of a.statements.now in
    let last = c.in-Some.ensures.last all in
    let same : look.last_of_command a.given.which (settings_in own a.self.now) ≡ Some (part_in all c.in-Some.part) =
    sym (ap (look.last_of_command a.given.which) alike) ∙ sym last in
    let over : takes_over a.given.len a.given.tdi.now a.given.tdo.now a.given.mask.now (Some (part_in all c.in-Some.part)) ≡ true =
    ap (takes_over a.given.len a.given.tdi.now a.given.tdo.now a.given.mask.now) (sym same) ∙ sym c.in-Some.ensures.over in
    same_part a.given.len a.given.tdi.now a.given.tdo.now a.given.mask.now (part_in all c.in-Some.part) over ∙ ap (look.in_force a.given.len a.given.tdi.now a.given.tdo.now a.given.mask.now) last

pub returns-in-None : goal.returns-in-None
returns-in-None c = λ all alike smask stands.
    let a = c.args in
    let over : takes_over a.given.len a.given.tdi.now a.given.tdo.now a.given.mask.now (look.last_of_command a.given.which (settings_in all a.self.now)) ≡ false =
    ap (λ (st : look.Settings). takes_over a.given.len a.given.tdi.now a.given.tdo.now a.given.mask.now (look.last_of_command a.given.which st)) alike ∙ sym c.in-None.ensures.over in
    c.written.ensures all alike a.given.tdo.now smask (stands (ap not over))

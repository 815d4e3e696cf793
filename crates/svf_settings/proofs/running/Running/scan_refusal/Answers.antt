use Rattle.std.proofs.Common.{sym, ◌∙◌, map}
use Rattle.svf_parse.specs.View.{said_of}
use Rattle.svf_settings.specs.Held.{settings_in}
use Rattle.svf_settings.proofs.ScanRefusals.{misses_told, other_told, sdr_told, sir_told}
use Rattle.svf_settings.proofs.running.Running.scan_refusal.Goals as goal

pub returns-then-misses_tdi : goal.returns-then-misses_tdi
returns-then-misses_tdi c =
    λ place tdo mask smask. misses_told (settings_in (map said_of c.args.statements.now) c.args.self.now) place c.args.which c.args.len c.args.tdi.now tdo mask smask
    (sym (c.misses_tdi.ensures tdo mask smask) ∙ c.if-misses_tdi.true)

pub returns-in-Sdr : goal.returns-in-Sdr
returns-in-Sdr c =
    let all = map said_of c.args.statements.now in
    λ place tdo mask smask.
    let m = rw c.in-Sdr.is at (sym (c.misses_tdi.ensures tdo mask smask) ∙ c.if-misses_tdi.false) in
    rw c.in-Sdr.is (sdr_told (settings_in all c.args.self.now) place c.args.len c.args.tdi.now tdo mask smask c.whole_refusal.result m c.whole_refusal.ensures)

pub returns-in-Sir : goal.returns-in-Sir
returns-in-Sir c =
    let all = map said_of c.args.statements.now in
    λ place tdo mask smask.
    let m = rw c.in-Sir.is at (sym (c.misses_tdi.ensures tdo mask smask) ∙ c.if-misses_tdi.false) in
    rw c.in-Sir.is (sir_told (settings_in all c.args.self.now) place c.args.len c.args.tdi.now tdo mask smask c.whole_refusal-in-Sir.result m c.whole_refusal-in-Sir.ensures)

pub returns-in_default : goal.returns-in_default
returns-in_default c =
    λ place tdo mask smask. other_told (settings_in (map said_of c.args.statements.now) c.args.self.now) place c.args.which c.args.len c.args.tdi.now tdo mask smask
    (sym (c.misses_tdi.ensures tdo mask smask) ∙ c.if-misses_tdi.false) c.in_default.not-Sdr c.in_default.not-Sir

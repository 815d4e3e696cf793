use Rattle.std.proofs.Common.{take, length, sym}
use Rattle.std.proofs.lemmas.Bool.Decides.{Decides-eqb}
use Rattle.std.proofs.lemmas.Slice.Eq.{slice_eq-Decides}
use Rattle.play_waves.specs.Fronts.{front}
use Rattle.play_waves.proofs.FrontLaws.{each_begins_so}
use Rattle.play_waves.proofs.fronts.begins_as_waves.Goals as goal

pub returns-clause-told : goal.returns-clause-told
returns-clause-told c =
    let d = slice_eq-Decides Decides-eqb front (take (length front) c.args.head.now) c.starts_with.result c.starts_with.ensures.value in
    (λ t. sym (d.0 t), λ e. d.1 (sym e))

pub returns-clause-each : goal.returns-clause-each
returns-clause-each c = each_begins_so

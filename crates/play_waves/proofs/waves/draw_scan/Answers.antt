use Rattle.std.proofs.Common.{◌≡◌, ◌++◌, List, [], Some, sym, ap, ◌∙◌}
use Rattle.byte_streams.proofs.Fronts.{WritesAll-is}
use Rattle.bitbang_protocol.specs.declared.Message.{Message}
use Rattle.bitbang_protocol.specs.Cycles.{closed_messages}
use Rattle.bitbang.specs.StepMessages.{line_message, step_messages}
use Rattle.scan_vectors.specs.Held.{bits}
use Rattle.scan_vectors.specs.Vector.{wanted_bits}
use Rattle.svf_programs.specs.Seen as seen
use Rattle.svf_programs.specs.Steps.{Step}
use Rattle.tck_cycles.specs.Cycles.{cycles}
use Rattle.tck_cycles.specs.Sources.{left}
use Rattle.play_model.specs.Play.{wants_of}
use Rattle.play_drawing.specs.Drawing.{after_drawing}
use Rattle.play_drawing.specs.Judging.{draw_judging}
use Rattle.play_drawing.specs.Notes.{no_note}
use Rattle.play_drawing.proofs.Judged.{told_nothing}
use Rattle.play_drawing.proofs.Runs.{on_ok_pen}
use Rattle.play_waves.proofs.waves.draw_scan.Goals as goal

pub returns-in-None-clause-writes : goal.returns-in-None-clause-writes
returns-in-None-clause-writes g c =
    let what = seen.step c.args.step.now.what in
    let none : wants_of what ≡ [] = ap wants_of c.requires.scans.2 ∙ c.in-None.ensures in
    WritesAll-is
    (told_nothing (Some c.args.kind) c.args.period (record { command = 0; messages = step_messages c.args.place what; wants = wants_of what }) c.args.drawing.now none)
    c.draw_step.ensures.writes

pub returns-in-Some-clause-writes : goal.returns-in-Some-clause-writes
returns-in-Some-clause-writes g c =
    let what = seen.step c.args.step.now.what in
    let place = c.args.place in
    let p = c.args.drawing.now in
    let cs : left c.of-source.result ≡ cycles place what = c.of-source.ensures.left ∙ c.of-source.ensures.whole in
    let ms : closed_messages (left c.of-source.result) ≡ step_messages place what =
    ap closed_messages cs ∙ sym (ap (λ (s : Step). line_message s ++ closed_messages (cycles place what)) c.requires.scans.2) in
    let vs : wanted_bits (bits c.args.vector.now) ≡ wants_of what = sym (ap wants_of c.requires.scans.2) in
    WritesAll-is
    (λ i. draw_judging c.args.kind (c.first_of_notes-number.ensures.number i) c.args.period (ms i) (vs i) no_note p)
    c.draw_judged.ensures.writes

pub returns-in-Some-clause-pen : goal.returns-in-Some-clause-pen
returns-in-Some-clause-pen g c =
    let what = seen.step c.args.step.now.what in
    let place = c.args.place in
    let cs : left c.of-source.result ≡ cycles place what = c.of-source.ensures.left ∙ c.of-source.ensures.whole in
    let ms : closed_messages (left c.of-source.result) ≡ step_messages place what =
    ap closed_messages cs ∙ sym (ap (λ (s : Step). line_message s ++ closed_messages (cycles place what)) c.requires.scans.2) in
    on_ok_pen c.draw_judged.result
    (λ at. at ∙ ap (λ (l : List Message). after_drawing c.args.period l c.args.drawing.now) ms)
    c.draw_judged.ensures.pen

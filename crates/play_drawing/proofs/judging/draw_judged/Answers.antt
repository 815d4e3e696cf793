use Rattle.std.proofs.Common.{◌≡◌, ◌<◌, List, [], length, sym, ap, ◌∙◌, arith}
use Rattle.byte_streams.proofs.Fronts.{WritesAll-is}
use Rattle.bitbang_protocol.specs.declared.Cycle.{Cycle}
use Rattle.bitbang_protocol.specs.declared.Message.{Message}
use Rattle.bitbang_protocol.specs.Cycles.{closed_messages}
use Rattle.scan_vectors.specs.Held.{bits}
use Rattle.scan_vectors.specs.Vector.{wanted_bits}
use Rattle.tck_cycles.specs.Sources.{left}
use Rattle.play_drawing.specs.Drawing.{after_drawing}
use Rattle.play_drawing.specs.Judging.{draw_judging}
use Rattle.play_drawing.specs.Notes.{no_note}
use Rattle.play_drawing.proofs.Runs.{always, closed_none, closed_some, on_ok_pen}
use Rattle.play_drawing.proofs.judging.draw_judged.Goals as goal

pub returns-then-left-eq0-clause-writes : goal.returns-then-left-eq0-clause-writes
returns-then-left-eq0-clause-writes g c =
    let none : closed_messages (left c.args.source) ≡ [] = closed_none (left c.args.source) (sym c.left.ensures ∙ c.if-left-eq0.true) in
    WritesAll-is
    (sym (ap (λ (ms : List Message). draw_judging c.args.kind c.args.number c.args.period ms (wanted_bits (bits c.args.vector.now)) no_note c.args.drawing.now) none))
    c.put_all.ensures.writes

pub returns-then-left-eq0-clause-pen : goal.returns-then-left-eq0-clause-pen
returns-then-left-eq0-clause-pen g c =
    let none : closed_messages (left c.args.source) ≡ [] = closed_none (left c.args.source) (sym c.left.ensures ∙ c.if-left-eq0.true) in
    always c.put_all.result (sym (ap (λ (ms : List Message). after_drawing c.args.period ms c.args.drawing.now) none))

pub returns-clause-writes : goal.returns-clause-writes
returns-clause-writes g c =
    let cs : List Cycle = left c.args.source in
    let some : 0 < length cs = omega (arith, c.left.ensures, c.if-left-eq0.false) in
    WritesAll-is
    (ap (λ (ms : List Message). draw_judging c.args.kind c.args.number c.args.period ms (wanted_bits (bits c.args.vector.now)) no_note c.args.drawing.now) (closed_some cs some))
    c.draw_told_cycles.ensures.writes

pub returns-clause-pen : goal.returns-clause-pen
returns-clause-pen g c =
    let cs : List Cycle = left c.args.source in
    let some : 0 < length cs = omega (arith, c.left.ensures, c.if-left-eq0.false) in
    on_ok_pen c.draw_told_cycles.result
    (λ at. at ∙ ap (λ (ms : List Message). after_drawing c.args.period ms c.args.drawing.now) (closed_some cs some))
    c.draw_told_cycles.ensures.pen

use Rattle.std.proofs.Common.{◌≡◌, ◌++◌, [], ap, refl, ◌∙◌}
use Rattle.std.proofs.lemmas.List.{append-nil}
use Rattle.byte_streams.proofs.Fronts.{WritesAll-done, WritesAll-is, WritesAll-stopped, WritesAll-then}
use Rattle.bitbang_protocol.specs.declared.Message.{Message}
use Rattle.scan_vectors.specs.Held.{bits}
use Rattle.play_drawing.specs.Drawing.{after_mark}
use Rattle.play_drawing.specs.Judging.{asked_bit, high_note, high_of, low_note, low_pen, note_behind, noted_mark, tdo_of}
use Rattle.play_drawing.proofs.Cycles.{pen_in_two}
use Rattle.play_drawing.proofs.judging.draw_told_cycle.Goals as goal

pub returns-in_err-draw_noted-clause-writes : goal.returns-in_err-draw_noted-clause-writes
returns-in_err-draw_noted-clause-writes g c =
    let n = c.args.number in
    let period = c.args.period in
    let p = c.args.drawing.now in
    let asked = asked_bit (bits c.args.vector.now) c.args.asked in
    let rest = noted_mark n (low_note c.args.note) (note_behind period c.args.cycle asked c.args.note p) (high_of c.args.cycle) (low_pen period c.args.cycle p) in
    WritesAll-is (λ i. noted_mark n c.args.note (c.low-low.ensures i) (c.level.ensures i) p ++ rest)
    (WritesAll-stopped rest c.in_err-draw_noted.ensures.writes refl c.from_residual.ensures.0)

pub returns-in_err-draw_noted-2-clause-writes : goal.returns-in_err-draw_noted-2-clause-writes
returns-in_err-draw_noted-2-clause-writes g c =
    let n = c.args.number in
    let period = c.args.period in
    let p = c.args.drawing.now in
    let asked = asked_bit (bits c.args.vector.now) c.args.asked in
    let q : c.draw_noted.new.drawing ≡ low_pen period c.args.cycle p = c.in_ok-draw_noted.ensures.pen ∙ ap (λ (m : Message). after_mark period m p) c.level.ensures in
    let high : c.note_at-high.result ≡ note_behind period c.args.cycle asked c.args.note p =
    c.note_at-high.ensures ∙ (λ i. high_note asked ((c.tdo.ensures ∙ ap tdo_of q) i) (c.low-low.ensures i)) in
    WritesAll-is
    (λ i. noted_mark n c.args.note (c.low-low.ensures i) (c.level.ensures i) p
    ++ noted_mark n (c.low-low.ensures i) (high i) (c.level-2.ensures i) (q i))
    (WritesAll-then c.in_ok-draw_noted.ensures.writes refl
    (WritesAll-is (append-nil _)
    (WritesAll-stopped [] c.in_err-draw_noted-2.ensures.writes refl c.from_residual-in_err-draw_noted-2.ensures.0)))

pub returns-clause-writes : goal.returns-clause-writes
returns-clause-writes g c =
    let n = c.args.number in
    let period = c.args.period in
    let p = c.args.drawing.now in
    let asked = asked_bit (bits c.args.vector.now) c.args.asked in
    let q : c.draw_noted.new.drawing ≡ low_pen period c.args.cycle p = c.in_ok-draw_noted.ensures.pen ∙ ap (λ (m : Message). after_mark period m p) c.level.ensures in
    let high : c.note_at-high.result ≡ note_behind period c.args.cycle asked c.args.note p =
    c.note_at-high.ensures ∙ (λ i. high_note asked ((c.tdo.ensures ∙ ap tdo_of q) i) (c.low-low.ensures i)) in
    WritesAll-is
    (λ i. noted_mark n c.args.note (c.low-low.ensures i) (c.level.ensures i) p
    ++ noted_mark n (c.low-low.ensures i) (high i) (c.level-2.ensures i) (q i))
    (WritesAll-then c.in_ok-draw_noted.ensures.writes refl
    (WritesAll-done c.note_at-high.result (c.in_ok-draw_noted-2.ensures.writes.ok.0 refl) c.in_ok-draw_noted-2.ensures.writes.whole))

pub returns-clause-note : goal.returns-clause-note
returns-clause-note g c =
    let period = c.args.period in
    let p = c.args.drawing.now in
    let asked = asked_bit (bits c.args.vector.now) c.args.asked in
    let q : c.draw_noted.new.drawing ≡ low_pen period c.args.cycle p = c.in_ok-draw_noted.ensures.pen ∙ ap (λ (m : Message). after_mark period m p) c.level.ensures in
    c.note_at-high.ensures ∙ (λ i. high_note asked ((c.tdo.ensures ∙ ap tdo_of q) i) (c.low-low.ensures i))

pub returns-clause-pen : goal.returns-clause-pen
returns-clause-pen g c =
    pen_in_two c.args.period c.args.cycle c.args.drawing.now c.draw_noted.new.drawing c.level.result c.level-2.result c.level.ensures c.level-2.ensures c.in_ok-draw_noted.ensures.pen
    c.draw_noted-2.new.drawing c.in_ok-draw_noted-2.ensures.pen

use Rattle.std.proofs.Common.{◌≡◌, ◌*◌, true, List, length, sym, ap, subst, ◌∙◌, arith, Some}
use Rattle.byte_streams.proofs.Fronts.{WritesAll-is}
use Rattle.jt_bits.specs.Packed.{has_bit}
use Rattle.jt_bits.specs.Words.{word_bits}
use Rattle.bitbang_protocol.specs.declared.Message.{Message}
use Rattle.bitbang_protocol.specs.Cycles.{closed_messages}
use Rattle.board_model.specs.Chain.{BoardState, ChipState, Heard, hear, tdi_before}
use Rattle.board_model.specs.Sound.{IsSoundBoard}
use Rattle.jt_board.specs.Shifting.{shift_cycles, shifts}
use Rattle.play_drawing.specs.Drawing.{after_drawing, draw, later}
use Rattle.play_drawing.specs.Pens.{Pen}
use Rattle.play_drawing.specs.Shifted.{edges_text, tdo_bit}
use Rattle.play_drawing.proofs.Shifted.{drawn_word, no_edges, shifted_lines, word_alike}
use Rattle.play_drawing.proofs.Strokes.{later_most, pen}
use Rattle.play_drawing.proofs.drawing.Drawing.shift.Goals as goal

pub shift_word-tdo-requires-clause-shifts : goal.shift_word-tdo-requires-clause-shifts
shift_word-tdo-requires-clause-shifts g c = ap (λ (p : Pen). shifts p.board) c.self.view_is ∙ c.requires.shifting.board

pub shift_word-requires-clause-shifts : goal.shift_word-requires-clause-shifts
shift_word-requires-clause-shifts g c =
    ap shifts (sym c.self.invariant.0) ∙ ap (λ (p : Pen). shifts p.board) c.self.view_is ∙ c.requires.shifting.board

pub invariant_of-self : goal.invariant_of-self
invariant_of-self g c =
    word_alike (closed_messages (shift_cycles (word_bits c.args.tdi c.args.count))) c.self.inside.ahead c.self.inside.behind c.shift_word-tdo.new.self
    c.shift_word.new.self c.self.invariant (ap (λ (h : Heard). h.board) c.shift_word-tdo.ensures) (ap (λ (h : Heard). h.board) c.shift_word.ensures)
    (omega (arith, c.devices-2.ensures.count, c.devices-2.ensures.most))

pub returns-then-count-eq0-clause-writes : goal.returns-then-count-eq0-clause-writes
returns-then-count-eq0-clause-writes g c =
    let none = no_edges (has_bit c.args.tdi) c.args.count c.if-count-eq0.true in
    WritesAll-is (sym (ap (λ (ms : List Message). draw c.args.period ms c.args.self.now) none)) c.put_all.ensures.writes

pub returns-then-count-eq0-clause-pen : goal.returns-then-count-eq0-clause-pen
returns-then-count-eq0-clause-pen g c =
    let none = no_edges (has_bit c.args.tdi) c.args.count c.if-count-eq0.true in
    sym (ap (λ (ms : List Message). after_drawing c.args.period ms c.args.self.now) none)

pub returns-clause-writes : goal.returns-clause-writes
returns-clause-writes g c =
    let p = c.args.self.now in
    let end = c.shift_word-tdo.new.self in
    let at : c.self.inside.ahead ≡ p.board = ap (λ (q : Pen). q.board) c.self.view_is in
    let word = drawn_word c.args.period c.args.tdi c.args.count c.shift_word-tdo.result c.tdo.result p end c.requires.shifting
    (subst IsSoundBoard at c.devices.ensures.sound)
    (omega (arith, ap (λ (b : BoardState). length b.chips) at, c.devices.ensures.count, c.devices.ensures.some)) (omega (arith, c.if-count-eq0.false))
    (ap (hear (closed_messages (shift_cycles (word_bits c.args.tdi c.args.count)))) (sym at) ∙ c.shift_word-tdo.ensures)
    (c.tdo.ensures ∙ ap (λ (cs : List ChipState). tdi_before true cs) c.chain.ensures.chips) in
    WritesAll-is
    (ap (λ (q : Pen). edges_text c.args.period q.marks.time (has_bit c.args.tdi) (tdo_bit c.shift_word-tdo.result c.args.count c.tdo.result) 0 c.args.count) c.self.view_is
    ∙ sym word.text)
    c.write_edges-written.ensures

pub returns-clause-pen : goal.returns-clause-pen
returns-clause-pen g c =
    let p = c.args.self.now in
    let was = c.self.inside.marks in
    let end = c.shift_word-tdo.new.self in
    let at : c.self.inside.ahead ≡ p.board = ap (λ (q : Pen). q.board) c.self.view_is in
    let marks : was ≡ p.marks = ap (λ (q : Pen). q.marks) c.self.view_is in
    let word = drawn_word c.args.period c.args.tdi c.args.count c.shift_word-tdo.result c.tdo.result p end c.requires.shifting
    (subst IsSoundBoard at c.devices.ensures.sound)
    (omega (arith, ap (λ (b : BoardState). length b.chips) at, c.devices.ensures.count, c.devices.ensures.some)) (omega (arith, c.if-count-eq0.false))
    (ap (hear (closed_messages (shift_cycles (word_bits c.args.tdi c.args.count)))) (sym at) ∙ c.shift_word-tdo.ensures)
    (c.tdo.ensures ∙ ap (λ (cs : List ChipState). tdi_before true cs) c.chain.ensures.chips) in
    let time : c.time_after.result ≡ later p.marks.time (c.args.count * c.args.period) =
    c.time_after.ensures ∙ (λ i. later (marks i).time (c.saturating_mul.ensures i)) ∙ later_most p.marks.time (c.args.count * c.args.period) in
    (λ i. pen c.self.inside.extras (record was { tdi = Some (c.tdi.ensures i); time = time i }) end)
    ∙ ap (λ (q : Pen). pen q.extras (record was { tdi = Some (has_bit c.args.tdi c.args.count); time = later p.marks.time (c.args.count * c.args.period) }) end)
    c.self.view_is
    ∙ shifted_lines was p (has_bit c.args.tdi 0) (has_bit c.args.tdi c.args.count) (later p.marks.time (c.args.count * c.args.period)) end marks c.requires.shifting
    ∙ sym word.pen

use Rattle.std.proofs.Common.{◌≡◌, ◌++◌, ◌∷◌, ℕ, List, [], false, refl, sym, ap, ◌∙◌, append_assoc, drop}
use Rattle.std.proofs.KnownBytes.{Appends-nil, Appends-trans}
use Rattle.byte_streams.proofs.Fronts.{WritesAll-done, WritesAll-is, WritesAll-lost, WritesAll-then}
use Rattle.bitbang_protocol.specs.declared.Cycle.{Cycle}
use Rattle.bitbang_protocol.specs.declared.Message.TheVariants.{Write}
use Rattle.scan_vectors.specs.Held.{bits}
use Rattle.scan_vectors.specs.Vector.{wanted_bits}
use Rattle.tck_cycles.specs.Sources.{left}
use Rattle.play_drawing.specs.declared.notes.Note.{Note}
use Rattle.play_drawing.specs.Drawing.{after_drawing}
use Rattle.play_drawing.specs.Judging.{asked_bit, cycle_text, draw_judging, noted_mark}
use Rattle.play_drawing.proofs.Judged.{asked_inside, closed_of, closed_text, one_lost, one_pen, one_told}
use Rattle.play_drawing.proofs.Runs.{on_ok_pen}
use Rattle.play_drawing.proofs.judging.draw_told_cycles.Goals as goal

pub loop-cycle-init : goal.loop-cycle-init
loop-cycle-init g c = record {
  none_lost = c.requires.none_lost;
  sent = [];
  writes = Appends-nil _;
  split = ap (λ (x : Note). draw_judging c.args.kind c.args.number c.args.period (closed_of (left c.args.source)) (wanted_bits (bits c.args.vector.now)) x c.args.drawing.now)
      (sym c.none-note.ensures);
  pen = refl;
}

pub draw_told_cycle-requires-clause-inside : goal.draw_told_cycle-requires-clause-inside
draw_told_cycle-requires-clause-inside g c =
    asked_inside c.in-Some.cycle.read (bits c.args.vector.now) c.loop-cycle.at c.asked_at-asked.result c.asked_at-asked.ensures

pub place_behind-at-requires : goal.place_behind-at-requires
place_behind-at-requires g c =
    asked_inside c.in-Some.cycle.read (bits c.args.vector.now) c.loop-cycle.at c.asked_at-asked.result c.asked_at-asked.ensures

pub loop-cycle-preserved : goal.loop-cycle-preserved
loop-cycle-preserved g c =
    let i = c.loop-cycle.invariant in
    let v = bits c.args.vector.now in
    let p = c.loop-cycle.drawing in
    let q = c.draw_told_cycle.new.drawing in
    let note = c.loop-cycle.note in
    let cycle : Cycle = c.in-Some.cycle in
    let cs : List Cycle = left c.loop-cycle.source in
    let rest : List Cycle = left c.next_cycle.new.self in
    let first : cs ≡ cycle ∷ rest = c.in-Some.ensures.gives in
    let text : List ℕ = cycle_text c.args.number c.args.period cycle (asked_bit v c.asked_at-asked.result) note p in
    let behind : List ℕ = draw_judging c.args.kind c.args.number c.args.period (closed_of rest) (wanted_bits (drop c.place_behind-at.result v)) c.in_ok-note.note q in
    record {
      none_lost = c.in_ok-note.ensures.writes.ok.0 refl;
      sent = i.sent ++ text;
      writes = Appends-trans _ _ _ _ _ i.writes c.in_ok-note.ensures.writes.whole;
      split =
          i.split
          ∙ ap (λ (l : List ℕ). i.sent ++ l)
          (one_told c.args.kind c.args.number c.args.period v c.loop-cycle.at c.asked_at-asked.result cycle cs rest first c.asked_at-asked.ensures note p
          c.place_behind-at.result c.in_ok-note.note q c.in_ok-note.ensures.note c.in_ok-note.ensures.pen c.place_behind-at.ensures)
          ∙ sym (append_assoc i.sent text behind);
      pen = i.pen
          ∙ one_pen c.args.kind c.args.number c.args.period v c.loop-cycle.at c.asked_at-asked.result cycle cs rest first c.asked_at-asked.ensures note p q
          c.in_ok-note.ensures.pen;
    }

pub returns-in_err-note-clause-writes : goal.returns-in_err-note-clause-writes
returns-in_err-note-clause-writes g c =
    let i = c.loop-cycle.invariant in
    let v = bits c.args.vector.now in
    let p = c.loop-cycle.drawing in
    let note = c.loop-cycle.note in
    let cycle : Cycle = c.in-Some.cycle in
    let cs : List Cycle = left c.loop-cycle.source in
    let rest : List Cycle = left c.next_cycle.new.self in
    let text : List ℕ = cycle_text c.args.number c.args.period cycle (asked_bit v c.asked_at-asked.result) note p in
    let lost = one_lost c.args.kind c.args.number c.args.period v c.loop-cycle.at c.asked_at-asked.result cycle cs rest c.in-Some.ensures.gives c.asked_at-asked.ensures note p in
    WritesAll-lost _ i.sent lost.0
    (i.split ∙ ap (λ (l : List ℕ). i.sent ++ l) lost.1 ∙ sym (append_assoc i.sent text lost.0))
    i.writes c.in_err-note.ensures.writes refl c.from_residual.ensures.0

pub returns-clause-writes : goal.returns-clause-writes
returns-clause-writes g c =
    let i = c.loop-cycle.invariant in
    let v = bits c.args.vector.now in
    let p = c.loop-cycle.drawing in
    let note = c.loop-cycle.note in
    let vs = wanted_bits (drop c.loop-cycle.at v) in
    WritesAll-is
    (sym (i.split
    ∙ ap (λ (cs : List Cycle). i.sent ++ draw_judging c.args.kind c.args.number c.args.period (closed_of cs) vs note p) c.in_default.ensures.gives.0
    ∙ ap (λ (l : List ℕ). i.sent ++ l) (sym (closed_text c.args.kind c.args.number c.args.period vs note p))
    ∙ ap (λ (x : Note). i.sent ++ noted_mark c.args.number note x (Write false false false) p) (sym c.low.ensures)))
    (WritesAll-then (WritesAll-done {A = ℕ} {E = ℕ} 0 i.none_lost i.writes) refl c.draw_noted.ensures.writes)

pub returns-clause-pen : goal.returns-clause-pen
returns-clause-pen g c =
    let i = c.loop-cycle.invariant in
    on_ok_pen c.draw_noted.result
    (λ at. at ∙ sym (i.pen ∙ ap (λ (cs : List Cycle). after_drawing c.args.period (closed_of cs) c.loop-cycle.drawing) c.in_default.ensures.gives.0))
    c.draw_noted.ensures.pen

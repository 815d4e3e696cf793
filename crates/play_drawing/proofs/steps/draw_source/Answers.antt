use Rattle.std.proofs.Common.{◌≡◌, ◌++◌, ℕ, List, [], refl, sym, ap, subst, ◌∙◌, replicate, arith}
use Rattle.std.proofs.lemmas.List.{append-nil}
use Rattle.std.specs.Io.KnownBytes.{Appends}
use Rattle.std.proofs.KnownBytes.{Appends-trans, Appends-nil}
use Rattle.bitbang_protocol.specs.declared.Cycle.{Cycle}
use Rattle.byte_streams.proofs.Fronts.{WritesAll-done, WritesAll-lost}
use Rattle.tck_cycles.specs.Shifts.{shift_cycles}
use Rattle.tck_cycles.specs.Sources.{left}
use Rattle.play_drawing.specs.Drawing.{after_drawing, draw}
use Rattle.play_drawing.proofs.Runs.{all_text, messages_of, next_pen, next_split, next_text}
use Rattle.play_drawing.proofs.steps.draw_source.Goals as goal

pub loop-source-init : goal.loop-source-init
loop-source-init g c = record {
  past = [];
  split = refl;
  none_lost = c.requires;
  sent = Appends-nil _;
  pen = refl;
}

pub draw_shifts-requires-clause-stands : goal.draw_shifts-requires-clause-stands
draw_shifts-requires-clause-stands g c = λ some. c.shifts_at_once.ensures.stands (omega (arith, some, c.next_shifts-shifts.ensures.most))

pub draw_shifts-requires-clause-alone : goal.draw_shifts-requires-clause-alone
draw_shifts-requires-clause-alone g c = λ some. c.shifts_at_once.ensures.alone (omega (arith, some, c.next_shifts-shifts.ensures.most))

pub loop-source-preserved : goal.loop-source-preserved
loop-source-preserved g c =
    let period = c.args.period in
    let p = c.args.drawing.now in
    let before = c.loop-source.drawing in
    let between = c.draw_shifts.new.drawing in
    let past = c.loop-source.invariant.past in
    let word = shift_cycles c.next_shifts-shifts.result in
    let more = replicate c.next_alike-times.result.1 c.next_alike-times.result.0 in
    let first = next_split (left c.args.source) past (left c.loop-source.source) word (left c.next_shifts-shifts.new.self) c.loop-source.invariant.split
    c.next_shifts-shifts.ensures.gives in
    let at = next_pen period past word p before c.loop-source.invariant.pen between c.in_ok-draw_shifts.ensures.pen in
    record {
      past = (past ++ word) ++ more;
      split = next_split (left c.args.source) (past ++ word) (left c.next_shifts-shifts.new.self) more (left c.next_alike-times.new.self) first
          c.next_alike-times.ensures.gives;
      none_lost = c.in_ok-draw_cycles.ensures.writes.ok.0 refl;
      sent = subst (λ (l : List ℕ). Appends (g.W.Write.contents c.args.out.now.inner) (g.W.Write.contents c.draw_cycles.new.out.inner) l)
          (ap (λ (l : List ℕ). l ++ draw period (messages_of more) between) (next_text period past word p before c.loop-source.invariant.pen)
          ∙ next_text period (past ++ word) more p between at)
          (Appends-trans _ _ _ _ _ (Appends-trans _ _ _ _ _ c.loop-source.invariant.sent c.in_ok-draw_shifts.ensures.writes.whole)
          c.in_ok-draw_cycles.ensures.writes.whole);
      pen = next_pen period (past ++ word) more p between at c.draw_cycles.new.drawing c.in_ok-draw_cycles.ensures.pen;
    }

pub returns-in_err-draw_shifts-clause-writes : goal.returns-in_err-draw_shifts-clause-writes
returns-in_err-draw_shifts-clause-writes g c =
    let period = c.args.period in
    let p = c.args.drawing.now in
    let past = c.loop-source.invariant.past in
    let word = shift_cycles c.next_shifts-shifts.result in
    WritesAll-lost (draw period (messages_of (left c.args.source)) p) (draw period (messages_of past) p) _
    (all_text period past word p c.loop-source.drawing c.loop-source.invariant.pen (left c.args.source) (left c.next_shifts-shifts.new.self)
    (next_split (left c.args.source) past (left c.loop-source.source) word (left c.next_shifts-shifts.new.self) c.loop-source.invariant.split
    c.next_shifts-shifts.ensures.gives))
    c.loop-source.invariant.sent c.in_err-draw_shifts.ensures.writes refl c.from_residual.ensures.0

-- the cycles of a word are drawn, and those before them
pub returns-in_err-draw_cycles-clause-writes : goal.returns-in_err-draw_cycles-clause-writes
returns-in_err-draw_cycles-clause-writes g c =
    let period = c.args.period in
    let p = c.args.drawing.now in
    let before = c.loop-source.drawing in
    let between = c.draw_shifts.new.drawing in
    let past = c.loop-source.invariant.past in
    let word = shift_cycles c.next_shifts-shifts.result in
    let more = replicate c.next_alike-times.result.1 c.next_alike-times.result.0 in
    let first = next_split (left c.args.source) past (left c.loop-source.source) word (left c.next_shifts-shifts.new.self) c.loop-source.invariant.split
    c.next_shifts-shifts.ensures.gives in
    let at = next_pen period past word p before c.loop-source.invariant.pen between c.in_ok-draw_shifts.ensures.pen in
    let sent = subst (λ (l : List ℕ). Appends (g.W.Write.contents c.args.out.now.inner) (g.W.Write.contents c.draw_shifts.new.out.inner) l)
    (next_text period past word p before c.loop-source.invariant.pen)
    (Appends-trans _ _ _ _ _ c.loop-source.invariant.sent c.in_ok-draw_shifts.ensures.writes.whole) in
    WritesAll-lost (draw period (messages_of (left c.args.source)) p) (draw period (messages_of (past ++ word)) p) _
    (all_text period (past ++ word) more p between at (left c.args.source) (left c.next_alike-times.new.self)
    (next_split (left c.args.source) (past ++ word) (left c.next_shifts-shifts.new.self) more (left c.next_alike-times.new.self) first
    c.next_alike-times.ensures.gives))
    sent c.in_err-draw_cycles.ensures.writes refl c.from_residual-in_err-draw_cycles.ensures.0

pub returns-then-times-eq0-clause-writes : goal.returns-then-times-eq0-clause-writes
returns-then-times-eq0-clause-writes g c =
    let period = c.args.period in
    let p = c.args.drawing.now in
    let past = c.loop-source.invariant.past in
    let word = shift_cycles c.next_shifts-shifts.result in
    let first = next_split (left c.args.source) past (left c.loop-source.source) word (left c.next_shifts-shifts.new.self) c.loop-source.invariant.split
    c.next_shifts-shifts.ensures.gives in
    let all : past ++ word ≡ left c.args.source =
    sym (append-nil (past ++ word)) ∙ ap (λ (cs : List Cycle). (past ++ word) ++ cs) (sym (c.next_alike-times.ensures.none c.if-times-eq0.true)) ∙ sym first in
    WritesAll-done tt (c.in_ok-draw_shifts.ensures.writes.ok.0 refl)
    (subst (λ (l : List ℕ). Appends (g.W.Write.contents c.args.out.now.inner) (g.W.Write.contents c.draw_shifts.new.out.inner) l)
    (next_text period past word p c.loop-source.drawing c.loop-source.invariant.pen ∙ ap (λ (cs : List Cycle). draw period (messages_of cs) p) all)
    (Appends-trans _ _ _ _ _ c.loop-source.invariant.sent c.in_ok-draw_shifts.ensures.writes.whole))

pub returns-then-times-eq0-clause-pen : goal.returns-then-times-eq0-clause-pen
returns-then-times-eq0-clause-pen g c =
    let period = c.args.period in
    let p = c.args.drawing.now in
    let past = c.loop-source.invariant.past in
    let word = shift_cycles c.next_shifts-shifts.result in
    let first = next_split (left c.args.source) past (left c.loop-source.source) word (left c.next_shifts-shifts.new.self) c.loop-source.invariant.split
    c.next_shifts-shifts.ensures.gives in
    let all : past ++ word ≡ left c.args.source =
    sym (append-nil (past ++ word)) ∙ ap (λ (cs : List Cycle). (past ++ word) ++ cs) (sym (c.next_alike-times.ensures.none c.if-times-eq0.true)) ∙ sym first in
    next_pen period past word p c.loop-source.drawing c.loop-source.invariant.pen c.draw_shifts.new.drawing c.in_ok-draw_shifts.ensures.pen
    ∙ ap (λ (cs : List Cycle). after_drawing period (messages_of cs) p) all

use Rattle.std.proofs.Common.{[], ℕ, refl, sym}
use Rattle.byte_streams.proofs.Fronts.{WritesAll-is, WritesAll-stopped, WritesAll-then}
use Rattle.jt_tap.specs.declared.State.TheVariants.{Reset}
use Rattle.svf_programs.specs.Periods.{period_in}
use Rattle.bitbang_protocol.specs.Cycles.{opening}
use Rattle.play_model.specs.Play.{Turn, step_turns, turns}
use Rattle.play_drawing.specs.Drawing.{after_drawing}
use Rattle.play_drawing.specs.Waves.{wave}
use Rattle.play_drawing.proofs.Judged.{told_nothing}
use Rattle.play_waves.proofs.Played.{one_more, opens}
use Rattle.play_waves.proofs.waves.draw_program.Goals as goal

-- the turn of the opening
abbrev first : Turn
first = record { command = 0; messages = opening; wants = [] }

pub returns-in_err-draw_opening : goal.returns-in_err-draw_opening
returns-in_err-draw_opening g c =
    let period_of = period_in c.args.program.now.periods in
    let steps = c.args.program.now.steps in
    let p = c.args.drawing.now in
    let now : ℕ = c.opening_period.result in
    let q = after_drawing now opening p in
    WritesAll-is (sym (one_more c.args.noted period_of c.args.failed first (step_turns Reset steps) p (wave c.args.noted period_of c.args.failed (turns steps) p) [] now q refl (opens c.args.failed) c.opening_period.ensures refl))
    (WritesAll-stopped (wave c.args.noted period_of c.args.failed (step_turns Reset steps) q) (WritesAll-is (told_nothing c.args.noted now first p refl) c.in_err-draw_opening.ensures.writes) refl c.from_residual.ensures.0)

pub returns : goal.returns
returns g c =
    let period_of = period_in c.args.program.now.periods in
    let steps = c.args.program.now.steps in
    let p = c.args.drawing.now in
    let now : ℕ = c.opening_period.result in
    let q = c.draw_opening.new.drawing in
    WritesAll-is (sym (one_more c.args.noted period_of c.args.failed first (step_turns Reset steps) p (wave c.args.noted period_of c.args.failed (turns steps) p) [] now q refl (opens c.args.failed) c.opening_period.ensures c.in_ok-draw_opening.ensures.pen))
    (WritesAll-then (WritesAll-is (told_nothing c.args.noted now first p refl) c.in_ok-draw_opening.ensures.writes) refl c.draw_steps.ensures)

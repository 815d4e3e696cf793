use Rattle.std.proofs.Common.{◌≡◌, ◌++◌, ℕ, List, refl, sym, ap, append_assoc, ◌∙◌}
use Rattle.byte_streams.proofs.Fronts.{WritesAll-is, WritesAll-stopped, WritesAll-then}
use Rattle.svf_programs.specs.Periods.{period_in}
use Rattle.svf_programs.specs.Sizes.{program_of}
use Rattle.play_model.specs.Play.{turns}
use Rattle.wave_files.specs.Heading.{variables}
use Rattle.play_drawing.specs.Pens.{Pen, begun}
use Rattle.play_drawing.specs.Waves.{noting, starts, stopped_in, wave}
use Rattle.play_waves.proofs.waves.write_file.Goals as goal

pub returns-in_err-write_variables : goal.returns-in_err-write_variables
returns-in_err-write_variables g c =
    let program = program_of c.args.program.now in
    let b = c.args.stage.board in
    let noted = noting c.args.noted c.args.stage.kind in
    let first : List ℕ = starts c.args.noted (begun c.args.extras b) in
    let rest : List ℕ = wave noted (period_in c.args.program.now.periods) (stopped_in c.args.stage.kind program b) (turns program.steps) (begun c.args.extras b) in
    let chips : c.chain.result.now.chips ≡ b.chips = c.chain.ensures.chips ∙ ap (λ (p : Pen). p.board.chips) c.opened-judge.ensures.drawing in
    let nets : c.chain.result.now.nets ≡ b.nets = c.chain.ensures.nets ∙ ap (λ (p : Pen). p.board.nets) c.opened-judge.ensures.drawing in
    WritesAll-is
    ((λ i. variables c.args.noted c.args.extras (chips i) (nets i) ++ (first ++ rest))
    ∙ sym (append_assoc (variables c.args.noted c.args.extras b.chips b.nets) first rest))
    (WritesAll-stopped (first ++ rest) c.in_err-write_variables.ensures refl c.from_residual.ensures.0)

pub returns-in_err-start : goal.returns-in_err-start
returns-in_err-start g c =
    let program = program_of c.args.program.now in
    let b = c.args.stage.board in
    let noted = noting c.args.noted c.args.stage.kind in
    let rest : List ℕ = wave noted (period_in c.args.program.now.periods) (stopped_in c.args.stage.kind program b) (turns program.steps) (begun c.args.extras b) in
    let chips : c.chain.result.now.chips ≡ b.chips = c.chain.ensures.chips ∙ ap (λ (p : Pen). p.board.chips) c.opened-judge.ensures.drawing in
    let nets : c.chain.result.now.nets ≡ b.nets = c.chain.ensures.nets ∙ ap (λ (p : Pen). p.board.nets) c.opened-judge.ensures.drawing in
    WritesAll-is
    (λ i. (variables c.args.noted c.args.extras (chips i) (nets i) ++ starts c.args.noted (c.opened-judge.ensures.drawing i)) ++ rest)
    (WritesAll-stopped rest (WritesAll-then c.in_ok-write_variables.ensures refl c.in_err-start.ensures) refl c.from_residual-in_err-start.ensures.0)

pub returns : goal.returns
returns g c =
    let program = program_of c.args.program.now in
    let b = c.args.stage.board in
    let stopped : c.stopped_in-failed.result ≡ stopped_in c.args.stage.kind program b = c.stopped_in-failed.ensures c.args.stage.kind b c.opened-judge.ensures.judge in
    let kind : c.noting-kind.result ≡ noting c.args.noted c.args.stage.kind = c.noting-kind.ensures ∙ ap (noting c.args.noted) c.kind.ensures in
    let chips : c.chain.result.now.chips ≡ b.chips = c.chain.ensures.chips ∙ ap (λ (p : Pen). p.board.chips) c.opened-judge.ensures.drawing in
    let nets : c.chain.result.now.nets ≡ b.nets = c.chain.ensures.nets ∙ ap (λ (p : Pen). p.board.nets) c.opened-judge.ensures.drawing in
    WritesAll-is
    (λ i. (variables c.args.noted c.args.extras (chips i) (nets i) ++ starts c.args.noted (c.opened-judge.ensures.drawing i))
    ++ wave (kind i) (period_in c.args.program.now.periods) (stopped i) (turns program.steps) (c.opened-judge.ensures.drawing i))
    (WritesAll-then (WritesAll-then c.in_ok-write_variables.ensures refl c.in_ok-start.ensures) refl c.draw_program.ensures)

use Rattle.svf_programs.specs.Periods.{period_in}
use Rattle.svf_programs.specs.Sizes.{program_of}
use Rattle.play_drawing.specs.Waves.{wave_file}
use Rattle.play_waves.proofs.Drawn.{are_waves}
use Rattle.play_waves.proofs.waves.write_waves.Goals as goal

pub returns-clause-text : goal.returns-clause-text
returns-clause-text g c = λ text accepts keeps.
    let p = c.args.program.now in
    (wave_file c.args.noted c.args.extras (period_in p.periods) c.args.stage.kind (program_of p) c.args.stage.board, are_waves c.args.noted c.args.extras text c.args.stage.kind c.args.stage.board p accepts keeps, c.write_file.ensures)

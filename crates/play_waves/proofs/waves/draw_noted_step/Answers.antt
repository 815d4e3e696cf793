use Rattle.std.proofs.Common.{◌≡◌, [], Some, ap}
use Rattle.byte_streams.proofs.Fronts.{WritesAll-is}
use Rattle.bitbang.specs.StepMessages.{step_messages}
use Rattle.svf_programs.specs.Seen as seen
use Rattle.play_model.specs.Play.{wants_of}
use Rattle.play_drawing.proofs.Judged.{no_scan, told_nothing}
use Rattle.play_waves.proofs.waves.draw_noted_step.Goals as goal

pub draw_scan-requires-clause-scans : goal.draw_scan-requires-clause-scans
draw_scan-requires-clause-scans g c = (c.in-Scan.column, c.in-Scan.end, ap seen.step c.in-Scan.is)

-- a step that is no scan wants nothing
pub returns-in_default : goal.returns-in_default
returns-in_default g c =
    let what = seen.step c.args.step.now.what in
    let none : wants_of what ≡ [] = no_scan c.args.step.now.what c.in_default.not-Scan in
    record {
      writes = WritesAll-is
          (told_nothing (Some c.args.kind) c.args.period (record { command = 0; messages = step_messages c.args.place what; wants = wants_of what }) c.args.drawing.now none)
          c.draw_step.ensures.writes;
      pen = c.draw_step.ensures.pen;
    }

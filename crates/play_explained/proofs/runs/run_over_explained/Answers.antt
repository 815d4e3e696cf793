use Rattle.std.proofs.Common.{◌≡◌, ap, subst, ◌∙◌}
use Rattle.svf_programs.specs.Sizes.{program_of}
use Rattle.svf_programs.specs.Steps.{Program}
use Rattle.play_model.specs.Endings.{status_of}
use Rattle.play_model.specs.Streams.{StreamState}
use Rattle.jt_player.specs.Links.{PlaysAllOver}
use Rattle.jt_player.specs.Running.{Tells}
use Rattle.play_explained.specs.Lines.{explained_lines, lines_in_program}
use Rattle.play_explained.proofs.runs.run_over_explained.Goals as goal

pub returns : goal.returns
returns g c =
    let a = c.args in
    let ending = c.play_over_lent-ending.result in
    let p = c.play_over_lent-ending.new.player in
    let fresh = c.fresh_player-player.ensures in
    let same : p.program ≡ program_of a.program = c.play_over_lent-ending.ensures.program ∙ ap (λ (s : StreamState). s.program) fresh in (
      ending,
      p.found,
      subst
          (λ (s : StreamState). PlaysAllOver g.W.Sink.puts g.R.Source.hears g.W.Write.contents g.R.Read.remaining a.writer.now c.play_over_lent-ending.new.writer
          a.reader.now c.play_over_lent-ending.new.reader s.kind s.program ending p.found)
          fresh c.play_over_lent-ending.ensures.played,
      subst
          (λ (q : Program). Tells g.O.Write.contents a.out.now c.tell_in_program.new.out (explained_lines a.text.now (lines_in_program q.steps) a.kind ending p.found)
          (status_of ending) c.tell_in_program.result)
          same c.tell_in_program.ensures,
    )

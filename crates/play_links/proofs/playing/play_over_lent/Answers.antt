use Rattle.std.proofs.Common.{refl, sym, ap, ◌∙◌}
use Rattle.play_model.specs.Streams.{StreamState}
use Rattle.play_links.proofs.So.{plays-lost, plays-over}
use Rattle.play_links.proofs.playing.play_over_lent.Goals as goal

pub returns-then-not-go_on-clause-played : goal.returns-then-not-go_on-clause-played
returns-then-not-go_on-clause-played g c =
    plays-lost g.W.Sink.puts g.R.Source.hears g.W.Write.contents g.R.Read.remaining c.args.writer.now c.args.reader.now c.args.player.now.kind c.args.player.now.program
    c.go_on.new.writer c.go_on.new.reader c.go_on.new.player c.working-command.result _ c.if-not-go_on.ensures c.working-command.ensures refl

pub returns-then-not-go_on-clause-program : goal.returns-then-not-go_on-clause-program
returns-then-not-go_on-clause-program g c =
    let goes = c.if-not-go_on.ensures in
    ap (λ (s : StreamState). s.program) goes.is ∙ goes.plays

pub returns-clause-played : goal.returns-clause-played
returns-clause-played g c =
    plays-over g.W.Sink.puts g.R.Source.hears g.W.Write.contents g.R.Read.remaining c.args.writer.now c.args.reader.now c.args.player.now.kind c.args.player.now.program
    c.go_on.new.writer c.go_on.new.reader c.go_on.new.player c.in-Some.ending _ c.if-not-go_on.ensures (sym c.in-Some.ensures) refl

pub returns-clause-program : goal.returns-clause-program
returns-clause-program g c =
    let goes = c.if-not-go_on.ensures in
    ap (λ (s : StreamState). s.program) goes.is ∙ goes.plays

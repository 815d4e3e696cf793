use Rattle.std.proofs.Common.{refl, sym, ap, ◌∙◌}
use Rattle.play_model.specs.Streams.{StreamState}
use Rattle.play_links.proofs.LoopSo.{loops-lost, loops-over}
use Rattle.play_links.proofs.looping.loop_over_lent.Goals as goal

pub returns-then-not-go_on-clause-played : goal.returns-then-not-go_on-clause-played
returns-then-not-go_on-clause-played g c =
    loops-lost g.P.Sink.puts g.P.Source.hears g.B.Sink.puts g.B.Source.hears g.P.Write.contents g.P.Read.remaining g.B.Write.contents g.B.Read.remaining c.args.player_end.now c.args.board_end.now c.args.player.now.kind c.args.player.now.program c.args.board.now
    c.go_on.new.player_end c.go_on.new.board_end c.go_on.new.board c.go_on.new.player c.working-command.result _ c.if-not-go_on.ensures c.working-command.ensures refl

pub returns-then-not-go_on-clause-program : goal.returns-then-not-go_on-clause-program
returns-then-not-go_on-clause-program g c =
    let loops = c.if-not-go_on.ensures in
    ap (λ (s : StreamState). s.program) loops.is ∙ loops.plays

pub returns-clause-played : goal.returns-clause-played
returns-clause-played g c =
    loops-over g.P.Sink.puts g.P.Source.hears g.B.Sink.puts g.B.Source.hears g.P.Write.contents g.P.Read.remaining g.B.Write.contents g.B.Read.remaining c.args.player_end.now c.args.board_end.now c.args.player.now.kind c.args.player.now.program c.args.board.now
    c.go_on.new.player_end c.go_on.new.board_end c.go_on.new.board c.go_on.new.player c.in-Some.ending _ c.if-not-go_on.ensures (sym c.in-Some.ensures) refl

pub returns-clause-program : goal.returns-clause-program
returns-clause-program g c =
    let loops = c.if-not-go_on.ensures in
    ap (λ (s : StreamState). s.program) loops.is ∙ loops.plays

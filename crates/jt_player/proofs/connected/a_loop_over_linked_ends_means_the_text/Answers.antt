use Rattle.play_direct.proofs.InUse.{every_board}
use Rattle.play_pipes.proofs.LoopHonest.{loop-finds, loop-means}
use Rattle.jt_player.proofs.HeadlineLaws.{legal}
use Rattle.jt_player.proofs.connected.a_loop_over_linked_ends_means_the_text.Goals as goal

pub returns-clause-stops : goal.returns-clause-stops
returns-clause-stops g c = λ x x' y y' program start board ending l text accepted met linked unlost.
    let chain = every_board start met in
    loop-means g.P.Sink.puts g.P.Source.hears g.B.Sink.puts g.B.Source.hears g.P.Write.contents g.P.Read.remaining g.B.Write.contents g.B.Read.remaining x x' y y' program start board ending l
    linked unlost (legal text program accepted) chain.sound chain.some

pub returns-clause-plays_on : goal.returns-clause-plays_on
returns-clause-plays_on g c = λ x x' y y' program start board ending found l text accepted met linked unlost.
    let chain = every_board start met in
    loop-finds g.P.Sink.puts g.P.Source.hears g.B.Sink.puts g.B.Source.hears g.P.Write.contents g.P.Read.remaining g.B.Write.contents g.B.Read.remaining x x' y y' program start board ending found l
    linked unlost (legal text program accepted) chain.sound chain.some

use Rattle.play_links.proofs.LoopHonest.{loop-finds}
use Rattle.play_links.proofs.laws.a_loop_over_linked_ends_finds_all_failures.Goals as goal

pub returns : goal.returns
returns g c = λ x x' y y' program start board ending found l.
    loop-finds g.P.Sink.puts g.P.Source.hears g.B.Sink.puts g.B.Source.hears g.P.Write.contents g.P.Read.remaining g.B.Write.contents g.B.Read.remaining x x' y y' program start board ending found l

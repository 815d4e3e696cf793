use Rattle.play_links.proofs.LoopFits.{loop-counts}
use Rattle.play_links.proofs.laws.a_loop_over_linked_ends_is_lost_only_by_a_lost_call.Goals as goal

pub returns : goal.returns
returns g c = λ x x' y y' kind program start board ending l.
    loop-counts kind g.P.Sink.puts g.P.Source.hears g.B.Sink.puts g.B.Source.hears start g.P.Write.contents g.P.Read.remaining g.B.Write.contents g.B.Read.remaining x x' y y' program board ending l

use Rattle.std.proofs.Common.{sym, ◌∙◌}
use Rattle.board_chips.proofs.TellLaws.{seen_alone, seen_on_net}
use Rattle.board_chips.proofs.chip.WiredChip.sight.Goals as goal

pub returns-in-Some : goal.returns-in-Some
returns-in-Some c = λ place ms at net.
    seen_on_net c.args.wiring.now place c.args.port c.in-Some.net ms c.seen.result (c.seen.ensures.driven _ at.drives) (sym net ∙ c.in-Some.is)

pub returns-in-None : goal.returns-in-None
returns-in-None c = λ place ms at net.
    c.sees_alone.ensures ∙ seen_alone c.args.wiring.now place c.args.port ms _ c.drive.result at.here c.drive.ensures (sym net ∙ c.in-None.is)

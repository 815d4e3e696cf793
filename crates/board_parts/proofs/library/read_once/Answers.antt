use Rattle.board_parts.proofs.LibraryLaws.{one_more_known}
use Rattle.board_parts.proofs.library.read_once.Goals as goal

pub returns-clause-known : goal.returns-clause-known
returns-clause-known g c =
    one_more_known g.R.Describe.says g.R.Describe.refuses c.args.known.now c.insert.new.self c.in-Some.text c.in_ok-reading-2.reading c.in_ok-device.device c.requires
    c.in_ok-reading-2.ensures c.in_ok-device.ensures c.in_ok-insert.ensures.updates.0

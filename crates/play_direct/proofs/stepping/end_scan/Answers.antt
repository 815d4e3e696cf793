use Rattle.play_direct.proofs.stepping.end_scan.Goals as goal

pub arrive-requires : goal.arrive-requires
arrive-requires c = record { state = _; is = c.update.ensures c.requires.state c.requires.is }

use Rattle.std.proofs.Common.{sym}
use Rattle.std.proofs.lemmas.List.{append-nil}
use Rattle.byte_streams.proofs.Fronts.{WritesAll-is}
use Rattle.play_drawing.proofs.Runs.{always}
use Rattle.play_drawing.proofs.steps.draw_trst.Goals as goal

pub returns-clause-writes : goal.returns-clause-writes
returns-clause-writes g c = WritesAll-is (sym (append-nil _)) c.draw.ensures.writes

pub returns-clause-pen : goal.returns-clause-pen
returns-clause-pen g c = always c.draw.result c.draw.ensures.pen

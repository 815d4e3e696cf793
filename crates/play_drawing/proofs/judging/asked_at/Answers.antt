use Rattle.std.proofs.Common.{inl}
use Rattle.scan_vectors.specs.Held.{bits}
use Rattle.play_drawing.proofs.Judged.{asks_of}
use Rattle.play_drawing.proofs.judging.asked_at.Goals as goal

pub returns-then-read : goal.returns-then-read
returns-then-read c = asks_of c.args.read (bits c.args.vector.now) c.args.at c.next_wanted.result c.if-read.true c.next_wanted.ensures

pub returns-else-read : goal.returns-else-read
returns-else-read c = inl c.if-read.false

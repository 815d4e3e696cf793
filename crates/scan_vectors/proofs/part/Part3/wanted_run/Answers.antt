use Rattle.std.proofs.Common.{◌+◌, Bool, List, ap}
use Rattle.std.specs.Prelude.{option_map}
use Rattle.scan_vectors.specs.Held.{fields}
use Rattle.scan_vectors.proofs.Words.{nothing_wanted}
use Rattle.scan_vectors.proofs.part.Part3.wanted_run.Goals as goal

pub returns-in-None-clause-bits : goal.returns-in-None-clause-bits
returns-in-None-clause-bits c = λ j h.
    nothing_wanted (fields c.args.self.now) (c.args.place + j) j (ap (option_map {U = List Bool} (λ b. b.now)) c.in-None.is)

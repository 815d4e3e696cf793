use Rattle.std.proofs.Common.{◌+◌, Bool, List, ap, refl}
use Rattle.std.specs.Prelude.{option_map}
use Rattle.scan_vectors.specs.Held.{fields}
use Rattle.scan_vectors.proofs.Words.{unwanted_bit}
use Rattle.scan_vectors.proofs.part.Part3.unwanted.Goals as goal

pub returns-in-None-clause-bits : goal.returns-in-None-clause-bits
returns-in-None-clause-bits c = λ j h.
    unwanted_bit (fields c.args.self.now) (c.args.place + j) (ap (option_map {U = List Bool} (λ b. b.now)) c.in-None.is)

pub returns-in-None-clause-len : goal.returns-in-None-clause-len
returns-in-None-clause-len c = rw c.in-None.is refl

pub returns-in-Some-clause-len : goal.returns-in-Some-clause-len
returns-in-Some-clause-len c = rw c.in-Some.is refl

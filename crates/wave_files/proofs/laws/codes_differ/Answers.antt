use Rattle.wave_files.proofs.CodeLaws.{codes_differ, codes_suffice}
use Rattle.wave_files.proofs.laws.codes_differ.Goals as goal

pub returns-clause-differ : goal.returns-clause-differ
returns-clause-differ c = codes_differ

pub returns-clause-suffice : goal.returns-clause-suffice
returns-clause-suffice c = codes_suffice

use Rattle.svf_parse.proofs.WithinLaws.{spelled_within, lies_within}
use Rattle.svf_parse.proofs.laws.texts_are_limited.Goals as goal

pub returns-clause-within : goal.returns-clause-within
returns-clause-within c = spelled_within

pub returns-clause-kept : goal.returns-clause-kept
returns-clause-kept c = lies_within

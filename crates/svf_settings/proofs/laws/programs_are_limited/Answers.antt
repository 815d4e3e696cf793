use Rattle.svf_settings.proofs.WithinLaws.{resolved_within, lies_within}
use Rattle.svf_settings.proofs.laws.programs_are_limited.Goals as goal

pub returns-clause-within : goal.returns-clause-within
returns-clause-within c = resolved_within

pub returns-clause-kept : goal.returns-clause-kept
returns-clause-kept c = lies_within

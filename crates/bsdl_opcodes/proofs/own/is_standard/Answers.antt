use Rattle.std.proofs.Common.{ap, ◌∙◌}
use Rattle.std.specs.Prelude.{is_some}
use Rattle.bsdl_opcodes.specs.Own.{standard_names}
use Rattle.bsdl_opcodes.proofs.NameSetLaws.{in_table}
use Rattle.bsdl_opcodes.proofs.own.is_standard.Goals as goal

pub returns : goal.returns
returns c = c.is_some.ensures ∙ ap is_some c.stands_for.ensures ∙ in_table standard_names c.args.name.now

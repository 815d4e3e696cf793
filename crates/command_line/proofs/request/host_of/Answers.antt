use Rattle.std.proofs.Common.{Option, ap, ◌∙◌, codes}
use Rattle.std.specs.Prelude.{unwrap_or}
use Rattle.clap.specs.Words.{Text, found_of}
use Rattle.clap.proofs.WalkLemmas.{first_value-rows}
use Rattle.command_line.proofs.request.host_of.Goals as goal

abbrev named : Option Text → Text
named host = unwrap_or host (codes "127.0.0.1")

pub returns-in-Some : goal.returns-in-Some
returns-in-Some c = ap named (c.in-Some.ensures ∙ first_value-rows (found_of c.args.found.now) (codes "host"))

pub returns-in-None : goal.returns-in-None
returns-in-None c = ap named (c.in-None.ensures ∙ first_value-rows (found_of c.args.found.now) (codes "host"))

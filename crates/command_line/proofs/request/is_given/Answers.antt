use Rattle.std.proofs.Common.{false, Option, ap, ◌∙◌, codes}
use Rattle.std.specs.Prelude.{bytes_eq, Bool}
use Rattle.std.specs.Option.{option_map_or}
use Rattle.clap.specs.Words.{Text, found_of}
use Rattle.clap.proofs.WalkLemmas.{first_value-rows}
use Rattle.command_line.proofs.request.is_given.Goals as goal

abbrev is_true : Option Text → Bool
is_true text = option_map_or (λ t. bytes_eq t (codes "true")) text false

pub returns-in-Some : goal.returns-in-Some
returns-in-Some c = c.eq.ensures ∙ ap is_true (c.in-Some.ensures ∙ first_value-rows (found_of c.args.found.now) c.args.flag.now)

pub returns-in-None : goal.returns-in-None
returns-in-None c = ap is_true (c.in-None.ensures ∙ first_value-rows (found_of c.args.found.now) c.args.flag.now)

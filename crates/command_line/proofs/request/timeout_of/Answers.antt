use Rattle.std.proofs.Common.{arith, ap, ◌∙◌, codes}
use Rattle.std.specs.Prelude.{option_and_then}
use Rattle.std.specs.Str.Parse.{ExplainsUnsignedError, HasUnsignedDigitsIfOk, ParsesUnsigned}
use Rattle.clap.specs.Words.{found_of, one_text}
use Rattle.clap.proofs.WalkLemmas.{one_text-rows}
use Rattle.command_line.specs.Asking.{number}
use Rattle.command_line.proofs.NumberLaws.{number-read}
use Rattle.command_line.proofs.request.timeout_of.Goals as goal

pub returns : goal.returns
returns c =
    let found = found_of c.args.found.now in
    number-read _ (λ bs r. ParsesUnsigned 32 10 bs r × ExplainsUnsignedError 10 bs r × HasUnsignedDigitsIfOk bs r) 32 (λ u x g. g.0) (omega arith) (omega arith) (one_text found (codes "timeout")) c.get_one.result c.get_one.ensures.none c.get_one.ensures.value
    ∙ ap (option_and_then (number 32)) (one_text-rows found (codes "timeout"))

use Rattle.std.proofs.Common.{◌≡◌, ℕ, Option, Some, None, arith, ap, ◌∙◌, codes}
use Rattle.std.specs.Prelude.{option_and_then, unwrap_or}
use Rattle.std.specs.Str.Parse.{ExplainsUnsignedError, HasUnsignedDigitsIfOk, ParsesUnsigned}
use Rattle.clap.specs.Words.{found_of, one_text, rows_of}
use Rattle.clap.proofs.WalkLemmas.{one_text-rows}
use Rattle.command_line.specs.Asking.{number, number_of}
use Rattle.command_line.proofs.NumberLaws.{number-read}
use Rattle.command_line.proofs.request.bytes_of.Goals as goal

pub returns-in-Some : goal.returns-in-Some
returns-in-Some c =
    let found = found_of c.args.found.now in
    let read : Some c.in-Some.bytes ≡ number_of 64 (codes "at-most") (rows_of found) =
    number-read _ (λ bs r. ParsesUnsigned 64 10 bs r × ExplainsUnsignedError 10 bs r × HasUnsignedDigitsIfOk bs r) 64 (λ u x g. g.0) (omega arith) (omega arith) (one_text found (codes "at-most")) (Some c.in-Some.bytes) c.in-Some.ensures.none c.in-Some.ensures.value
    ∙ ap (option_and_then (number 64)) (one_text-rows found (codes "at-most")) in
    ap (λ (o : Option ℕ). unwrap_or o 1000000000) read

pub returns-in-None : goal.returns-in-None
returns-in-None c =
    let found = found_of c.args.found.now in
    let read : None ≡ number_of 64 (codes "at-most") (rows_of found) =
    number-read _ (λ bs r. ParsesUnsigned 64 10 bs r × ExplainsUnsignedError 10 bs r × HasUnsignedDigitsIfOk bs r) 64 (λ u x g. g.0) (omega arith) (omega arith) (one_text found (codes "at-most")) None c.in-None.ensures.none c.in-None.ensures.value
    ∙ ap (option_and_then (number 64)) (one_text-rows found (codes "at-most")) in
    ap (λ (o : Option ℕ). unwrap_or o 1000000000) read

use Rattle.std.proofs.Common.{◌≡◌, ap, ◌∙◌, ◌∷◌, arith, Result, Ok}
use Rattle.svf_lex.specs.declared.LexFault.{LexFault}
use Rattle.svf_lex.specs.declared.Token.{Token}
use Rattle.svf_lex.specs.Left.{left, seen}
use Rattle.svf_lex.specs.Scanning.{lexeme}
use Rattle.refusal_places.proofs.TokenBytes.{run_within}
use Rattle.refusal_places.proofs.token_faults.digits_ahead.Goals as goal

pub overflow_add-digits : goal.overflow_add-digits
overflow_add-digits c =
    let token = c.in-Some-Ok.token in
    let split : left c.loop-token.rest ≡ seen (Ok token) ∷ left c.next.new.self = c.in-Some-Ok.ensures.steps ∙ ap (λ (i : Result Token LexFault). seen i ∷ left c.next.new.self) c.in-Some-Ok.field-0-is in
    let within = run_within (left c.loop-token.rest) (left c.next.new.self) (left c.args.words) (lexeme token) c.loop-token.digits split c.in-Run.is c.loop-token.invariant.sum in
    omega (arith, within, c.requires)

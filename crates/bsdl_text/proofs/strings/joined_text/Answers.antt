use Rattle.std.proofs.Common.{◌≡◌, ◌<◌, length, true, false, sym, arith}
use Rattle.std.proofs.lemmas.Result.{err_from_is_err_and}
use Rattle.bsdl_text.specs.Left.{left, lexeme}
use Rattle.bsdl_text.specs.Reading.{stands, string, joined_by, joined_text}
use Rattle.bsdl_text.proofs.ListLaws.{stops_where}
use Rattle.bsdl_text.proofs.JoinedLaws.{all_joined, joined_no_string, one_joined, first_joined}
use Rattle.bsdl_text.proofs.strings.joined_text.Goals as goal

pub strings-init : goal.strings-init
strings-init c =
    (rw (c.in-Ok.ensures.items, c.new-text.ensures.items, c.inner.ensures) (first_joined (left c.args.lexer) (lexeme c.in_ok-first.first) (left c.in_ok-first.rest) c.in_ok-first.ensures.gives), c.in_ok-first.ensures.shorter)

pub returns-in_default-clause-gives : goal.returns-in_default-clause-gives
returns-in_default-clause-gives c =
    let none : stands 38 (left c.strings.rest) ≡ false = sym c.in_default.ensures.stands in
    all_joined (joined_by string 38 (left c.args.lexer)) c.strings.text.items (left c.strings.rest) c.strings.invariant.0 none

pub returns-in_err-next-clause-gives : goal.returns-in_err-next-clause-gives
returns-in_err-next-clause-gives c =
    let here : stands 38 (left c.strings.rest) ≡ true = sym c.in-Some.ensures.stands in
    let stop = err_from_is_err_and c.from_residual-in_err-next.result c.from_residual-in_err-next.ensures.1 in
    rw (stop.1, stop.2) (stops_where c.in_err-next.field-0.0 (string (left c.in-Some.after)) (joined_text (left c.args.lexer)) c.in_err-next.ensures.gives
    (λ at none. joined_no_string (joined_by string 38 (left c.args.lexer)) c.strings.text.items (left c.strings.rest) c.strings.invariant.0 at c.in-Some.ensures.passes.0 (left c.in-Some.after) here c.in-Some.ensures.passes.1 none))

pub strings-preserved : goal.strings-preserved
strings-preserved c =
    let here : stands 38 (left c.strings.rest) ≡ true = sym c.in-Some.ensures.stands in
    let less : length (left c.in_ok-next.more) < length (left c.strings.rest) = omega (arith, c.in_ok-next.ensures.shorter, c.in-Some.ensures.shorter) in (
      rw (c.in-Ok-extend_from_slice.ensures.items, c.inner-in-strings.ensures)
          (one_joined (joined_by string 38 (left c.args.lexer)) c.strings.text.items (left c.strings.rest) c.strings.invariant.0 c.in-Some.ensures.passes.0 (left c.in-Some.after) (lexeme c.in_ok-next.next) (left c.in_ok-next.more)
          here c.in-Some.ensures.passes.1 c.in_ok-next.ensures.gives less),
      omega (arith, less, c.strings.invariant.1),
    )

use Rattle.std.proofs.Common.{◌≡◌, ◌<◌, true, false, length, map, sym, ◌∙◌, arith}
use Rattle.std.proofs.lemmas.List.{map-append}
use Rattle.std.proofs.lemmas.Result.{err_from_is_err_and}
use Rattle.bsdl_text.specs.Left.{left}
use Rattle.bsdl_text.specs.Reading.{word, stands, joined_by}
use Rattle.bsdl_text.specs.WordView.{word_lexeme}
use Rattle.bsdl_text.proofs.ListLaws.{stops_where}
use Rattle.bsdl_entity.proofs.ChainLaws.{all_chained, chained_no_entry, one_chained, first_chained}
use Rattle.bsdl_entity.proofs.ports.names.Goals as goal

pub names-init : goal.names-init
names-init c = (
  length (left c.in_ok-first.behind),
  omega arith,
  c.in_ok-first.ensures.shorter,
  rw (c.in-Ok.ensures.items, c.in_ok-all.ensures.empty) (first_chained word 44 (left c.args.lexer) (word_lexeme c.in_ok-first.first) (left c.in_ok-first.behind) c.in_ok-first.ensures.gives),
)

pub returns-then-not-stands-clause-gives : goal.returns-then-not-stands-clause-gives
returns-then-not-stands-clause-gives c =
    let none : stands 44 (left c.names.rest) ≡ false = sym c.stands.ensures ∙ c.if-not-stands.true in
    all_chained word 44 (joined_by word 44 (left c.args.lexer)) (map word_lexeme c.names.all.items) c.names.invariant.0 (left c.names.rest) c.names.invariant.3 none

pub returns-in_err-next-clause-gives : goal.returns-in_err-next-clause-gives
returns-in_err-next-clause-gives c =
    let here : stands 44 (left c.names.rest) ≡ true = sym c.stands.ensures ∙ c.if-not-stands.false in
    let stop = err_from_is_err_and c.from_residual-in_err-next.result c.from_residual-in_err-next.ensures.1 in
    rw (stop.1, stop.2) (stops_where c.in_err-next.field-0.0 (word (left c.in_ok-after.after)) (joined_by word 44 (left c.args.lexer)) c.in_err-next.ensures.gives
    (λ at none. chained_no_entry word 44 (joined_by word 44 (left c.args.lexer)) (map word_lexeme c.names.all.items) c.names.invariant.0 (left c.names.rest) c.names.invariant.3
    at c.in_ok-after.ensures.passes.0 (left c.in_ok-after.after) c.names.invariant.1 here c.in_ok-after.ensures.passes.1 none))

pub names-preserved : goal.names-preserved
names-preserved c =
    let here : stands 44 (left c.names.rest) ≡ true = sym c.stands.ensures ∙ c.if-not-stands.false in
    let less : length (left c.in_ok-next.more) < length (left c.names.rest) = omega (arith, c.in_ok-next.ensures.shorter, c.in_ok-after.ensures.shorter) in
    let next = one_chained word 44 (joined_by word 44 (left c.args.lexer)) (map word_lexeme c.names.all.items) c.names.invariant.0 (left c.names.rest) c.names.invariant.3
    c.in_ok-after.ensures.passes.0 (left c.in_ok-after.after) (word_lexeme c.in_ok-next.next) (left c.in_ok-next.more) c.names.invariant.1 here c.in_ok-after.ensures.passes.1 c.in_ok-next.ensures.gives less in
    (next.0, next.1, omega (arith, less, c.names.invariant.2), rw (c.in-Ok-push.ensures.items, map-append) next.2)

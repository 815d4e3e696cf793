use Rattle.std.proofs.Common.{◌<◌, length, sym, ◌∙◌, arith}
use Rattle.std.proofs.lemmas.List.{map-append}
use Rattle.std.proofs.lemmas.Result.{err_from_is_err_and}
use Rattle.bsdl_text.specs.Left.{left}
use Rattle.bsdl_text.specs.Marks.{comma}
use Rattle.bsdl_text.specs.Reading.{mark, separated}
use Rattle.bsdl_text.specs.View.{closes}
use Rattle.bsdl_text.proofs.ListLaws.{stops_where, ends_here, ends_behind, stops_at_mark, stops_at_entry, goes_on}
use Rattle.bsdl_values.specs.InstructionValues.{pattern, pattern_of}
use Rattle.bsdl_values.specs.InstructionView.{patterns}
use Rattle.bsdl_values.proofs.instructions.pattern_lists.listed_patterns.Goals as goal

pub returns-then-closes-clause-gives : goal.returns-then-closes-clause-gives
returns-then-closes-clause-gives c =
    let total = separated pattern comma (closes c.args.close) (left c.args.lexer) in
    ends_here pattern comma (closes c.args.close) total (patterns c.entries.all) c.entries.invariant.0 (left c.entries.rest) c.entries.invariant.3 (sym c.closes.ensures ∙ c.if-closes.true)

pub returns-in_err-after-clause-gives : goal.returns-in_err-after-clause-gives
returns-in_err-after-clause-gives c =
    let total = separated pattern comma (closes c.args.close) (left c.args.lexer) in
    let stop = err_from_is_err_and c.from_residual-in_err-after.result c.from_residual-in_err-after.ensures.1 in
    rw (stop.1, stop.2) (stops_where c.in_err-after.field-0.0 (mark comma (left c.entries.rest)) total c.in_err-after.ensures.passes
    (λ at none. stops_at_mark pattern comma (closes c.args.close) total (patterns c.entries.all) c.entries.invariant.0 (left c.entries.rest) c.entries.invariant.3 at c.entries.invariant.1 (sym c.closes.ensures ∙ c.if-closes.false) none))

pub returns-then-closes-2-clause-gives : goal.returns-then-closes-2-clause-gives
returns-then-closes-2-clause-gives c =
    let total = separated pattern comma (closes c.args.close) (left c.args.lexer) in
    ends_behind pattern comma (closes c.args.close) total (patterns c.entries.all) c.entries.invariant.0 (left c.entries.rest) c.entries.invariant.3
    c.in_ok-after.ensures.passes.0 (left c.in_ok-after.after) c.entries.invariant.1 (sym c.closes.ensures ∙ c.if-closes.false) c.in_ok-after.ensures.passes.1 (sym c.closes-in-entries.ensures ∙ c.if-closes-2.true)

pub returns-in_err-entry-clause-gives : goal.returns-in_err-entry-clause-gives
returns-in_err-entry-clause-gives c =
    let total = separated pattern comma (closes c.args.close) (left c.args.lexer) in
    let stop = err_from_is_err_and c.from_residual-in_err-entry.result c.from_residual-in_err-entry.ensures.1 in
    rw (stop.1, stop.2) (stops_where c.in_err-entry.field-0.0 (pattern (left c.in_ok-after.after)) total c.in_err-entry.ensures.gives
    (λ at none. stops_at_entry pattern comma (closes c.args.close) total (patterns c.entries.all) c.entries.invariant.0 (left c.entries.rest) c.entries.invariant.3
    at c.in_ok-after.ensures.passes.0 (left c.in_ok-after.after) c.entries.invariant.1 (sym c.closes.ensures ∙ c.if-closes.false) c.in_ok-after.ensures.passes.1 (sym c.closes-in-entries.ensures ∙ c.if-closes-2.false) none))

pub entries-preserved : goal.entries-preserved
entries-preserved c =
    let total = separated pattern comma (closes c.args.close) (left c.args.lexer) in
    let less : length (left c.in_ok-entry.more) < length (left c.entries.rest) = omega (arith, c.in_ok-entry.ensures.shorter, c.in_ok-after.ensures.shorter) in
    let next = goes_on pattern comma (closes c.args.close) total (patterns c.entries.all) c.entries.invariant.0 (left c.entries.rest) c.entries.invariant.3
    c.in_ok-after.ensures.passes.0 (left c.in_ok-after.after) (pattern_of c.in_ok-entry.entry.digits.items) (left c.in_ok-entry.more) c.entries.invariant.1 (sym c.closes.ensures ∙ c.if-closes.false) c.in_ok-after.ensures.passes.1
    (sym c.closes-in-entries.ensures ∙ c.if-closes-2.false) c.in_ok-entry.ensures.gives less in
    (next.0, next.1, omega (arith, less, c.entries.invariant.2), rw (c.in-Ok-push.ensures.items, map-append) next.2)

use Rattle.std.proofs.Common.{◌≡◌, ap, ◌∙◌, [], ◌∷◌, ◌++◌, Result, Ok}
use Rattle.svf_lex.specs.declared.Token.{Token}
use Rattle.svf_lex.specs.declared.LexFault.{LexFault}
use Rattle.svf_lex.specs.Left.{left, seen}
use Rattle.svf_parse.proofs.Grouping.{at_over, at_fault, at_semi, at_word}
use Rattle.svf_parse.proofs.text.end_of.Goals as goal

pub unreachable-requires : goal.unreachable-requires
unreachable-requires c =
    let over = at_over (left c.args.words) (left c.loop-fault.after) c.loop-fault.invariant.0 c.loop-fault.invariant.1 c.in-None.ensures.steps.0 in
    c.requires over.0 over.1

pub returns-in-Some-Err : goal.returns-in-Some-Err
returns-in-Some-Err c =
    at_fault (left c.args.words) (left c.loop-fault.after) (left c.next.new.self) c.loop-fault.invariant.0 (seen c.in-Some-Err.field-0) c.in-Some-Err.fault c.loop-fault.invariant.1 c.in-Some-Err.ensures.steps (ap seen c.in-Some-Err.field-0-is)

pub returns-in-Semi : goal.returns-in-Semi
returns-in-Semi c =
    let token = c.in-Some-Ok.token in
    let split : left c.loop-fault.after ≡ seen (Ok token) ∷ left c.next.new.self = c.in-Some-Ok.ensures.steps ∙ ap (λ (i : Result Token LexFault). seen i ∷ left c.next.new.self) c.in-Some-Ok.field-0-is in (
      c.loop-fault.invariant.0,
      at_semi (left c.args.words) (left c.loop-fault.after) (left c.next.new.self) c.loop-fault.invariant.0 token.kind token.text.now token.start c.loop-fault.invariant.1 split c.in-Semi.is,
    )

pub loop-fault-preserved : goal.loop-fault-preserved
loop-fault-preserved c =
    let token = c.in-Some-Ok.token in
    let split : left c.loop-fault.after ≡ seen (Ok token) ∷ left c.next.new.self = c.in-Some-Ok.ensures.steps ∙ ap (λ (i : Result Token LexFault). seen i ∷ left c.next.new.self) c.in-Some-Ok.field-0-is in (
      c.loop-fault.invariant.0 ++ token.text.now ∷ [],
      at_word (left c.args.words) (left c.loop-fault.after) (left c.next.new.self) c.loop-fault.invariant.0 token.kind token.text.now token.start c.loop-fault.invariant.1 split c.in_default.not-Semi,
    )

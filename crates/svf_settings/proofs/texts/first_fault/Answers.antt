use Rattle.std.proofs.Common.{sym, ◌∙◌}
use Rattle.svf_lex.specs.Left.{left}
use Rattle.svf_words.specs.Words.{groups_of}
use Rattle.svf_parse.specs.View.{said_of}
use Rattle.svf_parse.proofs.NextStatements.{fewer_behind}
use Rattle.svf_settings.proofs.KeptTexts.{first_behind, none_behind}
use Rattle.svf_settings.proofs.texts.first_fault.Goals as goal

pub returns-in-Ok-None : goal.returns-in-Ok-None
returns-in-Ok-None c = λ _.
    let next = rw c.in-Ok-None.field-0-is at c.in-Ok-None.ensures.next in
    none_behind c.loop-form.number (groups_of (left c.loop-form.lexer)) c.args.fault next.0 ∙ sym c.loop-form.invariant

pub loop-form-smaller : goal.loop-form-smaller
loop-form-smaller c =
    let next = rw c.in-Ok-Some.field-0-is at c.in-Ok-Some.ensures.next in
    fewer_behind (groups_of (left c.loop-form.lexer)) next.0 next.1 (groups_of (left c.in-Ok-Some.after)) next.3

pub loop-form-preserved : goal.loop-form-preserved
loop-form-preserved c =
    let next = rw c.in-Ok-Some.field-0-is at c.in-Ok-Some.ensures.next in
    c.loop-form.invariant
    ∙ first_behind c.loop-form.number (groups_of (left c.loop-form.lexer)) next.0 next.1 (groups_of (left c.in-Ok-Some.after)) (said_of next.2) c.args.fault next.3 next.5

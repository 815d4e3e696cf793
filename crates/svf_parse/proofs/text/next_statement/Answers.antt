use Rattle.std.proofs.Common.{ap, ◌∙◌, Err}
use Rattle.svf_lex.specs.Left.{left}
use Rattle.svf_words.specs.Words.{groups_of}
use Rattle.svf_parse.specs.Reading.{groups_say, lex_code}
use Rattle.svf_parse.proofs.Grouping.{open_behind}
use Rattle.svf_parse.proofs.NextStatements.{broken_next, same_words}
use Rattle.svf_parse.proofs.text.next_statement.Goals as goal

pub returns-in-Broken-clause-next : goal.returns-in-Broken-clause-next
returns-in-Broken-clause-next c = λ other.
    broken_next c.args.number (groups_of (left c.args.text)) (groups_of (left c.loop-fault.lexer)) c.in-Broken.fault c.loop-fault.invariant.0 c.in-Broken.ensures
    ∙ c.told.ensures (Err (record { statement = c.args.number; code = lex_code c.in-Broken.fault })) c.broken.ensures other

pub add-requires : goal.add-requires
add-requires c = open_behind c.loop-fault.lexer c.in-Word.rest c.in-Word.word.now c.in-Word.ensures

pub returns-in-Err-clause-next : goal.returns-in-Err-clause-next
returns-in-Err-clause-next c = λ other.
    same_words c.args.number (groups_of (left c.args.text)) (groups_of (left c.loop-fault.lexer)) c.loop-fault.invariant.0
    ∙ ap (groups_say c.args.number) c.in-Word.ensures ∙ c.told-in-Err.ensures _ c.in-Err.ensures.takes other

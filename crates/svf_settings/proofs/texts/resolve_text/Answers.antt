use Rattle.svf_lex.specs.Left.{left}
use Rattle.svf_words.specs.Words.{groups_of}
use Rattle.svf_parse.specs.Reading.{groups_say}
use Rattle.svf_settings.proofs.KeptTexts.{answer_small}
use Rattle.svf_settings.proofs.texts.resolve_text.Goals as goal

pub returns-clause-small : goal.returns-clause-small
returns-clause-small c =
    answer_small c.args.text.now (groups_say 1 (groups_of (left c.in_ok-lexer_of.field-0))) c.read_text.result c.in_ok-lexer_of.ensures
    c.read_text.ensures.answers c.read_text.ensures.held

use Rattle.std.proofs.Common.{sym, ap, ◌∙◌, arith}
use Rattle.svf_words.specs.Words.{groups_of}
use Rattle.svf_parse.specs.Reading.{groups_say}
use Rattle.svf_parse.proofs.Grouping.{long_text, short_text}
use Rattle.svf_parse.proofs.text.lexer_of.Goals as goal

pub returns-then-text-gt-TEXT_LIMIT : goal.returns-then-text-gt-TEXT_LIMIT
returns-then-text-gt-TEXT_LIMIT c = long_text c.args.text.now c.if-text-gt-TEXT_LIMIT.true

pub returns : goal.returns
returns c =
    short_text c.args.text.now (omega (arith, c.if-text-gt-TEXT_LIMIT.false)) ∙ ap (λ items. groups_say 1 (groups_of items)) (sym c.new.ensures)

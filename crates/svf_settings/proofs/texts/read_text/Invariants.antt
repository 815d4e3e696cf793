use Rattle.svf_lex.specs.Left.{left}
use Rattle.svf_words.specs.Words.{groups_of}
use Rattle.svf_parse.proofs.Grouping.{group_count}
use Rattle.svf_settings.proofs.KeptTexts.{IsReading}
use Rattle.svf_settings.proofs.texts.read_text.Given as goal

abbrev pub invariant-loop-keeper : goal.invariant-loop-keeper
invariant-loop-keeper l =
    IsReading (groups_of (left l.text)) (groups_of (left l.lexer)) l.keeper.statements.items l.keeper.reader l.keeper.made.steps.items l.keeper.made.periods.items l.count

abbrev pub decreases-loop-keeper : goal.decreases-loop-keeper
decreases-loop-keeper l = group_count (groups_of (left l.lexer))

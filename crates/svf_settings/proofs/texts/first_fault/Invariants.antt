use Rattle.std.proofs.Common.{◌≡◌}
use Rattle.svf_lex.specs.Left.{left}
use Rattle.svf_words.specs.Words.{groups_of}
use Rattle.svf_parse.specs.Reading.{groups_say}
use Rattle.svf_parse.proofs.Grouping.{group_count}
use Rattle.svf_settings.specs.Reading.{first_of}
use Rattle.svf_settings.proofs.texts.first_fault.Given as goal

abbrev pub invariant-loop-form : goal.invariant-loop-form
invariant-loop-form l =
    first_of (groups_say l.next (groups_of (left l.text))) l.fault ≡ first_of (groups_say l.number (groups_of (left l.lexer))) l.fault

abbrev pub decreases-loop-form : goal.decreases-loop-form
decreases-loop-form l = group_count (groups_of (left l.lexer))

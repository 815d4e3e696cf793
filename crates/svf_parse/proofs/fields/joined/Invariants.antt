use Rattle.std.proofs.Common.{◌≡◌, ◌++◌, length}
use Rattle.svf_words.specs.Words.{words_left}
use Rattle.svf_lex.specs.Left.{left}
use Rattle.svf_parse.specs.Behind.{Behind}
use Rattle.svf_parse.specs.Fields.{cut_at_close, runs}
use Rattle.svf_parse.proofs.FieldLaws.{with_digits}
use Rattle.svf_parse.proofs.fields.joined.Given as goal

abbrev pub invariant-loop-word : goal.invariant-loop-word
invariant-loop-word l =
    (with_digits l.digits.items (runs (cut_at_close (words_left l.words))) ≡ with_digits (l.first ++ l.second) (runs (cut_at_close (words_left l.initial.words))))
    × Behind (left l.initial.words) (left l.words)

abbrev pub decreases-loop-word : goal.decreases-loop-word
decreases-loop-word l = length (words_left l.words)

use Rattle.std.proofs.Common.{◌≡◌, length}
use Rattle.svf_words.specs.Words.{words_left}
use Rattle.svf_lex.specs.Left.{left}
use Rattle.svf_parse.specs.Behind.{Behind}
use Rattle.svf_parse.specs.Fields.{no_fields, cut_at_close, fields_say}
use Rattle.svf_parse.specs.FormView.{fields}
use Rattle.svf_parse.proofs.fields.take_fields.Given as goal

abbrev pub invariant-loop-word : goal.invariant-loop-word
invariant-loop-word l = record {
  says : fields_say (fields l.all) (cut_at_close (words_left l.words)) ≡ fields_say no_fields (cut_at_close (words_left l.initial.words));
  behind : Behind (left l.initial.words) (left l.words);
}

abbrev pub decreases-loop-word : goal.decreases-loop-word
decreases-loop-word l = length (words_left l.words)

use Rattle.std.proofs.Common.{◌≡◌, length}
use Rattle.svf_lex.specs.Left.{left}
use Rattle.svf_words.specs.Words.{words_left}
use Rattle.svf_parse.specs.Behind.{Behind}
use Rattle.svf_parse.specs.Forms.{each_state}
use Rattle.svf_parse.proofs.StateLists.{in_front}
use Rattle.svf_parse.proofs.forms.some_states.Given as goal

abbrev pub invariant-loop-word : goal.invariant-loop-word
invariant-loop-word l = (in_front l.all.items (each_state (words_left l.words)) ≡ each_state (words_left l.initial.words)) × Behind (left l.initial.words) (left l.words)

abbrev pub decreases-loop-word : goal.decreases-loop-word
decreases-loop-word l = length (words_left l.words)

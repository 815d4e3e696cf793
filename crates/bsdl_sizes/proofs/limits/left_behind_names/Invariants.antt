use Rattle.std.proofs.Common.{◌≡◌, drop, map}
use Rattle.bsdl_text.specs.WordView.{word_lexeme}
use Rattle.bsdl_sizes.specs.Counting.{names_behind}
use Rattle.bsdl_sizes.proofs.limits.left_behind_names.Given as goal

abbrev pub invariant-loop-name : goal.invariant-loop-name
invariant-loop-name l = names_behind l.left l.width (map word_lexeme (drop l.name-index l.names)) ≡ names_behind l.most l.width (map word_lexeme l.names)

use Rattle.std.proofs.Common.{arith}
use Rattle.std.proofs.lemmas.Str.Pattern.{strip_prefix_char}
use Rattle.board_tables.proofs.TrimLaws.{mark_is}
use Rattle.board_tables.proofs.follows.behind_mark.Goals as goal

pub returns : goal.returns
returns c =
    mark_is c.args.text.now c.strip_prefix.result
    (strip_prefix_char 33 c.args.text.now c.strip_prefix.result c.strip_prefix.ensures.cases (omega arith))

use Rattle.std.proofs.Common.{◌∙◌, ap}
use Rattle.board_tables.specs.FollowTexts.{trimmed, without_behind}
use Rattle.board_tables.proofs.TrimLaws.{before_is, behind_is}
use Rattle.board_tables.proofs.follows.trimmed.Goals as goal

pub returns : goal.returns
unfolding trimmed
returns c =
    behind_is c.trim_start_matches.result.now c.trim_end_matches.result.now c.trim_end_matches.ensures.matches
    ∙ ap without_behind (before_is c.args.text.now c.trim_start_matches.result.now c.trim_start_matches.ensures.matches)

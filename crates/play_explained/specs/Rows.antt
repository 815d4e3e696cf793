-- Plays that ended without a verdict, and their lines.
use Rattle.std.specs.Prelude.{◌≡◌, ℕ, List, ◌++◌, codes}
use Rattle.play_model.specs.declared.ending.Ending.TheVariants.{Pass, Lost, BadAnswer}
use Rattle.refusal_places.specs.TextRows.{lf, two}
use Rattle.play_explained.specs.Lines.{ended_lines}

-- two statements, each on a line of its own
abbrev pub two_lines : List ℕ
two_lines = codes "A;" ++ lf ++ codes "B;"

pub record EndedRows : Type 0 where
  pub lost : ended_lines two_lines (Lost 2) ≡ codes "lost command 2\nat line 2 column 1\n"
  pub bad_answer : ended_lines two (BadAnswer 1 120) ≡ codes "bad answer 78 command 1\nat line 1 column 1\n"
  pub before_the_first : ended_lines two (Lost 0) ≡ codes "lost command 0\n"
  pub behind_the_last : ended_lines two (Lost 3) ≡ codes "lost command 3\n"
  pub passed : ended_lines two Pass ≡ codes "pass\n"

-- The lines of plays without a verdict compute.
use Rattle.std.proofs.Common.{◌≡◌, ◌<◌, ◌++◌, Some, None, refl, ap, ◌∙◌, arith, codes, Option, List, ℕ}
use Rattle.std.proofs.lemmas.Fmt.{decimal_digit}
use Rattle.output_words.specs.declared.lines.Position.{Position}
use Rattle.play_model.specs.Endings.{verdict_line}
use Rattle.play_model.specs.declared.ending.Ending.{Ending}
use Rattle.play_model.specs.declared.ending.Ending.TheVariants.{Pass, Lost, BadAnswer}
use Rattle.refusal_places.proofs.TextRowsCompute.{statement_rows}
use Rattle.refusal_places.specs.TextRows.{at}
use Rattle.play_explained.specs.Lines.{at_line}
use Rattle.play_explained.specs.Rows.{EndedRows}

lost_line : verdict_line (Lost 2) ++ at_line (Some (at 2 1)) ≡ codes "lost command 2\nat line 2 column 1\n"
lost_line = rw (decimal_digit 2 (omega arith), decimal_digit 1 (omega arith)) refl

bad_line : verdict_line (BadAnswer 1 120) ++ at_line (Some (at 1 1)) ≡ codes "bad answer 78 command 1\nat line 1 column 1\n"
bad_line = rw (decimal_digit 1 (omega arith)) refl

unreached_line : verdict_line (Lost 0) ++ at_line None ≡ codes "lost command 0\n"
unreached_line = rw (decimal_digit 0 (omega arith)) refl

past_line : verdict_line (Lost 3) ++ at_line None ≡ codes "lost command 3\n"
past_line = rw (decimal_digit 3 (omega arith)) refl

with_place : Ending → Option Position → List ℕ
with_place ending p = verdict_line ending ++ at_line p

pub ended_rows : EndedRows
unfolding with_place
ended_rows = record {
  lost = ap (with_place (Lost 2)) statement_rows.behind_line_feed ∙ lost_line;
  bad_answer = ap (with_place (BadAnswer 1 120)) statement_rows.first ∙ bad_line;
  before_the_first = unreached_line;
  behind_the_last = ap (with_place (Lost 3)) statement_rows.no_third ∙ past_line;
  passed = refl;
}

-- Lines and marks worked out: of a net N with a pull up, and a net M.
use Rattle.std.specs.Prelude.{◌≡◌, true, false, List, [], ◌∷◌, codes}
use Rattle.scan_vectors.specs.declared.part.Part.TheVariants.{Data}
use Rattle.play_model.specs.declared.ending.Ending.TheVariants.{Pass, Fail}
use Rattle.board_faults.specs.declared.judging.JudgedWay.{JudgedWay}
use Rattle.board_faults.specs.declared.judging.Verdict.{Verdict}
use Rattle.board_faults.specs.declared.judging.Verdict.TheVariants.{Invisible, Played}
use Rattle.board_faults.specs.declared.kinds.Fault.TheVariants as fault
use Rattle.board_faults.specs.declared.kinds.Way.{Way}
use Rattle.board_faults.specs.declared.kinds.Way.TheVariants as way
use Rattle.board_faults.specs.declared.kinds.Winner.TheVariants.{Zeros, Ones, First, Second}
use Rattle.board_faults.specs.Rows.{nets}
use Rattle.output_words.specs.declared.status.Status.TheVariants as exits
use Rattle.fault_serving.specs.declared.sifting.Outcome.TheVariants as outcome
use Rattle.fault_serving.specs.Rows.{board}
use Rattle.play_coverage.specs.Contending.{either, newly}
use Rattle.play_coverage.specs.Lines.{comes_to, contention_words, loops_line, missed_ways, way_line}
use Rattle.play_coverage.specs.Tallies.{status_by}

abbrev pub judged : Way → Verdict → JudgedWay
judged its_way verdict = record { way = its_way; verdict = verdict }

abbrev pub failing : Verdict
failing = Played (Fail 8 Data 5)

-- a bridge whose first way shows to no program, and whose others are missed, caught and missed
abbrev pub bridge : List JudgedWay
bridge =
    judged (way.Short 0 1 Zeros) Invisible ∷ judged (way.Short 0 1 Ones) (Played Pass)
    ∷ judged (way.Short 0 1 First) failing ∷ judged (way.Short 0 1 Second) (Played Pass) ∷ []

abbrev pub quiet : List JudgedWay
quiet = judged (way.Short 0 1 Zeros) Invisible ∷ judged (way.Short 0 1 Ones) (Played Pass) ∷ []

pub record CoverRows : Type 0 where
  pub caught : way_line board (fault.Short 0 1) (judged (way.Short 0 1 First) failing)
      ≡ codes "caught short N M first-leads command 8 data bit 5\n"
  pub missed : way_line board (fault.Stuck 1 true) (judged (way.Stuck 1 true) (Played Pass))
      ≡ codes "missed stuck M at 1\n"
  pub invisible : way_line board (fault.Pull 0) (judged (way.Pull 0) Invisible) ≡ codes "invisible pull N\n"
  pub some_ways : missed_ways bridge ≡ codes " wired-or second-leads"
  pub one_way_missed : comes_to outcome.Missed bridge ≡ true
  pub so_not_caught : comes_to outcome.Caught bridge ≡ false
  -- each way that shows is missed, so none is named
  pub all_ways : missed_ways quiet ≡ []
  pub nothing_shows : comes_to outcome.Invisible (judged (way.Pull 0) Invisible ∷ []) ≡ true
  pub contends : contention_words nets (record { command = 4; net = 1 }) ≡ codes "contends command 4 net M\n"
  pub loops : loops_line 2 ≡ codes "loops 2\n"
  pub no_loops : loops_line 0 ≡ []
  -- of three nets the first was marked before, and the first two are now
  pub newly_marked : newly 0 (true ∷ false ∷ false ∷ []) (true ∷ true ∷ false ∷ []) ≡ 1 ∷ []
  pub marked : either (true ∷ false ∷ false ∷ []) (false ∷ true ∷ false ∷ []) ≡ true ∷ true ∷ false ∷ []
  pub a_miss : status_by [] 1 ≡ exits.Fail
  pub no_miss : status_by [] 0 ≡ exits.Pass

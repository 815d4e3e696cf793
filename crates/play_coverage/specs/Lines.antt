-- What a program makes of the faults of a board, as lines tell it.
use Rattle.std.specs.Prelude.{Bool, true, false, not, ◌||◌, ◌&&◌, ◌==◌, ℕ, List, [], ◌∷◌, ◌++◌, codes, decimal}
use Rattle.std.specs.Prelude.{flat_map, take, Some, None, is_none}
use Rattle.std.specs.Prelude.{unwrap_or, if◌then◌else◌}
use Rattle.std.specs.List.{count_by, filter, list_all, list_any}
use Rattle.pin_nets.specs.Wired.{Net}
use Rattle.output_words.specs.declared.status.Status.{Status}
use Rattle.output_words.specs.declared.status.Status.TheVariants as exits
use Rattle.output_words.specs.Texts.{texts}
use Rattle.board_plan.specs.Planned.{Wiring}
use Rattle.board_description.specs.Words.{net_name}
use Rattle.play_model.specs.declared.ending.Ending.TheVariants.{Pass, Fail}
use Rattle.play_model.specs.Endings.{part_word}
use Rattle.board_faults.specs.declared.judging.Judged.{Judged}
use Rattle.board_faults.specs.declared.judging.JudgedWay.{JudgedWay}
use Rattle.board_faults.specs.declared.judging.Verdict.{Verdict}
use Rattle.board_faults.specs.declared.judging.Verdict.TheVariants.{Invisible, Played}
use Rattle.board_faults.specs.declared.kinds.Fault.{Fault}
use Rattle.board_faults.specs.declared.kinds.Fault.TheVariants as fault
use Rattle.board_faults.specs.declared.kinds.Way.TheVariants as way
use Rattle.board_faults.specs.Judging.{ways_of}
use Rattle.fault_serving.specs.declared.sifting.Outcome.TheVariants as outcome
use Rattle.fault_serving.specs.declared.sifting.Outcome.{Outcome}
use Rattle.fault_serving.specs.Words.{fault_words, way_words}
use Rattle.play_coverage.specs.declared.contending.Contention.{Contention}
use Rattle.play_coverage.specs.declared.outcomes.FaultKind.{FaultKind}
use Rattle.play_coverage.specs.declared.outcomes.FaultKind.TheVariants as kind

-- ---- a way

-- it shows to some program
abbrev pub shows : Verdict → Bool
shows Invisible = false
shows (Played ending) = true

-- it shows to some program, and this one passes on the board with it
abbrev pub is_passed : Verdict → Bool
is_passed Invisible = false
is_passed (Played Pass) = true
is_passed (Played _) = false

abbrev pub verdict_word : Verdict → List ℕ
verdict_word Invisible = codes "invisible "
verdict_word (Played Pass) = codes "missed "
verdict_word (Played _) = codes "caught "

-- the first bit that fails
abbrev pub failing_words : Verdict → List ℕ
failing_words (Played (Fail command part bit)) =
    texts (codes " command " ∷ decimal command ∷ codes " " ∷ part_word part ∷ codes " bit " ∷ decimal bit ∷ [])
failing_words _ = []

-- `caught open U2.Q(5) at 1 command 8 data bit 15`
abbrev pub way_line : Wiring → Fault → JudgedWay → List ℕ
way_line w fault j =
    verdict_word j.verdict ++ (fault_words w fault ++ (way_words j.way ++ (failing_words j.verdict ++ codes "\n")))

-- ---- a fault

abbrev pub any_shows : List JudgedWay → Bool
any_shows js = list_any (λ (j : JudgedWay). shows j.verdict) js

abbrev pub any_passed : List JudgedWay → Bool
any_passed js = list_any (λ (j : JudgedWay). is_passed j.verdict) js

-- What a fault comes to: it is caught where each of its ways that shows is, missed where one of them is not, and
-- invisible where none shows.
abbrev pub comes_to : Outcome → List JudgedWay → Bool
comes_to outcome.Caught js = any_shows js && not (any_passed js)
comes_to outcome.Missed js = any_passed js
comes_to outcome.Invisible js = not (any_shows js)

-- nothing of a fault with which the board has no meaning
abbrev pub has_come : Outcome → Judged → Bool
has_come o j = elim (ways_of j) [ None ↦ false | Some js ↦ comes_to o js ]

-- each way that shows is missed
abbrev pub all_missed : List JudgedWay → Bool
all_missed js = list_all (λ (j : JudgedWay). is_passed j.verdict || not (shows j.verdict)) js

abbrev pub missed_words : JudgedWay → List ℕ
missed_words j = if is_passed j.verdict then way_words j.way else []

-- the ways that are missed, where not all of those that show are
abbrev pub missed_ways : List JudgedWay → List ℕ
missed_ways js = if all_missed js then [] else flat_map missed_words js

abbrev pub judged_ways : Judged → List JudgedWay
judged_ways j = unwrap_or (ways_of j) []

-- `missed short BUS2 BUS3 wired-or`
abbrev pub missed_line : Wiring → Judged → List ℕ
missed_line w j = codes "missed " ++ (fault_words w j.fault ++ (missed_ways (judged_ways j) ++ codes "\n"))

-- so many faults that are missed are told, each with a line
abbrev pub most_told : ℕ
most_told = 256

abbrev pub missed_lines : Wiring → List Judged → List ℕ
missed_lines w js = flat_map (missed_line w) (take most_told (filter (has_come outcome.Missed) js))

-- every way of a fault; `loop short A B` where the board has no meaning
abbrev pub fault_lines : Wiring → Judged → List ℕ
fault_lines w j = elim (ways_of j) [
  | None ↦ codes "loop " ++ (fault_words w j.fault ++ codes "\n")
  | Some js ↦ flat_map (way_line w j.fault) js
]

-- ---- all faults

abbrev pub is_kind : FaultKind → Fault → Bool
is_kind kind.Opens (fault.Open net pin) = true
is_kind kind.Pulls (fault.Pull net) = true
is_kind kind.Stuck (fault.Stuck net bit) = true
is_kind kind.Shorts (fault.Short first second) = true
is_kind _ _ = false

abbrev pub kind_word : FaultKind → List ℕ
kind_word kind.Opens = codes "opens"
kind_word kind.Pulls = codes "pulls"
kind_word kind.Stuck = codes "stuck"
kind_word kind.Shorts = codes "shorts"

abbrev pub is_counted : FaultKind → Outcome → Judged → Bool
is_counted k o j = is_kind k j.fault && has_come o j

abbrev pub count : FaultKind → Outcome → List Judged → ℕ
count k o js = count_by (is_counted k o) js

-- `opens caught 22 missed 0 invisible 0`
abbrev pub count_line : List Judged → FaultKind → List ℕ
count_line js k =
    texts (kind_word k ∷ codes " caught " ∷ decimal (count k outcome.Caught js) ∷ codes " missed "
    ∷ decimal (count k outcome.Missed js) ∷ codes " invisible " ∷ decimal (count k outcome.Invisible js)
    ∷ codes "\n" ∷ [])

abbrev pub is_loop : Judged → Bool
is_loop j = is_none (ways_of j)

-- how many faults are not judged, where there are any
abbrev pub loops_line : ℕ → List ℕ
loops_line n = if n == 0 then [] else texts (codes "loops " ∷ decimal n ∷ codes "\n" ∷ [])

abbrev pub totals : List Judged → List ℕ
totals js =
    count_line js kind.Opens ++ (count_line js kind.Pulls ++ (count_line js kind.Stuck ++ (count_line js kind.Shorts
    ++ loops_line (count_by is_loop js))))

-- ---- the whole

abbrev pub contention_words : List Net → Contention → List ℕ
contention_words nets c =
    texts (codes "contends command " ∷ decimal c.command ∷ codes " net " ∷ net_name nets c.net ∷ codes "\n" ∷ [])

abbrev pub contention_line : Wiring → Contention → List ℕ
contention_line w c = contention_words w.nets c

-- every way of every fault where all are to be listed, else the faults that are missed
abbrev pub told_lines : (listed : Bool) → Wiring → List Judged → List ℕ
told_lines true w js = flat_map (fault_lines w) js
told_lines false w js = missed_lines w js

abbrev pub cover_lines : (listed : Bool) → Wiring → List Contention → List Judged → List ℕ
cover_lines listed w cs js = flat_map (contention_line w) cs ++ (told_lines listed w js ++ totals js)

abbrev pub any_missed : List Judged → Bool
any_missed js = list_any (has_come outcome.Missed) js

-- the exit status: a pass where nothing contends and nothing is missed
abbrev pub cover_status : List Contention → List Judged → Status
cover_status [] js = if any_missed js then exits.Fail else exits.Pass
cover_status (c ∷ cs) js = exits.Fail

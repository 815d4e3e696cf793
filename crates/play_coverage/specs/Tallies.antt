-- What is told of the faults that were judged so far: what is printed of them, and how many there are of each kind.
use Rattle.std.specs.Prelude.{◌≡◌, Bool, true, false, ◌&&◌, ◌+◌, ℕ, List, [], ◌∷◌, ◌++◌, length, nat_lt, take}
use Rattle.std.specs.Prelude.{codes, decimal, if◌then◌else◌}
use Rattle.std.specs.List.{count_by, filter}
use Rattle.svf_programs.specs.Steps.{Program}
use Rattle.output_words.specs.Texts.{texts}
use Rattle.output_words.specs.declared.status.Status.{Status}
use Rattle.output_words.specs.declared.status.Status.TheVariants as exits
use Rattle.board_plan.specs.Planned.{Wiring}
use Rattle.board_faults.specs.declared.judging.Judged.{Judged}
use Rattle.board_faults.specs.declared.kinds.Fault.{Fault}
use Rattle.board_faults.specs.Judging.{JudgesAll, JudgesBoard}
use Rattle.fault_serving.specs.declared.sifting.Counting.TheVariants as counting
use Rattle.fault_serving.specs.declared.sifting.Counting.{Counting}
use Rattle.fault_serving.specs.declared.sifting.Counts.{Counts}
use Rattle.fault_serving.specs.declared.sifting.Outcome.TheVariants as outcome
use Rattle.play_coverage.specs.declared.contending.Contention.{Contention}
use Rattle.play_coverage.specs.declared.outcomes.FaultKind.{FaultKind}
use Rattle.play_coverage.specs.declared.outcomes.FaultKind.TheVariants as kind
use Rattle.play_coverage.specs.declared.tallies.Tally.{Tally}
use Rattle.play_coverage.specs.Lines.{count, fault_lines, has_come, is_counted, is_loop, kind_word}
use Rattle.play_coverage.specs.Lines.{missed_line, most_told, told_lines}

-- how many faults of a kind are caught, missed and invisible
abbrev pub counts : FaultKind → List Judged → Counts
counts k js = record {
  caught = count k outcome.Caught js;
  missed = count k outcome.Missed js;
  invisible = count k outcome.Invisible js;
}

-- the faults that are missed and told, each with a line
abbrev pub first_missed : List Judged → List Judged
first_missed js = take most_told (filter (has_come outcome.Missed) js)

-- what is told of these faults, behind a text
pub record IsTally (before : List ℕ) (listed : Bool) (w : Wiring) (js : List Judged) (t : Tally) : Type 0 where
  pub text : t.text.items ≡ before ++ told_lines listed w js
  pub told : t.told ≡ length (first_missed js)
  pub opens : t.opens ≡ counts kind.Opens js
  pub pulls : t.pulls ≡ counts kind.Pulls js
  pub stuck : t.stuck ≡ counts kind.Stuck js
  pub shorts : t.shorts ≡ counts kind.Shorts js
  pub loops : t.loops ≡ count_by is_loop js

-- every fault of a board is judged, and told so
pub record TellsFaults (program : Program) (w : Wiring) (before : List ℕ) (listed : Bool) (t : Tally) : Type 0 where
  pub judged : List Judged
  pub judges : JudgesBoard program w judged
  pub tells : IsTally before listed w judged t

-- some of them are judged, and told behind those before
abbrev pub TellsMore : Program → Wiring → (listed : Bool) → List Fault → (old new : Tally) → Type 0
TellsMore program w listed faults old new = (before : List ℕ) (js : List Judged) → IsTally before listed w js old
    → (more : List Judged) × JudgesAll program w faults more × IsTally before listed w (js ++ more) new

-- ---- one fault more

-- it is missed and told, where so many are before it
abbrev pub is_told : (told : ℕ) → Judged → Bool
is_told told j = nat_lt told most_told && has_come outcome.Missed j

abbrev pub one_if : Bool → ℕ
one_if b = if b then 1 else 0

abbrev pub next_told : (told : ℕ) → Judged → ℕ
next_told told j = if is_told told j then told + 1 else told

abbrev pub line_told : (listed : Bool) → Wiring → (told : ℕ) → Judged → List ℕ
line_told true w told j = fault_lines w j
line_told false w told j = if is_told told j then missed_line w j else []

abbrev pub counts_with : Counts → FaultKind → Judged → Counts
counts_with c k j = record {
  caught = c.caught + one_if (is_counted k outcome.Caught j);
  missed = c.missed + one_if (is_counted k outcome.Missed j);
  invisible = c.invisible + one_if (is_counted k outcome.Invisible j);
}

-- ---- bridges that are only counted

-- which may be, where so many that are missed are told: those that have no line
abbrev pub counting_for : (listed : Bool) → (told : ℕ) → Counting
counting_for listed told =
    if listed then counting.Nothing else (if nat_lt told most_told then counting.AllButMissed else counting.Everything)

-- so many more
abbrev pub with_counts : Tally → Counts → Tally
with_counts t c = record t {
  shorts = record {
    caught = t.shorts.caught + c.caught;
    missed = t.shorts.missed + c.missed;
    invisible = t.shorts.invisible + c.invisible;
  };
}

-- ---- the line of a kind, by its counts

abbrev pub counts_line : FaultKind → Counts → List ℕ
counts_line k c =
    texts (kind_word k ∷ codes " caught " ∷ decimal c.caught ∷ codes " missed " ∷ decimal c.missed
    ∷ codes " invisible " ∷ decimal c.invisible ∷ codes "\n" ∷ [])

-- ---- the exit status, by how many faults are missed and told

abbrev pub status_by : List Contention → (told : ℕ) → Status
status_by [] told = if nat_lt 0 told then exits.Fail else exits.Pass
status_by (c ∷ cs) told = exits.Fail

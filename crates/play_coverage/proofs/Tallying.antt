-- What is told of judged faults, with one more.
use Rattle.std.proofs.Common.{◌≡◌, ◌+◌, ℕ, Bool, true, false, List, [], ◌∷◌, ◌++◌, length, refl, sym, ap, ◌∙◌, append_assoc}
use Rattle.std.specs.Prelude.{flat_map, if◌then◌else◌, OnOk, Result, Ok, Err}
use Rattle.output_words.specs.declared.status.Status.TheVariants as exits
use Rattle.board_plan.specs.Planned.{Wiring}
use Rattle.board_faults.specs.declared.judging.Judged.{Judged}
use Rattle.fault_serving.specs.declared.sifting.Counts.{Counts}
use Rattle.fault_serving.specs.declared.sifting.Outcome.TheVariants.{Caught, Missed, Invisible}
use Rattle.play_coverage.specs.declared.contending.Contention.{Contention}
use Rattle.play_coverage.specs.declared.outcomes.FaultKind.{FaultKind}
use Rattle.play_coverage.specs.declared.outcomes.FaultKind.TheVariants as kind
use Rattle.play_coverage.specs.declared.tallies.Tally.{Tally}
use Rattle.play_coverage.specs.Lines.{count_line, cover_lines, cover_status, contention_line, fault_lines, has_come, is_counted, is_loop, loops_line, missed_line, most_told, told_lines, totals}
use Rattle.play_coverage.specs.Tallies.{IsTally, counts, counts_line, counts_with, first_missed, is_told, line_told, next_told, one_if, status_by}
use Rattle.play_coverage.proofs.Counting.{count_more, first_more, longer, some_first, told_more}

-- ---- one fault more

counts_more : (k : FaultKind) (js : List Judged) (j : Judged) → counts_with (counts k js) k j ≡ counts k (js ++ j ∷ [])
counts_more k js j = λ i. record {
  caught = sym (count_more (is_counted k Caught) js j) i;
  missed = sym (count_more (is_counted k Missed) js j) i;
  invisible = sym (count_more (is_counted k Invisible) js j) i;
}

more_counted : (k : FaultKind) (js : List Judged) (j : Judged) (old new : Counts) → old ≡ counts k js → new ≡ counts_with old k j → new ≡ counts k (js ++ j ∷ [])
more_counted k js j old new is one = one ∙ ap (λ (c : Counts). counts_with c k j) is ∙ counts_more k js j

next_first : (js : List Judged) (j : Judged) (n : ℕ) → n ≡ length (first_missed js)
    → first_missed (js ++ j ∷ []) ≡ first_missed js ++ (if is_told n j then j ∷ [] else [])
next_first js j n is = first_more (has_come Missed) most_told js j n is

next_count : (js : List Judged) (j : Judged) (old new : ℕ) → old ≡ length (first_missed js) → new ≡ next_told old j → new ≡ length (first_missed (js ++ j ∷ []))
next_count js j old new is one =
    one ∙ longer (first_missed js) j old is (is_told old j) ∙ ap (λ (l : List Judged). length l) (sym (next_first js j old is))

next_lines : (before : List ℕ) (listed : Bool) (w : Wiring) (js : List Judged) (j : Judged) (n : ℕ) (old new : List ℕ) → n ≡ length (first_missed js)
    → old ≡ before ++ told_lines listed w js → new ≡ old ++ line_told listed w n j → new ≡ before ++ told_lines listed w (js ++ j ∷ [])
next_lines before true w js j n old new is told one = told_more (fault_lines w) js j true before old new told one
next_lines before false w js j n old new is told one =
    told_more (missed_line w) (first_missed js) j (is_told n j) before old new told one
    ∙ ap (λ (l : List Judged). before ++ flat_map (missed_line w) l) (sym (next_first js j n is))

pub tally_more : (before : List ℕ) (listed : Bool) (w : Wiring) (js : List Judged) (j : Judged) (old new : Tally) → IsTally before listed w js old
    → new.text.items ≡ old.text.items ++ line_told listed w old.told j → new.told ≡ next_told old.told j
    → new.opens ≡ counts_with old.opens kind.Opens j → new.pulls ≡ counts_with old.pulls kind.Pulls j
    → new.stuck ≡ counts_with old.stuck kind.Stuck j → new.shorts ≡ counts_with old.shorts kind.Shorts j
    → new.loops ≡ old.loops + one_if (is_loop j)
    → IsTally before listed w (js ++ j ∷ []) new
tally_more before listed w js j old new is text told opens pulls stuck shorts loops = record {
  text = next_lines before listed w js j old.told old.text.items new.text.items is.told is.text text;
  told = next_count js j old.told new.told is.told told;
  opens = more_counted kind.Opens js j old.opens new.opens is.opens opens;
  pulls = more_counted kind.Pulls js j old.pulls new.pulls is.pulls pulls;
  stuck = more_counted kind.Stuck js j old.stuck new.stuck is.stuck stuck;
  shorts = more_counted kind.Shorts js j old.shorts new.shorts is.shorts shorts;
  loops = loops ∙ ap (λ (n : ℕ). n + one_if (is_loop j)) is.loops ∙ sym (count_more is_loop js j);
}

-- ---- all of them

pub totals_of : (before : List ℕ) (listed : Bool) (w : Wiring) (js : List Judged) (t : Tally) → IsTally before listed w js t
    → counts_line kind.Opens t.opens ++ (counts_line kind.Pulls t.pulls ++ (counts_line kind.Stuck t.stuck
    ++ (counts_line kind.Shorts t.shorts ++ loops_line t.loops))) ≡ totals js
totals_of before listed w js t is =
    ap (λ (c : Counts). counts_line kind.Opens c ++ (counts_line kind.Pulls t.pulls ++ (counts_line kind.Stuck t.stuck ++ (counts_line kind.Shorts t.shorts ++ loops_line t.loops)))) is.opens
    ∙ ap (λ (c : Counts). count_line js kind.Opens ++ (counts_line kind.Pulls c ++ (counts_line kind.Stuck t.stuck ++ (counts_line kind.Shorts t.shorts ++ loops_line t.loops)))) is.pulls
    ∙ ap (λ (c : Counts). count_line js kind.Opens ++ (count_line js kind.Pulls ++ (counts_line kind.Stuck c ++ (counts_line kind.Shorts t.shorts ++ loops_line t.loops)))) is.stuck
    ∙ ap (λ (c : Counts). count_line js kind.Opens ++ (count_line js kind.Pulls ++ (count_line js kind.Stuck ++ (counts_line kind.Shorts c ++ loops_line t.loops)))) is.shorts
    ∙ ap (λ (n : ℕ). count_line js kind.Opens ++ (count_line js kind.Pulls ++ (count_line js kind.Stuck ++ (count_line js kind.Shorts ++ loops_line n)))) is.loops

-- lines of nets whose drivers disagree, what is told of faults, and the counts
pub lines_of : (listed : Bool) (w : Wiring) (cs : List Contention) (js : List Judged) (before told now : List ℕ) → before ≡ flat_map (contention_line w) cs
    → told ≡ before ++ told_lines listed w js → now ≡ told ++ totals js → now ≡ cover_lines listed w cs js
lines_of listed w cs js before told now is behind end =
    end ∙ ap (λ (l : List ℕ). l ++ totals js) (behind ∙ ap (λ (l : List ℕ). l ++ told_lines listed w js) is)
    ∙ append_assoc (flat_map (contention_line w) cs) (told_lines listed w js) (totals js)

pub status_of : (cs : List Contention) (js : List Judged) (n : ℕ) → n ≡ length (first_missed js) → status_by cs n ≡ cover_status cs js
status_of [] js n is =
    ap (λ (m : ℕ). status_by [] m) is
    ∙ ap (λ (b : Bool). if b then exits.Fail else exits.Pass) (some_first (has_come Missed) 255 js)
status_of (c ∷ cs) js n is = refl

pub totals_told : {A E : Type 0} (t : Tally) (new : List ℕ) (r : Result A E)
    → OnOk r (new ≡ t.text.items ++ (counts_line kind.Opens t.opens ++ (counts_line kind.Pulls t.pulls ++ (counts_line kind.Stuck t.stuck
    ++ (counts_line kind.Shorts t.shorts ++ loops_line t.loops)))))
    → OnOk r ((before : List ℕ) (listed : Bool) (w : Wiring) (js : List Judged) → IsTally before listed w js t → new ≡ t.text.items ++ totals js)
totals_told t new (Ok x) is = λ before listed w js its. is ∙ ap (λ (l : List ℕ). t.text.items ++ l) (totals_of before listed w js t its)
totals_told t new (Err e) is = tt

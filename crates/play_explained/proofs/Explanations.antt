-- Lists of explained bits, of which the first are kept.
use Rattle.std.proofs.Common.{◌≡◌, ℕ, zero, suc, ◌+◌, ◌<◌, ◌≤◌, List, [], ◌∷◌, ◌++◌, length, take, drop, map, get_or, refl, sym, ap, ◌∙◌, arith, append_assoc}
use Rattle.std.proofs.Math.Seq.{take-suc}
use Rattle.scan_vectors.specs.Failures.{Found, none_found, with_found}
use Rattle.scan_vectors.specs.declared.failures.Mismatch.{Mismatch}
use Rattle.svf_programs.specs.Steps.{Step, Scan, Go, Path, Run, Trst, Numbered}
use Rattle.board_model.specs.Whole.{AtRest, capture, out, settle}
use Rattle.play_model.specs.Meaning.{after_step}
use Rattle.play_model.specs.PlayingOn.{outcome_of_all, step_failures}
use Rattle.scan_vectors.specs.Failures.{differing}
use Rattle.scan_vectors.specs.Vector.{tdis}
use Rattle.play_model.specs.declared.ending.Ending.{Ending}
use Rattle.play_model.specs.declared.ending.Ending.TheVariants.{Pass, Fail, Lost, BadAnswer}
use Rattle.play_model.specs.declared.kind.Kind.TheVariants.{PlaysOn, Stops}
use Rattle.std.specs.Prelude.{flat_map, Option, None, Some}
use Rattle.refusal_places.specs.Starts.{statement_position}
use Rattle.output_words.specs.declared.lines.Position.{Position}
use Rattle.std.proofs.lemmas.List.{append-nil}
use Rattle.output_words.specs.Lines.{total_line}
use Rattle.jt_player.specs.Showing.{mismatch_line}
use Rattle.play_explained.specs.declared.explaining.Explained.{Explained}
use Rattle.play_explained.specs.Explaining.{explained, explained_of, step_explained}
use Rattle.play_model.specs.DirectPlay.{opened_state}
use Rattle.play_model.specs.Streams.{most_kept}
use Rattle.jt_player.proofs.WholePlay.{meant_all}
use Rattle.jt_board.proofs.InUse.{every_board}
use Rattle.jt_player.proofs.HeadlineLaws.{legal}
use Rattle.scan_vectors.specs.declared.part.Part.TheVariants.{Header, Data, Trailer}
use Rattle.board_model.specs.Chain.{BoardState}
use Rattle.play_model.specs.Endings.{verdict_line}
use Rattle.play_explained.specs.Laws.{EachListedBitHasItsReason, EveryFailureIsExplained, NothingElseIsTold, PartsAreCalledAlike, ReasonsAloneAreAdded}
use Rattle.play_explained.specs.Runs.{other_for}
use Rattle.play_explained.specs.Lines.{at_line, ended_lines, explained_lines, failure_lines}
use Rattle.play_explained.specs.Laws.{ending_lines_with}
use Rattle.play_model.specs.declared.kind.Kind.{Kind}
use Rattle.jt_player.specs.Showing.{ending_lines}

module _ {A : Type 0} where
  pub take_again : (n : ℕ) (xs ys : List A) → take n (take n xs ++ ys) ≡ take n (xs ++ ys)
  take_again zero xs ys = refl
  take_again (suc n) [] ys = refl
  take_again (suc n) (x ∷ xs) ys = ap (λ l. x ∷ l) (take_again n xs ys)

  pub keep_none : (n : ℕ) (l : List A) → length l ≤ n → take n (l ++ []) ≡ l
  keep_none zero [] le = refl
  keep_none zero (x ∷ l) le = absurd (omega (arith, le))
  keep_none (suc n) [] le = refl
  keep_none (suc n) (x ∷ l) le = ap (λ k. x ∷ k) (keep_none n l (omega (arith, le)))

  -- where so many are listed no more are
  pub keep_full : (n : ℕ) (l more : List A) → length l ≤ n → n ≤ length l → take n (l ++ more) ≡ l
  keep_full zero [] more le ge = refl
  keep_full zero (x ∷ l) more le ge = absurd (omega (arith, le))
  keep_full (suc n) [] more le ge = absurd (omega (arith, ge))
  keep_full (suc n) (x ∷ l) more le ge = ap (λ k. x ∷ k) (keep_full n l more (omega (arith, le)) (omega (arith, ge)))

  -- of so many that are kept, no fewer need be given
  taken_within : (n most : ℕ) (ys : List A) → n ≤ most → take n (take most ys) ≡ take n ys
  taken_within zero most ys le = refl
  taken_within (suc n) zero ys le = absurd (omega (arith, le))
  taken_within (suc n) (suc most) [] le = refl
  taken_within (suc n) (suc most) (y ∷ ys) le = ap (λ k. y ∷ k) (taken_within n most ys (omega (arith, le)))

  pub kept_within : (n most : ℕ) (xs ys : List A) → n ≤ most → take n (xs ++ take most ys) ≡ take n (xs ++ ys)
  kept_within zero most xs ys le = refl
  kept_within (suc n) most [] ys le = taken_within (suc n) most ys le
  kept_within (suc n) most (x ∷ xs) ys le = ap (λ k. x ∷ k) (kept_within n most xs ys (omega (arith, le)))

module _ {A B : Type 0} (f : A → B) where
  map_append : (xs ys : List A) → map f (xs ++ ys) ≡ map f xs ++ map f ys
  map_append [] ys = refl
  map_append (x ∷ xs) ys = ap (λ l. f x ∷ l) (map_append xs ys)

  pub map_taken : (n : ℕ) (xs : List A) → map f (take n xs) ≡ take n (map f xs)
  map_taken zero xs = refl
  map_taken (suc n) [] = refl
  map_taken (suc n) (x ∷ xs) = ap (λ l. f x ∷ l) (map_taken n xs)

  pub map_more : (xs : List A) (i : ℕ) (x : A) → i < length xs → map f (take i xs) ++ f (get_or xs i x) ∷ [] ≡ map f (take (i + 1) xs)
  map_more xs i x h =
      let next : i + 1 ≡ suc i = omega arith in
      sym (ap (λ n. map f (take n xs)) next ∙ ap (map f) (take-suc xs i x h) ∙ map_append (take i xs) (get_or xs i x ∷ []))

-- ---- laws

failures_of : (e : Mismatch → Explained) → ((f : Mismatch) → (e f).failure ≡ f) → (fs : List Mismatch) → map (λ (x : Explained). x.failure) (map e fs) ≡ fs
failures_of e each [] = refl
failures_of e each (f ∷ fs) = λ i. each f i ∷ failures_of e each fs i

of_step : (n : ℕ) (s : Step) (m : AtRest)
    → map (λ (x : Explained). x.failure) (step_explained (record { number = n; what = s }) m) ≡ step_failures (record { number = n; what = s }) m
of_step n (Scan column v end) m =
    let captured = capture column (settle m) in
    failures_of (explained_of captured.nets captured.members column v) (λ f. refl) (differing n v (out column (tdis v) captured))
of_step n (Go s) m = refl
of_step n (Path path) m = refl
of_step n (Run run cycles end) m = refl
of_step n (Trst word) m = refl

pub each_is_explained : EveryFailureIsExplained
each_is_explained [] m = refl
each_is_explained (s ∷ ss) m =
    map_append (λ (x : Explained). x.failure) (step_explained s m) (explained ss (after_step s.what m))
    ∙ ap (λ l. l ++ map (λ (x : Explained). x.failure) (explained ss (after_step s.what m))) (of_step s.number s.what m)
    ∙ ap (λ l. step_failures s m ++ l) (each_is_explained ss (after_step s.what m))

-- failing bits without a place or a reason
module _ (text : List ℕ) (none : (n : ℕ) → statement_position text n ≡ None) where
  alone : (f : Mismatch) → failure_lines text (λ (g : Mismatch). []) f ≡ mismatch_line f
  alone f = ap (λ (p : Option Position). mismatch_line f ++ (at_line p ++ [])) (none f.command) ∙ append-nil (mismatch_line f)

  each_alone : (fs : List Mismatch) → flat_map (failure_lines text (λ (g : Mismatch). [])) fs ≡ flat_map mismatch_line fs
  each_alone [] = refl
  each_alone (f ∷ fs) = λ i. alone f i ++ each_alone fs i

-- endings without a verdict, in statements without a place
module _ (text : List ℕ) (none : (n : ℕ) → statement_position text n ≡ None) where
  no_place : (ending : Ending) (command : ℕ) → verdict_line ending ++ at_line (statement_position text command) ≡ verdict_line ending
  no_place ending command = ap (λ (p : Option Position). verdict_line ending ++ at_line p) (none command) ∙ append-nil (verdict_line ending)

pub nothing_else : NothingElseIsTold
nothing_else text PlaysOn (Fail command part bit) found none = ap (λ l. l ++ total_line found.total) (each_alone text none found.list)
nothing_else text Stops (Fail command part bit) found none = alone text none (record { command = command; part = part; bit = bit })
nothing_else text PlaysOn Pass found none = refl
nothing_else text PlaysOn (Lost command) found none = no_place text none (Lost command) command
nothing_else text PlaysOn (BadAnswer command byte) found none = no_place text none (BadAnswer command byte) command
nothing_else text Stops Pass found none = refl
nothing_else text Stops (Lost command) found none = no_place text none (Lost command) command
nothing_else text Stops (BadAnswer command byte) found none = no_place text none (BadAnswer command byte) command

-- the lines of failing bits with nothing behind them
bare_lines : (fs : List Mismatch) → flat_map (λ (f : Mismatch). mismatch_line f ++ []) fs ≡ flat_map mismatch_line fs
bare_lines [] = refl
bare_lines (f ∷ fs) = λ i. append-nil (mismatch_line f) i ++ bare_lines fs i

pub reasons_added : ReasonsAloneAreAdded
reasons_added = record {
  added = λ text why kind ending found. by text why kind ending found;
  without = λ kind ending found. bare kind ending found;
}
  where
    by : (text : List ℕ) (why : Mismatch → List ℕ) (kind : Kind) (ending : Ending) (found : Found)
        → explained_lines text why kind ending found
        ≡ ending_lines_with (λ (f : Mismatch). at_line (statement_position text f.command) ++ why f)
        (λ (command : ℕ). at_line (statement_position text command)) kind ending found
    by text why PlaysOn (Fail command part bit) found = refl
    by text why Stops (Fail command part bit) found = refl
    by text why PlaysOn Pass found = refl
    by text why PlaysOn (Lost command) found = refl
    by text why PlaysOn (BadAnswer command byte) found = refl
    by text why Stops Pass found = refl
    by text why Stops (Lost command) found = refl
    by text why Stops (BadAnswer command byte) found = refl

    bare : (kind : Kind) (ending : Ending) (found : Found)
        → ending_lines_with (λ (f : Mismatch). []) (λ (command : ℕ). []) kind ending found ≡ ending_lines kind ending found
    bare PlaysOn (Fail command part bit) found = ap (λ l. l ++ total_line found.total) (bare_lines found.list)
    bare Stops (Fail command part bit) found = append-nil (mismatch_line (record { command = command; part = part; bit = bit }))
    bare PlaysOn Pass found = refl
    bare PlaysOn (Lost command) found = append-nil (verdict_line (Lost command))
    bare PlaysOn (BadAnswer command byte) found = append-nil (verdict_line (BadAnswer command byte))
    bare Stops Pass found = refl
    bare Stops (Lost command) found = append-nil (verdict_line (Lost command))
    bare Stops (BadAnswer command byte) found = append-nil (verdict_line (BadAnswer command byte))

pub called_alike : PartsAreCalledAlike
called_alike Header = refl
called_alike Data = refl
called_alike Trailer = refl

-- where no bit failed, only how it ended is told
pub ended_is : (text : List ℕ) (why : Mismatch → List ℕ) (kind : Kind) (ending : Ending) (found : Found) (before : BoardState) → None ≡ other_for ending before
    → ended_lines text ending ≡ explained_lines text why kind ending found
ended_is text why kind (Fail command part bit) found before none = absurd cc
ended_is text why PlaysOn Pass found before none = refl
ended_is text why PlaysOn (Lost command) found before none = refl
ended_is text why PlaysOn (BadAnswer command byte) found before none = refl
ended_is text why Stops Pass found before none = refl
ended_is text why Stops (Lost command) found before none = refl
ended_is text why Stops (BadAnswer command byte) found before none = refl

-- the board that is there is the one that was meant
pub other_is : (ending : Ending) (other before : BoardState) → Some other ≡ other_for ending before → other ≡ before
other_is (Fail command part bit) other before is = cc
other_is Pass other before is = absurd cc
other_is (Lost command) other before is = absurd cc
other_is (BadAnswer command byte) other before is = absurd cc

pub each_listed : EachListedBitHasItsReason
each_listed kind text program accepted before met =
    let chain = every_board before met in
    map_taken (λ (e : Explained). e.failure) (most_kept kind) (explained program.steps (opened_state before))
    ∙ ap (take (most_kept kind)) (each_is_explained program.steps (opened_state before) ∙ meant_all program before chain.sound chain.some (legal text program accepted))

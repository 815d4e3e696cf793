-- A text that is read statement by statement, of which only the statements that are named are kept.
use Rattle.std.proofs.Common.{◌≡◌, ℕ, ◌+◌, ◌*◌, ◌≤◌, Bool, true, false, if◌then◌else◌, List, [], ◌∷◌, ◌++◌, map, length, reverse, take, refl, sym, ap, subst, ◌∙◌, Option, Some, None, Result, Ok, Err, length-append, arith}
use Rattle.std.specs.Prelude.{slice_get, IfOk}
use Rattle.std.specs.List.{sum_by}
use Rattle.std.proofs.lemmas.List.{reverse-append, reverse-reverse, append-nil, length-map, length-reverse, map-append}
use Rattle.std.proofs.lemmas.List.Sums.{sum_by-append, sum_by-cons}
use Rattle.svf_words.specs.declared.fault.SvfFault.{SvfFault}
use Rattle.svf_words.specs.declared.fault.Code.{Code}
use Rattle.svf_words.specs.Words.{Word, Groups, last, group}
use Rattle.svf_parse.specs.declared.statement.Statement.{Statement}
use Rattle.svf_parse.specs.Judging.{◌>>=◌, Said}
use Rattle.svf_parse.specs.Reading.{groups_say, text_says, at_statement, within_limit, statement_says}
use Rattle.svf_parse.specs.View.{said_of, from_words}
use Rattle.svf_parse.proofs.Grouping.{in_front, in_front-nil}
use Rattle.svf_parse.proofs.NextStatements.{next_said, none_next}
use Rattle.svf_parse.proofs.RefusalLaws.{no_long}
use Rattle.svf_parse.proofs.SizeLaws.{small_text}
use Rattle.svf_parse.proofs.TextLaws.{text_found}
use Rattle.svf_programs.specs.declared.kept.Kept.{Kept}
use Rattle.svf_programs.specs.declared.kept.KeptStep.{KeptStep}
use Rattle.svf_programs.specs.Held.{numbered_in}
use Rattle.svf_programs.specs.Sizes.{Holding, content, program_of}
use Rattle.svf_programs.specs.Sound.{IsSound}
use Rattle.svf_programs.specs.Steps.{Numbered, Program}
use Rattle.svf_settings.specs.declared.reading.Reader.{Reader}
use Rattle.svf_settings.specs.Held.{StandsIfNamed, if_named, is_named}
use Rattle.svf_settings.specs.LookBack.{settings}
use Rattle.svf_settings.specs.Periods.{KeepsPeriodsOf, changes, with_change}
use Rattle.svf_programs.specs.declared.periods.PeriodChange.{PeriodChange}
use Rattle.svf_settings.specs.Programs.{first_refusal, program, resolution, steps, said_resolution, text_resolution, unless}
use Rattle.svf_settings.specs.Reading.{Answers, IsAfter, IsBehind, IsTaken, KeepsAfter, first_of, kept_as}
use Rattle.svf_settings.specs.Refusals.{refusal}
use Rattle.svf_settings.proofs.FirstRefusals.{resolves_is_function, stays}
use Rattle.svf_settings.proofs.KeptPrograms.{few_steps, sizes}
use Rattle.svf_settings.proofs.OneStatementMore.{after_taken}
use Rattle.svf_settings.proofs.PeriodChanges.{keeps_periods}
use Rattle.svf_settings.proofs.SoundSteps.{sound_steps}

-- ---- the last statement

pub said_behind : (front : List Statement) (s : Statement) (more : List Said) → map said_of (front ++ s ∷ []) ++ more ≡ map said_of front ++ said_of s ∷ more
said_behind [] s more = refl
said_behind (x ∷ front) s more = ap (λ (xs : List Said). said_of x ∷ xs) (said_behind front s more)

pub stands_behind : (front : List Statement) (s : Said) (more : List Said) → slice_get (map said_of front ++ s ∷ more) (length front) ≡ Some s
stands_behind [] s more = refl
stands_behind (x ∷ front) s more = stands_behind front s more

pub last_read : (front : List Statement) (s : Statement) → slice_get (front ++ s ∷ []) (length front) ≡ Some s
last_read [] s = refl
last_read (x ∷ front) s = last_read front s

pub front_taken : (front : List Statement) (s : Statement) → take (length front) (front ++ s ∷ []) ≡ front
front_taken [] s = refl
front_taken (x ∷ front) s = ap (λ (xs : List Statement). x ∷ xs) (front_taken front s)

pub own_behind : (all front : List Statement) (s : Statement) (past : List Said) (r : Reader) (made : List KeptStep) (periods : List PeriodChange) → KeepsAfter front past r made periods
    → all ≡ front ++ s ∷ [] → IsBehind (map said_of all) past r
own_behind all front s past r made periods keeps split =
    subst (λ (xs : List Said). IsBehind xs past r) (sym (ap (map said_of) split ∙ map-append said_of front (s ∷ []))) (keeps (said_of s ∷ [])).behind

pub own_stands : (all front : List Statement) (s : Statement) → all ≡ front ++ s ∷ [] → slice_get (map said_of all) (length front) ≡ Some (said_of s)
own_stands all front s split =
    ap (λ (xs : List Statement). slice_get (map said_of xs) (length front)) split
    ∙ ap (λ (xs : List Said). slice_get xs (length front)) (map-append said_of front (s ∷ [])) ∙ stands_behind front (said_of s) []

module _ (front : List Statement) (s : Statement) (past : List Said) (r after : Reader) (made : List KeptStep) (periods : List PeriodChange) (step : Option Kept) (n : ℕ)
    (keeps : KeepsAfter front past r made periods) (number : n ≡ length past + 1)
    (takes : (all : List Said) → IsBehind all past r → StandsIfNamed all (settings past) (length front) (said_of s) → IsTaken all past (said_of s) after step) where
  abbrev next : List PeriodChange
  next = with_change step n after.running.period periods

  more_by : (all : List Said) → IsAfter all past r made periods → StandsIfNamed all (settings past) (length front) (said_of s)
      → IsAfter all (said_of s ∷ past) after (made ++ kept_as n step) next
  more_by all a stands = after_taken all past (said_of s) r after step made periods n a number (takes all a.behind stands)

  keeps_if : (named : Bool) → is_named (settings past) (said_of s) ≡ named
      → KeepsAfter (front ++ (if named then s ∷ [] else [])) (said_of s ∷ past) after (made ++ kept_as n step) next
  keeps_if true e = λ more.
      subst (λ (all : List Said). IsAfter all (said_of s ∷ past) after (made ++ kept_as n step) next) (sym (said_behind front s more))
      (more_by (map said_of front ++ said_of s ∷ more) (keeps (said_of s ∷ more)) (λ _. stands_behind front (said_of s) more))
  keeps_if false e = λ more.
      subst (λ (kept : List Statement). IsAfter (map said_of kept ++ more) (said_of s ∷ past) after (made ++ kept_as n step) next) (sym (append-nil front))
      (more_by (map said_of front ++ more) (keeps more) (λ named. absurd (let no : true ≡ false = sym named ∙ e in cc)))

  pub keeps_more : KeepsAfter (front ++ if_named (is_named (settings past) (said_of s)) s) (said_of s ∷ past) after (made ++ kept_as n step)
      (with_change step n after.running.period periods)
  keeps_more = keeps_if (is_named (settings past) (said_of s)) refl

-- ---- the loop

-- the statements before these groups of a text are read, and these are kept of them
pub record IsReading (whole groups : Groups) (kept : List Statement) (r : Reader) (made : List KeptStep) (periods : List PeriodChange) (count : ℕ) : Type 0 where
  pub past : List Said
  pub told : in_front (reverse past) (groups_say (count + 1) groups) ≡ groups_say 1 whole
  pub after : KeepsAfter kept past r made periods
  pub counted : length past ≡ count
  pub few : count ≤ 200000
  pub fewer : length kept ≤ count
  pub held : sum_by content (map said_of kept) ≤ sum_by content (reverse past)

pub begins_reading : (whole : Groups) (kept : List Statement) (r : Reader) (made : List KeptStep) (periods : List PeriodChange) → kept ≡ []
    → KeepsAfter [] [] r made periods → IsReading whole whole kept r made periods 0
begins_reading whole kept r made periods none keeps =
    subst (λ (xs : List Statement). IsReading whole whole xs r made periods 0) (sym none) (record {
      past = [];
      told = in_front-nil (groups_say 1 whole);
      after = keeps;
      counted = refl;
      few = omega arith;
      fewer = omega arith;
      held = omega arith;
    })

reversed : (s : Said) (past : List Said) → reverse (s ∷ past) ≡ reverse past ++ s ∷ []
reversed s past = reverse-append (s ∷ []) past

held_if : (named : Bool) (s : Statement) → sum_by content (map said_of (if named then s ∷ [] else [])) ≤ content (said_of s)
held_if true s = omega (arith, sum_by-cons content (said_of s) [])
held_if false s = omega arith

held_more : (named : Bool) (front : List Statement) (s : Statement) (past : List Said) → sum_by content (map said_of front) ≤ sum_by content (reverse past)
    → sum_by content (map said_of (front ++ if_named named s)) ≤ sum_by content (reverse (said_of s ∷ past))
held_more named front s past h =
    let kept = ap (sum_by content) (map-append said_of front (if_named named s)) in
    let split = sum_by-append content (map said_of front) (map said_of (if_named named s)) in
    let told = ap (sum_by content) (reversed (said_of s) past) in
    let whole = sum_by-append content (reverse past) (said_of s ∷ []) in
    let one = sum_by-cons content (said_of s) [] in
    omega (arith, h, kept, split, told, whole, one, held_if named s)

length_if : (named : Bool) (s : Statement) → length (if named then s ∷ [] else []) ≤ 1
length_if true s = omega arith
length_if false s = omega arith

fewer_more : (named : Bool) (front : List Statement) (s : Statement) (n : ℕ) → length front ≤ n → length (front ++ if_named named s) ≤ n + 1
fewer_more named front s n h = omega (arith, h, length-append front (if_named named s), length_if named s)

abbrev told_ok : List Said → Result (List Said) SvfFault
told_ok ss = Ok ss

ok_is : (ss ts : List Said) → told_ok ss ≡ told_ok ts → ss ≡ ts
ok_is ss ts h = cc

-- a refusal by the settings is the text's, unless what stands behind is refused by its form
refused_before : (past : List Said) (says total : Result (List Said) SvfFault) (fault : SvfFault) → in_front (reverse past) says ≡ total
    → first_refusal past ≡ Some fault → (total >>= resolution) ≡ Err (first_of says fault)
refused_before past (Err f) total fault told e = ap (λ (t : Result (List Said) SvfFault). t >>= resolution) (sym told)
refused_before past (Ok ss) total fault told e =
    ap (λ (t : Result (List Said) SvfFault). t >>= resolution) (sym told)
    ∙ ap (λ (o : Option SvfFault). unless o (program (reverse past ++ ss)))
    (ap first_refusal (reverse-append (reverse past) ss ∙ ap (λ (p : List Said). reverse ss ++ p) (reverse-reverse past)) ∙ stays (reverse ss) past fault e)

module _ (whole groups : Groups) (front : List Statement) (r : Reader) (made : List KeptStep) (periods : List PeriodChange) (count : ℕ)
    (reads : IsReading whole groups front r made periods count) where
  module _ (w : Word) (ws : List Word) (behind : Groups) (s : Statement) (is : from_words groups ≡ group (w ∷ ws) behind)
      (says : at_statement (count + 1) (within_limit (count + 1) (statement_says (w ∷ ws))) ≡ Ok (said_of s)) where
    told_behind : in_front (reverse (said_of s ∷ reads.past)) (groups_say (count + 1 + 1) behind) ≡ groups_say 1 whole
    told_behind =
        ap (λ (xs : List Said). in_front xs (groups_say (count + 1 + 1) behind)) (reversed (said_of s) reads.past)
        ∙ next_said groups w ws behind is (reverse reads.past) (count + 1) (said_of s) (groups_say 1 whole) reads.told says

    pub reads_more : (named : Bool) (after : Reader) (steps_made : List KeptStep) (periods_made : List PeriodChange) → count + 1 ≤ 200000
        → KeepsAfter (front ++ if_named named s) (said_of s ∷ reads.past) after steps_made periods_made
        → IsReading whole behind (front ++ if_named named s) after steps_made periods_made (count + 1)
    reads_more named after steps_made periods_made few keeps = record {
      past = said_of s ∷ reads.past;
      told = told_behind;
      after = keeps;
      counted = omega (arith, reads.counted);
      few = few;
      fewer = fewer_more named front s count reads.fewer;
      held = held_more named front s reads.past reads.held;
    }

    pub refused_there : (code : Code) → refusal reads.past (said_of s) ≡ Some code
        → (groups_say 1 whole >>= resolution) ≡ Err (first_of (groups_say (count + 1 + 1) behind) (record { statement = count + 1; code = code }))
    refused_there code e =
        refused_before (said_of s ∷ reads.past) (groups_say (count + 1 + 1) behind) (groups_say 1 whole) (record { statement = count + 1; code = code })
        told_behind (rw ((reads.after []).fine, e, reads.counted) refl)

  pub whole_read : from_words groups ≡ last [] None → groups_say 1 whole ≡ Ok (reverse reads.past)
  whole_read is = none_next groups (reverse reads.past) (count + 1) (groups_say 1 whole) reads.told is

  pub steps_read : map (numbered_in (map said_of front)) made ≡ steps reads.past
  steps_read = subst (λ (all : List Said). map (numbered_in all) made ≡ steps reads.past) (append-nil (map said_of front)) (reads.after []).steps_are

  pub sound_read : IsSound (map (numbered_in (map said_of front)) made)
  sound_read = subst (λ (xs : List Numbered). IsSound xs) (sym steps_read) (sound_steps reads.past (reads.after []).fine)

  pub few_read : length made ≤ 200000
  few_read = omega (arith, ap length steps_read, length-map made (numbered_in (map said_of front)), few_steps reads.past, reads.counted, reads.few)

  pub program_read : from_words groups ≡ last [] None
      → (groups_say 1 whole >>= resolution) ≡ Ok (record { statements = count; steps = map (numbered_in (map said_of front)) made })
  program_read is =
      ap (λ (says : Result (List Said) SvfFault). says >>= resolution) (whole_read is)
      ∙ ap (λ (o : Option SvfFault). unless o (program (reverse reads.past))) (ap first_refusal (reverse-reverse reads.past) ∙ (reads.after []).fine)
      ∙ ap (λ (xs : List Said). Ok (record { statements = length (reverse reads.past); steps = steps xs })) (reverse-reverse reads.past)
      ∙ ap (λ (n : ℕ). Ok (record { statements = n; steps = steps reads.past })) (length-reverse reads.past ∙ reads.counted)
      ∙ ap (λ (xs : List Numbered). Ok (record { statements = count; steps = xs })) (sym steps_read)

  pub held_read : from_words groups ≡ last [] None → (all : List Said) → groups_say 1 whole ≡ Ok all
      → sum_by content (map said_of front) ≤ sum_by content all
  held_read is all says =
      let same : reverse reads.past ≡ all = ok_is (reverse reads.past) all (sym (whole_read is) ∙ says) in
      subst (λ (xs : List Said). sum_by content (map said_of front) ≤ sum_by content xs) same reads.held

  pub periods_read : from_words groups ≡ last [] None → KeepsPeriodsOf (groups_say 1 whole) periods
  periods_read is = λ all says.
      let same : reverse reads.past ≡ all = ok_is (reverse reads.past) all (sym (whole_read is) ∙ says) in
      keeps_periods all periods ((reads.after []).periods_are ∙ ap changes (sym (reverse-reverse reads.past) ∙ ap (λ (xs : List Said). reverse xs) same))

-- ---- a refusal, and what stands behind it

first_kept : (front : List Said) (says : Result (List Said) SvfFault) (fault : SvfFault) → first_of (in_front front says) fault ≡ first_of says fault
first_kept front (Ok ss) fault = refl
first_kept front (Err f) fault = refl

pub first_behind : (n : ℕ) (groups : Groups) (w : Word) (ws : List Word) (behind : Groups) (s : Said) (fault : SvfFault) → from_words groups ≡ group (w ∷ ws) behind
    → at_statement n (within_limit n (statement_says (w ∷ ws))) ≡ Ok s → first_of (groups_say n groups) fault ≡ first_of (groups_say (n + 1) behind) fault
first_behind n groups w ws behind s fault is says =
    let told = next_said groups w ws behind is [] n s (groups_say n groups) (in_front-nil (groups_say n groups)) says in
    ap (λ (r : Result (List Said) SvfFault). first_of r fault) (sym told) ∙ first_kept (s ∷ []) (groups_say (n + 1) behind) fault

pub none_behind : (n : ℕ) (groups : Groups) (fault : SvfFault) → from_words groups ≡ last [] None → fault ≡ first_of (groups_say n groups) fault
none_behind n groups fault is =
    let says = none_next groups [] n (groups_say n groups) (in_front-nil (groups_say n groups)) is in
    sym (ap (λ (r : Result (List Said) SvfFault). first_of r fault) says)

-- ---- whole texts

pub then_resolved : (says : Result (List Said) SvfFault) (p : Program) → (says >>= resolution) ≡ Ok p → (all : List Said) × (says ≡ Ok all) × (resolution all ≡ Ok p)
then_resolved (Err f) p e = absurd (cc)
then_resolved (Ok all) p e = (all, refl, e)

text_small : (text : List ℕ) (p : Holding) → text_resolution text ≡ Ok (program_of p) → ((all : List Said) → text_says text ≡ Ok all → p.held ≤ sum_by content all)
    → length p.steps + p.held ≤ 4 * length text
text_small text p e held =
    let t = then_resolved (text_says text) (program_of p) e in
    let is = ap (λ (q : Program). length q.steps) ((resolves_is_function t.0 (program_of p)).1 t.2).1 in
    let small = small_text text t.0 (text_found text t.0 (no_long text t.0 t.1) t.1) in
    omega (arith, is, few_steps (reverse t.0), length-reverse t.0, sizes t.0, held t.0 t.1, small)

pub answer_small : (text : List ℕ) (says : Result (List Said) SvfFault) (r : Result Holding SvfFault) → text_says text ≡ says → Answers r (said_resolution says)
    → IfOk r (λ p. (all : List Said) → says ≡ Ok all → p.held ≤ sum_by content all) → IfOk r (λ p. length p.steps + p.held ≤ 4 * length text)
answer_small text says (Ok p) begins e held = text_small text p (ap said_resolution begins ∙ e) (λ all is. held all (sym begins ∙ is))
answer_small text says (Err f) begins e held = tt

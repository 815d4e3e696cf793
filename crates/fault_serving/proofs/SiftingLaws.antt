-- Bridges that the first captures of a play judge, and the other faults.
use Rattle.std.proofs.Common.{◌≡◌, ◌<◌, ◌≤◌, ◌+◌, ⊎_elim, inl, inr, ℕ, Bool, true, false, not, ◌&&◌, ◌||◌, List, [], ◌∷◌, ◌++◌, length, map, drop, get_or, slice_get, append_assoc, Option, Some, None, refl, sym, ap, ap₂, subst, ◌∙◌, arith}
use Rattle.std.specs.Prelude.{is_some}
use Rattle.std.specs.Global.{Vec}
use Rattle.std.specs.List.{AllByRecursion, list_all, list_any}
use Rattle.std.proofs.lemmas.Bool.{cases_lt, false≢true, not-true}
use Rattle.std.proofs.lemmas.List.{append-nil, drop_all, length-map}
use Rattle.std.proofs.lemmas.Option.{slice_get-get_or}
use Rattle.svf_programs.specs.Legal.{IsLegalProgram}
use Rattle.svf_programs.specs.Steps.{Program}
use Rattle.pin_nets.specs.Wired.{Net}
use Rattle.board_plan.specs.Planned.{Wiring}
use Rattle.play_model.specs.declared.ending.Ending.{Ending}
use Rattle.play_model.specs.declared.ending.Ending.TheVariants.{Fail, Pass}
use Rattle.board_faults.specs.declared.kinds.Fault.{Fault}
use Rattle.board_faults.specs.declared.kinds.Fault.TheVariants as fault
use Rattle.board_faults.specs.declared.kinds.Way.{Way}
use Rattle.board_faults.specs.declared.kinds.Way.TheVariants as way
use Rattle.board_faults.specs.declared.kinds.Winner.{Winner}
use Rattle.board_faults.specs.declared.kinds.Winner.TheVariants.{Zeros, Ones, First, Second}
use Rattle.board_faults.specs.declared.sight.Sights.{Sights}
use Rattle.board_faults.specs.Faults.{IsFaultOf, IsWayOf, winners}
use Rattle.board_faults.specs.Faulty.{CanBeJudged}
use Rattle.board_faults.specs.Sights.{AreSights, shows_by}
use Rattle.board_faults.proofs.JudgingLaws.{may_have}
use Rattle.board_faults.proofs.Kept.{kept_by, kept_shows, not_shown}
use Rattle.fault_events.specs.declared.differing.Pulls.{Pulls}
use Rattle.fault_events.specs.Captures.{Noted, captures}
use Rattle.fault_events.specs.Endings.{and_then, ending_noted}
use Rattle.fault_events.specs.Marks.{nothing_noted}
use Rattle.fault_events.specs.Blocks.{noted_in}
use Rattle.fault_events.specs.Nets.{ending_by_nets, note_at, with_nets_noted}
use Rattle.fault_events.specs.Notes.{earlier, some_if}
use Rattle.fault_events.specs.Pulls.{first_by, pulls_of}
use Rattle.fault_events.proofs.ByNets.{by_nets}
use Rattle.fault_events.proofs.Cuts.{captures_may_be_cut}
use Rattle.fault_serving.specs.declared.planing.Failing.{Failing}
use Rattle.fault_serving.specs.declared.planing.NoteWords.{NoteWords}
use Rattle.fault_serving.specs.declared.serving.Serving.{Serving}
use Rattle.fault_serving.specs.declared.serving.Serving.TheVariants.{Nothing, Whole, Blocks}
use Rattle.fault_serving.specs.declared.sifting.Counting.{Counting}
use Rattle.fault_serving.specs.declared.sifting.Counting.TheVariants as counting
use Rattle.fault_serving.specs.declared.sifting.Counts.{Counts}
use Rattle.fault_serving.specs.declared.sifting.Outcome.{Outcome}
use Rattle.fault_serving.specs.declared.sifting.Outcome.TheVariants.{Caught, Missed, Invisible}
use Rattle.fault_serving.specs.declared.sifting.Sieve.{Sieve}
use Rattle.fault_serving.specs.Planes.{AreBlocksOf, AreNetWords, AreQuiet, AreWordsOf, Fails, IsFailing, IsQuiet, IsToldAt, IsToldIn, IsToldOn, failing_at, tells, words_at}
use Rattle.fault_serving.specs.Serving.{IsToldOf, MayServe, Serves, first_blocks, is_whole}
use Rattle.fault_serving.specs.Sifting.{AreCounted, AreSifted, ComesBy, ComesTo, IsSieve, IsToldBy, IsToldToFail, Sifts, WayComesBy, WayComesTo, both_come, four_come, may_count, nets_of, no_counts, one_more, outcome_by}
use Rattle.fault_serving.proofs.OnePlay.{split_all, told_of}
use Rattle.fault_serving.proofs.Quiet.{fails_there, passed_over, words_fail, words_tell}

-- ---- what words tell

nothing-first : (x y : Bool) → is_some (earlier (some_if x None) (some_if y None)) ≡ false
nothing-first true true = refl
nothing-first true false = refl
nothing-first false true = refl
nothing-first false false = refl

module _ (nets : List Net) (first second : ℕ) (winner : Winner) (ns : List Noted) (one two : NoteWords) where
  abbrev bridge : Way
  bridge = way.Short first second winner

  abbrev noted : List Noted
  noted = map (with_nets_noted nets) ns

  module _ (of : AreWordsOf first noted one) (of' : AreWordsOf second noted two) (p : Pulls) (fails : IsFailing winner p one two) where
    -- nothing is noted behind the last capture
    among : fails.at < length noted
    among = ⊎_elim (λ before. before)
        (λ past.
        let some = sym (words_fail first second winner p fails.at nothing_noted nothing_noted one two (of.behind fails.at fails.early past) (of'.behind fails.at fails.early past)) ∙ fails.fails in
        let never : false ≡ true = sym (nothing-first _ _) ∙ some in
        absurd (cc))
        (cases_lt fails.at (length noted))

    pub by_words : p ≡ pulls_of nets bridge → Fails (ending_noted nets bridge ns)
    by_words same =
        let m = fails.at in
        let d : Noted = record { command = 0; notes = [] } in
        let n = get_or noted m d in
        let there : slice_get noted m ≡ Some n = slice_get-get_or noted m d among in
        let some : is_some (first_by bridge p (note_at first n.notes) (note_at second n.notes)) ≡ true =
        sym (words_fail first second winner p m (note_at first n.notes) (note_at second n.notes) one two (of.noted m n fails.early there) (of'.noted m n fails.early there)) ∙ fails.fails in
        subst Fails (by_nets nets bridge tt ns)
        (subst (λ (q : Pulls). Fails (ending_by_nets bridge q first second noted)) same
        (fails_there bridge p first second m n noted there some
        (λ k x below at.
        let early : k < 64 = omega (arith, below, fails.early) in
        sym (words_tell first second winner p k (note_at first x.notes) (note_at second x.notes) one two (of.noted k x early at) (of'.noted k x early at)) ∙ fails.before k below)))

  module _ (of : AreWordsOf first noted one) (of' : AreWordsOf second noted two) (p : Pulls) (quiet : IsQuiet winner p one two) where
    are-quiet : p ≡ pulls_of nets bridge → AreQuiet nets bridge noted 64
    are-quiet same k n below at =
        ap (λ (q : Pulls). tells bridge q (note_at first n.notes) (note_at second n.notes)) (sym same)
        ∙ sym (words_tell first second winner p k (note_at first n.notes) (note_at second n.notes) one two (of.noted k n below at) (of'.noted k n below at))
        ∙ quiet k below

    -- nothing is told at any capture, where they are few
    pub by_quiet : p ≡ pulls_of nets bridge → length ns ≤ 64 → ending_noted nets bridge ns ≡ Some Pass
    by_quiet same few =
        let none : drop 64 noted ≡ [] = drop_all 64 noted (omega (arith, few, length-map ns (with_nets_noted nets))) in
        sym (by_nets nets bridge tt ns) ∙ passed_over nets first second winner 64 noted (are-quiet same)
        ∙ ap (λ (l : List Noted). ending_by_nets bridge (pulls_of nets bridge) first second l) none

-- ---- block after block

-- of four that may win
pub each_winner : (P : Winner → Type 0) → P Zeros → P Ones → P First → P Second → (winner : Winner) → P winner
each_winner P zeros ones first second Zeros = zeros
each_winner P zeros ones first second Ones = ones
each_winner P zeros ones first second First = first
each_winner P zeros ones first second Second = second

failing : (o rest : Option Ending) → Fails o → Fails (and_then o rest)
failing o rest f = record { command = f.command; part = f.part; bit = f.bit; is = ap (λ (x : Option Ending). and_then x rest) f.is }

-- a way fails, or passes so far
abbrev pub IsEnding : Bool → Option Ending → Type 0
IsEnding true o = Fails o
IsEnding false o = o ≡ Some Pass

on-told : (before fails : Bool) (o more : Option Ending) → IsEnding before o → (before ≡ true → fails ≡ true) → (before ≡ false → IsEnding fails more)
    → IsEnding fails (and_then o more)
on-told true fails o more is stays new = subst (λ (b : Bool). IsEnding b (and_then o more)) (sym (stays refl)) (failing o more is)
on-told false fails o more is stays new = subst (λ (x : Option Ending). IsEnding fails (and_then x more)) (sym is) (new refl)

module _ (winner : Winner) (p : Pulls) (one two : NoteWords) where
  fails-on : (before fails : Bool) → IsToldOn before fails winner p one two → before ≡ true → fails ≡ true
  fails-on true fails told is = told
  fails-on false fails told is = absurd (false≢true is)

  block-tells : (nets : List Net) (first second : ℕ) (ns : List Noted) → AreWordsOf first (map (with_nets_noted nets) ns) one
      → AreWordsOf second (map (with_nets_noted nets) ns) two → length ns ≤ 64 → p ≡ pulls_of nets (way.Short first second winner)
      → (before fails : Bool) → IsToldOn before fails winner p one two → before ≡ false → IsEnding fails (ending_noted nets (way.Short first second winner) ns)
  block-tells nets first second ns of of' few same true fails told is = absurd (false≢true (sym is))
  block-tells nets first second ns of of' few same false true told is = by_words nets first second winner ns one two of of' p told same
  block-tells nets first second ns of of' few same false false told is = by_quiet nets first second winner ns one two of of' p told same few

-- what is told of a bridge before so many blocks are left
pub record IsSoFar (nets : List Net) (ns : List Noted) (first second : ℕ) (f : Failing) (blocks : List (Vec NoteWords)) : Type 0 where
  pub done : List Noted
  pub behind : List Noted
  pub are : ns ≡ done ++ behind
  pub words : AreBlocksOf nets behind (map (λ b. b.items) blocks)
  pub told : (winner : Winner) → IsEnding (failing_at f winner) (ending_noted nets (way.Short first second winner) done)

abbrev pub none_failing : Failing
none_failing = record { zeros = false; ones = false; first = false; second = false }

module _ (nets : List Net) (ns : List Noted) (first second : ℕ) where
  pub so_far : (blocks : List (Vec NoteWords)) → AreBlocksOf nets ns (map (λ b. b.items) blocks) → IsSoFar nets ns first second none_failing blocks
  so_far blocks are = record {
    done = [];
    behind = ns;
    are = refl;
    words = are;
    told = each_winner (λ (winner : Winner). IsEnding (failing_at none_failing winner) (ending_noted nets (way.Short first second winner) [])) refl refl refl refl;
  }

  pub so_far_more : (f g : Failing) (b : Vec NoteWords) (bs : List (Vec NoteWords)) (p : Pulls) → p ≡ pulls_of nets (way.Short first second Zeros)
      → IsToldAt f p b.items first second g → IsSoFar nets ns first second f (b ∷ bs) → IsSoFar nets ns first second g bs
  so_far_more f g b bs p same tells is =
      let block = is.words in
      record {
        done = is.done ++ block.0;
        behind = block.1;
        are = is.are ∙ ap (λ (l : List Noted). is.done ++ l) block.2 ∙ sym (append_assoc is.done block.0 block.1);
        words = block.5;
        told = λ winner.
            let its : Way = way.Short first second winner in
            let before = failing_at f winner in
            let fails = failing_at g winner in
            let one = words_at first b.items in
            let two = words_at second b.items in
            subst (IsEnding fails) (sym (captures_may_be_cut nets its is.done block.0))
            (on-told before fails (ending_noted nets its is.done) (ending_noted nets its block.0) (is.told winner)
            (fails-on winner p one two before fails (tells.told winner))
            (block-tells winner p one two nets first second block.0 (block.4 first tells.one) (block.4 second tells.other) block.3 same before fails (tells.told winner)));
      }

  and-both : (a b : Bool) → (a && b) ≡ true → (a ≡ true) × (b ≡ true)
  and-both true b e = (refl, e)
  and-both false b e = absurd (false≢true e)

  each-true : (f : Failing) → list_all (failing_at f) winners ≡ true → (winner : Winner) → failing_at f winner ≡ true
  each-true f all =
      let one = and-both f.zeros (f.ones && (f.first && (f.second && true))) all in
      let two = and-both f.ones (f.first && (f.second && true)) one.1 in
      let three = and-both f.first (f.second && true) two.1 in
      let four = and-both f.second true three.1 in
      each_winner (λ (winner : Winner). failing_at f winner ≡ true) one.0 two.0 three.0 four.0

  -- what fails by some captures does by all
  pub told_of_each : (whole : Bool) (f : Failing) (blocks : List (Vec NoteWords)) → IsSoFar nets ns first second f blocks
      → list_all (failing_at f) winners ≡ true → (winner : Winner) → IsToldIn whole nets ns (failing_at f winner) (way.Short first second winner)
  told_of_each whole f blocks is all winner =
      let its : Way = way.Short first second winner in
      let e = each-true f all winner in
      let o = ending_noted nets its is.done in
      let fails : Fails o = subst (λ (b : Bool). IsEnding b o) e (is.told winner) in
      subst (λ (b : Bool). IsToldIn whole nets ns b its) (sym e)
      (subst (λ (l : List Noted). Fails (ending_noted nets its l)) (sym is.are)
      (subst Fails (sym (captures_may_be_cut nets its is.done is.behind)) (failing o (ending_noted nets its is.behind) fails)))

  told-whole : (whole fails : Bool) (its_way : Way) → whole ≡ true → IsEnding fails (ending_noted nets its_way ns) → IsToldIn whole nets ns fails its_way
  told-whole whole true its_way holds is = is
  told-whole whole false its_way holds is = (holds, is)

  -- what is told where no block is left
  pub told_of_all : (whole : Bool) (f : Failing) (blocks : List (Vec NoteWords)) → IsSoFar nets ns first second f blocks → blocks ≡ [] → whole ≡ true
      → (winner : Winner) → IsToldIn whole nets ns (failing_at f winner) (way.Short first second winner)
  told_of_all whole f blocks is none holds winner =
      let its : Way = way.Short first second winner in
      let over : is.behind ≡ [] = subst (λ (bs : List (Vec NoteWords)). AreBlocksOf nets is.behind (map (λ b. b.items) bs)) none is.words in
      let all : ns ≡ is.done = is.are ∙ ap (λ (l : List Noted). is.done ++ l) over ∙ append-nil is.done in
      told-whole whole (failing_at f winner) its holds
      (subst (λ (l : List Noted). IsEnding (failing_at f winner) (ending_noted nets its l)) (sym all) (is.told winner))

-- ---- what a bridge comes to

both-by : (m c m' c' : Bool) → both_come (outcome_by m c) (outcome_by m' c') ≡ outcome_by (m || m') (c || c')
both-by true c m' c' = refl
both-by false true true c' = refl
both-by false true false true = refl
both-by false true false false = refl
both-by false false m' c' = refl

or-false : (b : Bool) → b ≡ (b || false)
or-false true = refl
or-false false = refl

four-by : (m c : Winner → Bool) → outcome_by (list_any m winners) (list_any c winners) ≡ four_come (λ winner. outcome_by (m winner) (c winner))
four-by m c =
    let last = ap (both_come (outcome_by (m First) (c First))) (ap₂ outcome_by (or-false (m Second)) (or-false (c Second))) in
    sym (ap (λ (o : Outcome). both_come (outcome_by (m Zeros) (c Zeros)) (both_come (outcome_by (m Ones) (c Ones)) o))
    (last ∙ both-by (m First) (c First) (m Second || false) (c Second || false))
    ∙ ap (both_come (outcome_by (m Zeros) (c Zeros)))
    (both-by (m Ones) (c Ones) (m First || (m Second || false)) (c First || (c Second || false)))
    ∙ both-by (m Zeros) (c Zeros) (m Ones || (m First || (m Second || false))) (c Ones || (c First || (c Second || false))))

-- of a way, by whether it fails and whether it shows
comes-by : (s : Sieve) (ns : List Noted) (its_way : Way) (fails shows : Bool) → shows_by s.sights.now (nets_of s) its_way ≡ shows
    → IsToldBy s ns fails its_way → WayComesBy s ns (outcome_by (not fails && shows) fails) its_way
comes-by s ns its_way true shows e told = told
comes-by s ns its_way false true e told = (told, e)
comes-by s ns its_way false false e told = (told, e)

pub bridge_comes : (s : Sieve) (ns : List Noted) (first second : ℕ) (f : Failing) (missed caught : Bool) (o : Outcome)
    → ((winner : Winner) → IsToldBy s ns (failing_at f winner) (way.Short first second winner))
    → missed ≡ list_any (λ winner. not (failing_at f winner) && shows_by s.sights.now (nets_of s) (way.Short first second winner)) winners
    → caught ≡ list_any (failing_at f) winners → o ≡ outcome_by missed caught → ComesBy s ns o (fault.Short first second)
bridge_comes s ns first second f missed caught o told is is' same =
    let shows : Winner → Bool = λ winner. shows_by s.sights.now (nets_of s) (way.Short first second winner) in (
      (λ winner. outcome_by (not (failing_at f winner) && shows winner) (failing_at f winner)),
      (λ winner. comes-by s ns (way.Short first second winner) (failing_at f winner) (shows winner) refl (told winner)),
      same ∙ ap₂ outcome_by is is' ∙ four-by (λ winner. not (failing_at f winner) && shows winner) (failing_at f),
    )

-- ---- so many are counted

pub none_are : (which : Counting) → AreCounted which no_counts
none_are counting.Nothing = refl
none_are counting.AllButMissed = refl
none_are counting.Everything = tt

pub more_are : (which : Counting) (o : Outcome) (c : Counts) → may_count which o ≡ true → AreCounted which c → AreCounted which (one_more o c)
more_are counting.Nothing o c may are = absurd (false≢true may)
more_are counting.AllButMissed Caught c may are = are
more_are counting.AllButMissed Missed c may are = absurd (false≢true may)
more_are counting.AllButMissed Invisible c may are = are
more_are counting.Everything o c may are = tt

turned : (a b : Outcome) (c : Counts) → one_more a (one_more b c) ≡ one_more b (one_more a c)
turned Caught Caught c = refl
turned Caught Missed c = refl
turned Caught Invisible c = refl
turned Missed Caught c = refl
turned Missed Missed c = refl
turned Missed Invisible c = refl
turned Invisible Caught c = refl
turned Invisible Missed c = refl
turned Invisible Invisible c = refl

module _ (Is : Outcome → Fault → Type 0) (f : Fault) where
  pub one_kept : (fs kept : List Fault) (n : Counts) → AreSifted Is fs kept n → AreSifted Is (fs ++ f ∷ []) (kept ++ f ∷ []) n
  one_kept [] kept n are = inl ([], ap (λ (l : List Fault). l ++ f ∷ []) are.0, (refl, are.1))
  one_kept (x ∷ fs) kept n (inl it) = inl (it.0 ++ f ∷ [], ap (λ (l : List Fault). l ++ f ∷ []) it.1, one_kept fs it.0 n it.2)
  one_kept (x ∷ fs) kept n (inr it) = inr (it.0, it.1, it.2, it.3, one_kept fs kept it.1 it.4)

  pub one_counted : (o : Outcome) (fs kept : List Fault) (n : Counts) → Is o f → AreSifted Is fs kept n
      → AreSifted Is (fs ++ f ∷ []) kept (one_more o n)
  one_counted o [] kept n is are = inr (o, no_counts, ap (one_more o) are.1, is, (are.0, refl))
  one_counted o (x ∷ fs) kept n is (inl it) = inl (it.0, it.1, one_counted o fs it.0 n is it.2)
  one_counted o (x ∷ fs) kept n is (inr it) =
      inr (it.0, one_more o it.1, ap (one_more o) it.2 ∙ turned o it.0 it.1, it.3, one_counted o fs kept it.1 is it.4)

sifted_as : (P : Fault → Type 0) (Is Is' : Outcome → Fault → Type 0) → ((o : Outcome) (f : Fault) → P f → Is o f → Is' o f) → (fs kept : List Fault) (n : Counts)
    → AllByRecursion P fs → AreSifted Is fs kept n → AreSifted Is' fs kept n
sifted_as P Is Is' so [] kept n all are = are
sifted_as P Is Is' so (f ∷ fs) kept n all (inl it) = inl (it.0, it.1, sifted_as P Is Is' so fs it.0 n all.1 it.2)
sifted_as P Is Is' so (f ∷ fs) kept n all (inr it) =
    inr (it.0, it.1, it.2, so it.0 f all.0 it.3, sifted_as P Is Is' so fs kept it.1 all.1 it.4)

kept_all : (P : Fault → Type 0) (Is : Outcome → Fault → Type 0) (fs kept : List Fault) (n : Counts) → AllByRecursion P fs → AreSifted Is fs kept n
    → AllByRecursion P kept
kept_all P Is [] kept n all are = subst (AllByRecursion P) (sym are.0) tt
kept_all P Is (f ∷ fs) kept n all (inl it) = subst (AllByRecursion P) (sym it.1) (all.0, kept_all P Is fs it.0 n all.1 it.2)
kept_all P Is (f ∷ fs) kept n all (inr it) = kept_all P Is fs kept it.1 all.1 it.4

some_more : (o : Outcome) (c : Counts) → one_more o c ≡ no_counts → ⊥
some_more Caught c e = absurd (omega (arith, ap (λ (x : Counts). x.caught) e))
some_more Missed c e = absurd (omega (arith, ap (λ (x : Counts). x.missed) e))
some_more Invisible c e = absurd (omega (arith, ap (λ (x : Counts). x.invisible) e))

-- none is counted: all are kept
pub all_kept : (Is : Outcome → Fault → Type 0) (fs kept : List Fault) (n : Counts) → AreSifted Is fs kept n → n ≡ no_counts → fs ≡ kept
all_kept Is [] kept n are none = sym are.0
all_kept Is (f ∷ fs) kept n (inl it) none = ap (λ (l : List Fault). f ∷ l) (all_kept Is fs it.0 n it.2 none) ∙ sym it.1
all_kept Is (f ∷ fs) kept n (inr it) none = absurd (some_more it.0 it.1 (sym it.2 ∙ none))

-- some that are kept are some
pub some_kept : (Is : Outcome → Fault → Type 0) (fs kept : List Fault) (n : Counts) → AreSifted Is fs kept n → (kept ≡ [] → ⊥) → fs ≡ [] → ⊥
some_kept Is [] kept n are some e = some are.0
some_kept Is (f ∷ fs) kept n are some e = absurd (cc)

-- ---- what the first captures tell is so

module _ (program : Program) (legal : IsLegalProgram program.steps) (w : Wiring) (can : CanBeJudged w) where
  -- some captures: what fails by them fails, and what passes does, where they are all
  record AreFirst (blocks : List (Vec NoteWords)) (whole : Bool) : Type 0 where
    pub ns : List Noted
    pub words : AreBlocksOf w.nets ns (map (λ b. b.items) blocks)
    pub fails : (its_way : Way) → IsWayOf w.nets its_way → Fails (ending_noted w.nets its_way ns) → IsToldToFail program w its_way
    pub passes : (its_way : Way) → IsWayOf w.nets its_way → whole ≡ true → ending_noted w.nets its_way ns ≡ Some Pass
        → IsToldOf program w its_way (Some Pass)

  told-to-fail : Serves program w → (first rest : List Noted) → captures program w ≡ first ++ rest → (its_way : Way) → IsWayOf w.nets its_way
      → Fails (ending_noted w.nets its_way first) → IsToldToFail program w its_way
  told-to-fail serves first rest are its_way its fails =
      let all = failing (ending_noted w.nets its_way first) (ending_noted w.nets its_way rest) fails in record {
        command = all.command;
        part = all.part;
        bit = all.bit;
        told = told_of program legal w can serves its_way its (Some (Fail all.command all.part all.bit))
            (ap (ending_noted w.nets its_way) are ∙ captures_may_be_cut w.nets its_way first rest ∙ all.is);
      }

  first-of : (s : Serving) → MayServe program w s → AreFirst (first_blocks s) (is_whole s)
  first-of Nothing may = record {
    ns = [];
    words = refl;
    fails = λ its_way its f. let never = f.is in absurd (cc);
    passes = λ its_way its is e. absurd (false≢true is);
  }
  first-of (Whole t) may =
      let noted = noted_in t.block in
      record {
        ns = noted;
        words = (noted, [], sym (append-nil noted), may.3, subst (λ (l : List Noted). AreNetWords l t.words.items) may.1.block.by_net may.1.words, refl);
        fails = told-to-fail may.0 noted [] (sym may.2 ∙ sym (append-nil noted));
        passes = λ its_way its is e. told_of program legal w can may.0 its_way its (Some Pass) (ap (ending_noted w.nets its_way) (sym may.2) ∙ e);
      }
  first-of (Blocks f) may =
      let p = may.2 in
      record {
        ns = p.first;
        words = p.words;
        fails = told-to-fail may.0 p.first p.rest p.are;
        passes = λ its_way its is e.
            told_of program legal w can may.0 its_way its (Some Pass)
            (ap (ending_noted w.nets its_way) (p.are ∙ ap (λ (l : List Noted). p.first ++ l) (p.over is) ∙ append-nil p.first) ∙ e);
      }

  module _ (sights : Sights) (seen_of : AreSights w.members w.nets sights) (s : Sieve) (nets : nets_of s ≡ w.nets) (seen_by : s.sights.now ≡ sights) where
    shown-by : (its_way : Way) (b : Bool) → shows_by s.sights.now (nets_of s) its_way ≡ b → shows_by sights w.nets its_way ≡ b
    shown-by its_way b e = sym (ap₂ (λ (x : Sights) (ns : List Net). shows_by x ns its_way) seen_by nets) ∙ e

    module _ (of : AreFirst s.blocks.now s.whole) where
      passes-by : (its_way : Way) → IsWayOf w.nets its_way → IsToldBy s of.ns false its_way → IsToldOf program w its_way (Some Pass)
      passes-by its_way its told = of.passes its_way its told.0 (ap (λ (ns : List Net). ending_noted ns its_way of.ns) (sym nets) ∙ told.1)

      way-comes : (o : Outcome) (its_way : Way) → IsWayOf w.nets its_way → WayComesBy s of.ns o its_way → WayComesTo program w o its_way
      way-comes Caught its_way its by =
          of.fails its_way its (subst (λ (ns : List Net). Fails (ending_noted ns its_way of.ns)) nets by)
      way-comes Missed its_way its by =
          let b = shows_by sights w.nets its_way in
          let decides = not_shown w its_way b (may_have w can) its (kept_by w.members w.nets sights seen_of its_way its ∙ kept_shows w.members w.nets its_way (may_have w can)) in
          (passes-by its_way its by.0, λ unseen. false≢true (sym (not-true b (decides.1 unseen)) ∙ shown-by its_way true by.1))
      way-comes Invisible its_way its by =
          let b = shows_by sights w.nets its_way in
          let decides = not_shown w its_way b (may_have w can) its (kept_by w.members w.nets sights seen_of its_way its ∙ kept_shows w.members w.nets its_way (may_have w can)) in
          (passes-by its_way its by.0, decides.0 (ap not (shown-by its_way false by.1)))

      comes : (o : Outcome) (f : Fault) → IsFaultOf w.nets f → ComesBy s of.ns o f → ComesTo program w o f
      comes o (fault.Short a b) its by = (by.0, (λ winner. way-comes (by.0 winner) (way.Short a b winner) its.0 (by.1 winner)), by.2)
      comes o (fault.Open a b) its by = absurd by
      comes o (fault.Pull a) its by = absurd by
      comes o (fault.Stuck a b) its by = absurd by

    -- what is sifted by words is sifted by what one play tells
    pub record AreTheirs (left kept : List Fault) (counts : Counts) (rest : List Fault) : Type 0 where
      pub sifts : Sifts (ComesTo program w) left kept counts rest
      pub theirs : AllByRecursion (IsFaultOf w.nets) kept
      pub others : AllByRecursion (IsFaultOf w.nets) rest

    pub sifted_told : (serving : Serving) → MayServe program w serving → s.blocks.now ≡ first_blocks serving → s.whole ≡ is_whole serving
        → (left kept : List Fault) (counts : Counts) (rest : List Fault) → ((ns : List Noted) → IsSieve ns s → Sifts (ComesBy s ns) left kept counts rest)
        → AllByRecursion (IsFaultOf w.nets) left → AreTheirs left kept counts rest
    sifted_told serving may blocks whole left kept counts rest sift all =
        let of : AreFirst s.blocks.now s.whole =
        subst (λ (bs : List (Vec NoteWords)). AreFirst bs s.whole) (sym blocks) (subst (λ (b : Bool). AreFirst (first_blocks serving) b) (sym whole) (first-of serving may)) in
        let by = sift of.ns (subst (λ (ns : List Net). AreBlocksOf ns of.ns (map (λ b. b.items) s.blocks.now)) (sym nets) of.words) in
        let parts = split_all (IsFaultOf w.nets) by.first rest (subst (AllByRecursion (IsFaultOf w.nets)) by.are all) in
        record {
          sifts = record {
            first = by.first;
            are = by.are;
            sifted = sifted_as (IsFaultOf w.nets) (ComesBy s of.ns) (ComesTo program w) (comes of) by.first kept counts parts.0 by.sifted;
            over = by.over;
          };
          theirs = kept_all (IsFaultOf w.nets) (ComesBy s of.ns) by.first kept counts parts.0 by.sifted;
          others = parts.1;
        }

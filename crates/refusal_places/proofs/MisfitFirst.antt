-- The first token that does not fit is the first with which no statement goes on.
use Rattle.std.proofs.Common.{◌≡◌, ℕ, Bool, true, false, cond, List, [], ◌∷◌, ◌++◌, map, refl, sym, ap, subst, ◌∙◌}
use Rattle.std.specs.Prelude.{codes, is_some, Option, Some, None, option_and_then, Result, Ok, Err}
use Rattle.std.specs.List.{AllByRecursion}
use Rattle.std.proofs.lemmas.List.{append-nil}
use Rattle.svf_lex.specs.declared.Kind.{Kind}
use Rattle.svf_lex.specs.declared.Kind.TheVariants as kind
use Rattle.svf_lex.specs.declared.LexFault.{LexFault}
use Rattle.svf_lex.specs.Cutting.{Lexeme}
use Rattle.svf_lex.specs.Lexed.{IsNoSemi}
use Rattle.svf_words.specs.declared.keywords.Command.{Command}
use Rattle.svf_words.specs.declared.keywords.Command.TheVariants as command
use Rattle.svf_words.specs.Words.{Word}
use Rattle.svf_words.specs.Keywords.{command_word, state_of, trst_of, clock_of}
use Rattle.svf_parse.specs.Forms.{end_dr_form, end_ir_form, frequency_form, run_test_form, states_form, trst_form, one_state, one_trst, hertz, some_states, form_of}
use Rattle.svf_parse.specs.RunTests.{run_test_of}
use Rattle.svf_parse.specs.Grammar.{Reads, FormsAreReadAsTheyAreWritten}
use Rattle.refusal_places.specs.declared.misfits.Awaited.{Awaited}
use Rattle.refusal_places.specs.declared.misfits.Awaited.TheVariants as awaited
use Rattle.refusal_places.specs.declared.misfits.InRun.{InRun}
use Rattle.refusal_places.specs.declared.misfits.InRun.TheVariants as run
use Rattle.refusal_places.specs.Misfits.{behind, behind_command, is_semi, may_end, misfit, or_here}
use Rattle.refusal_places.specs.MisfitLaws.{GoesOn, IsFirstMisfit, IsWhole, MisfitsComeFirst, words_of}
use Rattle.refusal_places.proofs.MisfitWalks.{accepts, taken, is_some-map, state_end, trst_end, frequency_end, path_end, scan_end}
use Rattle.refusal_places.proofs.RunWalks.{run_test_end}

-- ---- what is accepted has the form

awaits : (a b : Awaited) → Some a ≡ Some b → a ≡ b
awaits a b e = cc

form_by : (c : Command) (ws : List Word) (a : Awaited) → behind_command c ≡ Some a → accepts a ws ≡ is_some (form_of c ws)
form_by command.EndDr ws a e = subst (λ (x : Awaited). accepts x ws ≡ is_some (form_of command.EndDr ws)) (awaits awaited.LastState a e) (state_end ws ∙ is_some-map end_dr_form (one_state ws))
form_by command.EndIr ws a e = subst (λ (x : Awaited). accepts x ws ≡ is_some (form_of command.EndIr ws)) (awaits awaited.LastState a e) (state_end ws ∙ is_some-map end_ir_form (one_state ws))
form_by command.Frequency ws a e = subst (λ (x : Awaited). accepts x ws ≡ is_some (form_of command.Frequency ws)) (awaits awaited.Frequency a e) (frequency_end ws ∙ is_some-map frequency_form (hertz ws))
form_by (command.Scan which) ws a e = subst (λ (x : Awaited). accepts x ws ≡ is_some (form_of (command.Scan which) ws)) (awaits awaited.Length a e) (scan_end which ws)
form_by command.RunTest ws a e = subst (λ (x : Awaited). accepts x ws ≡ is_some (form_of command.RunTest ws)) (awaits (awaited.RunTest run.Start) a e) (run_test_end ws ∙ is_some-map run_test_form (run_test_of ws))
form_by command.State ws a e = subst (λ (x : Awaited). accepts x ws ≡ is_some (form_of command.State ws)) (awaits awaited.FirstState a e) (path_end ws ∙ is_some-map states_form (some_states ws))
form_by command.Trst ws a e = subst (λ (x : Awaited). accepts x ws ≡ is_some (form_of command.Trst ws)) (awaits awaited.TrstWord a e) (trst_end ws ∙ is_some-map trst_form (one_trst ws))
form_by command.Pio ws a e = absurd cc
form_by command.PioMap ws a e = absurd cc

-- a command with its word, and what is awaited behind it
record Begun (c : Command) (k : Word) (a : Awaited) : Type 0 where
  law : FormsAreReadAsTheyAreWritten
  reads : Reads k (command_word c)
  awaits : behind_command c ≡ Some a

there : {A : Type 0} (o : Option A) → is_some o ≡ true → (x : A) × (o ≡ Some x)
there None e = absurd cc
there (Some x) e = (x, refl)

whole_if : (c : Command) (k : Word) (a : Awaited) (ws : List Word) → Begun c k a → accepts a ws ≡ true → IsWhole k ws
whole_if c k a ws b e =
    let found = there (form_of c ws) (sym (form_by c ws a b.awaits) ∙ e) in
    (found.0, (b.law k ws c found.0 b.reads).1 found.1)

accepted_if : (c : Command) (k : Word) (a : Awaited) (ws : List Word) → Begun c k a → IsWhole k ws → accepts a ws ≡ true
accepted_if c k a ws b w = form_by c ws a b.awaits ∙ ap is_some ((b.law k ws c w.0 b.reads).0 w.1)

-- ---- walks

-- what is awaited behind words
abbrev pub walked : Awaited → List Word → Option Awaited
walked a [] = Some a
walked a (w ∷ ws) = option_and_then (λ b. walked b ws) (behind a w)

walk_on : (o : Option Awaited) (w : Word) → option_and_then (λ b. walked b (w ∷ [])) o ≡ option_and_then (λ b. behind b w) o
walk_on None w = refl
walk_on (Some b) w = last (behind b w)
  where
    last : (p : Option Awaited) → option_and_then (λ x. Some x) p ≡ p
    last None = refl
    last (Some x) = refl

-- what words are the rest of is left of them and more
accepts_more : (ws more : List Word) (a : Awaited) → accepts a (ws ++ more) ≡ taken (walked a ws) (λ b. accepts b more)
accepts_more [] more a = refl
accepts_more (w ∷ ws) more a = by (behind a w) (λ b. accepts_more ws more b)
  where
    by : (o : Option Awaited) → ((b : Awaited) → accepts b (ws ++ more) ≡ taken (walked b ws) (λ x. accepts x more))
        → taken o (λ b. accepts b (ws ++ more)) ≡ taken (option_and_then (λ b. walked b ws) o) (λ x. accepts x more)
    by None next = refl
    by (Some b) next = next b

-- words behind which a statement may end
abbrev pub run_tail : InRun → List Word
run_tail run.Start = codes "1" ∷ codes "TCK" ∷ []
run_tail run.Count = codes "1" ∷ codes "TCK" ∷ []
run_tail run.Unit = codes "TCK" ∷ []
run_tail run.Time = []
run_tail run.Seconds = codes "SEC" ∷ []
run_tail run.Maximum = []
run_tail run.Most = codes "1" ∷ codes "SEC" ∷ []
run_tail run.MostSeconds = codes "SEC" ∷ []
run_tail run.EndState = []

abbrev pub tail : Awaited → List Word
tail awaited.End = []
tail awaited.LastState = codes "IDLE" ∷ []
tail awaited.TrstWord = codes "Z" ∷ []
tail awaited.FirstState = codes "IDLE" ∷ []
tail awaited.FurtherState = []
tail awaited.Frequency = []
tail awaited.Hertz = codes "HZ" ∷ []
tail awaited.Length = codes "1" ∷ []
tail (awaited.Field g) = []
tail (awaited.Opening g) = codes "(" ∷ codes ")" ∷ []
tail (awaited.Digits g) = codes ")" ∷ []
tail (awaited.RunTest r) = run_tail r

run_tail_ends : (r : InRun) → accepts (awaited.RunTest r) (run_tail r) ≡ true
unfolding state_of clock_of
run_tail_ends run.Start = refl
run_tail_ends run.Count = refl
run_tail_ends run.Unit = refl
run_tail_ends run.Time = refl
run_tail_ends run.Seconds = refl
run_tail_ends run.Maximum = refl
run_tail_ends run.Most = refl
run_tail_ends run.MostSeconds = refl
run_tail_ends run.EndState = refl

tail_ends : (a : Awaited) → accepts a (tail a) ≡ true
unfolding state_of trst_of
tail_ends awaited.End = refl
tail_ends awaited.LastState = refl
tail_ends awaited.TrstWord = refl
tail_ends awaited.FirstState = refl
tail_ends awaited.FurtherState = refl
tail_ends awaited.Frequency = refl
tail_ends awaited.Hertz = refl
tail_ends awaited.Length = refl
tail_ends (awaited.Field g) = refl
tail_ends (awaited.Opening g) = refl
tail_ends (awaited.Digits g) = refl
tail_ends (awaited.RunTest r) = run_tail_ends r

-- words that are walked go on
goes_on : (c : Command) (k : Word) (a b : Awaited) (ws : List Word) → Begun c k a → walked a ws ≡ Some b → GoesOn k ws
goes_on c k a b ws begun walk =
    (tail b, whole_if c k a (ws ++ tail b) begun (accepts_more ws (tail b) a ∙ ap (λ (o : Option Awaited). taken o (λ x. accepts x (tail b))) walk ∙ tail_ends b))

-- words that are not do not
stops : (c : Command) (k : Word) (a : Awaited) (ws : List Word) → Begun c k a → walked a ws ≡ None → GoesOn k ws → ⊥
stops c k a ws begun walk on =
    let e : accepts a (ws ++ on.0) ≡ true = accepted_if c k a (ws ++ on.0) begun on.1 in
    let none : accepts a (ws ++ on.0) ≡ false = accepts_more ws on.0 a ∙ ap (λ (o : Option Awaited). taken o (λ x. accepts x on.0)) walk in
    cc

no_end : (c : Command) (k : Word) (a b : Awaited) (ws : List Word) → Begun c k a → walked a ws ≡ Some b → may_end b ≡ false → IsWhole k ws → ⊥
no_end c k a b ws begun walk ends whole =
    let e : accepts a ws ≡ true = accepted_if c k a ws begun whole in
    let none : accepts a ws ≡ false = ap (accepts a) (sym (append-nil ws)) ∙ accepts_more ws [] a ∙ ap (λ (o : Option Awaited). taken o (λ x. accepts x [])) walk ∙ ends in
    cc

walked_more : (ws : List Word) (w : Word) (a b : Awaited) → walked a ws ≡ Some b → walked a (ws ++ w ∷ []) ≡ behind b w
walked_more [] w a b e = by (behind a w) ∙ ap (λ (x : Awaited). behind x w) (awaits a b e)
  where
    by : (o : Option Awaited) → option_and_then (λ x. Some x) o ≡ o
    by None = refl
    by (Some x) = refl
walked_more (v ∷ ws) w a b e = by (behind a v) (λ x. walked_more ws w x b) e
  where
    by : (o : Option Awaited) → ((x : Awaited) → walked x ws ≡ Some b → walked x (ws ++ w ∷ []) ≡ behind b w) → option_and_then (λ x. walked x ws) o ≡ Some b
        → option_and_then (λ x. walked x (ws ++ w ∷ [])) o ≡ behind b w
    by None next e = absurd cc
    by (Some x) next e = next x e

-- ---- tokens

semi_is : (k : Kind) → is_semi k ≡ true → k ≡ kind.Semi
semi_is kind.Semi e = refl
semi_is kind.Run e = absurd cc
semi_is kind.Open e = absurd cc
semi_is kind.Close e = absurd cc

semi_no : (k : Kind) → is_semi k ≡ false → k ≡ kind.Semi → ⊥
semi_no kind.Semi e s = cc
semi_no kind.Run e s = cc
semi_no kind.Open e s = cc
semi_no kind.Close e s = cc

-- a list with one more at its end
words_more : (front : List Lexeme) (t : Lexeme) → words_of (front ++ t ∷ []) ≡ words_of front ++ t.text ∷ []
words_more [] t = refl
words_more (x ∷ front) t = ap (λ (ws : List Word). x.text ∷ ws) (words_more front t)

items_more : (front : List Lexeme) (t : Lexeme) (items : List (Result Lexeme LexFault)) → map (λ x. Ok x) (front ++ t ∷ []) ++ items ≡ map (λ x. Ok x) front ++ Ok t ∷ items
items_more [] t items = refl
items_more (x ∷ front) t items = ap (λ (rest : List (Result Lexeme LexFault)). Ok x ∷ rest) (items_more front t items)

no_semi_more : (front : List Lexeme) (t : Lexeme) → AllByRecursion IsNoSemi front → IsNoSemi t → AllByRecursion IsNoSemi (front ++ t ∷ [])
no_semi_more [] t all is = (is, tt)
no_semi_more (x ∷ front) t all is = (all.0, no_semi_more front t all.1 is)

starts : (x y : ℕ) → Some x ≡ Some y → y ≡ x
starts x y e = cc

-- where the misfit of the tokens behind these is told, it is the first
found : (c : Command) (k : Word) (a b : Awaited) (front : List Lexeme) (items : List (Result Lexeme LexFault)) (start : ℕ) → Begun c k a → AllByRecursion IsNoSemi front
    → walked a (words_of front) ≡ Some b → misfit b items ≡ Some start → IsFirstMisfit k (map (λ t. Ok t) front ++ items) start
found c k a b front [] start begun plain walk e = absurd cc
found c k a b front (Err fault ∷ items) start begun plain walk e = absurd cc
found c k a b front (Ok t ∷ items) start begun plain walk e = by_semi (is_semi t.kind) refl e (λ x. found c k a x (front ++ t ∷ []) items start begun)
  where
    all : List (Result Lexeme LexFault)
    all = map (λ x. Ok x) front ++ Ok t ∷ items

    at_semi : (ends : Bool) → may_end b ≡ ends → is_semi t.kind ≡ true → cond ends None (Some t.start) ≡ Some start → IsFirstMisfit k all start
    at_semi true is semi e = absurd cc
    at_semi false is semi e = record {
      front = front;
      token = t;
      more = items;
      split = refl;
      no_semi = plain;
      place = starts t.start start e;
      before = goes_on c k a b (words_of front) begun walk;
      at_end = λ s. no_end c k a b (words_of front) begun walk is;
      with_it = λ s. absurd (s (semi_is t.kind semi));
    }

    at_word : (o : Option Awaited) → behind b t.text ≡ o → is_semi t.kind ≡ false → or_here t.start o (λ x. misfit x items) ≡ Some start
        → ((x : Awaited) → AllByRecursion IsNoSemi (front ++ t ∷ []) → walked a (words_of (front ++ t ∷ [])) ≡ Some x → misfit x items ≡ Some start
        → IsFirstMisfit k (map (λ y. Ok y) (front ++ t ∷ []) ++ items) start) → IsFirstMisfit k all start
    at_word None is semi e next = record {
      front = front;
      token = t;
      more = items;
      split = refl;
      no_semi = plain;
      place = starts t.start start e;
      before = goes_on c k a b (words_of front) begun walk;
      at_end = λ s. absurd (semi_no t.kind semi s);
      with_it = λ s. stops c k a (words_of front ++ t.text ∷ []) begun (walked_more (words_of front) t.text a b walk ∙ is);
    }
    at_word (Some x) is semi e next =
        subst (λ (rest : List (Result Lexeme LexFault)). IsFirstMisfit k rest start) (items_more front t items)
        (next x (no_semi_more front t plain (semi_no t.kind semi)) (ap (walked a) (words_more front t) ∙ walked_more (words_of front) t.text a b walk ∙ is) e)

    by_semi : (s : Bool) → is_semi t.kind ≡ s → cond s (cond (may_end b) None (Some t.start)) (or_here t.start (behind b t.text) (λ x. misfit x items)) ≡ Some start
        → ((x : Awaited) → AllByRecursion IsNoSemi (front ++ t ∷ []) → walked a (words_of (front ++ t ∷ [])) ≡ Some x → misfit x items ≡ Some start
        → IsFirstMisfit k (map (λ y. Ok y) (front ++ t ∷ []) ++ items) start) → IsFirstMisfit k all start
    by_semi true semi e next = at_semi (may_end b) refl semi e
    by_semi false semi e next = at_word (behind b t.text) refl semi e next

pub misfits_come_first : FormsAreReadAsTheyAreWritten → MisfitsComeFirst
misfits_come_first law c k a items start reads awaits e =
    found c k a a [] items start (record { law = law; reads = reads; awaits = awaits }) tt refl e

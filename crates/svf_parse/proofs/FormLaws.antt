-- The words of a form are read as that form, and what is read stands in the words.
use Rattle.std.proofs.Common.{◌≡◌, ℕ, ◌<◌, Bool, true, false, cond, ◌&&◌, List, [], ◌∷◌, ◌++◌, length, map, Option, Some, None, refl, sym, ap, subst, ◌∙◌, append_assoc, inl, inr, arith}
use Rattle.std.specs.Prelude.{codes, option_map}
use Rattle.std.specs.List.{flat_map, AllByRecursion}
use Rattle.std.proofs.lemmas.List.Concat.{flat_map-cons}
use Rattle.std.proofs.lemmas.Option.{same_Some}
use Rattle.jt_tap.specs.declared.State.{State}
use Rattle.jt_tap.specs.Words as st
use Rattle.svf_words.specs.declared.keywords.TrstWord.{TrstWord}
use Rattle.svf_words.specs.declared.keywords.Which.{Which}
use Rattle.svf_words.specs.declared.keywords.Command.{Command}
use Rattle.svf_words.specs.declared.keywords.Command.TheVariants as command
use Rattle.svf_words.specs.declared.keywords.FieldName.{FieldName}
use Rattle.svf_words.specs.Words.{Word, reads, is_open, is_close, is_number}
use Rattle.svf_words.specs.Keywords.{command_word, scan_word, trst_word, command_of, field_of, state_of}
use Rattle.svf_parse.specs.Fields.{◌>>?◌, Fields, no_fields, put, Closed, over, closing, before_close, cut_at_close, joined_digits, runs, bracket, fields_say}
use Rattle.svf_parse.specs.RunTests.{run_test_of}
use Rattle.svf_parse.specs.Forms.{Form, end_dr_form, end_ir_form, frequency_form, scan_form, run_test_form, states_form, trst_form, port_form, form_of, one_state, one_trst, each_state, with_state, some_states, hertz, scan_of}
use Rattle.svf_parse.specs.Grammar.{Reads, IsNumber, IsRun, AreFields, AreStates, IsForm, FormsAreReadAsTheyAreWritten}
use Rattle.svf_parse.proofs.StateLists.{some_read}
use Rattle.svf_parse.proofs.FieldLaws.{with_digits, with_digits-nil, next_run, ended_runs, opened, all_fields, field_put}
use Rattle.svf_words.proofs.KeywordLaws.{command_read, field_read, field_found, state_read, state_found, trst_read, trst_found}
use Rattle.svf_parse.proofs.RunTestLaws.{run_test_found, run_test_read}

-- ---- lists of states

pub states_read : (ws : List Word) (ss : List State) → AreStates ws ss → each_state ws ≡ Some ss
unfolding each_state
states_read [] [] h = refl
states_read [] (s ∷ ss) h = absurd h
states_read (w ∷ ws) [] h = absurd h
states_read (w ∷ ws) (s ∷ ss) h = rw (state_read w s h.0, states_read ws ss h.1) refl

with_state_some : (o : Option State) (r : Option (List State)) (ss : List State) → with_state o r ≡ Some ss → (t : State) × (ts : List State) × (o ≡ Some t) × (r ≡ Some ts) × (ss ≡ t ∷ ts)
with_state_some None r ss e = absurd cc
with_state_some (Some t) None ss e = absurd cc
with_state_some (Some t) (Some ts) ss e = (t, ts, refl, refl, cc)

pub states_found : (ws : List Word) (ss : List State) → each_state ws ≡ Some ss → AreStates ws ss
unfolding each_state
states_found [] [] e = tt
states_found [] (s ∷ ss) e = absurd cc
states_found (w ∷ ws) [] e = let p = with_state_some (state_of w) (each_state ws) [] e in absurd (let k : [] ≡ p.0 ∷ p.1 = p.4 in cc)
states_found (w ∷ ws) (s ∷ ss) e =
    let p = with_state_some (state_of w) (each_state ws) (s ∷ ss) e in
    let here : state_of w ≡ Some s = cc (p.2, p.4) in
    let more : each_state ws ≡ Some ss = cc (p.3, p.4) in
    (state_found w s here, states_found ws ss more)

-- ---- fields

-- the digits of runs, before `)`
runs_read : (rs rest : List Word) (closer : Word) → AllByRecursion IsRun rs → is_close closer ≡ true → runs (cut_at_close (rs ++ closer ∷ rest)) ≡ Some (flat_map (λ w. w) rs, cut_at_close rest)
runs_read [] rest closer each shut = sym (ended_runs [] closer rest (closer ∷ rest) _ refl shut refl ∙ with_digits-nil (runs (cut_at_close (closer ∷ rest))))
runs_read (r ∷ rs) rest closer each shut =
    let more : runs (cut_at_close (rs ++ closer ∷ rest)) ≡ Some (flat_map (λ w. w) rs, cut_at_close rest) = runs_read rs rest closer each.1 shut in
    let step : with_digits r (runs (cut_at_close (rs ++ closer ∷ rest))) ≡ runs (cut_at_close (r ∷ (rs ++ closer ∷ rest))) =
    next_run [] r (rs ++ closer ∷ rest) (r ∷ (rs ++ closer ∷ rest)) (runs (cut_at_close (r ∷ (rs ++ closer ∷ rest)))) refl each.0.1 each.0.0 (with_digits-nil (runs (cut_at_close (r ∷ (rs ++ closer ∷ rest))))) in
    sym step ∙ ap (with_digits r) more ∙ ap (λ (x : List ℕ). Some (x, cut_at_close rest)) (sym (flat_map-cons (λ w. w) r rs))

pub fields_read : (ws : List Word) (given : List (FieldName × List ℕ)) (old new : Fields) → AreFields ws given old new → fields_say old (cut_at_close ws) ≡ Some new
fields_read ws [] old new h = sym (all_fields old ws (fields_say old (cut_at_close ws)) h.0 refl) ∙ ap (λ (fs : Fields). Some fs) h.1
fields_read ws (f ∷ fs) old new h =
    let front = h.0 in
    let rest = h.1 in
    let next = h.2 in
    let field = h.4 in
    let name = field.0 in
    let opener = field.1 in
    let closer = field.2 in
    let rs = field.3 in
    let whole : ws ≡ name ∷ (opener ∷ (rs ++ closer ∷ rest)) = h.3 ∙ ap (λ (x : List Word). x ++ rest) field.4 ∙ ap (λ (x : List Word). name ∷ opener ∷ x) (append_assoc rs (closer ∷ []) rest) in
    let inner : Some (f.1, cut_at_close rest) ≡ bracket (cut_at_close (opener ∷ (rs ++ closer ∷ rest))) =
    ap (λ (x : List ℕ). Some (x, cut_at_close rest)) field.9 ∙ sym (runs_read rs rest closer field.8 field.7) ∙ opened opener (rs ++ closer ∷ rest) (opener ∷ (rs ++ closer ∷ rest)) refl field.6 in
    let step : fields_say next (cut_at_close rest) ≡ fields_say old (cut_at_close ws) = field_put old next name (opener ∷ (rs ++ closer ∷ rest)) ws f.0 f.1 (cut_at_close rest) (fields_say old (cut_at_close ws)) whole (sym (field_read name f.0 field.5)) inner h.5 refl in
    sym step ∙ fields_read rest fs next new h.6

some_is : {A : Type 0} (x y : A) → Some x ≡ Some y → x ≡ y
some_is x y e = cc

-- the value of a step that gave one
and_then : {A B : Type 0} (o : Option A) (f : A → Option B) (y : B) → (o >>? f) ≡ Some y → (x : A) × (o ≡ Some x) × (f x ≡ Some y)
and_then None f y e = absurd cc
and_then (Some x) f y e = (x, refl, e)

if_some : {A : Type 0} (b : Bool) (o : Option A) (y : A) → cond b o None ≡ Some y → (b ≡ true) × (o ≡ Some y)
if_some true o y e = (refl, e)
if_some false o y e = absurd cc

unless_some : {A : Type 0} (b : Bool) (o : Option A) (y : A) → cond b None o ≡ Some y → (b ≡ false) × (o ≡ Some y)
unless_some true o y e = absurd cc
unless_some false o y e = (refl, e)

-- ---- the words around a `)`

abbrev NoClose : Word → Type 0
NoClose w = is_close w ≡ false

pub record Around (ws front : List Word) (rest : Closed) : Type 0 where
  pub closer : Word
  pub tail : List Word
  pub split : ws ≡ front ++ closer ∷ tail
  pub shut : is_close closer ≡ true
  pub after : cut_at_close tail ≡ rest
  pub each : AllByRecursion NoClose front

pushed : (w : Word) (ws : List Word) (c : Closed) (front : List Word) (rest : Closed) → is_close w ≡ false → before_close w c ≡ closing front rest
    → ((f : List Word) → (r : Closed) → c ≡ closing f r → Around ws f r) → Around (w ∷ ws) front rest
pushed w ws (over xs) front rest other e found = absurd cc
pushed w ws (closing f r) front rest other e found =
    let a = found f r refl in
    let front-is : w ∷ f ≡ front = cc in
    let rest-is : r ≡ rest = cc in
    subst (λ (x : List Word). Around (w ∷ ws) x rest) front-is (subst (Around (w ∷ ws) (w ∷ f)) rest-is (record { closer = a.closer; tail = a.tail; split = ap (λ (x : List Word). w ∷ x) a.split; shut = a.shut; after = a.after; each = (other, a.each) }))

around_step : (w : Word) (ws front : List Word) (rest : Closed) (b : Bool) → is_close w ≡ b → cond b (closing [] (cut_at_close ws)) (before_close w (cut_at_close ws)) ≡ closing front rest
    → ((f : List Word) → (r : Closed) → cut_at_close ws ≡ closing f r → Around ws f r) → Around (w ∷ ws) front rest
around_step w ws front rest true is e found =
    let front-is : [] ≡ front = cc in
    let rest-is : cut_at_close ws ≡ rest = cc in
    subst (λ (x : List Word). Around (w ∷ ws) x rest) front-is (record { closer = w; tail = ws; split = refl; shut = is; after = rest-is; each = tt })
around_step w ws front rest false is e found = pushed w ws (cut_at_close ws) front rest is e found

pub around : (ws front : List Word) (rest : Closed) → cut_at_close ws ≡ closing front rest → Around ws front rest
unfolding cut_at_close
around [] front rest e = absurd cc
around (w ∷ ws) front rest e = around_step w ws front rest (is_close w) refl e (around ws)

not_over : (w : Word) (b : Bool) (c : Closed) → cond b (closing [] c) (before_close w c) ≡ over [] → ⊥
not_over w true c e = cc
not_over w false (over ws) e = cc
not_over w false (closing ws rest) e = cc

no_words : (ws : List Word) → cut_at_close ws ≡ over [] → ws ≡ []
unfolding cut_at_close
no_words [] e = refl
no_words (w ∷ ws) e = absurd (not_over w (is_close w) (cut_at_close ws) e)

-- runs that were joined are none of them `(`
runs_found : (rs : List Word) (h : List ℕ) → joined_digits rs ≡ Some h → AllByRecursion NoClose rs → AllByRecursion IsRun rs × (h ≡ flat_map (λ w. w) rs)
runs_found [] h e each = (tt, sym (some_is [] h e))
runs_found (r ∷ rs) h e each =
    let u = unless_some (is_open r) (joined_digits rs >>? λ g. Some (r ++ g)) h e in
    let j = and_then (joined_digits rs) (λ g. Some (r ++ g)) h u.1 in
    let more = runs_found rs j.0 j.1 each.1 in
    (((u.0, each.0), more.0), sym (some_is (r ++ j.0) h j.2) ∙ ap (λ (x : List ℕ). r ++ x) more.1 ∙ sym (flat_map-cons (λ w. w) r rs))

pub fields_found : (ws : List Word) (c : Closed) (old new : Fields) → cut_at_close ws ≡ c → fields_say old c ≡ Some new → (given : List (FieldName × List ℕ)) × AreFields ws given old new
unfolding fields_say
fields_found ws (over []) old new cut e = ([], (no_words ws cut, some_is old new e))
fields_found ws (over (w ∷ xs)) old new cut e = absurd cc
fields_found ws (closing [] rest) old new cut e = absurd cc
fields_found ws (closing (w ∷ []) rest) old new cut e = absurd cc
fields_found ws (closing (w ∷ x ∷ xs) rest) old new cut e =
    let a = around ws (w ∷ x ∷ xs) rest cut in
    let n = and_then (field_of w) (λ f. (cond (is_open x) (joined_digits xs) None) >>? λ h. put f h old >>? λ gs. fields_say gs rest) new e in
    let j = and_then (cond (is_open x) (joined_digits xs) None) (λ h. put n.0 h old >>? λ gs. fields_say gs rest) new n.2 in
    let o = if_some (is_open x) (joined_digits xs) j.0 j.1 in
    let p = and_then (put n.0 j.0 old) (λ gs. fields_say gs rest) new j.2 in
    let r = runs_found xs j.0 o.1 a.each.1.1 in
    let more = fields_found a.tail rest p.0 new a.after p.2 in
    let split : ws ≡ (w ∷ x ∷ xs ++ a.closer ∷ []) ++ a.tail = a.split ∙ ap (λ (y : List Word). w ∷ x ∷ y) (sym (append_assoc xs (a.closer ∷ []) a.tail)) in
    ((n.0, j.0) ∷ more.0, (w ∷ x ∷ xs ++ a.closer ∷ [], a.tail, p.0, split, (w, x, a.closer, xs, refl, field_found w n.0 n.1, o.0, a.shut, r.0, r.1), p.1, more.1))

-- ---- what is read stands there

option_some : {A B : Type 0} (f : A → B) (o : Option A) (y : B) → option_map f o ≡ Some y → (x : A) × (o ≡ Some x) × (f x ≡ y)
option_some f None y e = absurd cc
option_some f (Some x) y e = (x, refl, some_is (f x) y e)

one_state_found : (xs : List Word) (s : State) → one_state xs ≡ Some s → (w : Word) × (xs ≡ w ∷ []) × Reads w (st.word s)
unfolding one_state
one_state_found [] s e = absurd cc
one_state_found (w ∷ []) s e = (w, refl, state_found w s e)
one_state_found (w ∷ x ∷ ws) s e = absurd cc

one_trst_found : (xs : List Word) (t : TrstWord) → one_trst xs ≡ Some t → (w : Word) × (xs ≡ w ∷ []) × Reads w (trst_word t)
unfolding one_trst
one_trst_found [] t e = absurd cc
one_trst_found (w ∷ []) t e = (w, refl, trst_found w t e)
one_trst_found (w ∷ x ∷ ws) t e = absurd cc

filled : (xs : List Word) (ss : List State) → some_states xs ≡ Some ss → (0 < length ss) × AreStates xs ss
unfolding some_states
filled [] ss e = absurd cc
filled (x ∷ xs) [] e = absurd (states_found (x ∷ xs) [] e)
filled (x ∷ xs) (s ∷ ss) e = (omega arith, states_found (x ∷ xs) (s ∷ ss) e)

and_both : (a b : Bool) → (a && b) ≡ true → (a ≡ true) × (b ≡ true)
and_both true b e = (refl, e)
and_both false b e = absurd cc

hertz_found : (k : Word) (xs : List Word) (n : Option Word) → Reads k (codes "FREQUENCY") → hertz xs ≡ Some n → IsForm (k ∷ xs) (frequency_form n)
unfolding hertz
hertz_found k [] None word e = (k, refl, word)
hertz_found k [] (Some n) word e = absurd (let f : None ≡ Some n = some_is None (Some n) e in cc)
hertz_found k (w ∷ []) n word e = absurd cc
hertz_found k (w ∷ u ∷ []) n word e =
    let t = if_some (is_number w && reads u (codes "HZ")) (Some (Some w)) n e in
    let b = and_both (is_number w) (reads u (codes "HZ")) t.0 in
    subst (λ (m : Option Word). IsForm (k ∷ w ∷ u ∷ []) (frequency_form m)) (some_is (Some w) n t.1) (k, u, refl, word, b.0, b.1)
hertz_found k (w ∷ u ∷ x ∷ ws) n word e = absurd cc

scan_found : (k : Word) (which : Which) (xs : List Word) (f : Form) → Reads k (scan_word which) → scan_of which xs ≡ Some f → IsForm (k ∷ xs) f
unfolding scan_of
scan_found k which [] f word e = absurd cc
scan_found k which (n ∷ xs) f word e =
    let t = if_some (is_number n) (option_map (scan_form which n) (fields_say no_fields (cut_at_close xs))) f e in
    let o = option_some (scan_form which n) (fields_say no_fields (cut_at_close xs)) f t.1 in
    let g = fields_found xs (cut_at_close xs) no_fields o.0 refl o.1 in
    subst (IsForm (k ∷ n ∷ xs)) o.2 (k, xs, g.0, refl, word, t.0, g.1)

pub form_found : (k : Word) (xs : List Word) (c : Command) (f : Form) → Reads k (command_word c) → form_of c xs ≡ Some f → IsForm (k ∷ xs) f
form_found k xs command.EndDr f word e =
    let o = option_some end_dr_form (one_state xs) f e in
    let s = one_state_found xs o.0 o.1 in
    subst (IsForm (k ∷ xs)) o.2 (k, s.0, ap (λ (x : List Word). k ∷ x) s.1, word, s.2)
form_found k xs command.EndIr f word e =
    let o = option_some end_ir_form (one_state xs) f e in
    let s = one_state_found xs o.0 o.1 in
    subst (IsForm (k ∷ xs)) o.2 (k, s.0, ap (λ (x : List Word). k ∷ x) s.1, word, s.2)
form_found k xs command.Frequency f word e =
    let o = option_some frequency_form (hertz xs) f e in
    subst (IsForm (k ∷ xs)) o.2 (hertz_found k xs o.0 word o.1)
form_found k xs (command.Scan which) f word e = scan_found k which xs f word e
form_found k xs command.RunTest f word e =
    let o = option_some run_test_form (run_test_of xs) f e in
    subst (IsForm (k ∷ xs)) o.2 (k, xs, refl, word, run_test_found xs o.0 o.1)
form_found k xs command.State f word e =
    let o = option_some states_form (some_states xs) f e in
    let s = filled xs o.0 o.1 in
    subst (IsForm (k ∷ xs)) o.2 (k, xs, refl, word, s.0, s.1)
form_found k xs command.Trst f word e =
    let o = option_some trst_form (one_trst xs) f e in
    let s = one_trst_found xs o.0 o.1 in
    subst (IsForm (k ∷ xs)) o.2 (k, s.0, ap (λ (x : List Word). k ∷ x) s.1, word, s.2)
form_found k xs command.Pio f word e = subst (IsForm (k ∷ xs)) (some_is port_form f e) (k, xs, refl, inl word)
form_found k xs command.PioMap f word e = subst (IsForm (k ∷ xs)) (some_is port_form f e) (k, xs, refl, inr word)

-- ---- what stands there is read

-- these words are a command and the words of this form behind it
pub record IsRead (ws : List Word) (f : Form) : Type 0 where
  pub word : Word
  pub rest : List Word
  pub command : Command
  pub split : ws ≡ word ∷ rest
  pub known : command_of word ≡ Some command
  pub form : form_of command rest ≡ Some f

read_as : (ws : List Word) (f : Form) (w : Word) (rest : List Word) (c : Command) → ws ≡ w ∷ rest → Reads w (command_word c) → form_of c rest ≡ Some f → IsRead ws f
read_as ws f w rest c split word form = record { word = w; rest = rest; command = c; split = split; known = command_read w c word; form = form }

scan_read : (which : Which) (n : Word) (xs : List Word) (fs : Fields) → IsNumber n → fields_say no_fields (cut_at_close xs) ≡ Some fs → scan_of which (n ∷ xs) ≡ Some (scan_form which n fs)
unfolding scan_of
scan_read which n xs fs number says = rw (number, says) refl

hertz_read : (n u : Word) → IsNumber n → Reads u (codes "HZ") → hertz (n ∷ u ∷ []) ≡ Some (Some n)
unfolding hertz
hertz_read n u number unit = rw (number, unit) refl

no_hertz : hertz [] ≡ Some None
unfolding hertz
no_hertz = refl

one_state_read : (w : Word) (s : State) → Reads w (st.word s) → one_state (w ∷ []) ≡ Some s
unfolding one_state
one_state_read w s h = state_read w s h

one_trst_read : (w : Word) (t : TrstWord) → Reads w (trst_word t) → one_trst (w ∷ []) ≡ Some t
unfolding one_trst
one_trst_read w t h = trst_read w t h

pub form_read : (ws : List Word) (f : Form) → IsForm ws f → IsRead ws f
form_read ws (end_dr_form s) h = read_as ws (end_dr_form s) h.0 (h.1 ∷ []) command.EndDr h.2 h.3 (ap (option_map end_dr_form) (one_state_read h.1 s h.4))
form_read ws (end_ir_form s) h = read_as ws (end_ir_form s) h.0 (h.1 ∷ []) command.EndIr h.2 h.3 (ap (option_map end_ir_form) (one_state_read h.1 s h.4))
form_read ws (frequency_form None) h = read_as ws (frequency_form None) h.0 [] command.Frequency h.1 h.2 (ap (option_map frequency_form) no_hertz)
form_read ws (frequency_form (Some n)) h = read_as ws (frequency_form (Some n)) h.0 (n ∷ h.1 ∷ []) command.Frequency h.2 h.3 (ap (option_map frequency_form) (hertz_read n h.1 h.4 h.5))
form_read ws (scan_form which n fs) h = read_as ws (scan_form which n fs) h.0 (n ∷ h.1) (command.Scan which) h.3 h.4 (scan_read which n h.1 fs h.5 (fields_read h.1 h.2 no_fields fs h.6))
form_read ws (run_test_form r) h = read_as ws (run_test_form r) h.0 h.1 command.RunTest h.2 h.3 (ap (option_map run_test_form) (run_test_read h.1 r h.4))
form_read ws (states_form ss) h = read_as ws (states_form ss) h.0 h.1 command.State h.2 h.3 (ap (option_map states_form) (some_read ss h.1 h.4 (states_read h.1 ss h.5)))
form_read ws (trst_form t) h = read_as ws (trst_form t) h.0 (h.1 ∷ []) command.Trst h.2 h.3 (ap (option_map trst_form) (one_trst_read h.1 t h.4))
form_read ws port_form h = elim h.3 [ inl pio ↦ read_as ws port_form h.0 h.1 command.Pio h.2 pio refl | inr map ↦ read_as ws port_form h.0 h.1 command.PioMap h.2 map refl ]

-- ---- both ways

same_head : {A : Type 0} (x y : A) (xs ys : List A) → x ∷ xs ≡ y ∷ ys → x ≡ y
same_head x y xs ys e = cc

same_tail : {A : Type 0} (x y : A) (xs ys : List A) → x ∷ xs ≡ y ∷ ys → xs ≡ ys
same_tail x y xs ys e = cc

pub forms_are_read : FormsAreReadAsTheyAreWritten
forms_are_read k xs c f word = (
  λ written.
      let is = form_read (k ∷ xs) f written in
      let one : Some c ≡ Some is.command = sym (command_read k c word) ∙ ap command_of (same_head k is.word xs is.rest is.split) ∙ is.known in
      (λ i. form_of (same_Some c is.command one i) (same_tail k is.word xs is.rest is.split i)) ∙ is.form,
  λ read. form_found k xs c f word read,
)

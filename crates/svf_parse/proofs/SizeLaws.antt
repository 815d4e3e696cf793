-- How many statements, bits and states a text can spell.
use Rattle.std.proofs.Common.{◌≡◌, ℕ, ◌+◌, ◌*◌, ◌≤◌, ◌<◌, min, List, [], ◌∷◌, ◌++◌, length, map, codes, IfOk, Option, Some, None, Result, Ok, Err, refl, sym, ap, ◌∙◌, arith}
use Rattle.std.specs.List.{sum_by}
use Rattle.std.proofs.lemmas.List.{length-append, length-take}
use Rattle.std.proofs.lemmas.List.Concat.{length-flat_map}
use Rattle.std.proofs.lemmas.List.Sums.{sum_by-cons, sum_by-append}
use Rattle.jt_tap.specs.declared.State.{State}
use Rattle.jt_tap.specs.declared.State.TheVariants as state
use Rattle.jt_tap.specs.Words as words
use Rattle.jt_bits.specs.Hex.{bits_of, binary}
use Rattle.svf_lex.specs.declared.Kind.{Kind}
use Rattle.svf_lex.specs.declared.Kind.TheVariants as kind
use Rattle.svf_lex.specs.declared.LexFault.{LexFault}
use Rattle.svf_lex.specs.Cutting.{Lexeme, items_of}
use Rattle.svf_lex.specs.Lexed.{InOrder}
use Rattle.svf_lex.proofs.Order.{slices_in_order}
use Rattle.svf_lex.proofs.Endings.{lexer_gives}
use Rattle.std.specs.Global.{Vec}
use Rattle.svf_words.specs.declared.fault.Code.{Code}
use Rattle.svf_words.specs.declared.fault.SvfFault.{SvfFault}
use Rattle.svf_parse.specs.declared.statement.Statement.{Statement}
use Rattle.svf_parse.specs.View.{said_of}
use Rattle.svf_words.specs.declared.keywords.FieldName.{FieldName}
use Rattle.svf_words.specs.declared.keywords.FieldName.TheVariants.{Tdi, Tdo, Mask, Smask}
use Rattle.svf_words.specs.declared.keywords.Which.{Which}
use Rattle.svf_words.specs.declared.keywords.Which.TheVariants as which
use Rattle.svf_words.specs.Words.{Word, Groups, last, group, with_word, with_token, groups_of}
use Rattle.svf_parse.specs.Fields.{Fields, no_fields, if_none, put}
use Rattle.svf_words.specs.Keywords.{scan_word}
use Rattle.svf_parse.specs.Forms.{Form, end_dr_form, end_ir_form, frequency_form, scan_form, run_test_form, states_form, trst_form, port_form}
use Rattle.svf_parse.specs.Judging.{◌>>=◌, run_test_says_within, Said, end_dr, end_ir, frequency, states, trst, cycles_say, both, form_says, scan_says, scan_with, run_test_with, bits_written, bits, given}
use Rattle.svf_words.specs.Numbers.{period_says, time_says}
use Rattle.svf_parse.specs.Grammar.{Reads, AreStates, IsField, AreFields, IsForm}
use Rattle.svf_parse.specs.Spelling.{EachSpells, closed_by, TextSpells}
use Rattle.svf_parse.specs.Sizes.{bits_in, size}
use Rattle.svf_parse.proofs.FieldValues.{binary-cons}

-- ---- the bytes of words

abbrev total : List Word → ℕ
total ws = sum_by (λ w. length w) ws

total-cons : (w : Word) (ws : List Word) → total (w ∷ ws) ≡ length w + total ws
total-cons w ws = sum_by-cons (λ w. length w) w ws

total-append : (xs ys : List Word) → total (xs ++ ys) ≡ total xs + total ys
total-append xs ys = sum_by-append (λ w. length w) xs ys

abbrev item_total : List (Result Lexeme LexFault) → ℕ
item_total [] = 0
item_total (Ok t ∷ more) = length t.text + item_total more
item_total (Err e ∷ more) = 0

-- slices of a text in order are no longer than it
slices_fit : (text : List ℕ) (from : ℕ) (given : List (Result Lexeme LexFault)) → InOrder text from given → from ≤ length text → from + item_total given ≤ length text
slices_fit text from [] h le = omega arith
slices_fit text from (Ok t ∷ more) h le =
    let rest = slices_fit text (t.start + length t.text) more h.3 h.2.within in
    let behind = h.0 in
    omega (arith, rest, behind)
slices_fit text from (Err e ∷ more) h le = omega arith

abbrev groups_total : Groups → ℕ
groups_total (last ws fault) = total ws
groups_total (group ws groups) = total ws + groups_total groups

word_more : (w : Word) (groups : Groups) → groups_total (with_word w groups) ≡ length w + groups_total groups
word_more w (last ws fault) = total-cons w ws
word_more w (group ws groups) = let more = total-cons w ws in omega (arith, more)

token_more : (k : Kind) (w : Word) (groups : Groups) → groups_total (with_token k w groups) ≤ length w + groups_total groups
token_more kind.Semi w groups = omega arith
token_more kind.Run w groups = let is = word_more w groups in omega (arith, is)
token_more kind.Open w groups = let is = word_more w groups in omega (arith, is)
token_more kind.Close w groups = let is = word_more w groups in omega (arith, is)

-- the words of statements are tokens
words_fit : (given : List (Result Lexeme LexFault)) → groups_total (groups_of given) ≤ item_total given
words_fit [] = omega arith
words_fit (Ok t ∷ more) =
    let rest = words_fit more in
    let one = token_more t.kind t.text (groups_of more) in
    omega (arith, rest, one)
words_fit (Err e ∷ more) = omega arith

abbrev group_total : List (List Word) → ℕ
group_total gs = sum_by (λ ws. total ws) gs

closed_total : (gs : List (List Word)) → groups_total (closed_by gs (last [] None)) ≡ group_total gs
closed_total [] = refl
closed_total (g ∷ gs) = ap (λ k. total g + k) (closed_total gs) ∙ sym (sum_by-cons (λ ws. total ws) g gs)

-- ---- the bits of fields

few_bits : (c : ℕ) → length (bits_of c) ≤ 4
few_bits c = grind (arith)

few_digits : (h : List ℕ) → length (binary h) ≤ 4 * length h
unfolding binary
few_digits [] = omega arith
few_digits (c ∷ cs) =
    let rest = few_digits cs in
    let one = few_bits c in
    let all : length (binary (c ∷ cs)) ≡ length (binary cs) + length (bits_of c) = ap length (binary-cons c cs) ∙ length-append (binary cs) (bits_of c) in
    omega (arith, rest, one, all)

abbrev digits_in : Option (List ℕ) → ℕ
digits_in None = 0
digits_in (Some h) = length h

few_written : (n : ℕ) (o : Option (List ℕ)) → bits_in (bits n o) ≤ 4 * digits_in o
few_written n None = omega arith
few_written n (Some h) =
    let most = few_digits h in
    let cut : length (bits_written n h) ≡ min n (length (binary h)) = length-take n (binary h) in
    omega (arith, most, cut)

abbrev field_total : Fields → ℕ
field_total fs = digits_in fs.tdi + (digits_in fs.tdo + (digits_in fs.mask + digits_in fs.smask))

once : (o : Option (List ℕ)) (x y : Fields) → if_none o x ≡ Some y → (digits_in o ≡ 0) × (x ≡ y)
once None x y e = (refl, cc)
once (Some h) x y e = absurd cc

one_more : (o : Option (List ℕ)) (old placed new : Fields) (h : List ℕ) → if_none o placed ≡ Some new → field_total placed + digits_in o ≡ field_total old + length h
    → field_total new ≡ field_total old + length h
one_more o old placed new h e more =
    let p = once o placed new e in
    let none = p.0 in
    let same = ap field_total p.1 in
    omega (arith, more, none, same)

put_more : (f : FieldName) (h : List ℕ) (old new : Fields) → put f h old ≡ Some new → field_total new ≡ field_total old + length h
put_more Tdi h old new e = one_more old.tdi old (record old { tdi = Some h }) new h e (omega arith)
put_more Tdo h old new e = one_more old.tdo old (record old { tdo = Some h }) new h e (omega arith)
put_more Mask h old new e = one_more old.mask old (record old { mask = Some h }) new h e (omega arith)
put_more Smask h old new e = one_more old.smask old (record old { smask = Some h }) new h e (omega arith)

field_fits : (ws : List Word) (f : FieldName) (h : List ℕ) → IsField ws f h → length h ≤ total ws
field_fits ws f h is =
    let name = is.0 in
    let opener = is.1 in
    let closer = is.2 in
    let runs = is.3 in
    let words : total ws ≡ total (name ∷ opener ∷ runs ++ closer ∷ []) = ap total is.4 in
    let first = total-cons name (opener ∷ runs ++ closer ∷ []) in
    let second = total-cons opener (runs ++ closer ∷ []) in
    let rest = total-append runs (closer ∷ []) in
    let digits : length h ≡ total runs = ap length is.9 ∙ length-flat_map (λ w. w) runs in
    omega (arith, words, first, second, rest, digits)

fields_fit : (ws : List Word) (given : List (FieldName × List ℕ)) (old new : Fields) → AreFields ws given old new → field_total new ≤ field_total old + total ws
fields_fit ws [] old new h = let is = ap field_total h.1 in omega (arith, is)
fields_fit ws (f ∷ fs) old new h =
    let front = h.0 in
    let rest = h.1 in
    let next = h.2 in
    let all : total ws ≡ total front + total rest = ap total h.3 ∙ total-append front rest in
    let one = field_fits front f.0 f.1 h.4 in
    let more = put_more f.0 f.1 old next h.5 in
    let others = fields_fit rest fs next new h.6 in
    omega (arith, all, one, more, others)

-- ---- one statement

some_word : (k : Word) (keyword : List ℕ) → Reads k keyword → 0 < length keyword → 0 < length k
some_word [] [] h some = absurd (omega (arith, some))
some_word [] (c ∷ cs) h some = absurd cc
some_word (c ∷ k) keyword h some = omega arith

state_word : (s : State) → 0 < length (words.word s)
state_word state.Reset = omega arith
state_word state.Idle = omega arith
state_word state.DrSelect = omega arith
state_word state.DrCapture = omega arith
state_word state.DrShift = omega arith
state_word state.DrExit1 = omega arith
state_word state.DrPause = omega arith
state_word state.DrExit2 = omega arith
state_word state.DrUpdate = omega arith
state_word state.IrSelect = omega arith
state_word state.IrCapture = omega arith
state_word state.IrShift = omega arith
state_word state.IrExit1 = omega arith
state_word state.IrPause = omega arith
state_word state.IrExit2 = omega arith
state_word state.IrUpdate = omega arith

scan_keyword : (which : Which) → 0 < length (scan_word which)
scan_keyword which.Hdr = omega arith
scan_keyword which.Hir = omega arith
scan_keyword which.Tdr = omega arith
scan_keyword which.Tir = omega arith
scan_keyword which.Sdr = omega arith
scan_keyword which.Sir = omega arith

states_fit : (ws : List Word) (ss : List State) → AreStates ws ss → length ss ≤ total ws
states_fit [] [] h = omega arith
states_fit [] (s ∷ ss) h = absurd h
states_fit (w ∷ ws) [] h = absurd h
states_fit (w ∷ ws) (s ∷ ss) h =
    let one = some_word w (words.word s) h.0 (state_word s) in
    let rest = states_fit ws ss h.1 in
    let all = total-cons w ws in
    omega (arith, one, rest, all)

-- a statement that is made of what was read
made_by : {A : Type 0} (r : Result A Code) (f : A → Said) (s : Said) → (r >>= λ x. Ok (f x)) ≡ Ok s → (x : A) × (f x ≡ s)
made_by (Err e) f s h = absurd cc
made_by (Ok x) f s h = (x, cc)

-- a statement of one word at least, that has no bits and no states
one_fits : (k : Word) (keyword : List ℕ) (ws xs : List Word) (s : Said) → ws ≡ k ∷ xs → Reads k keyword → 0 < length keyword → size s ≡ 1 → size s ≤ 4 * total ws
one_fits k keyword ws xs s split h some is =
    let one = some_word k keyword h some in
    let all : total ws ≡ length k + total xs = ap total split ∙ total-cons k xs in
    omega (arith, one, all, is)

abbrev saying : Said → Result Said Code
saying s = Ok s

size_said : (t s : Said) → saying t ≡ Ok s → size s ≡ size t
size_said t s e = ap size (sym same)
  where
    same : t ≡ s
    same = cc

scan_fits : (which : Which) (fs : Fields) (n : ℕ) → size (scan_with which fs n) ≤ 1 + 4 * field_total fs
scan_fits which fs n =
    let tdi = few_written n fs.tdi in
    let tdo = few_written n fs.tdo in
    let mask = few_written n fs.mask in
    let smask = few_written n fs.smask in
    omega (arith, tdi, tdo, mask, smask)

form_fits : (ws : List Word) (f : Form) (s : Said) → IsForm ws f → form_says f ≡ Ok s → size s ≤ 4 * total ws
unfolding run_test_says_within
form_fits ws (end_dr_form st) s h says = one_fits h.0 (codes "ENDDR") ws (h.1 ∷ []) s h.2 h.3 (omega arith) (size_said (end_dr st) s says)
form_fits ws (end_ir_form st) s h says = one_fits h.0 (codes "ENDIR") ws (h.1 ∷ []) s h.2 h.3 (omega arith) (size_said (end_ir st) s says)
form_fits ws (frequency_form None) s h says = one_fits h.0 (codes "FREQUENCY") ws [] s h.1 h.2 (omega arith) (size_said (frequency None) s says)
form_fits ws (frequency_form (Some n)) s h says =
    let p = made_by (given period_says (Some n)) (λ p. frequency p) s says in
    one_fits h.0 (codes "FREQUENCY") ws (n ∷ h.1 ∷ []) s h.2 h.3 (omega arith) (ap size (sym p.1))
form_fits ws (scan_form which w fs) s h says =
    let n = made_by (scan_says w fs) (scan_with which fs) s says in
    let k = h.0 in
    let xs = h.1 in
    let command = some_word k (scan_word which) h.4 (scan_keyword which) in
    let digits = fields_fit xs h.2 no_fields fs h.6 in
    let all : total ws ≡ length k + total (w ∷ xs) = ap total h.3 ∙ total-cons k (w ∷ xs) in
    let others = total-cons w xs in
    let bound = scan_fits which fs n.0 in
    let is = ap size n.1 in
    omega (arith, command, digits, all, others, bound, is)
form_fits ws (run_test_form r) s h says =
    let p = made_by (both (given cycles_say r.count) (both (given time_says r.min) (given time_says r.max))) (run_test_with r) s says in
    one_fits h.0 (codes "RUNTEST") ws h.1 s h.2 h.3 (omega arith) (ap size (sym p.1))
form_fits ws (states_form ss) s h says =
    let k = h.0 in
    let command = some_word k (codes "STATE") h.3 (omega arith) in
    let path = states_fit h.1 ss h.5 in
    let all : total ws ≡ length k + total h.1 = ap total h.2 ∙ total-cons k h.1 in
    let is = size_said (states ss) s says in
    omega (arith, command, path, all, is)
form_fits ws (trst_form t) s h says = one_fits h.0 (codes "TRST") ws (h.1 ∷ []) s h.2 h.3 (omega arith) (size_said (trst t) s says)
form_fits ws port_form s h says = absurd cc

-- ---- whole texts

each_fits : (gs : List (List Word)) (ss : List Said) → EachSpells gs ss → sum_by size ss ≤ 4 * group_total gs
each_fits [] [] h = omega arith
each_fits [] (s ∷ ss) h = absurd h
each_fits ([] ∷ gs) ss h =
    let rest = each_fits gs ss h in
    let groups = sum_by-cons (λ ws. total ws) [] gs in
    omega (arith, rest, groups)
each_fits ((w ∷ ws) ∷ gs) [] h = absurd h
each_fits ((w ∷ ws) ∷ gs) (s ∷ ss) h =
    let one = form_fits (w ∷ ws) h.0.0 s h.0.1 h.0.2 in
    let rest = each_fits gs ss h.1 in
    let all = sum_by-cons size s ss in
    let groups = sum_by-cons (λ ws. total ws) (w ∷ ws) gs in
    omega (arith, one, rest, all, groups)

pub small_text : (text : List ℕ) (ss : List Said) → TextSpells text ss → sum_by size ss ≤ 4 * length text
small_text text ss h =
    let tokens = h.0 in
    let gs = h.1 in
    let statements = each_fits gs ss h.6 in
    let words : group_total gs ≡ groups_total (groups_of tokens) = sym (closed_total gs) ∙ ap groups_total (sym h.5) in
    let tokens_fit = words_fit tokens in
    let slices : item_total tokens ≡ item_total (items_of text) = ap item_total (sym ((lexer_gives text tokens).0 h.4)) in
    let fit = slices_fit text 0 (items_of text) (slices_in_order text) (omega arith) in
    omega (arith, statements, words, tokens_fit, slices, fit)

pub small_answer : (r : Result (Vec Statement) SvfFault) (text : List ℕ) → IfOk r (λ v. TextSpells text (map said_of v.items)) → IfOk r (λ v. sum_by size (map said_of v.items) ≤ 4 * length text)
small_answer (Ok v) text h = small_text text (map said_of v.items) h
small_answer (Err f) text h = tt

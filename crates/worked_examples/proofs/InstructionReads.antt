-- The rows of the attributes of instructions are read as they are written.
use Rattle.std.proofs.Common.{◌≡◌, ℕ, Bool, true, false, cond, List, [], ◌∷◌, ◌++◌, Option, Some, None, refl, sym, ap, subst, ◌∙◌, append_assoc}
use Rattle.std.specs.Prelude.{codes, drop}
use Rattle.bsdl_text.specs.Cutting.{Lexeme}
use Rattle.bsdl_text.specs.Words.{upper, same_name}
use Rattle.bsdl_text.specs.Marks.{comma, opening, closing}
use Rattle.bsdl_text.specs.Reading.{Read, fits, ◌>>=◌, refused_at, word, mark, stands, number, whole_number}
use Rattle.bsdl_device.specs.Device.{Name, Pattern}
use Rattle.bsdl_values.specs.InstructionValues.{rows, bracketed, pattern, opcode_row, private_name, Instr, instr, begins, AccessRow, access_row, is_public, register_len}
use Rattle.worked_examples.specs.Lists.{IsMark, IsWord}
use Rattle.worked_examples.specs.Quoted.{AreRows, IsPattern, IsOpcodeRow, IsPrivateName, IsCapture, IsInstr, IsLength, IsAccessRow}
use Rattle.worked_examples.proofs.Steps.{Found, Finds, Reads, AreTokens, Anything, bound, same_read, joined_split, back_tokens, mark_found, mark_is, word_found, keyword_found}
use Rattle.worked_examples.proofs.PortReads.{other_mark, word_no_mark}
use Rattle.worked_examples.proofs.TextReads.{Exact}
use Rattle.worked_examples.proofs.PatternReads.{exact_found, exact_read, rows_exact, bracketed_found, bracketed_read, NoDigits, pattern_found, pattern_read, pattern_some, pattern_opens, mark_no_digits, comma_no_digits, closing_no_digits}

-- ---- patterns

pub patterns_exact : Exact (rows pattern) (AreRows IsPattern)
patterns_exact = rows_exact pattern IsPattern NoDigits pattern_found pattern_read comma_no_digits tt pattern_some

pub pattern_exact : Exact pattern IsPattern
pattern_exact = record { found = exact_found pattern IsPattern pattern_found; read = exact_read pattern IsPattern NoDigits tt pattern_read }

-- ---- rows of opcodes

opcode_found : Finds opcode_row IsOpcodeRow
opcode_found ts r rest e =
    let b1 = bound (word ts) (λ n a. bracketed pattern a >>= λ ps b. fits (record { name = n; patterns = ps }) b) r rest e in
    let w = word_found ts b1.x b1.more b1.first in
    let b2 = bound (bracketed pattern b1.more) (λ ps b. fits (record { name = b1.x; patterns = ps }) b) r rest b1.next in
    let f = bracketed_found pattern IsPattern NoDigits pattern_found pattern_read comma_no_digits b1.more b2.x b2.more b2.first in
    let s = same_read (record { name = b1.x; patterns = b2.x }) r b2.more rest b2.next in
    subst (λ q. Found IsOpcodeRow q ts rest) s.0
    (record {
      front = b1.x ∷ f.front;
      split = w.0 ∙ ap (λ (us : List Lexeme). b1.x ∷ us) (f.split ∙ ap (λ (us : List Lexeme). f.front ++ us) s.1);
      is = (f.front, refl, w.1, f.is);
    })

opcode_read : Reads opcode_row IsOpcodeRow Anything
opcode_read front r rest h tokens b =
    let all = subst AreTokens h.1 tokens in
    let here : bracketed pattern (h.0 ++ rest) ≡ fits r.patterns rest = bracketed_read pattern IsPattern NoDigits pattern_found pattern_read comma_no_digits closing_no_digits pattern_opens h.0 r.patterns rest h.3 all.1 tt in
    subst (λ us. opcode_row (us ++ rest) ≡ fits r rest) (sym h.1) (rw (h.2, here) refl)

pub opcodes_exact : Exact (rows opcode_row) (AreRows IsOpcodeRow)
opcodes_exact = rows_exact opcode_row IsOpcodeRow Anything opcode_found opcode_read (λ s ts m. tt) tt (λ r front h. (r.name, h.0, h.1))

-- ---- private names

private_found : Finds private_name IsPrivateName
private_found ts name rest e =
    let b = bound (word ts) (λ n a. fits (upper n.text) a) name rest e in
    let w = word_found ts b.x b.more b.first in
    let s = same_read (upper b.x.text) name b.more rest b.next in
    record { front = b.x ∷ []; split = w.0 ∙ ap (λ (us : List Lexeme). b.x ∷ us) s.1; is = (b.x, refl, w.1, sym s.0) }

private_read : Reads private_name IsPrivateName Anything
private_read front name rest h tokens b =
    let whole : private_name (h.0 ∷ rest) ≡ fits (upper h.0.text) rest = rw h.2 refl in
    subst (λ us. private_name (us ++ rest) ≡ fits name rest) (sym h.1) (whole ∙ ap (λ (n : Name). fits n rest) (sym h.3))

pub names_exact : Exact (rows private_name) (AreRows IsPrivateName)
names_exact = rows_exact private_name IsPrivateName Anything private_found private_read (λ s ts m. tt) tt (λ name front h. (h.0, [], h.1))

-- ---- rows of accesses

capture_by : (n : Lexeme) (a : List Lexeme) (test : Bool) (i : Instr) (rest : List Lexeme) → IsWord n → begins (codes "CAPTURES") a ≡ test
    → cond test (pattern (drop 1 a) >>= λ p b. fits (record { name = n; captures = Some p }) b) (fits (record { name = n; captures = None }) a) ≡ fits i rest → Found IsInstr i (n ∷ a) rest
capture_by n [] true i rest word is e = absurd cc
capture_by n (c ∷ a) true i rest word is e =
    let b = bound (pattern a) (λ p b. fits (record { name = n; captures = Some p }) b) i rest e in
    let f = pattern_found a b.x b.more b.first in
    let s = same_read (record { name = n; captures = Some b.x }) i b.more rest b.next in
    subst (λ q. Found IsInstr q (n ∷ c ∷ a) rest) s.0
    (record {
      front = n ∷ c ∷ f.front;
      split = ap (λ (us : List Lexeme). n ∷ c ∷ us) (f.split ∙ ap (λ (us : List Lexeme). f.front ++ us) s.1);
      is = (c ∷ f.front, refl, word, (c, f.front, refl, is, f.is));
    })
capture_by n a false i rest word is e =
    let s = same_read (record { name = n; captures = None }) i a rest e in
    subst (λ q. Found IsInstr q (n ∷ a) rest) s.0 (record { front = n ∷ []; split = ap (λ (us : List Lexeme). n ∷ us) s.1; is = ([], refl, word, refl) })

instr_found : Finds instr IsInstr
instr_found ts i rest e =
    let b =
    bound (word ts) (λ n a. cond (begins (codes "CAPTURES") a) (pattern (drop 1 a) >>= λ p b. fits (record { name = n; captures = Some p }) b) (fits (record { name = n; captures = None }) a)) i rest e in
    let w = word_found ts b.x b.more b.first in
    subst (λ us. Found IsInstr i us rest) (sym w.0) (capture_by b.x b.more (begins (codes "CAPTURES") b.more) i rest w.1 refl b.next)

-- neither more digits nor what is captured
abbrev EndsInstr : List Lexeme → Type 0
EndsInstr ts = NoDigits ts × (begins (codes "CAPTURES") ts ≡ false)

capture_read : (n : Lexeme) (o : Option Pattern) (capture rest : List Lexeme) → IsWord n → IsCapture o capture → EndsInstr rest → AreTokens capture → instr (n ∷ (capture ++ rest)) ≡ fits (record { name = n; captures = o }) rest
capture_read n None capture rest word h end tokens = subst (λ us. instr (n ∷ (us ++ rest)) ≡ fits (record { name = n; captures = None }) rest) (sym h) (rw (word, end.1) refl)
capture_read n (Some p) capture rest word h end tokens =
    let all = subst AreTokens h.2 tokens in
    subst (λ us. instr (n ∷ (us ++ rest)) ≡ fits (record { name = n; captures = Some p }) rest) (sym h.2) (rw (word, h.3, pattern_read h.1 p rest h.4 all.1 end.0) refl)

instr_read : Reads instr IsInstr EndsInstr
instr_read front i rest h tokens end =
    let all = subst AreTokens h.1 tokens in
    subst (λ us. instr (us ++ rest) ≡ fits i rest) (sym h.1) (capture_read i.name i.captures h.0 rest h.2 h.3 end all.1)

no_capture : (c : ℕ) (s : Lexeme) → same_name (c ∷ []) (codes "CAPTURES") ≡ false → IsMark c s → same_name s.text (codes "CAPTURES") ≡ false
no_capture c s none h = ap (λ (x : List ℕ). same_name x (codes "CAPTURES")) h ∙ none

comma_ends : (s : Lexeme) (ts : List Lexeme) → IsMark comma s → EndsInstr (s ∷ ts)
comma_ends s ts h = (mark_no_digits comma s refl h, no_capture comma s refl h)

closing_ends : (s : Lexeme) (ts : List Lexeme) → IsMark closing s → EndsInstr (s ∷ ts)
closing_ends s ts h = (mark_no_digits closing s refl h, no_capture closing s refl h)

instr_opens : (i : Instr) (front ts : List Lexeme) → IsInstr i front → AreTokens front → stands closing (front ++ ts) ≡ false
instr_opens i front ts h tokens =
    let all = subst AreTokens h.1 tokens in
    subst (λ us. stands closing (us ++ ts) ≡ false) (sym h.1) (word_no_mark closing i.name all.0 h.2 refl)

abbrev behind_number : ℕ → List Lexeme → Read (Option ℕ)
behind_number n b = mark 93 b >>= λ k c. fits (Some n) c

abbrev behind_opening : Lexeme → List Lexeme → Read (Option ℕ)
behind_opening m a = number a >>= behind_number

abbrev LengthOf : Lexeme → Option ℕ → List Lexeme → Type 0
LengthOf name o ts = IsLength name.text o ts

given_length : (name : Lexeme) (ts : List Lexeme) (o : Option ℕ) (rest : List Lexeme) → (mark 91 ts >>= behind_opening) ≡ fits o rest → Found (LengthOf name) o ts rest
given_length name ts o rest e =
    let b1 = bound (mark 91 ts) behind_opening o rest e in
    let m = mark_found 91 ts b1.x b1.more b1.first in
    let b2 = bound (number b1.more) behind_number o rest b1.next in
    let n = keyword_found whole_number b1.more b2.x b2.more b2.first in
    let b3 = bound (mark 93 b2.more) (λ k c. fits (Some b2.x) c) o rest b2.next in
    let k = mark_found 93 b2.more b3.x b3.more b3.first in
    let s = same_read (Some b2.x) o b3.more rest b3.next in
    subst (λ q. Found (LengthOf name) q ts rest) s.0 (record { front = b1.x ∷ n.token ∷ b3.x ∷ []; split = cc (m.0, n.split, k.0, s.1); is = (b1.x, n.token, b3.x, refl, m.1, n.is, k.1) })

public_by : (name : Lexeme) (ts : List Lexeme) (test : Bool) (o : Option ℕ) (rest : List Lexeme) → is_public name.text ≡ test → cond test (fits None ts) (refused_at ts) ≡ fits o rest → Found (LengthOf name) o ts rest
public_by name ts false o rest is e = absurd cc
public_by name ts true o rest is e =
    let s = same_read None o ts rest e in
    subst (λ q. Found (LengthOf name) q ts rest) s.0 (record { front = []; split = s.1; is = (refl, is) })

length_by : (name : Lexeme) (ts : List Lexeme) (test : Bool) (o : Option ℕ) (rest : List Lexeme) → cond test (mark 91 ts >>= behind_opening) (cond (is_public name.text) (fits None ts) (refused_at ts)) ≡ fits o rest → Found (LengthOf name) o ts rest
length_by name ts true o rest e = given_length name ts o rest e
length_by name ts false o rest e = public_by name ts (is_public name.text) o rest refl e

length_found : (name : Lexeme) → Finds (register_len name) (LengthOf name)
length_found name ts o rest e = length_by name ts (stands 91 ts) o rest e

length_read : (name : Lexeme) (o : Option ℕ) (front rest : List Lexeme) → IsLength name.text o front → stands 91 rest ≡ false → register_len name (front ++ rest) ≡ fits o rest
length_read name None front rest h none = subst (λ us. register_len name (us ++ rest) ≡ fits None rest) (sym h.0) (rw (none, h.1) refl)
length_read name (Some n) front rest h none =
    subst (λ us. register_len name (us ++ rest) ≡ fits (Some n) rest) (sym h.3) (rw (mark_is 91 h.0 h.4, h.5, mark_is 93 h.2 h.6) refl)

abbrev behind_length : Lexeme → Option ℕ → List Lexeme → Read AccessRow
behind_length r n b = bracketed instr b >>= λ is c. fits (record { register = upper r.text; len = n; instrs = is }) c

abbrev behind_register : Lexeme → List Lexeme → Read AccessRow
behind_register r a = register_len r a >>= behind_length r

access_found : Finds access_row IsAccessRow
access_found ts r rest e =
    let b1 = bound (word ts) behind_register r rest e in
    let w = word_found ts b1.x b1.more b1.first in
    let b2 = bound (register_len b1.x b1.more) (behind_length b1.x) r rest b1.next in
    let f = length_found b1.x b1.more b2.x b2.more b2.first in
    let b3 = bound (bracketed instr b2.more) (λ is c. fits (record { register = upper b1.x.text; len = b2.x; instrs = is }) c) r rest b2.next in
    let g = bracketed_found instr IsInstr EndsInstr instr_found instr_read comma_ends b2.more b3.x b3.more b3.first in
    let s = same_read (record { register = upper b1.x.text; len = b2.x; instrs = b3.x }) r b3.more rest b3.next in
    let behind : b1.more ≡ (f.front ++ g.front) ++ rest = joined_split b1.more f.front b2.more g.front rest f.split (g.split ∙ ap (λ (us : List Lexeme). g.front ++ us) s.1) in
    subst (λ q. Found IsAccessRow q ts rest) s.0
    (record {
      front = b1.x ∷ (f.front ++ g.front);
      split = w.0 ∙ ap (λ (us : List Lexeme). b1.x ∷ us) behind;
      is = (b1.x, f.front, g.front, refl, w.1, refl, f.is, g.is);
    })

access_read : Reads access_row IsAccessRow Anything
access_read front r rest h tokens b =
    let register = h.0 in
    let len = h.1 in
    let instrs = h.2 in
    let all = subst AreTokens h.3 tokens in
    let row = h.7 in
    let none : stands 91 (instrs ++ rest) ≡ false = subst (λ us. stands 91 (us ++ rest) ≡ false) (sym row.3) (other_mark opening 91 row.0 row.4 refl) in
    let here : register_len register (len ++ (instrs ++ rest)) ≡ fits r.len (instrs ++ rest) = length_read register r.len len (instrs ++ rest) h.6 none in
    let last : bracketed instr (instrs ++ rest) ≡ fits r.instrs rest =
    bracketed_read instr IsInstr EndsInstr instr_found instr_read comma_ends closing_ends instr_opens instrs r.instrs rest h.7 (back_tokens len instrs all.1) tt in
    let whole : access_row (register ∷ (len ++ (instrs ++ rest))) ≡ fits (record { register = upper register.text; len = r.len; instrs = r.instrs }) rest = rw (h.4, here, last) refl in
    subst (λ us. access_row (us ++ rest) ≡ fits r rest) (sym h.3)
    (ap (λ (us : List Lexeme). access_row (register ∷ us)) (append_assoc len instrs rest) ∙ whole
    ∙ ap (λ (name : Name). fits (record { register = name; len = r.len; instrs = r.instrs }) rest) (sym h.5))

pub accesses_exact : Exact (rows access_row) (AreRows IsAccessRow)
accesses_exact = rows_exact access_row IsAccessRow Anything access_found access_read (λ s ts m. tt) tt (λ r front h. (h.0, h.1 ++ h.2, h.3))

-- Rows within quotes weigh no more than their tokens.
use Rattle.std.proofs.Common.{◌≡◌, ℕ, ◌+◌, List, [], ◌∷◌, ◌++◌, length, drop, map, ◌∙◌, arith}
use Rattle.std.specs.Prelude.{Option, Some, None, codes}
use Rattle.std.proofs.lemmas.List.{length-append, length-map, length-reverse}
use Rattle.std.specs.Char.{to_ascii_uppercase}
use Rattle.bsdl_device.specs.Device.{Pattern}
use Rattle.bsdl_text.specs.Cutting.{Lexeme}
use Rattle.bsdl_text.specs.Words.{upper}
use Rattle.bsdl_text.specs.Marks.{comma, opening, closing}
use Rattle.bsdl_text.specs.Reading.{Read, fits, mark, number, one, stands, word, separated, is_over}
use Rattle.bsdl_values.specs.InstructionValues.{AccessRow, Instr, OpcodeRow, access_row, are_digits, begins, bit, bracketed, digits_on, instr, is_public, opcode_row, pattern, pattern_of, private_name, register_len, rows}
use Rattle.bsdl.specs.Small.{total}
use Rattle.bsdl.proofs.Weights.{Weighs, bind, choose, dropped, heft, keyword_weighs, listed_weighs, one_weighs, size}

abbrev pub opcode_weight : OpcodeRow → ℕ
opcode_weight r = heft r.name.text + total heft r.patterns

abbrev pub captured_weight : Option Pattern → ℕ
captured_weight None = 0
captured_weight (Some p) = heft p

abbrev pub instr_weight : Instr → ℕ
instr_weight i = heft i.name.text + captured_weight i.captures

abbrev pub access_weight : AccessRow → ℕ
access_weight r = total instr_weight r.instrs

pub rows_weigh : {A : Type 0} (w : A → ℕ) (item : List Lexeme → Read A) → ((ts : List Lexeme) → Weighs w (size ts) (item ts)) → (ts : List Lexeme) → Weighs (total w) (size ts) (rows item ts)
rows_weigh w item each ts = listed_weighs w item comma is_over each ts

bracketed_weighs : {A : Type 0} (w : A → ℕ) (item : List Lexeme → Read A) → ((ts : List Lexeme) → Weighs w (size ts) (item ts)) → (ts : List Lexeme) → Weighs (total w) (size ts) (bracketed item ts)
bracketed_weighs w item each ts =
    bind (λ t. heft t.text) (total w) (size ts) (size ts) (mark opening ts) _ (one_weighs _ ts)
    (λ m a less. bind (total w) (total w) (size a) (size ts) (separated item comma (stands closing) a) _ (listed_weighs w item comma (stands closing) each a)
    (λ xs b inside. bind (λ t. heft t.text) (total w) (size b) (size ts) (mark closing b) _ (one_weighs _ b)
    (λ n c last. omega (arith, less, inside, last))))

digits_weigh : (ts : List Lexeme) → Weighs length (size ts) (digits_on ts)
unfolding digits_on
digits_weigh [] = omega arith
digits_weigh (t ∷ ts) =
    choose length (heft t.text + size ts) (are_digits t) _ (fits [] (t ∷ ts))
    (bind length length (size ts) (heft t.text + size ts) (digits_on ts) _ (digits_weigh ts) (λ ds rest less. omega (arith, less, length-append t.text ds)))
    (omega arith)

pattern_len : (digits : List ℕ) → length (pattern_of digits) ≡ length digits
pattern_len digits = length-reverse (map bit digits) ∙ length-map digits bit

pub pattern_weighs : (ts : List Lexeme) → Weighs heft (size ts) (pattern ts)
pattern_weighs ts =
    bind (λ t. heft t.text) heft (size ts) (size ts) (one are_digits ts) _ (one_weighs are_digits ts)
    (λ t a less. bind length heft (size a) (size ts) (digits_on a) _ (digits_weigh a)
    (λ ds b last. omega (arith, less, last, pattern_len (t.text ++ ds), length-append t.text ds)))

pub opcode_weighs : (ts : List Lexeme) → Weighs opcode_weight (size ts) (opcode_row ts)
opcode_weighs ts =
    bind (λ t. heft t.text) opcode_weight (size ts) (size ts) (word ts) _ (one_weighs _ ts)
    (λ n a less. bind (total heft) opcode_weight (size a) (size ts) (bracketed pattern a) _ (bracketed_weighs heft pattern pattern_weighs a)
    (λ ps b last. omega (arith, less, last)))

pub upper_len : (name : List ℕ) → length (upper name) ≡ length name
upper_len name = length-map name to_ascii_uppercase

pub name_weighs : (ts : List Lexeme) → Weighs heft (size ts) (private_name ts)
name_weighs ts =
    bind (λ t. heft t.text) heft (size ts) (size ts) (word ts) _ (one_weighs _ ts) (λ n a less. omega (arith, less, upper_len n.text))

instr_weighs : (ts : List Lexeme) → Weighs instr_weight (size ts) (instr ts)
instr_weighs ts =
    bind (λ t. heft t.text) instr_weight (size ts) (size ts) (word ts) _ (one_weighs _ ts)
    (λ n a less. choose instr_weight (size ts) (begins (codes "CAPTURES") a) _ (fits (record { name = n; captures = None }) a)
    (bind heft instr_weight (size (drop 1 a)) (size ts) (pattern (drop 1 a)) _ (pattern_weighs (drop 1 a)) (λ p b last. omega (arith, less, last, dropped a)))
    (omega (arith, less)))

register_weighs : (name : Lexeme) (ts : List Lexeme) → Weighs (λ _. 0) (size ts) (register_len name ts)
register_weighs name ts =
    choose (λ _. 0) (size ts) (stands 91 ts) _ _
    (bind (λ t. heft t.text) (λ _. 0) (size ts) (size ts) (mark 91 ts) _ (one_weighs _ ts)
    (λ m a less. bind (λ _. 0) (λ _. 0) (size a) (size ts) (number a) _ (keyword_weighs _ a)
    (λ n b more. bind (λ t. heft t.text) (λ _. 0) (size b) (size ts) (mark 93 b) _ (one_weighs _ b)
    (λ k c last. omega (arith, less, more, last)))))
    (choose (λ _. 0) (size ts) (is_public name.text) (fits None ts) _ (omega arith) tt)

pub access_weighs : (ts : List Lexeme) → Weighs access_weight (size ts) (access_row ts)
access_weighs ts =
    bind (λ t. heft t.text) access_weight (size ts) (size ts) (word ts) _ (one_weighs _ ts)
    (λ r a less. bind (λ _. 0) access_weight (size a) (size ts) (register_len r a) _ (register_weighs r a)
    (λ n b more. bind (total instr_weight) access_weight (size b) (size ts) (bracketed instr b) _ (bracketed_weighs instr_weight instr instr_weighs b)
    (λ is c last. omega (arith, less, more, last))))

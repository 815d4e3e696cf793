-- Rows of cells are read as they are written.
use Rattle.std.proofs.Common.{◌≡◌, ℕ, Bool, true, false, cond, List, [], ◌∷◌, ◌++◌, Option, Some, None, refl, sym, ap, subst, ◌∙◌, append_assoc}
use Rattle.bsdl_text.specs.Cutting.{Lexeme}
use Rattle.bsdl_text.specs.Words.{upper}
use Rattle.bsdl_text.specs.Marks.{comma, opening, closing}
use Rattle.bsdl_text.specs.Reading.{Read, fits, ◌>>=◌, word, mark, stands, number, keyword, whole_number}
use Rattle.bsdl_device.specs.Device.{Name}
use Rattle.bsdl_device.specs.declared.Function.{Function}
use Rattle.bsdl_device.specs.declared.Control3.{Control3}
use Rattle.bsdl_values.specs.InstructionValues.{rows}
use Rattle.bsdl_values.specs.CellKeywords.{function_of, disabled_of, safe_of, bit_of}
use Rattle.bsdl_values.specs.CellRows.{PortName, CellRow, port_index, named_port, cell_port, control, cell_control, cell_row}
use Rattle.worked_examples.specs.Lists.{IsMark, IsWord, StandsFor}
use Rattle.worked_examples.specs.Quoted.{AreRows, IsIndex, IsPort, IsControl, IsCellRow}
use Rattle.worked_examples.proofs.Steps.{Found, Finds, Reads, AreTokens, Anything, bound, same_read, joined_split, front_tokens, mark_found, mark_is, word_found, keyword_found}
use Rattle.worked_examples.proofs.PortReads.{other_mark, word_no_mark}
use Rattle.worked_examples.proofs.TextReads.{Exact}
use Rattle.worked_examples.proofs.PatternReads.{rows_exact}

-- ---- an index

abbrev behind_index : ℕ → List Lexeme → Read (Option ℕ)
behind_index n b = mark closing b >>= λ k c. fits (Some n) c

abbrev within_index : Lexeme → List Lexeme → Read (Option ℕ)
within_index m a = number a >>= behind_index

index_by : (ts : List Lexeme) (test : Bool) (o : Option ℕ) (rest : List Lexeme) → cond test (mark opening ts >>= within_index) (fits None ts) ≡ fits o rest → Found IsIndex o ts rest
index_by ts false o rest e =
    let s = same_read None o ts rest e in
    subst (λ q. Found IsIndex q ts rest) s.0 (record { front = []; split = s.1; is = refl })
index_by ts true o rest e =
    let b1 = bound (mark opening ts) within_index o rest e in
    let m = mark_found opening ts b1.x b1.more b1.first in
    let b2 = bound (number b1.more) behind_index o rest b1.next in
    let n = keyword_found whole_number b1.more b2.x b2.more b2.first in
    let b3 = bound (mark closing b2.more) (λ k c. fits (Some b2.x) c) o rest b2.next in
    let k = mark_found closing b2.more b3.x b3.more b3.first in
    let s = same_read (Some b2.x) o b3.more rest b3.next in
    subst (λ q. Found IsIndex q ts rest) s.0 (record { front = b1.x ∷ n.token ∷ b3.x ∷ []; split = cc (m.0, n.split, k.0, s.1); is = (b1.x, n.token, b3.x, refl, m.1, n.is, k.1) })

index_found : Finds port_index IsIndex
index_found ts o rest e = index_by ts (stands opening ts) o rest e

index_read : (o : Option ℕ) (front rest : List Lexeme) → IsIndex o front → stands opening rest ≡ false → port_index (front ++ rest) ≡ fits o rest
index_read None front rest h none = subst (λ us. port_index (us ++ rest) ≡ fits None rest) (sym h) (rw none refl)
index_read (Some n) front rest h none =
    subst (λ us. port_index (us ++ rest) ≡ fits (Some n) rest) (sym h.3) (rw (mark_is opening h.0 h.4, h.5, mark_is closing h.2 h.6) refl)

-- ---- a port

named_found : (ts : List Lexeme) (o : Option PortName) (rest : List Lexeme) → named_port ts ≡ fits o rest → Found IsPort o ts rest
named_found ts o rest e =
    let b1 = bound (word ts) (λ p a. port_index a >>= λ i b. fits (Some (record { name = upper p.text; index = i })) b) o rest e in
    let w = word_found ts b1.x b1.more b1.first in
    let b2 = bound (port_index b1.more) (λ i b. fits (Some (record { name = upper b1.x.text; index = i })) b) o rest b1.next in
    let f = index_found b1.more b2.x b2.more b2.first in
    let s = same_read (Some (record { name = upper b1.x.text; index = b2.x })) o b2.more rest b2.next in
    subst (λ q. Found IsPort q ts rest) s.0
    (record {
      front = b1.x ∷ f.front;
      split = w.0 ∙ ap (λ (us : List Lexeme). b1.x ∷ us) (f.split ∙ ap (λ (us : List Lexeme). f.front ++ us) s.1);
      is = (b1.x, f.front, refl, w.1, refl, f.is);
    })

port_by : (ts : List Lexeme) (test : Bool) (o : Option PortName) (rest : List Lexeme) → cond test (mark 42 ts >>= λ m a. fits None a) (named_port ts) ≡ fits o rest → Found IsPort o ts rest
port_by ts false o rest e = named_found ts o rest e
port_by ts true o rest e =
    let b = bound (mark 42 ts) (λ m a. fits None a) o rest e in
    let m = mark_found 42 ts b.x b.more b.first in
    let s = same_read None o b.more rest b.next in
    subst (λ q. Found IsPort q ts rest) s.0 (record { front = b.x ∷ []; split = m.0 ∙ ap (λ (us : List Lexeme). b.x ∷ us) s.1; is = (b.x, refl, m.1) })

port_found : Finds cell_port IsPort
port_found ts o rest e = port_by ts (stands 42 ts) o rest e

port_read : (o : Option PortName) (front rest : List Lexeme) → IsPort o front → AreTokens front → stands opening rest ≡ false → cell_port (front ++ rest) ≡ fits o rest
port_read None front rest h tokens none = subst (λ us. cell_port (us ++ rest) ≡ fits None rest) (sym h.1) (rw (mark_is 42 h.0 h.2) refl)
port_read (Some p) front rest h tokens none =
    let all = subst AreTokens h.2 tokens in
    let whole : cell_port (h.0 ∷ (h.1 ++ rest)) ≡ fits (Some (record { name = upper h.0.text; index = p.index })) rest = rw (word_no_mark 42 h.0 all.0 h.3 refl, h.3, index_read p.index h.1 rest h.5 none) refl in
    subst (λ us. cell_port (us ++ rest) ≡ fits (Some p) rest) (sym h.2) (whole ∙ ap (λ (n : Name). fits (Some (record { name = n; index = p.index })) rest) (sym h.4))

-- ---- what controls it

abbrev IsGivenControl : Control3 → List Lexeme → Type 0
IsGivenControl c ts =
    (cell comma1 value comma2 result : Lexeme) × (ts ≡ cell ∷ comma1 ∷ value ∷ comma2 ∷ result ∷ []) × StandsFor whole_number c.cell cell × IsMark comma comma1 × StandsFor bit_of c.disabling value × IsMark comma comma2
    × StandsFor disabled_of c.leaves result

abbrev behind_second : ℕ → Bool → Lexeme → List Lexeme → Read Control3
behind_second n d k e = keyword disabled_of e >>= λ z f. fits (record { cell = n; disabling = d; leaves = z }) f

abbrev behind_value : ℕ → Bool → List Lexeme → Read Control3
behind_value n d c = mark comma c >>= behind_second n d

abbrev behind_first : ℕ → Lexeme → List Lexeme → Read Control3
behind_first n m b = keyword bit_of b >>= behind_value n

abbrev behind_cell : ℕ → List Lexeme → Read Control3
behind_cell n a = mark comma a >>= behind_first n

given_found : Finds control IsGivenControl
given_found ts c rest e =
    let b1 = bound (number ts) behind_cell c rest e in
    let n = keyword_found whole_number ts b1.x b1.more b1.first in
    let b2 = bound (mark comma b1.more) (behind_first b1.x) c rest b1.next in
    let m = mark_found comma b1.more b2.x b2.more b2.first in
    let b3 = bound (keyword bit_of b2.more) (behind_value b1.x) c rest b2.next in
    let v = keyword_found bit_of b2.more b3.x b3.more b3.first in
    let b4 = bound (mark comma b3.more) (behind_second b1.x b3.x) c rest b3.next in
    let k = mark_found comma b3.more b4.x b4.more b4.first in
    let b5 = bound (keyword disabled_of b4.more) (λ z f. fits (record { cell = b1.x; disabling = b3.x; leaves = z }) f) c rest b4.next in
    let z = keyword_found disabled_of b4.more b5.x b5.more b5.first in
    let s = same_read (record { cell = b1.x; disabling = b3.x; leaves = b5.x }) c b5.more rest b5.next in
    subst (λ q. Found IsGivenControl q ts rest) s.0
    (record {
      front = n.token ∷ b2.x ∷ v.token ∷ b4.x ∷ z.token ∷ [];
      split = cc (n.split, m.0, v.split, k.0, z.split, s.1);
      is = (n.token, b2.x, v.token, b4.x, z.token, refl, n.is, m.1, v.is, k.1, z.is);
    })

control_by : (ts : List Lexeme) (test : Bool) (o : Option Control3) (rest : List Lexeme) → cond test (mark comma ts >>= λ m a. control a >>= λ c b. fits (Some c) b) (fits None ts) ≡ fits o rest → Found IsControl o ts rest
control_by ts false o rest e =
    let s = same_read None o ts rest e in
    subst (λ q. Found IsControl q ts rest) s.0 (record { front = []; split = s.1; is = refl })
control_by ts true o rest e =
    let b1 = bound (mark comma ts) (λ m a. control a >>= λ c b. fits (Some c) b) o rest e in
    let m = mark_found comma ts b1.x b1.more b1.first in
    let b2 = bound (control b1.more) (λ c b. fits (Some c) b) o rest b1.next in
    let f = given_found b1.more b2.x b2.more b2.first in
    let h = f.is in
    let s = same_read (Some b2.x) o b2.more rest b2.next in
    subst (λ q. Found IsControl q ts rest) s.0
    (record {
      front = b1.x ∷ f.front;
      split = m.0 ∙ ap (λ (us : List Lexeme). b1.x ∷ us) (f.split ∙ ap (λ (us : List Lexeme). f.front ++ us) s.1);
      is = (b1.x, h.0, h.1, h.2, h.3, h.4, ap (λ (us : List Lexeme). b1.x ∷ us) h.5, m.1, h.6, h.7, h.8, h.9, h.10);
    })

control_found : Finds cell_control IsControl
control_found ts o rest e = control_by ts (stands comma ts) o rest e

control_read : (o : Option Control3) (front rest : List Lexeme) → IsControl o front → stands comma rest ≡ false → cell_control (front ++ rest) ≡ fits o rest
control_read None front rest h none = subst (λ us. cell_control (us ++ rest) ≡ fits None rest) (sym h) (rw none refl)
control_read (Some c) front rest h none =
    subst (λ us. cell_control (us ++ rest) ≡ fits (Some c) rest) (sym h.6) (rw (mark_is comma h.0 h.7, h.8, mark_is comma h.2 h.9, h.10, mark_is comma h.4 h.11, h.12) refl)

-- ---- rows

abbrev ending : ℕ → Option PortName → Function → Option Control3 → List Lexeme → Read CellRow
ending n p u t q = mark closing q >>= λ z r. fits (record { number = n; port = p; function = u; control = t }) r

abbrev behind_safe : ℕ → Option PortName → Function → Bool → List Lexeme → Read CellRow
behind_safe n p u s o = cell_control o >>= ending n p u

abbrev before_safe : ℕ → Option PortName → Function → Lexeme → List Lexeme → Read CellRow
before_safe n p u i h = keyword safe_of h >>= behind_safe n p u

abbrev behind_function : ℕ → Option PortName → Function → List Lexeme → Read CellRow
behind_function n p u g = mark comma g >>= before_safe n p u

abbrev before_function : ℕ → Option PortName → Lexeme → List Lexeme → Read CellRow
before_function n p j f = keyword function_of f >>= behind_function n p

abbrev behind_port : ℕ → Option PortName → List Lexeme → Read CellRow
behind_port n p e = mark comma e >>= before_function n p

abbrev before_port : ℕ → Lexeme → List Lexeme → Read CellRow
before_port n k d = cell_port d >>= behind_port n

abbrev behind_type : ℕ → Lexeme → List Lexeme → Read CellRow
behind_type n type c = mark comma c >>= before_port n

abbrev behind_opening : ℕ → Lexeme → List Lexeme → Read CellRow
behind_opening n m b = word b >>= behind_type n

abbrev behind_number : ℕ → List Lexeme → Read CellRow
behind_number n a = mark opening a >>= behind_opening n

-- one token more in front
next_token : (t : Lexeme) (ts more front rest : List Lexeme) → ts ≡ t ∷ more → more ≡ front ++ rest → ts ≡ (t ∷ front) ++ rest
next_token t ts more front rest a b = a ∙ ap (λ (us : List Lexeme). t ∷ us) b

-- a row's end: what controls it and the closing bracket
record RowEnd (n : ℕ) (p : Option PortName) (u : Function) (r : CellRow) (ts : List Lexeme) : Type 0 where
  control : List Lexeme
  closer : Lexeme
  split : ts ≡ control ++ closer ∷ []
  controls : IsControl r.control control
  closes : IsMark closing closer
  number-is : n ≡ r.number
  port-is : p ≡ r.port
  function-is : u ≡ r.function

end_of_row : (n : ℕ) (p : Option PortName) (u : Function) (t : Option Control3) (r : CellRow) (control : List Lexeme) (closer : Lexeme) → record { number = n; port = p; function = u; control = t } ≡ r → IsControl t control → IsMark closing closer
    → RowEnd n p u r (control ++ closer ∷ [])
end_of_row n p u t r control closer same h k =
    record {
      control = control;
      closer = closer;
      split = refl;
      controls = subst (λ (q : CellRow). IsControl q.control control) same h;
      closes = k;
      number-is = ap (λ (q : CellRow). q.number) same;
      port-is = ap (λ (q : CellRow). q.port) same;
      function-is = ap (λ (q : CellRow). q.function) same;
    }

end_found : (n : ℕ) (p : Option PortName) (u : Function) → Finds (λ o. cell_control o >>= ending n p u) (RowEnd n p u)
end_found n p u ts r rest e =
    let b1 = bound (cell_control ts) (ending n p u) r rest e in
    let t = control_found ts b1.x b1.more b1.first in
    let b2 = bound (mark closing b1.more) (λ z after. fits (record { number = n; port = p; function = u; control = b1.x }) after) r rest b1.next in
    let k = mark_found closing b1.more b2.x b2.more b2.first in
    let s = same_read (record { number = n; port = p; function = u; control = b1.x }) r b2.more rest b2.next in
    record {
      front = t.front ++ b2.x ∷ [];
      split = joined_split ts t.front b1.more (b2.x ∷ []) rest t.split (next_token b2.x b1.more b2.more [] rest k.0 s.1);
      is = end_of_row n p u b1.x r t.front b2.x s.0 t.is k.1;
    }

-- what stands behind the port
record BehindPort (n : ℕ) (p : Option PortName) (r : CellRow) (ts : List Lexeme) : Type 0 where
  comma1 : Lexeme
  function : Lexeme
  comma2 : Lexeme
  safe : Lexeme
  value : Bool
  control : List Lexeme
  closer : Lexeme
  split : ts ≡ comma1 ∷ function ∷ comma2 ∷ safe ∷ (control ++ closer ∷ [])
  parts1 : IsMark comma comma1
  functions : StandsFor function_of r.function function
  parts2 : IsMark comma comma2
  saves : StandsFor safe_of value safe
  controls : IsControl r.control control
  closes : IsMark closing closer
  number-is : n ≡ r.number
  port-is : p ≡ r.port

behind_of : (n : ℕ) (p : Option PortName) (u : Function) (r : CellRow) (end : List Lexeme) (comma1 function comma2 safe : Lexeme) (value : Bool) → IsMark comma comma1 → StandsFor function_of u function → IsMark comma comma2 → StandsFor safe_of value safe
    → RowEnd n p u r end → BehindPort n p r (comma1 ∷ function ∷ comma2 ∷ safe ∷ end)
behind_of n p u r end comma1 function comma2 safe value h1 h2 h3 h4 e =
    record {
      comma1 = comma1;
      function = function;
      comma2 = comma2;
      safe = safe;
      value = value;
      control = e.control;
      closer = e.closer;
      split = ap (λ (us : List Lexeme). comma1 ∷ function ∷ comma2 ∷ safe ∷ us) e.split;
      parts1 = h1;
      functions = h2 ∙ ap (λ (z : Function). Some z) e.function-is;
      parts2 = h3;
      saves = h4;
      controls = e.controls;
      closes = e.closes;
      number-is = e.number-is;
      port-is = e.port-is;
    }

behind_found : (n : ℕ) (p : Option PortName) → Finds (behind_port n p) (BehindPort n p)
behind_found n p ts r rest e =
    let b1 = bound (mark comma ts) (before_function n p) r rest e in
    let c1 = mark_found comma ts b1.x b1.more b1.first in
    let b2 = bound (keyword function_of b1.more) (behind_function n p) r rest b1.next in
    let u = keyword_found function_of b1.more b2.x b2.more b2.first in
    let b3 = bound (mark comma b2.more) (before_safe n p b2.x) r rest b2.next in
    let c2 = mark_found comma b2.more b3.x b3.more b3.first in
    let b4 = bound (keyword safe_of b3.more) (behind_safe n p b2.x) r rest b3.next in
    let v = keyword_found safe_of b3.more b4.x b4.more b4.first in
    let f = end_found n p b2.x b4.more r rest b4.next in
    record {
      front = b1.x ∷ u.token ∷ b3.x ∷ v.token ∷ f.front;
      split = next_token b1.x ts b1.more (u.token ∷ b3.x ∷ v.token ∷ f.front) rest c1.0 (next_token u.token b1.more b2.more (b3.x ∷ v.token ∷ f.front) rest u.split (next_token b3.x b2.more b3.more (v.token ∷ f.front) rest c2.0 (next_token v.token b3.more b4.more f.front rest v.split f.split)));
      is = behind_of n p b2.x r f.front b1.x u.token b3.x v.token b4.x c1.1 u.is c2.1 v.is f.is;
    }

row_of : (n : ℕ) (p : Option PortName) (r : CellRow) (number opener cell comma0 : Lexeme) (port behind : List Lexeme) → StandsFor whole_number n number → IsMark opening opener → IsWord cell → IsMark comma comma0 → IsPort p port → BehindPort n p r behind
    → IsCellRow r (number ∷ opener ∷ cell ∷ comma0 ∷ (port ++ behind))
row_of n p r number opener cell comma0 port behind h1 h2 h3 h4 h5 b = (
  number,
  opener,
  cell,
  comma0,
  b.comma1,
  b.function,
  b.comma2,
  b.safe,
  b.closer,
  b.value,
  port,
  b.control,
  ap (λ (us : List Lexeme). number ∷ opener ∷ cell ∷ comma0 ∷ (port ++ us)) b.split,
  h1 ∙ ap (λ (z : ℕ). Some z) b.number-is,
  h2,
  h3,
  h4,
  subst (λ (q : Option PortName). IsPort q port) b.port-is h5,
  b.parts1,
  b.functions,
  b.parts2,
  b.saves,
  b.controls,
  b.closes,
)

row_found : Finds cell_row IsCellRow
row_found ts r rest e =
    let b1 = bound (number ts) behind_number r rest e in
    let n = keyword_found whole_number ts b1.x b1.more b1.first in
    let b2 = bound (mark opening b1.more) (behind_opening b1.x) r rest b1.next in
    let m = mark_found opening b1.more b2.x b2.more b2.first in
    let b3 = bound (word b2.more) (behind_type b1.x) r rest b2.next in
    let c = word_found b2.more b3.x b3.more b3.first in
    let b4 = bound (mark comma b3.more) (before_port b1.x) r rest b3.next in
    let c0 = mark_found comma b3.more b4.x b4.more b4.first in
    let b5 = bound (cell_port b4.more) (behind_port b1.x) r rest b4.next in
    let p = port_found b4.more b5.x b5.more b5.first in
    let f = behind_found b1.x b5.x b5.more r rest b5.next in
    record {
      front = n.token ∷ b2.x ∷ b3.x ∷ b4.x ∷ (p.front ++ f.front);
      split = next_token n.token ts b1.more (b2.x ∷ b3.x ∷ b4.x ∷ (p.front ++ f.front)) rest n.split (next_token b2.x b1.more b2.more (b3.x ∷ b4.x ∷ (p.front ++ f.front)) rest m.0 (next_token b3.x b2.more b3.more (b4.x ∷ (p.front ++ f.front)) rest c.0 (next_token b4.x b3.more b4.more (p.front ++ f.front) rest c0.0 (joined_split b4.more p.front b5.more f.front rest p.split f.split))));
      is = row_of b1.x b5.x r n.token b2.x b3.x b4.x p.front f.front n.is m.1 c.1 c0.1 p.is f.is;
    }

row_read : Reads cell_row IsCellRow Anything
row_read front r rest h tokens b =
    let number = h.0 in
    let opener = h.1 in
    let cell = h.2 in
    let comma0 = h.3 in
    let comma1 = h.4 in
    let function = h.5 in
    let comma2 = h.6 in
    let safe = h.7 in
    let closer = h.8 in
    let safe_value = h.9 in
    let port = h.10 in
    let control = h.11 in
    let all = subst AreTokens h.12 tokens in
    let end = comma1 ∷ function ∷ comma2 ∷ safe ∷ (control ++ closer ∷ []) in
    let behind = comma1 ∷ function ∷ comma2 ∷ safe ∷ (control ++ closer ∷ rest) in
    let ported : cell_port (port ++ behind) ≡ fits r.port behind = port_read r.port port behind h.17 (front_tokens port end all.1.1.1.1) (other_mark comma opening comma1 h.18 refl) in
    let controlled : cell_control (control ++ closer ∷ rest) ≡ fits r.control (closer ∷ rest) = control_read r.control control (closer ∷ rest) h.22 (other_mark closing comma closer h.23 refl) in
    let whole : cell_row (number ∷ opener ∷ cell ∷ comma0 ∷ (port ++ behind)) ≡ fits r rest =
    rw (h.13, mark_is opening opener h.14, h.15, mark_is comma comma0 h.16, ported, mark_is comma comma1 h.18, h.19, mark_is comma comma2 h.20, h.21, controlled, mark_is closing closer h.23) refl in
    let split : (port ++ end) ++ rest ≡ port ++ behind =
    append_assoc port end rest ∙ ap (λ (us : List Lexeme). port ++ comma1 ∷ function ∷ comma2 ∷ safe ∷ us) (append_assoc control (closer ∷ []) rest) in
    subst (λ us. cell_row (us ++ rest) ≡ fits r rest) (sym h.12) (ap (λ (us : List Lexeme). cell_row (number ∷ opener ∷ cell ∷ comma0 ∷ us)) split ∙ whole)

pub cells_exact : Exact (rows cell_row) (AreRows IsCellRow)
cells_exact =
    rows_exact cell_row IsCellRow Anything row_found row_read (λ s ts m. tt) tt
    (λ r front h. (h.0, h.1 ∷ h.2 ∷ h.3 ∷ (h.10 ++ h.4 ∷ h.5 ∷ h.6 ∷ h.7 ∷ (h.11 ++ h.8 ∷ [])), h.12))

-- Values of attributes are read as they are written.
use Rattle.std.proofs.Common.{◌≡◌, ℕ, false, cond, List, [], ◌∷◌, ◌++◌, Option, Some, None, refl, sym, ap, subst, ◌∙◌}
use Rattle.bsdl_text.specs.Cutting.{Lexeme}
use Rattle.bsdl_text.specs.Words.{text_within}
use Rattle.bsdl_text.specs.Reading.{Read, fits, ◌>>=◌, string, stands, keyword, number, whole_number, joined_by, joined_text, meant, quoted_value}
use Rattle.bsdl_device.specs.Device.{Name}
use Rattle.bsdl_values.specs.InstructionValues.{rows, pattern, opcode_row, private_name, access_row}
use Rattle.bsdl_values.specs.CellRows.{cell_row}
use Rattle.bsdl_values.specs.declared.Attribute.{Attribute}
use Rattle.bsdl_values.specs.declared.Attribute.TheVariants.{TapScanIn, TapScanOut, TapScanMode, TapScanClock, TapScanReset, InstructionLength, BoundaryLength, InstructionOpcode, InstructionCapture, BoundaryRegister, IdcodeRegister, UsercodeRegister, InstructionPrivate, RegisterAccess}
use Rattle.bsdl_values.specs.Keywords.{truth_of}
use Rattle.bsdl_values.specs.Passing.{brackets}
use Rattle.bsdl_values.specs.Values.{Value, port, absent, count, pattern_value, codes_value, names_value, opcodes_value, accesses_value, cells_value, first_start, quoted, truth, length_value, value_of}
use Rattle.worked_examples.specs.Lists.{IsOneString, IsChain}
use Rattle.worked_examples.specs.Quoted.{IsQuoted, AreRows, IsPattern, IsOpcodeRow, IsPrivateName, IsAccessRow, IsCellRow}
use Rattle.worked_examples.specs.Values.{IsTruth, IsCount, IsValue}
use Rattle.worked_examples.proofs.Steps.{Found, Finds, Reads, AreTokens, Anything, bound, same_read, string_found, string_read, keyword_found}
use Rattle.worked_examples.proofs.ListReads.{joined_found, joined_read}
use Rattle.worked_examples.proofs.PassingReads.{brackets_found, brackets_read}
use Rattle.worked_examples.proofs.TextReads.{Exact, value_found, value_read}
use Rattle.worked_examples.proofs.InstructionReads.{patterns_exact, pattern_exact, opcodes_exact, names_exact, accesses_exact}
use Rattle.worked_examples.proofs.CellReads.{cells_exact}

-- ---- strings

one_string_found : Finds string IsOneString
one_string_found ts t rest e = let w = string_found ts t rest e in record { front = t ∷ []; split = w.0; is = (refl, w.1) }

one_string_read : Reads string IsOneString Anything
one_string_read front t rest h tokens b = subst (λ us. string (us ++ rest) ≡ fits t rest) (sym h.0) (string_read t rest h.1)

-- the first token is that of the whole
same_start : (strings front rest : List Lexeme) → IsChain IsOneString 38 strings front → first_start (front ++ rest) ≡ first_start front
same_start [] front rest h = absurd h
same_start (s ∷ strings) front rest h =
    let split : front ≡ s ∷ h.1 = h.2 ∙ ap (λ (us : List Lexeme). us ++ h.1) h.3.0 in
    subst (λ us. first_start (us ++ rest) ≡ first_start us) (sym split) refl

meant_some : {A : Type 0} (o : Option A) (place : ℕ) (more : List Lexeme) (x : A) (rest : List Lexeme) → meant o place more ≡ fits x rest → (o ≡ Some x) × (more ≡ rest)
meant_some None place more x rest e = absurd cc
meant_some (Some y) place more x rest e = let s = same_read y x more rest e in (ap (λ z. Some z) s.0, s.1)

pub record FoundQuoted {A : Type 0} (Says : A → List Lexeme → Type 0) (x : A) (ts rest : List Lexeme) : Type 0 where
  pub found : Found (IsQuoted Says) x ts rest
  pub start : first_start ts ≡ first_start found.front

module _ {A : Type 0} (item : List Lexeme → Read A) (Says : A → List Lexeme → Type 0) (exact : Exact item Says) where
  quoted_found : (ts : List Lexeme) (x : A) (rest : List Lexeme) → quoted item ts ≡ fits x rest → FoundQuoted Says x ts rest
  quoted_found ts x rest e =
      let b1 = bound (joined_text ts) (λ text more. meant (quoted_value item text) (first_start ts) more) x rest e in
      let b2 = bound (joined_by string 38 ts) (λ strings more. fits (text_within strings) more) b1.x b1.more b1.first in
      let f = joined_found string IsOneString 38 one_string_found ts b2.x b2.more b2.first in
      let s = same_read (text_within b2.x) b1.x b2.more b1.more b2.next in
      let m = meant_some (quoted_value item b1.x) (first_start ts) b1.more x rest b1.next in
      let w = value_found item Says exact (text_within b2.x) x (ap (quoted_value item) s.0 ∙ m.0) in
      let split : ts ≡ f.front ++ rest = f.split ∙ ap (λ (us : List Lexeme). f.front ++ us) (s.1 ∙ m.1) in
      record {
        found = record { front = f.front; split = split; is = (b2.x, f.is, w) };
        start = ap first_start split ∙ same_start b2.x f.front rest f.is;
      }

  quoted_read : (front : List Lexeme) (x : A) (rest : List Lexeme) → IsQuoted Says x front → AreTokens front → stands 38 rest ≡ false → quoted item (front ++ rest) ≡ fits x rest
  quoted_read front x rest h tokens none =
      let here : joined_by string 38 (front ++ rest) ≡ fits h.0 rest = joined_read string IsOneString Anything 38 one_string_read (λ s ts m. tt) front h.0 rest h.1 tokens none tt in
      let value : quoted_value item (text_within h.0) ≡ Some x = value_read item Says exact (text_within h.0) x h.2 in
      rw (here, value) refl

  -- a value that a text within quotes says, at the place where it begins

  module _ (made : ℕ → A → Value) where
    abbrev IsSaid : Value → List Lexeme → Type 0
    IsSaid v ts = (x : A) × IsQuoted Says x ts × (v ≡ made (first_start ts) x)

    abbrev said : List Lexeme → Read Value
    said ts = quoted item ts >>= λ x a. fits (made (first_start ts) x) a

    said_found : Finds said IsSaid
    said_found ts v rest e =
        let b = bound (quoted item ts) (λ x a. fits (made (first_start ts) x) a) v rest e in
        let f = quoted_found ts b.x b.more b.first in
        let s = same_read (made (first_start ts) b.x) v b.more rest b.next in
        record {
          front = f.found.front;
          split = f.found.split ∙ ap (λ (us : List Lexeme). f.found.front ++ us) s.1;
          is = (b.x, f.found.is, sym s.0 ∙ ap (λ (n : ℕ). made n b.x) f.start);
        }

    said_read : (front : List Lexeme) (v : Value) (rest : List Lexeme) → IsSaid v front → AreTokens front → stands 38 rest ≡ false → said (front ++ rest) ≡ fits v rest
    said_read front v rest h tokens none =
        let start : first_start (front ++ rest) ≡ first_start front = same_start h.1.0 front rest h.1.1 in
        let whole : said (front ++ rest) ≡ fits (made (first_start (front ++ rest)) h.0) rest = rw (quoted_read front h.0 rest h.1 tokens none) refl in
        whole ∙ ap (λ (n : ℕ). fits (made n h.0) rest) start ∙ ap (λ (u : Value). fits u rest) (sym h.2)

-- ---- values of other forms

truth_found : (name : Name) → Finds (truth name) (IsTruth name)
truth_found name ts v rest e =
    let b = bound (keyword truth_of ts) (λ said a. fits (cond said (port name) absent) a) v rest e in
    let k = keyword_found truth_of ts b.x b.more b.first in
    let s = same_read (cond b.x (port name) absent) v b.more rest b.next in
    record { front = k.token ∷ []; split = k.split ∙ ap (λ (us : List Lexeme). k.token ∷ us) s.1; is = (k.token, b.x, refl, k.is, sym s.0) }

truth_read : (name : Name) (front : List Lexeme) (v : Value) (rest : List Lexeme) → IsTruth name v front → truth name (front ++ rest) ≡ fits v rest
truth_read name front v rest h =
    let whole : truth name (h.0 ∷ rest) ≡ fits (cond h.1 (port name) absent) rest = rw h.3 refl in
    subst (λ us. truth name (us ++ rest) ≡ fits v rest) (sym h.2) (whole ∙ ap (λ (u : Value). fits u rest) (sym h.4))

count_found : Finds length_value IsCount
count_found ts v rest e =
    let b = bound (number ts) (λ n a. fits (count n) a) v rest e in
    let k = keyword_found whole_number ts b.x b.more b.first in
    let s = same_read (count b.x) v b.more rest b.next in
    record { front = k.token ∷ []; split = k.split ∙ ap (λ (us : List Lexeme). k.token ∷ us) s.1; is = (k.token, b.x, refl, k.is, sym s.0) }

count_read : (front : List Lexeme) (v : Value) (rest : List Lexeme) → IsCount v front → length_value (front ++ rest) ≡ fits v rest
count_read front v rest h =
    let whole : length_value (h.0 ∷ rest) ≡ fits (count h.1) rest = rw h.3 refl in
    subst (λ us. length_value (us ++ rest) ≡ fits v rest) (sym h.2) (whole ∙ ap (λ (u : Value). fits u rest) (sym h.4))

clock_found : (name : Name) → Finds (value_of TapScanClock name) (IsValue TapScanClock name)
clock_found name ts v rest e =
    let b = bound (brackets ts) (λ o a. fits (port name) a) v rest e in
    let f = brackets_found ts b.x b.more b.first in
    let s = same_read (port name) v b.more rest b.next in
    record { front = f.front; split = f.split ∙ ap (λ (us : List Lexeme). f.front ++ us) s.1; is = (f.is, sym s.0) }

clock_read : (name : Name) (front : List Lexeme) (v : Value) (rest : List Lexeme) → IsValue TapScanClock name v front → value_of TapScanClock name (front ++ rest) ≡ fits v rest
clock_read name front v rest h =
    let whole : value_of TapScanClock name (front ++ rest) ≡ fits (port name) rest = rw (brackets_read front rest h.0) refl in
    whole ∙ ap (λ (u : Value). fits u rest) (sym h.1)

-- ---- the value of an attribute

pub attribute_value_found : (a : Attribute) (name : Name) → Finds (value_of a name) (IsValue a name)
attribute_value_found TapScanIn name = truth_found name
attribute_value_found TapScanOut name = truth_found name
attribute_value_found TapScanMode name = truth_found name
attribute_value_found TapScanReset name = truth_found name
attribute_value_found TapScanClock name = clock_found name
attribute_value_found InstructionLength name = count_found
attribute_value_found BoundaryLength name = count_found
attribute_value_found InstructionOpcode name = said_found (rows opcode_row) (AreRows IsOpcodeRow) opcodes_exact opcodes_value
attribute_value_found InstructionCapture name = said_found pattern IsPattern pattern_exact (λ n p. pattern_value p)
attribute_value_found BoundaryRegister name = said_found (rows cell_row) (AreRows IsCellRow) cells_exact (λ n cells. cells_value cells)
attribute_value_found IdcodeRegister name = said_found (rows pattern) (AreRows IsPattern) patterns_exact (λ n ps. codes_value ps)
attribute_value_found UsercodeRegister name = said_found (rows pattern) (AreRows IsPattern) patterns_exact (λ n ps. codes_value ps)
attribute_value_found InstructionPrivate name = said_found (rows private_name) (AreRows IsPrivateName) names_exact (λ n names. names_value names)
attribute_value_found RegisterAccess name = said_found (rows access_row) (AreRows IsAccessRow) accesses_exact accesses_value

pub attribute_value_read : (a : Attribute) (name : Name) (front : List Lexeme) (v : Value) (rest : List Lexeme) → IsValue a name v front → AreTokens front → stands 38 rest ≡ false → value_of a name (front ++ rest) ≡ fits v rest
attribute_value_read TapScanIn name front v rest h tokens none = truth_read name front v rest h
attribute_value_read TapScanOut name front v rest h tokens none = truth_read name front v rest h
attribute_value_read TapScanMode name front v rest h tokens none = truth_read name front v rest h
attribute_value_read TapScanReset name front v rest h tokens none = truth_read name front v rest h
attribute_value_read TapScanClock name front v rest h tokens none = clock_read name front v rest h
attribute_value_read InstructionLength name front v rest h tokens none = count_read front v rest h
attribute_value_read BoundaryLength name front v rest h tokens none = count_read front v rest h
attribute_value_read InstructionOpcode name front v rest h tokens none = said_read (rows opcode_row) (AreRows IsOpcodeRow) opcodes_exact opcodes_value front v rest h tokens none
attribute_value_read InstructionCapture name front v rest h tokens none = said_read pattern IsPattern pattern_exact (λ n p. pattern_value p) front v rest h tokens none
attribute_value_read BoundaryRegister name front v rest h tokens none = said_read (rows cell_row) (AreRows IsCellRow) cells_exact (λ n cells. cells_value cells) front v rest h tokens none
attribute_value_read IdcodeRegister name front v rest h tokens none = said_read (rows pattern) (AreRows IsPattern) patterns_exact (λ n ps. codes_value ps) front v rest h tokens none
attribute_value_read UsercodeRegister name front v rest h tokens none = said_read (rows pattern) (AreRows IsPattern) patterns_exact (λ n ps. codes_value ps) front v rest h tokens none
attribute_value_read InstructionPrivate name front v rest h tokens none = said_read (rows private_name) (AreRows IsPrivateName) names_exact (λ n names. names_value names) front v rest h tokens none
attribute_value_read RegisterAccess name front v rest h tokens none = said_read (rows access_row) (AreRows IsAccessRow) accesses_exact accesses_value front v rest h tokens none

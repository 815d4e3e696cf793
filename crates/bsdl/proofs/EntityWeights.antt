-- What an entity gives weighs no more than its tokens.
use Rattle.std.proofs.Common.{◌≡◌, ◌≤◌, ℕ, zero, suc, ◌+◌, Bool, true, false, List, [], ◌∷◌, ◌++◌, length, drop, map, arith}
use Rattle.std.specs.Prelude.{Option, Some, None, codes, pred, ◌&&◌, ◌||◌, ◌==◌, not, if◌then◌else◌}
use Rattle.bsdl_device.specs.Device.{Name}
use Rattle.bsdl_device.specs.declared.PortMode.{PortMode}
use Rattle.bsdl_text.specs.Cutting.{Lexeme}
use Rattle.bsdl_text.specs.Marks.{closing, colon, comma, opening, semi}
use Rattle.bsdl_text.specs.Reading.{Read, fits, misfit, is_mark_of, joined_by, joined_text, keyword, separated, mark, number, quoted_value, refused_at, stands, word}
use Rattle.bsdl_values.specs.InstructionValues.{access_row, begins, opcode_row, pattern, private_name, rows}
use Rattle.bsdl_values.specs.CellRows.{cell_row}
use Rattle.bsdl_values.specs.declared.Attribute.{Attribute}
use Rattle.bsdl_values.specs.declared.Attribute.TheVariants.{TapScanIn, TapScanOut, TapScanMode, TapScanClock, TapScanReset, InstructionLength, BoundaryLength, InstructionOpcode, InstructionCapture, BoundaryRegister, IdcodeRegister, UsercodeRegister, InstructionPrivate, RegisterAccess}
use Rattle.bsdl_values.specs.declared.values.Language.{Language}
use Rattle.bsdl_values.specs.declared.values.Language.TheVariants.{Opcodes, Capture, Cells, Codes, PrivateNames, Accesses}
use Rattle.bsdl_entity.specs.Attributes.{attribute_of}
use Rattle.bsdl_entity.specs.Keywords.{is_rising, is_vector, mode_of, this_word}
use Rattle.bsdl_values.specs.Keywords.{truth_of}
use Rattle.bsdl_entity.specs.Scalars.{is_scalar}
use Rattle.bsdl_entity.specs.Ports.{Port, Range, concat, in_order, kind_of_port, ordered, port_group, ports, range, upto}
use Rattle.bsdl_values.specs.Values.{Value, absent, accesses_value, cells_value, codes_value, count, first_start, length_value, names_value, opcodes_value, pattern_value, port, quoted, text_in, truth, value_of}
use Rattle.bsdl_values.specs.Passing.{brackets, past_closing, past_semi}
use Rattle.bsdl_entity.specs.Entity.{File, Given, and_given, any_word, attribute, attribute_form, attribute_item, end_of_text, ending, file, generic, heading, is_tap, item, items, nothing, owner, owner_clause, with_value, value_behind}
use Rattle.bsdl.specs.Small.{total}
use Rattle.bsdl.proofs.Weights.{Weighs, bind, choose, dropped, heft, joined_text_weighs, joined_weighs, keyword_weighs, listed_weighs, meant_weighs, one_weighs, quoted_value_weighs, size, weaker}
use Rattle.bsdl.proofs.RowWeights.{access_weighs, access_weight, name_weighs, opcode_weighs, opcode_weight, rows_weigh}

-- ---- values

abbrev pub value_weight : Value → ℕ
value_weight (names_value ns) = total heft ns
value_weight (opcodes_value start rows) = total opcode_weight rows
value_weight (accesses_value start rows) = total access_weight rows
value_weight _ = 0

-- a text within quotes that weighs no more than its tokens
quoted_weighs : {A : Type 0} (w : A → ℕ) (each : List Lexeme → Read A) → ((text : List ℕ) (x : A) → quoted_value each text ≡ Some x → w x ≤ length text) → (ts : List Lexeme) → Weighs w (size ts) (quoted each ts)
quoted_weighs w each less ts =
    bind length w (size ts) (size ts) (joined_text ts) _ (joined_text_weighs ts)
    (λ text rest behind. meant_weighs w (size ts) (quoted_value each text) (first_start ts) rest (λ x is. omega (arith, behind, less text x is)))

truth_weighs : (name : Name) (ts : List Lexeme) → Weighs value_weight (size ts) (truth name ts)
truth_weighs name ts =
    bind (λ _. 0) value_weight (size ts) (size ts) (keyword truth_of ts) _ (keyword_weighs truth_of ts) (λ b a less. either b a less)
  where
    either : (b : Bool) (a : List Lexeme) → 0 + size a ≤ size ts → value_weight (if b then port name else absent) + size a ≤ size ts
    either true a less = omega (arith, less)
    either false a less = omega (arith, less)

length_weighs : (ts : List Lexeme) → Weighs value_weight (size ts) (length_value ts)
length_weighs ts = bind (λ _. 0) value_weight (size ts) (size ts) (number ts) _ (keyword_weighs _ ts) (λ n a less. omega (arith, less))

text_weighs : (l : Language) (ts : List Lexeme) → Weighs value_weight (size ts) (text_in l ts)
text_weighs Opcodes ts =
    bind (total opcode_weight) value_weight (size ts) (size ts) (quoted (rows opcode_row) ts) _
    (quoted_weighs (total opcode_weight) (rows opcode_row) (quoted_value_weighs (total opcode_weight) (rows opcode_row) (rows_weigh opcode_weight opcode_row opcode_weighs)) ts)
    (λ v a less. omega (arith, less))
text_weighs Capture ts =
    bind (λ _. 0) value_weight (size ts) (size ts) (quoted pattern ts) _ (quoted_weighs (λ _. 0) pattern (λ text x is. omega arith) ts) (λ v a less. omega (arith, less))
text_weighs Cells ts =
    bind (λ _. 0) value_weight (size ts) (size ts) (quoted (rows cell_row) ts) _ (quoted_weighs (λ _. 0) (rows cell_row) (λ text x is. omega arith) ts) (λ v a less. omega (arith, less))
text_weighs Codes ts =
    bind (λ _. 0) value_weight (size ts) (size ts) (quoted (rows pattern) ts) _ (quoted_weighs (λ _. 0) (rows pattern) (λ text x is. omega arith) ts) (λ v a less. omega (arith, less))
text_weighs PrivateNames ts =
    bind (total heft) value_weight (size ts) (size ts) (quoted (rows private_name) ts) _
    (quoted_weighs (total heft) (rows private_name) (quoted_value_weighs (total heft) (rows private_name) (rows_weigh heft private_name name_weighs)) ts)
    (λ v a less. omega (arith, less))
text_weighs Accesses ts =
    bind (total access_weight) value_weight (size ts) (size ts) (quoted (rows access_row) ts) _
    (quoted_weighs (total access_weight) (rows access_row) (quoted_value_weighs (total access_weight) (rows access_row) (rows_weigh access_weight access_row access_weighs)) ts)
    (λ v a less. omega (arith, less))

-- ---- what is passed over

closing_weighs : (n : ℕ) (ts : List Lexeme) → Weighs (λ _. 0) (size ts) (past_closing n ts)
unfolding past_closing
closing_weighs n [] = tt
closing_weighs n (t ∷ ts) =
    choose (λ _. 0) (heft t.text + size ts) (is_mark_of closing t) _ _
    (choose (λ _. 0) (heft t.text + size ts) (n == 0) (fits true ts) _ (omega arith) (weaker (λ _. 0) (size ts) (heft t.text + size ts) (past_closing (pred n) ts) (omega arith) (closing_weighs (pred n) ts)))
    (choose (λ _. 0) (heft t.text + size ts) (is_mark_of opening t) _ _
    (weaker (λ _. 0) (size ts) (heft t.text + size ts) (past_closing (suc n) ts) (omega arith) (closing_weighs (suc n) ts))
    (weaker (λ _. 0) (size ts) (heft t.text + size ts) (past_closing n ts) (omega arith) (closing_weighs n ts)))

brackets_weigh : (ts : List Lexeme) → Weighs (λ _. 0) (size ts) (brackets ts)
brackets_weigh ts =
    bind (λ t. heft t.text) (λ _. 0) (size ts) (size ts) (mark opening ts) _ (one_weighs _ ts)
    (λ m a less. weaker (λ _. 0) (size a) (size ts) (past_closing 0 a) (omega (arith, less)) (closing_weighs 0 a))

semi_weighs : (ts : List Lexeme) → Weighs (λ _. 0) (size ts) (past_semi ts)
unfolding past_semi
semi_weighs [] = tt
semi_weighs (t ∷ ts) =
    choose (λ _. 0) (heft t.text + size ts) (is_mark_of semi t) (fits true ts) _ (omega arith) (weaker (λ _. 0) (size ts) (heft t.text + size ts) (past_semi ts) (omega arith) (semi_weighs ts))

-- ---- attributes

value_weighs : (a : Attribute) (name : Name) (ts : List Lexeme) → Weighs value_weight (size ts) (value_of a name ts)
value_weighs TapScanIn name ts = truth_weighs name ts
value_weighs TapScanOut name ts = truth_weighs name ts
value_weighs TapScanMode name ts = truth_weighs name ts
value_weighs TapScanReset name ts = truth_weighs name ts
value_weighs TapScanClock name ts = bind (λ _. 0) value_weight (size ts) (size ts) (brackets ts) _ (brackets_weigh ts) (λ b a less. omega (arith, less))
value_weighs InstructionLength name ts = length_weighs ts
value_weighs BoundaryLength name ts = length_weighs ts
value_weighs InstructionOpcode name ts = text_weighs Opcodes ts
value_weighs InstructionCapture name ts = text_weighs Capture ts
value_weighs BoundaryRegister name ts = text_weighs Cells ts
value_weighs IdcodeRegister name ts = text_weighs Codes ts
value_weighs UsercodeRegister name ts = text_weighs Codes ts
value_weighs InstructionPrivate name ts = text_weighs PrivateNames ts
value_weighs RegisterAccess name ts = text_weighs Accesses ts

abbrev pub given_weight : Given → ℕ
given_weight g = value_weight g.value

abbrev some_weight : Option Given → ℕ
some_weight None = 0
some_weight (Some g) = given_weight g

said_weighs : (name : Lexeme) (a : Attribute) (v : Value) → some_weight (with_value (record { name = name; attribute = a; value = v }) v) ≤ value_weight v
said_weighs name a (port n) = omega arith
said_weighs name a absent = omega arith
said_weighs name a (count n) = omega arith
said_weighs name a (pattern_value p) = omega arith
said_weighs name a (codes_value ps) = omega arith
said_weighs name a (names_value ns) = omega arith
said_weighs name a (opcodes_value start rs) = omega arith
said_weighs name a (accesses_value start rs) = omega arith
said_weighs name a (cells_value rs) = omega arith

owner_weighs : (is_port : List ℕ → Bool) (a : Attribute) (ts : List Lexeme) → Weighs (λ _. 0) (size ts) (owner is_port a ts)
owner_weighs is_port a ts =
    bind (λ t. heft t.text) (λ _. 0) (size ts) (size ts) (word ts) _ (one_weighs _ ts)
    (λ n rest less. choose (λ _. 0) (size ts) (is_tap a && not (is_port n.text)) (refused_at ts) (fits n rest) tt (omega (arith, less)))

behind_weighs : (a : Attribute) (name : Name) (ts : List Lexeme) → Weighs value_weight (size ts) (value_behind a name ts)
behind_weighs a name ts =
    bind (λ _. 0) value_weight (size ts) (size ts) (this_word (codes "IS") ts) _ (keyword_weighs _ ts)
    (λ i f less. weaker value_weight (size f) (size ts) (value_of a name f) (omega (arith, less)) (value_weighs a name f))

clause_weighs : (is_port : List ℕ → Bool) (a : Attribute) (ts : List Lexeme) → Weighs (λ _. 0) (size ts) (owner_clause is_port a ts)
clause_weighs is_port a ts =
    bind (λ _. 0) (λ _. 0) (size ts) (size ts) (this_word (codes "OF") ts) _ (keyword_weighs _ ts)
    (λ k b less. bind (λ _. 0) (λ _. 0) (size b) (size ts) (owner is_port a b) _ (owner_weighs is_port a b)
    (λ n c less-2. bind (λ t. heft t.text) (λ _. 0) (size c) (size ts) (mark colon c) _ (one_weighs _ c)
    (λ m d less-3. bind (λ t. heft t.text) (λ _. 0) (size d) (size ts) (word d) _ (one_weighs _ d)
    (λ class e last. omega (arith, less, less-2, less-3, last)))))

form_weighs : (is_port : List ℕ → Bool) (name : Lexeme) (a : Attribute) (ts : List Lexeme) → Weighs some_weight (size ts) (attribute_form is_port name a ts)
form_weighs is_port name a ts =
    bind (λ _. 0) some_weight (size ts) (size ts) (owner_clause is_port a ts) _ (clause_weighs is_port a ts)
    (λ n e less. bind value_weight some_weight (size e) (size ts) (value_behind a _ e) _ (behind_weighs a _ e)
    (λ v g less-2. bind (λ t. heft t.text) some_weight (size g) (size ts) (mark semi g) _ (one_weighs _ g)
    (λ s h last. omega (arith, less, less-2, last, said_weighs name a v))))

nothing_weighs : (n : ℕ) (r : Read Bool) → Weighs (λ _. 0) n r → Weighs some_weight n (nothing r)
nothing_weighs n r here = bind (λ _. 0) some_weight n n r _ here (λ b rest less. omega (arith, less))

attribute_weighs : (is_port : List ℕ → Bool) (name : Lexeme) (o : Option Attribute) (ts : List Lexeme) → Weighs some_weight (size ts) (attribute is_port name o ts)
attribute_weighs is_port name None ts = nothing_weighs (size ts) (past_semi ts) (semi_weighs ts)
attribute_weighs is_port name (Some a) ts = form_weighs is_port name a ts

named_weighs : (is_port : List ℕ → Bool) (ts : List Lexeme) → Weighs some_weight (size ts) (attribute_item is_port ts)
named_weighs is_port ts =
    bind (λ _. 0) some_weight (size ts) (size ts) (this_word (codes "ATTRIBUTE") ts) _ (keyword_weighs _ ts)
    (λ k a less. bind (λ t. heft t.text) some_weight (size a) (size ts) (word a) _ (one_weighs _ a)
    (λ name b more. weaker some_weight (size b) (size ts) (attribute is_port name (attribute_of name.text) b) (omega (arith, less, more)) (attribute_weighs is_port name (attribute_of name.text) b)))

item_weighs : (is_port : List ℕ → Bool) (ts : List Lexeme) → Weighs some_weight (size ts) (item is_port ts)
item_weighs is_port ts =
    choose some_weight (size ts) (begins (codes "USE") ts || begins (codes "CONSTANT") ts) _ _
    (nothing_weighs (size ts) (past_semi (drop 1 ts)) (weaker (λ _. 0) (size (drop 1 ts)) (size ts) (past_semi (drop 1 ts)) (dropped ts) (semi_weighs (drop 1 ts))))
    (named_weighs is_port ts)

and_weighs : (g : Option Given) (gs : List Given) → total given_weight (and_given g gs) ≤ some_weight g + total given_weight gs
and_weighs None gs = omega arith
and_weighs (Some g) gs = omega arith

items_weigh : (is_port : List ℕ → Bool) (n : ℕ) (ts : List Lexeme) → Weighs (total given_weight) (size ts) (items is_port n ts)
unfolding items
items_weigh is_port zero ts = choose (total given_weight) (size ts) (begins (codes "END") ts) (fits [] ts) (refused_at ts) (omega arith) tt
items_weigh is_port (suc n) ts =
    choose (total given_weight) (size ts) (begins (codes "END") ts) (fits [] ts) _ (omega arith)
    (bind some_weight (total given_weight) (size ts) (size ts) (item is_port ts) _ (item_weighs is_port ts)
    (λ g rest less. bind (total given_weight) (total given_weight) (size rest) (size ts) (items is_port n rest) _ (items_weigh is_port n rest)
    (λ gs after last. omega (arith, less, last, and_weighs g gs))))

-- ---- ports

ordered_weighs : (o : Option Range) (n : ℕ) (ts rest : List Lexeme) → size rest ≤ n → Weighs (λ _. 0) n (ordered o ts rest)
ordered_weighs None n ts rest less = tt
ordered_weighs (Some r) n ts rest less = omega (arith, less)

upto_weighs : (first : ℕ) (rising : Bool) (ts : List Lexeme) → Weighs (λ _. 0) (size ts) (upto first rising ts)
upto_weighs first rising ts =
    bind (λ _. 0) (λ _. 0) (size ts) (size ts) (number ts) _ (keyword_weighs _ ts) (λ second rest less. ordered_weighs (in_order first second rising) (size ts) ts rest (omega (arith, less)))

range_weighs : (ts : List Lexeme) → Weighs (λ _. 0) (size ts) (range ts)
range_weighs ts =
    bind (λ t. heft t.text) (λ _. 0) (size ts) (size ts) (mark opening ts) _ (one_weighs _ ts)
    (λ m a less. bind (λ _. 0) (λ _. 0) (size a) (size ts) (number a) _ (keyword_weighs _ a)
    (λ first b less-2. bind (λ _. 0) (λ _. 0) (size b) (size ts) (keyword is_rising b) _ (keyword_weighs _ b)
    (λ rising c less-3. bind (λ _. 0) (λ _. 0) (size c) (size ts) (upto first rising c) _ (upto_weighs first rising c)
    (λ r d less-4. bind (λ t. heft t.text) (λ _. 0) (size d) (size ts) (mark closing d) _ (one_weighs _ d)
    (λ k e last. omega (arith, less, less-2, less-3, less-4, last))))))

kind_weighs : (ts : List Lexeme) → Weighs (λ _. 0) (size ts) (kind_of_port ts)
kind_weighs ts =
    bind (λ _. 0) (λ _. 0) (size ts) (size ts) (keyword is_vector ts) _ (keyword_weighs _ ts)
    (λ vector a less. choose (λ _. 0) (size ts) vector (range a) (fits None a) (weaker (λ _. 0) (size a) (size ts) (range a) (omega (arith, less)) (range_weighs a)) (omega (arith, less)))

abbrev pub port_weight : Port → ℕ
port_weight p = heft p.name.text

names_weigh : (names : List Lexeme) (mode : PortMode) (r : Option Range) → total port_weight (map (λ n. record { name = n; mode = mode; range = r }) names) ≡ total (λ t. heft t.text) names
names_weigh [] mode r = omega arith
names_weigh (n ∷ names) mode r = omega (arith, names_weigh names mode r)

group_weighs : (ts : List Lexeme) → Weighs (total port_weight) (size ts) (port_group ts)
group_weighs ts =
    bind (total (λ t. heft t.text)) (total port_weight) (size ts) (size ts) (joined_by word comma ts) _ (joined_weighs (λ t. heft t.text) word comma (λ us. one_weighs _ us) ts)
    (λ names a less. bind (λ t. heft t.text) (total port_weight) (size a) (size ts) (mark colon a) _ (one_weighs _ a)
    (λ m b less-2. bind (λ _. 0) (total port_weight) (size b) (size ts) (keyword mode_of b) _ (keyword_weighs _ b)
    (λ mode c less-3. bind (λ _. 0) (total port_weight) (size c) (size ts) (kind_of_port c) _ (kind_weighs c)
    (λ r d last. omega (arith, less, less-2, less-3, last, names_weigh names mode r)))))

pub total_append : {A : Type 0} (measure : A → ℕ) (xs ys : List A) → total measure (xs ++ ys) ≡ total measure xs + total measure ys
total_append measure [] ys = omega arith
total_append measure (x ∷ xs) ys = omega (arith, total_append measure xs ys)

groups_weigh : (groups : List (List Port)) → total port_weight (concat groups) ≡ total (total port_weight) groups
groups_weigh [] = omega arith
groups_weigh (g ∷ groups) = omega (arith, total_append port_weight g (concat groups), groups_weigh groups)

ports_weigh : (ts : List Lexeme) → Weighs (total port_weight) (size ts) (ports ts)
ports_weigh ts =
    bind (λ _. 0) (total port_weight) (size ts) (size ts) (this_word (codes "PORT") ts) _ (keyword_weighs _ ts)
    (λ p a less. bind (λ t. heft t.text) (total port_weight) (size a) (size ts) (mark opening a) _ (one_weighs _ a)
    (λ m b less-2. bind (total (total port_weight)) (total port_weight) (size b) (size ts) (separated port_group semi (stands closing) b) _ (listed_weighs (total port_weight) port_group semi (stands closing) group_weighs b)
    (λ groups c less-3. bind (λ t. heft t.text) (total port_weight) (size c) (size ts) (mark closing c) _ (one_weighs _ c)
    (λ k d less-4. bind (λ t. heft t.text) (total port_weight) (size d) (size ts) (mark semi d) _ (one_weighs _ d)
    (λ s e last. omega (arith, less, less-2, less-3, less-4, last, groups_weigh groups))))))

-- ---- a file

generic_weighs : (ts : List Lexeme) → Weighs (λ _. 0) (size ts) (generic ts)
generic_weighs ts =
    choose (λ _. 0) (size ts) (begins (codes "GENERIC") ts) _ (fits true ts)
    (bind (λ _. 0) (λ _. 0) (size (drop 1 ts)) (size ts) (brackets (drop 1 ts)) _ (brackets_weigh (drop 1 ts))
    (λ b a less. bind (λ t. heft t.text) (λ _. 0) (size a) (size ts) (mark semi a) _ (one_weighs _ a) (λ s c last. omega (arith, less, last, dropped ts))))
    (omega arith)

any_weighs : (ts : List Lexeme) → Weighs (λ _. 0) (size ts) (any_word ts)
any_weighs ts = by_read (word ts) (one_weighs _ ts)
  where
    by_read : (r : Read Lexeme) → Weighs (λ t. heft t.text) (size ts) r → Weighs (λ _. 0) (size ts) (elim r [
      | fits t rest ↦ fits true rest
      | misfit at ↦ fits true ts
    ])
    by_read (fits t rest) less = omega (arith, less)
    by_read (misfit at) less = omega arith

end_weighs : (ts : List Lexeme) → Weighs (λ _. 0) (size ts) (end_of_text ts)
end_weighs [] = omega arith
end_weighs (t ∷ ts) = tt

ending_weighs : (ts : List Lexeme) → Weighs (λ _. 0) (size ts) (ending ts)
ending_weighs ts =
    bind (λ _. 0) (λ _. 0) (size ts) (size ts) (this_word (codes "END") ts) _ (keyword_weighs _ ts)
    (λ k a less. bind (λ _. 0) (λ _. 0) (size a) (size ts) (any_word a) _ (any_weighs a)
    (λ v b less-2. bind (λ _. 0) (λ _. 0) (size b) (size ts) (any_word b) _ (any_weighs b)
    (λ w c less-3. bind (λ t. heft t.text) (λ _. 0) (size c) (size ts) (mark semi c) _ (one_weighs _ c)
    (λ s d last. weaker (λ _. 0) (size d) (size ts) (end_of_text d) (omega (arith, less, less-2, less-3, last)) (end_weighs d)))))

abbrev pub file_weight : File → ℕ
file_weight f = total port_weight f.ports + total given_weight f.given

heading_weighs : (ts : List Lexeme) → Weighs (λ _. 0) (size ts) (heading ts)
heading_weighs ts =
    bind (λ _. 0) (λ _. 0) (size ts) (size ts) (this_word (codes "ENTITY") ts) _ (keyword_weighs _ ts)
    (λ k a less. bind (λ t. heft t.text) (λ _. 0) (size a) (size ts) (word a) _ (one_weighs _ a)
    (λ name b less-2. bind (λ _. 0) (λ _. 0) (size b) (size ts) (this_word (codes "IS") b) _ (keyword_weighs _ b)
    (λ i c last. weaker (λ _. 0) (size c) (size ts) (generic c) (omega (arith, less, less-2, last)) (generic_weighs c))))

pub file_weighs : (ts : List Lexeme) → Weighs file_weight (size ts) (file ts)
file_weighs ts =
    bind (λ _. 0) file_weight (size ts) (size ts) (heading ts) _ (heading_weighs ts)
    (λ g d less. bind (total port_weight) file_weight (size d) (size ts) (ports d) _ (ports_weigh d)
    (λ ps e less-2. bind (total given_weight) file_weight (size e) (size ts) (items (is_scalar ps) (length e) e) _ (items_weigh (is_scalar ps) (length e) e)
    (λ gs f less-3. bind (λ _. 0) file_weight (size f) (size ts) (ending f) _ (ending_weighs f)
    (λ o h last. omega (arith, less, less-2, less-3, last)))))

-- Every device that a text says has no more than stands in the text.
use Rattle.std.proofs.Common.{◌≡◌, ◌≤◌, ℕ, ◌+◌, ◌-◌, Bool, true, false, List, [], ◌∷◌, length, map, refl, ap, subst, arith}
use Rattle.std.specs.Prelude.{Option, Some, None, Result, Ok, Err, filter, nat_lt}
use Rattle.std.specs.List.{AllByRecursion, flat_map, range_with_len}
use Rattle.std.proofs.lemmas.List.{length-append, length-map}
use Rattle.bsdl_device.specs.Device.{Device, Name, PortBit}
use Rattle.bsdl_device.specs.declared.Place.{Place}
use Rattle.bsdl_text.specs.Cutting.{Lexeme, bad_place, cuts_of, tokens}
use Rattle.bsdl_text.specs.Reading.{Read, fits, misfit}
use Rattle.bsdl_text.specs.Words.{upper}
use Rattle.bsdl_entity.specs.Ports.{Port, Range}
use Rattle.bsdl_values.specs.InstructionValues.{AccessRow, Instr, OpcodeRow}
use Rattle.bsdl_values.specs.declared.Attribute.{Attribute}
use Rattle.bsdl_values.specs.declared.Attribute.TheVariants.{InstructionLength, BoundaryLength, InstructionOpcode, InstructionCapture, BoundaryRegister, InstructionPrivate, RegisterAccess}
use Rattle.bsdl_values.specs.Values.{Value, absent, accesses_value, cells_value, codes_value, count, names_value, opcodes_value, pattern_value, port}
use Rattle.bsdl_entity.specs.Entity.{File, Given, file}
use Rattle.bsdl_description.specs.FirstValues.{as_accesses, as_cells, as_count, as_names, as_opcodes, as_pattern, is_attribute, value_given}
use Rattle.bsdl_description.specs.Describing.{Description, Refusal, described, taps_given, too_large, ◌>>?◌}
use Rattle.bsdl_opcodes.specs.Own.{is_own, own_accesses, with_own}
use Rattle.bsdl_text.specs.Words.{is_among}
use Rattle.bsdl_opcodes.specs.ResetOpcode.{opcode}
use Rattle.bsdl_opcodes.specs.Users.{users_of}
use Rattle.bsdl_opcodes.specs.Accesses.{access, accesses_of_row}
use Rattle.bsdl.specs.Boundary.{port_bits}
use Rattle.bsdl.specs.Built.{device}
use Rattle.bsdl.specs.Form.{read_form, text_form, text_limit, tokens_form}
use Rattle.bsdl.specs.Judging.{fault, file_says, device_or_refusal, text_says}
use Rattle.bsdl.specs.Small.{IsSmallDevice, access_size, opcode_size, total}
use Rattle.bsdl.proofs.LimitedLaws.{bits_len}
use Rattle.bsdl.proofs.OrderLaws.{all_of_both, needed, passed, same_ok}
use Rattle.bsdl.proofs.Weights.{Weighs, heft, size, tokens_weigh}
use Rattle.bsdl.proofs.RowWeights.{access_weight, instr_weight, opcode_weight, upper_len}
use Rattle.bsdl.proofs.EntityWeights.{file_weighs, file_weight, given_weight, port_weight, total_append, value_weight}

-- ---- what is given of an attribute

given_within : (a : Attribute) (gs : List Given) (v : Value) → value_given a gs ≡ Some v → value_weight v ≤ total given_weight gs
given_within a [] v e = absurd cc
given_within a (g ∷ gs) v e = by_test (is_attribute a g.attribute) refl (given_within a gs v)
  where
    by_test : (b : Bool) → is_attribute a g.attribute ≡ b → (value_given a gs ≡ Some v → value_weight v ≤ total given_weight gs) → value_weight v ≤ given_weight g + total given_weight gs
    by_test true is rest =
        let here : Some g.value ≡ Some v = rw is at e in
        let same : g.value ≡ v = cc in
        omega (arith, ap value_weight same)
    by_test false is rest =
        let there : value_given a gs ≡ Some v = rw is at e in
        omega (arith, rest there)

names_within : (o : Option Value) (n : ℕ) → ((v : Value) → o ≡ Some v → value_weight v ≤ n) → total heft (as_names o) ≤ n
names_within None n each = omega arith
names_within (Some (names_value ns)) n each = each (names_value ns) refl
names_within (Some (port p)) n each = omega arith
names_within (Some absent) n each = omega arith
names_within (Some (count k)) n each = omega arith
names_within (Some (pattern_value p)) n each = omega arith
names_within (Some (codes_value ps)) n each = omega arith
names_within (Some (opcodes_value start rs)) n each = omega arith
names_within (Some (accesses_value start rs)) n each = omega arith
names_within (Some (cells_value rs)) n each = omega arith

rows_within : (o : Option Value) (n : ℕ) → ((v : Value) → o ≡ Some v → value_weight v ≤ n) → total access_weight (as_accesses o).1 ≤ n
rows_within None n each = omega arith
rows_within (Some (names_value ns)) n each = omega arith
rows_within (Some (port p)) n each = omega arith
rows_within (Some absent) n each = omega arith
rows_within (Some (count k)) n each = omega arith
rows_within (Some (pattern_value p)) n each = omega arith
rows_within (Some (codes_value ps)) n each = omega arith
rows_within (Some (opcodes_value start rs)) n each = omega arith
rows_within (Some (accesses_value start rs)) n each = each (accesses_value start rs) refl
rows_within (Some (cells_value rs)) n each = omega arith

opcodes_within : (o : Option Value) (n : ℕ) (found : ℕ × List OpcodeRow) → ((v : Value) → o ≡ Some v → value_weight v ≤ n) → as_opcodes o ≡ Some found → total opcode_weight found.1 ≤ n
opcodes_within None n found each e = absurd cc
opcodes_within (Some (names_value ns)) n found each e = absurd cc
opcodes_within (Some (port p)) n found each e = absurd cc
opcodes_within (Some absent) n found each e = absurd cc
opcodes_within (Some (count k)) n found each e = absurd cc
opcodes_within (Some (pattern_value p)) n found each e = absurd cc
opcodes_within (Some (codes_value ps)) n found each e = absurd cc
opcodes_within (Some (opcodes_value start rs)) n found each e =
    let same : (start, rs) ≡ found = cc in
    let here : total opcode_weight rs ≤ n = each (opcodes_value start rs) refl in
    omega (arith, here, ap (λ (p : ℕ × List OpcodeRow). total opcode_weight p.1) same)
opcodes_within (Some (accesses_value start rs)) n found each e = absurd cc
opcodes_within (Some (cells_value rs)) n found each e = absurd cc

-- ---- own instructions

own_instrs : (test : Instr → Bool) (is : List Instr) → total instr_weight (filter test is) ≤ total instr_weight is
own_instrs test [] = omega arith
own_instrs test (i ∷ is) = by_test (test i) refl (own_instrs test is)
  where
    by_test : (b : Bool) → test i ≡ b → total instr_weight (filter test is) ≤ total instr_weight is → total instr_weight (filter test (i ∷ is)) ≤ instr_weight i + total instr_weight is
    by_test true e rest = rw e (omega (arith, rest))
    by_test false e rest = rw e (omega (arith, rest))

with_own_within : (row : AccessRow) (is : List Instr) (rows : List AccessRow) → total access_weight (with_own row is rows) ≤ total instr_weight is + total access_weight rows
with_own_within row [] rows = omega arith
with_own_within row (i ∷ is) rows = omega arith

own_within : (own : Instr → Bool) (rows : List AccessRow) → total access_weight (own_accesses own rows) ≤ total access_weight rows
own_within own [] = omega arith
own_within own (row ∷ rows) = omega (arith, with_own_within row (filter own row.instrs) (own_accesses own rows), own_instrs own row.instrs, own_within own rows)

-- ---- a description

record IsWithin (n : ℕ) (d : Description) : Type 0 where
  ports : total port_weight d.ports ≤ n
  names : total heft d.private_names ≤ n
  opcodes : total opcode_weight d.opcodes ≤ n
  accesses : total access_weight d.accesses ≤ n

described_within : (n : ℕ) (f : File) → file_weight f ≤ n → (d : Description) → described f ≡ Ok d → IsWithin n d
described_within n f less d e =
    passed (IsWithin n) (taps_given f.given) _ (λ taps are.
    needed (IsWithin n) InstructionLength (as_count (value_given InstructionLength f.given)) _ (λ len is-1.
    needed (IsWithin n) BoundaryLength (as_count (value_given BoundaryLength f.given)) _ (λ cells_len is-2.
    needed (IsWithin n) InstructionOpcode (as_opcodes (value_given InstructionOpcode f.given)) _ (λ opcodes is-3.
    needed (IsWithin n) InstructionCapture (as_pattern (value_given InstructionCapture f.given)) _ (λ capture is-4.
    needed (IsWithin n) BoundaryRegister (as_cells (value_given BoundaryRegister f.given)) _ (λ cells is-5 v last.
    subst (IsWithin n) (same_ok _ v last) (record {
      ports = omega (arith, less);
      names = names_within (value_given InstructionPrivate f.given) n (each InstructionPrivate);
      opcodes = opcodes_within (value_given InstructionOpcode f.given) n opcodes (each InstructionOpcode) is-3;
      accesses = accesses_are opcodes.1;
    }))))))) d e
  where
    each : (a : Attribute) (v : Value) → value_given a f.given ≡ Some v → value_weight v ≤ n
    each a v is = omega (arith, less, given_within a f.given v is)

    accesses_are : (rows : List OpcodeRow) → total access_weight (own_accesses (is_own rows (as_names (value_given InstructionPrivate f.given))) (as_accesses (value_given RegisterAccess f.given)).1) ≤ n
    accesses_are rows =
        omega (arith, own_within (is_own rows (as_names (value_given InstructionPrivate f.given))) (as_accesses (value_given RegisterAccess f.given)).1, rows_within (value_given RegisterAccess f.given) n (each RegisterAccess))

-- ---- a device

counted : {A : Type 0} (xs : List (List A)) → length xs ≤ total heft xs
counted [] = omega arith
counted (x ∷ xs) = omega (arith, counted xs)

lengths : {A : Type 0} (xs : List (List A)) → total length xs ≤ total heft xs
lengths [] = omega arith
lengths (x ∷ xs) = omega (arith, lengths xs)

patterns_within : (rows : List OpcodeRow) → total (λ o. length o.patterns) (map opcode rows) ≤ total opcode_weight rows
patterns_within [] = omega arith
patterns_within (r ∷ rows) = omega (arith, patterns_within rows, counted r.patterns)

sizes_within : (rows : List OpcodeRow) → total opcode_size (map opcode rows) ≤ total opcode_weight rows
sizes_within [] = omega arith
sizes_within (r ∷ rows) = omega (arith, sizes_within rows, lengths r.patterns, upper_len r.name.text)

instrs_counted : (is : List Instr) → length is ≤ total instr_weight is
instrs_counted [] = omega arith
instrs_counted (i ∷ is) = omega (arith, instrs_counted is)

accesses_counted : (us : List (Name × ℕ)) (rows : List AccessRow) → length (flat_map (accesses_of_row us) rows) ≤ total access_weight rows
accesses_counted us [] = omega arith
accesses_counted us (r ∷ rows) =
    let here : length (accesses_of_row us r) ≡ length r.instrs = length-map r.instrs _ in
    omega (arith, accesses_counted us rows, length-append (accesses_of_row us r) (flat_map (accesses_of_row us) rows), here, instrs_counted r.instrs)

access_within : (p : Place) (is_own : Bool) (i : Instr) → access_size (access p is_own i) ≤ instr_weight i
access_within p is_own i = by_given is_own i.captures refl
  where
    by_given : (b : Bool) (o : Option (List (Option Bool))) → i.captures ≡ o → access_size (access p b i) ≤ instr_weight i
    by_given false o is = omega (arith, upper_len i.name.text)
    by_given true None is = rw is (omega (arith, upper_len i.name.text))
    by_given true (Some c) is = rw is (omega (arith, upper_len i.name.text, bits_len c))

row_within : (p : Place) (is_own : Bool) (is : List Instr) → total access_size (map (access p is_own) is) ≤ total instr_weight is
row_within p is_own [] = omega arith
row_within p is_own (i ∷ is) = omega (arith, access_within p is_own i, row_within p is_own is)

accesses_within : (us : List (Name × ℕ)) (rows : List AccessRow) → total access_size (flat_map (accesses_of_row us) rows) ≤ total access_weight rows
accesses_within us [] = omega arith
accesses_within us (r ∷ rows) =
    let here : total access_size (accesses_of_row us r) ≤ total instr_weight r.instrs = row_within _ _ r.instrs in
    omega (arith, accesses_within us rows, total_append access_size (accesses_of_row us r) (flat_map (accesses_of_row us) rows), here)

-- all bits of a port have its name
bits_named : (n : ℕ) (f : ℕ → PortBit) → ((i : ℕ) → length (f i).name ≤ n) → (is : List ℕ) → AllByRecursion (λ p. length p.name ≤ n) (map f is)
bits_named n f each [] = tt
bits_named n f each (i ∷ is) = (each i, bits_named n f each is)

port_named : (n : ℕ) (taps : List Name) (p : Port) → port_weight p ≤ n → AllByRecursion (λ b. length b.name ≤ n) (port_bits taps p)
port_named n taps p less = by_range p.range refl
  where
    short : length (upper p.name.text) ≤ n
    short = omega (arith, upper_len p.name.text, less)

    by_range : (r : Option Range) → p.range ≡ r → AllByRecursion (λ b. length b.name ≤ n) (port_bits taps p)
    by_range None is = rw is (short, tt)
    by_range (Some r) is =
        let name = upper p.name.text in
        rw is
        (bits_named n (λ i. record { name = name; index = Some i; mode = p.mode; is_tap = is_among taps name }) (λ i. short) (range_with_len r.low (r.high - r.low + 1)))

ports_named : (n : ℕ) (taps : List Name) (ps : List Port) → total port_weight ps ≤ n → AllByRecursion (λ b. length b.name ≤ n) (flat_map (port_bits taps) ps)
ports_named n taps [] less = tt
ports_named n taps (p ∷ ps) less =
    all_of_both (λ b. length b.name ≤ n) (port_bits taps p) (flat_map (port_bits taps) ps) (port_named n taps p (omega (arith, less))) (ports_named n taps ps (omega (arith, less)))

device_small : (n : ℕ) (d : Description) → IsWithin n d → IsSmallDevice n (device d)
device_small n d within = record {
  port_names = ports_named n d.taps d.ports within.ports;
  private_names = omega (arith, counted d.private_names, within.names);
  private_bytes = omega (arith, lengths d.private_names, within.names);
  patterns = omega (arith, patterns_within d.opcodes, within.opcodes);
  opcode_sizes = omega (arith, sizes_within d.opcodes, within.opcodes);
  accesses = omega (arith, accesses_counted (users_of d.accesses) d.accesses, within.accesses);
  access_sizes = omega (arith, accesses_within (users_of d.accesses) d.accesses, within.accesses);
}

-- ---- the whole

judged_small : (n : ℕ) (d : Description) (v : Device) (o : Option Refusal) → IsWithin n d → device_or_refusal o d ≡ Ok v → IsSmallDevice n v
judged_small n d v (Some r) within e = absurd cc
judged_small n d v None within e = subst (IsSmallDevice n) (same_ok (device d) v e) (device_small n d within)

described_small : (n : ℕ) (x : Result Description Refusal) (v : Device) → ((d : Description) → x ≡ Ok d → IsWithin n d) → (x >>? λ d. device_or_refusal (fault d) d) ≡ Ok v → IsSmallDevice n v
described_small n (Err r) v each e = absurd cc
described_small n (Ok d) v each e = judged_small n d v (fault d) (each d refl) e

spelt_small : (n : ℕ) (x : Result File Refusal) (v : Device) → ((f : File) → x ≡ Ok f → file_weight f ≤ n) → (x >>? file_says) ≡ Ok v → IsSmallDevice n v
spelt_small n (Err r) v each e = absurd cc
spelt_small n (Ok f) v each e = described_small n (described f) v (described_within n f (each f refl)) e

read_within : (n m : ℕ) (r : Read File) (f : File) → Weighs file_weight n r → read_form m r ≡ Ok f → file_weight f ≤ n
read_within n m (misfit at) f weighs e = absurd cc
read_within n m (fits g rest) f weighs e = omega (arith, weighs, ap file_weight (same_ok g f e))

tokens_within : (m : ℕ) (bad : Option ℕ) (ts : List Lexeme) (f : File) → tokens_form m bad ts ≡ Ok f → file_weight f ≤ size ts
tokens_within m (Some place) ts f e = absurd cc
tokens_within m None ts f e = read_within (size ts) m (file ts) f (file_weighs ts) e

text_within : (text : List ℕ) (f : File) → text_form text ≡ Ok f → file_weight f ≤ length text
text_within text f e = by_test (nat_lt text_limit (length text)) refl
  where
    by_test : (b : Bool) → nat_lt text_limit (length text) ≡ b → file_weight f ≤ length text
    by_test true is =
        let refused : Err too_large ≡ Ok f = rw is at e in
        absurd cc
    by_test false is =
        let told : tokens_form (length text) (bad_place (cuts_of false text)) (tokens (cuts_of false text)) ≡ Ok f = rw is at e in
        omega (arith, tokens_within (length text) (bad_place (cuts_of false text)) (tokens (cuts_of false text)) f told, tokens_weigh false text)

pub every_device : (text : List ℕ) (v : Device) → text_says text ≡ Ok v → IsSmallDevice (length text) v
every_device text v e = spelt_small (length text) (text_form text) v (text_within text) e

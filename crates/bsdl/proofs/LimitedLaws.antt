-- Every device that a text says keeps the limits.
use Rattle.std.proofs.Common.{◌≡◌, ◌<◌, ◌≤◌, ℕ, zero, suc, ◌+◌, ◌-◌, true, false, List, [], ◌∷◌, length, map, refl, sym, ◌∙◌, arith}
use Rattle.jt_limits.specs.Limits.{limits, subscript_limit}
use Rattle.bsdl_device.specs.Opcodes.{x_as_0}
use Rattle.std.specs.Prelude.{Option, Some, None, Result, Ok, Err, option_map, unwrap_or, nat_le, slice_get}
use Rattle.std.specs.List.{AllByRecursion, flat_map, list_all, range_with_len, sum_by}
use Rattle.std.proofs.lemmas.Bool.Decides.{nat_tests}
use Rattle.std.proofs.lemmas.List.{length-append, length-map}
use Rattle.std.proofs.lemmas.List.FromFn.{length-map-range_with_len}
use Rattle.std.proofs.lemmas.List.Sums.{sum_by-cons}
use Rattle.bsdl_device.specs.Device.{Device, Name, Pattern, PortBit}
use Rattle.bsdl_text.specs.Words.{upper}
use Rattle.bsdl_values.specs.InstructionValues.{OpcodeRow}
use Rattle.bsdl_text.specs.Words.{is_among}
use Rattle.bsdl_entity.specs.Ports.{Port, Range}
use Rattle.bsdl_entity.specs.Entity.{File}
use Rattle.bsdl_description.specs.Describing.{Description, Refusal, bad_length, described, ◌>>?◌}
use Rattle.bsdl_rules.specs.Fits.{rows_numbered}
use Rattle.bsdl_rules.specs.Lengths.{codes_fit, has_bits, has_len, instructions_fit, lengths_fit}
use Rattle.bsdl_rules.specs.Limits.{cells_within, instructions_within, ports_within, users_within}
use Rattle.bsdl_entity.specs.PortBits.{highest, width}
use Rattle.bsdl_opcodes.specs.Users.{users_of}
use Rattle.bsdl_opcodes.specs.ResetOpcode.{opcode}
use Rattle.bsdl_rules.specs.Twice.{given_again}
use Rattle.bsdl.specs.Boundary.{cell, port_bits}
use Rattle.bsdl.specs.Built.{device}
use Rattle.bsdl.specs.Form.{text_form}
use Rattle.bsdl.specs.Judging.{fault, file_says, device_or_refusal, text_says, twice_in, unless}
use Rattle.bsdl.specs.Limited.{HasLengthIfGiven, HasPatternsOf, IsIndexWithin, IsLimitedDevice}
use Rattle.bsdl.proofs.OnceLaws.{both, each_cell_once, holds, limits_kept, neither}
use Rattle.bsdl.proofs.OrderLaws.{AreOrdered, IsOrdered, all_of_both, described_ordered, text_ordered}

at_most : (n m : ℕ) → nat_le n m ≡ true → n ≤ m
at_most n m h = grind (arith, nat_tests)

-- ---- ports

pub port_len : (taps : List Name) (p : Port) → length (port_bits taps p) ≡ width p.range
port_len taps p = by_range p.range refl
  where
    by_range : (r : Option Range) → p.range ≡ r → length (port_bits taps p) ≡ width p.range
    by_range None is = rw is refl
    by_range (Some r) is = rw is (length-map-range_with_len _ r.low (r.high - r.low + 1))

ports_len : (taps : List Name) (ps : List Port) → length (flat_map (port_bits taps) ps) ≡ sum_by (λ p. width p.range) ps
ports_len taps [] = refl
ports_len taps (p ∷ ps) =
    let rest = ports_len taps ps in
    let here = port_len taps p in
    omega (arith, length-append (port_bits taps p) (flat_map (port_bits taps) ps), sum_by-cons (λ (q : Port). width q.range) p ps, here, rest)

indices_within : (f : ℕ → PortBit) → ((i : ℕ) → (f i).index ≡ Some i) → (a n : ℕ) → a + n ≤ suc subscript_limit → AllByRecursion (λ p. IsIndexWithin subscript_limit p.index) (map f (range_with_len a n))
indices_within f is a zero few = tt
indices_within f is a (suc n) few =
    let here : IsIndexWithin subscript_limit (f a).index = rw (is a) (omega (arith, few)) in
    (here, indices_within f is (a + 1) n (omega (arith, few)))

bits_within : (taps : List Name) (p : Port) → IsOrdered p.range → nat_le (highest p.range) subscript_limit ≡ true → AllByRecursion (λ b. IsIndexWithin subscript_limit b.index) (port_bits taps p)
bits_within taps p runs within = by_range p.range refl runs within
  where
    by_range : (r : Option Range) → p.range ≡ r → IsOrdered r → nat_le (highest r) subscript_limit ≡ true → AllByRecursion (λ b. IsIndexWithin subscript_limit b.index) (port_bits taps p)
    by_range None is up h = rw is (tt, tt)
    by_range (Some r) is up h =
        let most : r.high ≤ subscript_limit = at_most r.high subscript_limit h in
        let rises : r.low ≤ r.high = up in
        let name = upper p.name.text in
        rw is
        (indices_within (λ i. record { name = name; index = Some i; mode = p.mode; is_tap = is_among taps name }) (λ i. refl) r.low (r.high - r.low + 1) (omega (arith, most, rises)))

ports_indices : (taps : List Name) (ps : List Port) → AreOrdered ps → list_all (λ p. nat_le (highest p.range) subscript_limit) ps ≡ true
    → AllByRecursion (λ b. IsIndexWithin subscript_limit b.index) (flat_map (port_bits taps) ps)
ports_indices taps [] run within = tt
ports_indices taps (p ∷ ps) run within =
    let parts = both (nat_le (highest p.range) subscript_limit) (list_all (λ q. nat_le (highest q.range) subscript_limit) ps) within in
    all_of_both (λ b. IsIndexWithin subscript_limit b.index) (port_bits taps p) (flat_map (port_bits taps) ps) (bits_within taps p run.0 parts.0) (ports_indices taps ps run.1 parts.1)

-- ---- cells

pub cells_len : (d : Description) (a n : ℕ) → ((k : ℕ) → a ≤ k → k < a + n → length (rows_numbered d k) ≡ 1)
    → length (flat_map (λ k. map (cell d.ports) (rows_numbered d k)) (range_with_len a n)) ≡ n
cells_len d a zero once = refl
cells_len d a (suc n) once =
    let rest = cells_len d (a + 1) n (λ k low high. once k (omega arith) (omega arith)) in
    let here = once a (omega arith) (omega arith) in
    omega (arith, length-append (map (cell d.ports) (rows_numbered d a)) (flat_map (λ k. map (cell d.ports) (rows_numbered d k)) (range_with_len (a + 1) n)), length-map (rows_numbered d a) (cell d.ports), here, rest)

-- ---- patterns

pub bits_len : (p : Pattern) → length (x_as_0 p) ≡ length p
bits_len p = length-map p (λ b. unwrap_or b false)

pub is_long : (n : ℕ) (p : Pattern) → has_len n p ≡ true → length p ≡ n
is_long n p fits = grind (arith, nat_tests)

are_long : (n : ℕ) (ps : List Pattern) → list_all (has_len n) ps ≡ true → AllByRecursion (λ p. length p ≡ n) ps
are_long n [] fits = tt
are_long n (p ∷ ps) fits =
    let parts = both (has_len n p) (list_all (has_len n) ps) fits in
    (is_long n p parts.0, are_long n ps parts.1)

rows_long : (n : ℕ) (rows : List OpcodeRow) → list_all (λ r. list_all (has_len n) r.patterns) rows ≡ true → AllByRecursion (λ o. HasPatternsOf n o) (map opcode rows)
rows_long n [] fits = tt
rows_long n (r ∷ rows) fits =
    let parts = both (list_all (has_len n) r.patterns) (list_all (λ s. list_all (has_len n) s.patterns) rows) fits in
    (are_long n r.patterns parts.0, rows_long n rows parts.1)

code_long : (ps : List Pattern) → list_all (has_len 32) ps ≡ true → HasLengthIfGiven 32 (option_map x_as_0 (slice_get ps 0))
code_long [] fits = tt
code_long (p ∷ ps) fits = bits_len p ∙ is_long 32 p (both (has_len 32 p) (list_all (has_len 32) ps) fits).0

-- ---- registers of the device's own

users_long : (us : List (Name × ℕ)) → list_all (λ u. nat_le u.1 limits.user_bits) us ≡ true → AllByRecursion (λ n. n ≤ limits.user_bits) (map (λ u. u.1) us)
users_long [] fits = tt
users_long (u ∷ us) fits =
    let parts = both (nat_le u.1 limits.user_bits) (list_all (λ v. nat_le v.1 limits.user_bits) us) fits in
    let here : u.1 ≤ limits.user_bits = grind (arith, nat_tests, parts.0) in
    (here, users_long us parts.1)

-- ---- the whole

pub lengths : (d : Description) → fault d ≡ None → lengths_fit d ≡ true
lengths d e =
    let names = neither (twice_in d (given_again d)) _ e in
    holds (lengths_fit d) bad_length (neither (unless (lengths_fit d) bad_length) _ names.second).first

limited : (d : Description) → AreOrdered d.ports → fault d ≡ None → IsLimitedDevice (device d)
limited d run e =
    let one = both (instructions_within d) _ (limits_kept d e) in
    let two = both (cells_within d) _ one.1 in
    let three = both (ports_within d) (users_within d) two.1 in
    let instructions = both (nat_le d.instruction_length limits.instruction_bits) (nat_le (length d.opcodes) limits.instructions) one.0 in
    let cells = both (nat_le d.boundary_length limits.cells) _ two.0 in
    let ports = both (list_all (λ p. nat_le (highest p.range) subscript_limit) d.ports) (nat_le (sum_by (λ p. width p.range) d.ports) limits.port_bits) three.0 in
    let users = both (nat_le (length (users_of d.accesses)) limits.user_registers) _ three.1 in
    let fits = both (has_bits d) _ (lengths d e) in
    let bits = both (nat_le 2 d.instruction_length) (nat_le 1 d.boundary_length) fits.0 in
    let patterns = both (instructions_fit d) _ fits.1 in
    let codes = both (codes_fit d) _ patterns.1 in
    let written = both (list_all (λ r. list_all (has_len d.instruction_length) r.patterns) d.opcodes) (has_len d.instruction_length d.capture) patterns.0 in
    let code_fits = both (list_all (has_len 32) d.idcodes) (list_all (has_len 32) d.usercodes) codes.0 in
    let bit_count = at_most (sum_by (λ p. width p.range) d.ports) limits.port_bits ports.1 in
    let cell_count = at_most d.boundary_length limits.cells cells.0 in
    record {
      ports = omega (arith, ports_len d.taps d.ports, bit_count);
      indices = ports_indices d.taps d.ports run ports.0;
      two = at_most 2 d.instruction_length bits.0;
      instruction = at_most d.instruction_length limits.instruction_bits instructions.0;
      opcodes = omega (arith, length-map d.opcodes opcode, at_most (length d.opcodes) limits.instructions instructions.1);
      patterns = rows_long d.instruction_length d.opcodes written.0;
      capture = bits_len d.capture ∙ is_long d.instruction_length d.capture written.1;
      idcode = code_long d.idcodes code_fits.0;
      usercode = code_long d.usercodes code_fits.1;
      cells = omega (arith, cells_len d 0 d.boundary_length (λ k low high. each_cell_once d e k (omega arith)), cell_count);
      users = omega (arith, length-map (users_of d.accesses) (λ u. u.1), at_most (length (users_of d.accesses)) limits.user_registers users.0);
      user_lengths = users_long (users_of d.accesses) users.1;
    }

judged_limited : (d : Description) (v : Device) (o : Option Refusal) → AreOrdered d.ports → fault d ≡ o → device_or_refusal o d ≡ Ok v → IsLimitedDevice v
judged_limited d v (Some r) run is e = absurd cc
judged_limited d v None run is e =
    let same : device d ≡ v = cc in
    rw (sym same) (limited d run is)

described_limited : (x : Result Description Refusal) (v : Device) → ((d : Description) → x ≡ Ok d → AreOrdered d.ports) → (x >>? λ d. device_or_refusal (fault d) d) ≡ Ok v → IsLimitedDevice v
described_limited (Err r) v run e = absurd cc
described_limited (Ok d) v run e = judged_limited d v (fault d) (run d refl) refl e

spelt_limited : (x : Result File Refusal) (v : Device) → ((f : File) → x ≡ Ok f → AreOrdered f.ports) → (x >>? file_says) ≡ Ok v → IsLimitedDevice v
spelt_limited (Err r) v run e = absurd cc
spelt_limited (Ok f) v run e = described_limited (described f) v (described_ordered f (run f refl)) e

pub every_device : (text : List ℕ) (v : Device) → text_says text ≡ Ok v → IsLimitedDevice v
every_device text v e = spelt_limited (text_form text) v (text_ordered text) e

-- What a text says within some limits, and lies within others, it says within those too.
use Rattle.std.proofs.Common.{◌≡◌, ℕ, ◌≤◌, Bool, true, false, cond, ◌&&◌, nat_lt, List, [], ◌∷◌, length, Result, Ok, Err, refl, sym, ap, ◌∙◌, arith}
use Rattle.std.specs.Option.{option_or}
use Rattle.std.specs.Prelude.{Option, Some, None, nat_le, option_map}
use Rattle.std.specs.List.{list_all, sum_by}
use Rattle.std.proofs.lemmas.Bool.Decides.{nat_tests}
use Rattle.jt_limits.specs.declared.Limits.{Limits}
use Rattle.jt_limits.specs.Limits.{IsAtMost, subscript_limit}
use Rattle.bsdl_text.specs.Cutting.{tokens, bad_place, cuts_of}
use Rattle.bsdl_device.specs.Device.{Device, Name}
use Rattle.bsdl_entity.specs.Entity.{File}
use Rattle.bsdl_entity.specs.Ports.{Port}
use Rattle.bsdl_description.specs.Describing.{Description, Refusal, described, bad_capture, bad_cell, bad_id, bad_length, too_large, ◌>>?◌}
use Rattle.bsdl.specs.Built.{device}
use Rattle.bsdl_rules.specs.Fits.{unfit_cell}
use Rattle.bsdl_rules.specs.Lengths.{captures_one, ends_in_one, lengths_fit}
use Rattle.bsdl_rules.specs.Limits.{instructions_fit, cells_fit, port_bits_fit, users_fit, keeps}
use Rattle.bsdl_entity.specs.PortBits.{highest, width}
use Rattle.bsdl_opcodes.specs.Users.{users_of}
use Rattle.bsdl_rules.specs.Twice.{given_again}
use Rattle.bsdl.specs.Form.{tokens_form, text_form_within}
use Rattle.bsdl.specs.Judging.{twice_in, unless, fault_within, device_or_refusal, file_says_within, text_says_within}
use Rattle.bsdl.specs.Within.{SaidIsWithin, WhatLiesWithinIsSaid, LargerLimitsSayMore}
use Rattle.bsdl.proofs.OnceLaws.{both}

then_ok : {A B : Type 0} (r : Result A Refusal) (f : A → Result B Refusal) (y : B) → (r >>? f) ≡ Ok y → (x : A) × (r ≡ Ok x) × (f x ≡ Ok y)
then_ok (Err e) f y h = absurd cc
then_ok (Ok x) f y h = (x, refl, h)

-- ---- the size of a text

abbrev form : List ℕ → Result File Refusal
form text = tokens_form (length text) (bad_place (cuts_of false text)) (tokens (cuts_of false text))

sized : (large : Bool) (r : Result File Refusal) (f : File) → cond large (Err too_large) r ≡ Ok f → (large ≡ false) × (r ≡ Ok f)
sized true r f e = absurd cc
sized false r f e = (refl, e)

form_ok : (l : Limits) (text : List ℕ) (f : File) → text_form_within l text ≡ Ok f → (length text ≤ l.description_bytes) × (form text ≡ Ok f)
form_ok l text f e =
    let parts = sized (nat_lt l.description_bytes (length text)) (form text) f e in
    let small : nat_lt l.description_bytes (length text) ≡ false = parts.0 in
    (grind (arith, nat_tests, small), parts.1)

form_again : (l : Limits) (text : List ℕ) (f : File) → length text ≤ l.description_bytes → form text ≡ Ok f → text_form_within l text ≡ Ok f
form_again l text f few e =
    let small : nat_lt l.description_bytes (length text) ≡ false = grind (arith, nat_tests, few) in
    rw small e

-- ---- the judgement

abbrev judged : (a b c d : Option Refusal) (kept : Bool) → Option Refusal
judged a b c d kept = option_or a (option_or b (option_or c (option_or d (unless kept too_large))))

-- the limits are kept, and where others are kept in their place, nothing is refused
last : (a b c d : Option Refusal) (kept other : Bool) → judged a b c d kept ≡ None → (kept ≡ true) × (other ≡ true → judged a b c d other ≡ None)
last (Some r) b c d kept other e = absurd cc
last None (Some r) c d kept other e = absurd cc
last None None (Some r) d kept other e = absurd cc
last None None None (Some r) kept other e = absurd cc
last None None None None false other e = absurd cc
last None None None None true other e = (refl, λ is. ap (λ (k : Bool). unless k too_large) is)

by_last : (a b : Limits) (d : Description) → fault_within b d ≡ None → (keeps b d ≡ true) × (keeps a d ≡ true → fault_within a d ≡ None)
by_last a b d e =
    last (twice_in d (given_again d)) (unless (lengths_fit d) bad_length)
    (option_or (unless (captures_one d.capture) bad_capture) (unless (ends_in_one d.idcodes) bad_id)) (option_map bad_cell (unfit_cell d))
    (keeps b d) (keeps a d) e

answered : (o : Option Refusal) (d : Description) (v : Device) → device_or_refusal o d ≡ Ok v → (o ≡ None) × (device d ≡ v)
answered None d v e = (refl, cc)
answered (Some r) d v e = absurd cc

-- ---- a text that says a device

record Said (l : Limits) (text : List ℕ) (v : Device) : Type 0 where
  file : File
  description : Description
  bytes : length text ≤ l.description_bytes
  spelled : form text ≡ Ok file
  described_so : described file ≡ Ok description
  fine : fault_within l description ≡ None
  device_is : device description ≡ v

said : (l : Limits) (text : List ℕ) (v : Device) → text_says_within l text ≡ Ok v → Said l text v
said l text v e =
    let f = then_ok (text_form_within l text) (file_says_within l) v e in
    let sizes = form_ok l text f.0 f.1 in
    let d = then_ok (described f.0) (λ d. device_or_refusal (fault_within l d) d) v f.2 in
    let a = answered (fault_within l d.0) d.0 v d.2 in
    record { file = f.0; description = d.0; bytes = sizes.0; spelled = sizes.1; described_so = d.1; fine = a.0; device_is = a.1 }

says : (l : Limits) (text : List ℕ) (v : Device) → Said l text v → text_says_within l text ≡ Ok v
says l text v s =
    ap (λ (r : Result File Refusal). r >>? file_says_within l) (form_again l text s.file s.bytes s.spelled)
    ∙ ap (λ (r : Result Description Refusal). r >>? λ d. device_or_refusal (fault_within l d) d) s.described_so
    ∙ ap (λ (o : Option Refusal). device_or_refusal o s.description) s.fine ∙ ap (λ (w : Device). Ok w) s.device_is

describes : (l : Limits) (text : List ℕ) (v : Device) (s : Said l text v) → (text_form_within l text >>? described) ≡ Ok s.description
describes l text v s = ap (λ (r : Result File Refusal). r >>? described) (form_again l text s.file s.bytes s.spelled) ∙ s.described_so

abbrev read : Description → Result Description Refusal
read d = Ok d

same_description : (c d : Description) → read c ≡ read d → c ≡ d
same_description c d e = cc

pub said_within : SaidIsWithin
said_within l text v e =
    let s = said l text v e in
    (s.description, describes l text v s, record { bytes = s.bytes; numbers = (by_last l l s.description s.fine).0 })

moved : (a b : Limits) (text : List ℕ) (v : Device) (s : Said b text v) → length text ≤ a.description_bytes → keeps a s.description ≡ true → text_says_within a text ≡ Ok v
moved a b text v s bytes kept =
    says a text v (record {
      file = s.file;
      description = s.description;
      bytes = bytes;
      spelled = s.spelled;
      described_so = s.described_so;
      fine = (by_last a b s.description s.fine).1 kept;
      device_is = s.device_is;
    })

pub lies_within : WhatLiesWithinIsSaid
lies_within a b text v d e is within =
    let s = said b text v e in
    let same : s.description ≡ d = same_description s.description d (sym (describes b text v s) ∙ is) in
    moved a b text v s within.bytes (ap (keeps a) same ∙ within.numbers)

-- ---- larger limits

more : (n m k : ℕ) → m ≤ k → nat_le n m ≡ true → nat_le n k ≡ true
more n m k h e = grind (arith, nat_tests, e)

and_more : (a b c d : Bool) → (a ≡ true → c ≡ true) → (b ≡ true → d ≡ true) → (a && b) ≡ true → (c && d) ≡ true
and_more a b c d one two e =
    let parts = both a b e in
    let left : c ≡ true = one parts.0 in
    let right : d ≡ true = two parts.1 in
    rw (left, right) refl

all_more : (m k : ℕ) → m ≤ k → (us : List (Name × ℕ)) → list_all (λ u. nat_le u.1 m) us ≡ true → list_all (λ u. nat_le u.1 k) us ≡ true
all_more m k h [] e = refl
all_more m k h (u ∷ us) e =
    and_more (nat_le u.1 m) (list_all (λ w. nat_le w.1 m) us) (nat_le u.1 k) (list_all (λ w. nat_le w.1 k) us) (more u.1 m k h) (all_more m k h us) e

keeps_more : (a b : Limits) → IsAtMost a b → (d : Description) → keeps a d ≡ true → keeps b d ≡ true
keeps_more a b h d =
    let users = users_of d.accesses in
    let subscripts = list_all (λ (p : Port). nat_le (highest p.range) subscript_limit) d.ports in
    let bits = sum_by (λ (p : Port). width p.range) d.ports in
    and_more (instructions_fit a d) (cells_fit a d && (port_bits_fit a d.ports && users_fit a d))
    (instructions_fit b d) (cells_fit b d && (port_bits_fit b d.ports && users_fit b d))
    (and_more (nat_le d.instruction_length a.instruction_bits) (nat_le (length d.opcodes) a.instructions)
    (nat_le d.instruction_length b.instruction_bits) (nat_le (length d.opcodes) b.instructions)
    (more d.instruction_length a.instruction_bits b.instruction_bits h.instruction_bits) (more (length d.opcodes) a.instructions b.instructions h.instructions))
    (and_more (cells_fit a d) (port_bits_fit a d.ports && users_fit a d) (cells_fit b d) (port_bits_fit b d.ports && users_fit b d)
    (and_more (nat_le d.boundary_length a.cells) (list_all (λ r. nat_le r.number subscript_limit) d.cells)
    (nat_le d.boundary_length b.cells) (list_all (λ r. nat_le r.number subscript_limit) d.cells)
    (more d.boundary_length a.cells b.cells h.cells) (λ e. e))
    (and_more (port_bits_fit a d.ports) (users_fit a d) (port_bits_fit b d.ports) (users_fit b d)
    (and_more subscripts (nat_le bits a.port_bits) subscripts (nat_le bits b.port_bits) (λ e. e) (more bits a.port_bits b.port_bits h.port_bits))
    (and_more (nat_le (length users) a.user_registers) (list_all (λ u. nat_le u.1 a.user_bits) users)
    (nat_le (length users) b.user_registers) (list_all (λ u. nat_le u.1 b.user_bits) users)
    (more (length users) a.user_registers b.user_registers h.user_registers) (all_more a.user_bits b.user_bits h.user_bits users))))

pub larger_say_more : LargerLimitsSayMore
larger_say_more a b h text v e =
    let s = said a text v e in
    let bytes : length text ≤ b.description_bytes = omega (arith, s.bytes, h.description_bytes) in
    moved b a text v s bytes (keeps_more a b h s.description (by_last a a s.description s.fine).0)

-- The fields in force at a scan, by the statements in which they are written.
use Rattle.std.proofs.Common.{◌≡◌, ℕ, Bool, List, Option, Some, None, refl, sym, ap, ◌∙◌, ◌==◌, ◌&&◌, true, false, if◌then◌else◌, is_some, arith}
use Rattle.std.specs.Prelude.{slice_get, option_and_then, option_map, unwrap_or, is_none}
use Rattle.std.proofs.lemmas.Bool.Decides.{nat_tests}
use Rattle.svf_settings.specs.Held.{takes_over, is_like}
use Rattle.svf_words.specs.declared.keywords.Which.{Which}
use Rattle.svf_parse.specs.Judging.{Said}
use Rattle.svf_parse.specs.Judging as said
use Rattle.scan_vectors.specs.Fields.{Fields}
use Rattle.svf_settings.specs.LookBack.{field_or, in_force}
use Rattle.svf_programs.specs.Held.{field_at, len_in, part_in, parts_in, tdi_of, tdo_of, mask_of}
use Rattle.svf_programs.specs.declared.kept.KeptPart.{KeptPart}

-- where a kept part has its fields from
pub tdi_kept : (all : List Said) (part : Option KeptPart)
    → option_and_then (field_at tdi_of all) (option_map (λ p. p.tdi) part) ≡ option_and_then (λ f. f.tdi) (parts_in all part)
tdi_kept all None = refl
tdi_kept all (Some p) = refl

pub mask_kept : (all : List Said) (part : Option KeptPart)
    → option_and_then (field_at mask_of all) (option_map (λ p. p.mask) part) ≡ option_and_then (λ f. f.mask) (parts_in all part)
mask_kept all None = refl
mask_kept all (Some p) = refl

-- this place where the field is given there, and else the earlier one
abbrev chosen : ℕ → Option (List Bool) → Option ℕ → ℕ
chosen index given earlier = if is_some given then index else unwrap_or earlier index

given_or : (pick : Said → Option (List Bool)) (all : List Said) (s : Said) (index : ℕ) (given : Option (List Bool)) (earlier : Option ℕ)
    (field : Fields → Option (List Bool)) (n : ℕ) (previous : Option Fields)
    → slice_get all index ≡ Some s → pick s ≡ given
    → option_and_then (field_at pick all) earlier ≡ field_or field n None previous
    → field_at pick all (chosen index given earlier) ≡ field_or field n given previous
given_or pick all s index (Some bits) earlier field n previous at is e = ap (option_and_then pick) at ∙ is
given_or pick all s index None (Some i) field n previous at is e = e
given_or pick all s index None None field n previous at is e = ap (option_and_then pick) at ∙ is ∙ e

pub kept_in_force : (all : List Said) (which : Which) (len : ℕ) (tdi tdo mask smask : Option (List Bool)) (index : ℕ) (previous : Option Fields)
    (a c : ℕ) (tb mb : Option ℕ)
    → slice_get all index ≡ Some (said.scan which len tdi tdo mask smask)
    → a ≡ chosen index tdi tb → c ≡ chosen index mask mb
    → option_and_then (field_at tdi_of all) tb ≡ field_or (λ f. f.tdi) len None previous
    → option_and_then (field_at mask_of all) mb ≡ field_or (λ f. f.mask) len None previous
    → part_in all (record { at = index; tdi = a; mask = c }) ≡ in_force len tdi tdo mask previous
kept_in_force all which len tdi tdo mask smask index previous a c tb mb at ca cc' et em =
    let s : Said = said.scan which len tdi tdo mask smask in
    let tdi_is = ap (field_at tdi_of all) ca ∙ given_or tdi_of all s index tdi tb (λ f. f.tdi) len previous at refl et in
    let mask_is = ap (field_at mask_of all) cc' ∙ given_or mask_of all s index mask mb (λ f. f.mask) len previous at refl em in
    let zeroth : ℕ → Fields = λ n. record { len = n; tdi = field_at tdi_of all a; tdo = field_at tdo_of all index; mask = field_at mask_of all c } in
    let first : Option (List Bool) → Fields = λ x. record { len = len; tdi = x; tdo = field_at tdo_of all index; mask = field_at mask_of all c } in
    let second : Option (List Bool) → Fields = λ x. record { len = len; tdi = field_or (λ f. f.tdi) len tdi previous; tdo = x; mask = field_at mask_of all c } in
    let third : Option (List Bool) → Fields = λ x. record { len = len; tdi = field_or (λ f. f.tdi) len tdi previous; tdo = tdo; mask = x } in
    ap zeroth (ap len_in at) ∙ ap first tdi_is ∙ ap second (ap (option_and_then tdo_of) at) ∙ ap third mask_is

-- ---- a scan that is the same as the last one of its command

and_true : (b c : Bool) → (b && c) ≡ true → (b ≡ true) × (c ≡ true)
and_true true c e = (refl, e)
and_true false c e = absurd (cc)

none_is : (o : Option (List Bool)) → is_none o ≡ true → o ≡ None
none_is None e = refl
none_is (Some bits) e = absurd (cc)

same_length : (a b : ℕ) → (a == b) ≡ true → a ≡ b
same_length a b e = grind (arith, nat_tests)

equal_length : (a b : ℕ) → a ≡ b → (a == b) ≡ true
equal_length a b e = grind (arith, nat_tests)

kept_whole : (n : ℕ) (f : Fields) → f.len ≡ n → f.tdo ≡ None → f ≡ in_force n None None None (Some f)
kept_whole n f len none =
    let long : (f.len == n) ≡ true = equal_length f.len n len in
    let made : Bool → Fields = λ b. record { len = n; tdi = if b then f.tdi else None; tdo = None; mask = if b then f.mask else None } in
    ap (λ (m : ℕ). record { len = m; tdi = f.tdi; tdo = f.tdo; mask = f.mask }) len
    ∙ ap (λ (o : Option (List Bool)). record { len = n; tdi = f.tdi; tdo = o; mask = f.mask }) none ∙ ap made (sym long)

pub same_part : (n : ℕ) (tdi tdo mask : Option (List Bool)) (f : Fields) → takes_over n tdi tdo mask (Some f) ≡ true → f ≡ in_force n tdi tdo mask (Some f)
same_part n tdi tdo mask f e =
    let gives = and_true (is_none tdi && is_none tdo && is_none mask) (is_like n (Some f)) e in
    let first = and_true (is_none tdi && is_none tdo) (is_none mask) gives.0 in
    let each = and_true (is_none tdi) (is_none tdo) first.0 in
    let like = and_true (f.len == n) (is_none f.tdo) gives.1 in
    rw (none_is tdi each.0, none_is tdo each.1, none_is mask first.1)
    (kept_whole n f (same_length f.len n like.0) (none_is f.tdo like.1))

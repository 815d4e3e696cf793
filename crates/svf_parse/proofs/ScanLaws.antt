-- A scan that is not refused: none of its fields is.
use Rattle.std.proofs.Common.{◌≡◌, ℕ, Bool, true, false, cond, ◌&&◌, length, nat_le, Option, Some, None, Result, Ok, Err, refl, sym, ap, ◌∙◌}
use Rattle.std.specs.List.{list_all}
use Rattle.std.specs.Char.{is_ascii_digit}
use Rattle.std.specs.Str.Parse.{digits_value}
use Rattle.jt_limits.specs.Limits.{limits, digit_limit}
use Rattle.svf_words.specs.declared.fault.Code.{Code}
use Rattle.svf_words.specs.declared.fault.Code.TheVariants as code
use Rattle.svf_words.specs.Words.{Word}
use Rattle.svf_parse.specs.Fields.{Fields}
use Rattle.svf_words.specs.Numbers.{len_says, len_value}
use Rattle.svf_parse.specs.Judging.{checked, field_fault, scan_says, scan_says_within}

pub checked_ok : {A : Type 0} (o : Option Code) (r : Result A Code) (x : A) → checked o r ≡ Ok x → (o ≡ None) × (r ≡ Ok x)
checked_ok None r x e = (refl, e)
checked_ok (Some c) (Ok y) x e = absurd cc
checked_ok (Some c) (Err d) x e = absurd cc

len_by : (a b c : Bool) (v n : ℕ) → cond a (cond (b && c) (Ok v) (Err code.TooLarge)) (Err code.BadNumber) ≡ Ok n → cond (a && b) (Some v) None ≡ Some n
len_by true true true v n e = cc
len_by true true false v n e = absurd cc
len_by true false c v n e = absurd cc
len_by false b c v n e = absurd cc

pub len_fits : (w : Word) (n : ℕ) → len_says w ≡ Ok n → len_value w ≡ Some n
len_fits w n e = len_by (list_all is_ascii_digit w) (nat_le (length w) digit_limit) (nat_le (digits_value 10 w) limits.scan_bits) (digits_value 10 w) n e

pub record Sound (fs : Fields) (n : ℕ) : Type 0 where
  pub tdi : field_fault (Some n) fs.tdi ≡ None
  pub tdo : field_fault (Some n) fs.tdo ≡ None
  pub mask : field_fault (Some n) fs.mask ≡ None
  pub smask : field_fault (Some n) fs.smask ≡ None

pub scan_sound : (w : Word) (fs : Fields) (n : ℕ) → scan_says w fs ≡ Ok n → Sound fs n
unfolding scan_says_within
scan_sound w fs n e =
    let v = len_value w in
    let r3 = checked (field_fault v fs.smask) (len_says w) in
    let r2 = checked (field_fault v fs.mask) r3 in
    let r1 = checked (field_fault v fs.tdo) r2 in
    let a = checked_ok (field_fault v fs.tdi) r1 n e in
    let b = checked_ok (field_fault v fs.tdo) r2 n a.1 in
    let c = checked_ok (field_fault v fs.mask) r3 n b.1 in
    let d = checked_ok (field_fault v fs.smask) (len_says w) n c.1 in
    let is : v ≡ Some n = len_fits w n d.1 in
    record {
      tdi = sym (ap (λ (o : Option ℕ). field_fault o fs.tdi) is) ∙ a.0;
      tdo = sym (ap (λ (o : Option ℕ). field_fault o fs.tdo) is) ∙ b.0;
      mask = sym (ap (λ (o : Option ℕ). field_fault o fs.mask) is) ∙ c.0;
      smask = sym (ap (λ (o : Option ℕ). field_fault o fs.smask) is) ∙ d.0;
    }

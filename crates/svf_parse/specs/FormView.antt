-- What the parts of a form are, without where they lie in memory.
use Rattle.std.specs.Prelude.{ℕ, List, Option, option_map}
use Rattle.svf_parse.specs.declared.fields.Fields as declared
use Rattle.svf_parse.specs.declared.fields.Digits.{Digits}
use Rattle.svf_parse.specs.declared.fields.Digits.TheVariants as digits
use Rattle.svf_parse.specs.declared.run_test.RunTest as declared_run_test
use Rattle.svf_parse.specs.Fields.{Fields}
use Rattle.svf_parse.specs.RunTests.{RunTest}

-- the digits of fields, whether the text lends them or not
abbrev pub digits_of : Digits → List ℕ
digits_of (digits.Run w) = w.now
digits_of (digits.Joined v) = v.items

abbrev pub given : Option Digits → Option (List ℕ)
given o = option_map digits_of o

abbrev pub fields : declared.Fields → Fields
fields f = record { tdi = given f.tdi; tdo = given f.tdo; mask = given f.mask; smask = given f.smask }

abbrev pub run_test : declared_run_test.RunTest → RunTest
run_test r = record {
  run = r.run;
  count = option_map (λ c. (c.0.now, c.1)) r.count;
  min = option_map (λ w. w.now) r.min;
  max = option_map (λ w. w.now) r.max;
  end = r.end;
}

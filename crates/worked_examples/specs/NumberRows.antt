-- Worked numbers: words, and the numbers that they write.
use Rattle.std.specs.Prelude.{ℕ, Bool, true, false, List, [], codes}
use Rattle.svf_words.specs.Numbers.{Numeral}
use Rattle.svf_words.specs.Words.{Word}
use Rattle.svf_words.specs.Written.{Writes}

abbrev pub number : (whole fraction : List ℕ) (negative : Bool) (exponent : List ℕ) → Numeral
number whole fraction negative exponent =
    record { whole = whole; fraction = fraction; negative = negative; exponent = exponent }

-- the word writes no number
abbrev pub WritesNone : Word → Type 0
WritesNone w = (n : Numeral) → Writes n w → ⊥

pub record NumberRows : Type 0 where
  pub digits : Writes (number (codes "12") [] false []) (codes "12")
  pub point_at_the_end : Writes (number (codes "12") [] false []) (codes "12.")
  pub exponent : Writes (number (codes "1") (codes "5") false (codes "1")) (codes "1.5E1")
  pub point_in_front : Writes (number [] (codes "5") true (codes "3")) (codes ".5e-3")
  pub zeros : Writes (number (codes "1") (codes "00") true (codes "003")) (codes "1.00E-003")
  pub plus : Writes (number (codes "3") [] false (codes "6")) (codes "3E+6")
  pub no_digit : WritesNone (codes ".")
  pub no_mantissa : WritesNone (codes "E1")
  pub no_exponent : WritesNone (codes "1E")
  pub sign_alone : WritesNone (codes "1E+")
  pub two_points : WritesNone (codes "1.2.3")
  pub sign_in_front : WritesNone (codes "-1")
  pub empty : WritesNone []

-- How a number is written (Serial Vector Format, revision E): digits with at most one point among, before or behind
-- them, and then, if wanted, an `E`, a sign if wanted, and digits.
use Rattle.std.specs.Prelude.{◌≡◌, ◌↔◌, ℕ, ◌+◌, ◌<◌, Bool, true, false, List, [], ◌∷◌, ◌++◌, length, Some}
use Rattle.std.specs.List.{list_all}
use Rattle.std.specs.Char.{is_ascii_digit}
use Rattle.svf_words.specs.Numbers.{Numeral, numeral_of}
use Rattle.svf_words.specs.Words.{Word}

-- decimal digits and nothing else
abbrev pub AreDigits : List ℕ → Type 0
AreDigits ds = list_all is_ascii_digit ds ≡ true

-- The digits behind the point. Where there are none, the point may be left out.
pub data WritesFraction : (digits text : List ℕ) → Type 0 where
  no_point : WritesFraction [] []
  point : (ds : List ℕ) → AreDigits ds → WritesFraction ds (46 ∷ ds)

-- `E` or `e`
pub data IsMark : ℕ → Type 0 where
  large : IsMark 69
  small : IsMark 101

-- `-`, or else `+` or nothing
pub data WritesSign : (negative : Bool) → (text : List ℕ) → Type 0 where
  minus : WritesSign true (45 ∷ [])
  plus : WritesSign false (43 ∷ [])
  unsigned : WritesSign false []

-- The exponent, which may be left out; where it is written, it has at least one digit.
pub data WritesExponent : (negative : Bool) → (digits text : List ℕ) → Type 0 where
  no_exponent : WritesExponent false [] []
  exponent : (mark : ℕ) (negative : Bool) (sign ds : List ℕ) → IsMark mark → WritesSign negative sign
      → AreDigits ds → 0 < length ds → WritesExponent negative ds (mark ∷ sign ++ ds)

-- A word writes a number: its digits before the point, and how the two other parts are written. Before the exponent
-- there is a digit.
pub record Writes (n : Numeral) (w : Word) : Type 0 where
  pub fraction : List ℕ
  pub exponent : List ℕ
  pub whole_digits : AreDigits n.whole
  pub fraction_written : WritesFraction n.fraction fraction
  pub some_digit : 0 < length n.whole + length n.fraction
  pub exponent_written : WritesExponent n.negative n.exponent exponent
  pub parts : w ≡ n.whole ++ (fraction ++ exponent)

-- The law that a word is read as a number exactly where it writes that number.
abbrev pub ReadsWhatIsWritten : Type 0
ReadsWhatIsWritten = (n : Numeral) (w : Word) → Writes n w ↔ (numeral_of w ≡ Some n)

-- What a number of the code stands for.
use Rattle.std.specs.Prelude.{ℕ}
use Rattle.std.specs.Str.Parse.{digits_value}
use Rattle.bsdl_text.specs.declared.digits.Digits.{Digits}

-- the value of a number
abbrev pub value : Digits → ℕ
value n = digits_value 10 n.digits.now

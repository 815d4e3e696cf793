-- The lines compute.
use Rattle.std.proofs.Common.{refl, arith}
use Rattle.std.proofs.lemmas.Fmt.{decimal_digit}
use Rattle.board_description.specs.Rows.{DescribedRows}

pub described_rows : DescribedRows
described_rows = record {
  device_row = rw (decimal_digit 3 (omega arith)) refl;
  instructions = rw (decimal_digit 4 (omega arith)) refl;
  cells = rw (decimal_digit 0 (omega arith), decimal_digit 1 (omega arith), decimal_digit 2 (omega arith), decimal_digit 3 (omega arith)) refl;
  settings = rw (decimal_digit 0 (omega arith)) refl;
  no_usercode = refl;
  wiring = rw (decimal_digit 0 (omega arith), decimal_digit 4 (omega arith), decimal_digit 3 (omega arith), decimal_digit 2 (omega arith), decimal_digit 6 (omega arith), decimal_digit 8 (omega arith)) refl;
  itself = refl;
  by_an_x = refl;
  by_all_ones = refl;
  by_the_same = refl;
  in_part = refl;
  covered_line = rw (decimal_digit 4 (omega arith)) refl;
}

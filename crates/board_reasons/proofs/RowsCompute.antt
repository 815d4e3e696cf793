-- The worked reasons compute.
use Rattle.std.proofs.Common.{refl, arith}
use Rattle.std.proofs.lemmas.Fmt.{decimal_digit}
use Rattle.board_reasons.specs.Rows.{ReasonRows}

pub reason_rows : ReasonRows
reason_rows = record {
  instruction = rw (decimal_digit 1 (omega arith)) refl;
  bypass_first = refl;
  bypass_second = refl;
  bypass_no_row = refl;
  bypass_intest = refl;
  bypass_all_ones = refl;
  from_tdi = rw (decimal_digit 0 (omega arith)) refl;
  from_tdi_parts = rw (decimal_digit 0 (omega arith)) refl;
  identification = rw (decimal_digit 2 (omega arith)) refl;
  user = rw (decimal_digit 3 (omega arith)) refl;
  cell_with_net = rw (decimal_digit 2 (omega arith)) refl;
  cell_without_net = rw (decimal_digit 0 (omega arith), decimal_digit 1 (omega arith), decimal_digit 2 (omega arith), decimal_digit 3 (omega arith)) refl;
  cell_of_core = rw (decimal_digit 0 (omega arith)) refl;
  cell_of_update = rw (decimal_digit 0 (omega arith), decimal_digit 1 (omega arith), decimal_digit 3 (omega arith)) refl;
  header = refl;
  behind_header = refl;
  trailer = rw (decimal_digit 1 (omega arith)) refl;
  none_fails = refl;
}

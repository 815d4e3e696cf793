use Rattle.std.proofs.Common.{◌≡◌, ◌*◌, None, true, drop, map, position}
use Rattle.std.specs.List.{list_all, range_with_len}
use Rattle.std.specs.Char.{is_ascii_hexdigit}
use Rattle.jt_bits.specs.Hex.{is_bad, binary}
use Rattle.jt_bits.specs.Words.{word_of}
use Rattle.jt_bits.proofs.digits.lowest.Given as goal

abbrev pub invariant-loop-k : goal.invariant-loop-k
invariant-loop-k l = record {
  words : l.words.items ≡ map (word_of (binary l.digits)) (range_with_len 0 l._k);
  rest : binary l.rest ≡ drop (64 * l._k) (binary l.digits);
  clean : position is_bad l.rest ≡ None;
  solid : l.is_solid ≡ true → list_all is_ascii_hexdigit l.rest ≡ true;
}

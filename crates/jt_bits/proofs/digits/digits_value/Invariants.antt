use Rattle.std.proofs.Common.{◌≡◌, ◌^◌, ◌<◌, take}
use Rattle.jt_bits.specs.Hex.{binary}
use Rattle.jt_bits.specs.Words.{number}
use Rattle.jt_bits.proofs.digits.digits_value.Given as goal

abbrev pub invariant-loop-digit : goal.invariant-loop-digit
invariant-loop-digit l = record {
  worth : l.value ≡ number (binary (take l.digit-index l.digits));
  small : l.value < 16 ^ l.digit-index;
}

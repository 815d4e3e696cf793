-- The test is held against the definition at each of the 256 bytes, by computing.
use Rattle.std.proofs.Common.{nat_eq, bit_and, refl}
use Rattle.std.proofs.lemmas.Bool.{agree_below_at}
use Rattle.jt_board.specs.Idling.{is_idle_byte}
use Rattle.jt_board.proofs.board.idle.is_idle_byte.Goals as goal

pub returns : goal.returns
returns c = agree_below_at (λ byte. nat_eq (bit_and byte 250) 48) is_idle_byte 256 c.args.byte refl c.ranges.byte.fits

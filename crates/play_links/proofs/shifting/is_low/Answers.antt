-- The test is held against the definition at each of the 256 bytes, by computing.
use Rattle.std.proofs.Common.{nat_eq, bit_and, refl}
use Rattle.std.proofs.lemmas.Bool.{agree_below_at}
use Rattle.bitbang_protocol.specs.Protocol.{decode}
use Rattle.play_links.specs.Shifts.{writes_low}
use Rattle.play_links.proofs.shifting.is_low.Goals as goal

pub returns : goal.returns
returns c = agree_below_at (λ byte. nat_eq (bit_and byte 252) 48) (λ byte. writes_low (decode byte)) 256 c.args.byte refl c.ranges.byte.fits

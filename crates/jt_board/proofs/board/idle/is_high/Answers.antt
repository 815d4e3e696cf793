-- The test is held against the definition at each of the 256 bytes, by computing.
use Rattle.std.proofs.Common.{◌≡◌, ℕ, ◌<◌, Bool, true, false, ◌&&◌, not, nat_eq, bit_and, refl, sym, ◌∙◌}
use Rattle.std.proofs.lemmas.Bool.{agree_below_at}
use Rattle.bitbang_protocol.specs.Protocol.{decode}
use Rattle.jt_board.specs.Idling.{is_idle_byte, level}
use Rattle.jt_board.proofs.Idling.{level_any}
use Rattle.jt_board.proofs.board.idle.is_high.Goals as goal

high : ℕ → Bool
high byte = not (nat_eq (bit_and byte 4) 0)

table : (byte : ℕ) → byte < 256 → (is_idle_byte byte && high byte) ≡ (is_idle_byte byte && level (decode byte) false)
unfolding high
table byte lt = agree_below_at (λ byte. is_idle_byte byte && high byte) (λ byte. is_idle_byte byte && level (decode byte) false) 256 byte refl lt

alone : (x y z : Bool) → x ≡ true → (x && y) ≡ (x && z) → y ≡ z
alone true y z h e = e
alone false y z h e = cc

pub returns : goal.returns
unfolding high
returns c = λ was.
    alone (is_idle_byte c.args.byte) (high c.args.byte) (level (decode c.args.byte) false) c.requires (table c.args.byte c.ranges.byte.fits)
    ∙ sym (level_any (decode c.args.byte) was c.requires)

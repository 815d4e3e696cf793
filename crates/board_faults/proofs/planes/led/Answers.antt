use Rattle.std.proofs.Common.{Bool, ◌&&◌, sym, ap, ◌∙◌}
use Rattle.board_faults.specs.Together as together
use Rattle.jt_bits.specs.Packed.{has_bit}
use Rattle.board_faults.specs.Planes.{driven_at, led}
use Rattle.board_faults.specs.declared.kinds.Winner.{Winner}
use Rattle.board_faults.proofs.WordBits.{and_bit, every_bit, no_bit}
use Rattle.board_faults.proofs.planes.led.Goals as goal

pub returns-in-Zeros : goal.returns-in-Zeros
returns-in-Zeros c = λ k h. no_bit k ∙ ap (λ (w : Winner). led w (driven_at c.args.f k) (driven_at c.args.g k)) (sym c.in-Zeros.is)

pub returns-in-Ones : goal.returns-in-Ones
returns-in-Ones c = λ k h. every_bit k h ∙ ap (λ (w : Winner). led w (driven_at c.args.f k) (driven_at c.args.g k)) (sym c.in-Ones.is)

pub returns-in-First : goal.returns-in-First
returns-in-First c = λ k h.
    and_bit c.args.f.one c.invert.result k ∙ ap (λ (x : Bool). has_bit c.args.f.one k && x) (c.invert.ensures k h)
    ∙ ap (λ (w : Winner). led w (driven_at c.args.f k) (driven_at c.args.g k)) (sym c.in-First.is)

pub returns-in-Second : goal.returns-in-Second
returns-in-Second c = λ k h.
    and_bit c.args.g.one c.invert-in-Second.result k ∙ ap (λ (x : Bool). has_bit c.args.g.one k && x) (c.invert-in-Second.ensures k h)
    ∙ ap (λ (w : Winner). led w (driven_at c.args.f k) (driven_at c.args.g k)) (sym c.in-Second.is)

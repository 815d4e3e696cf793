use Rattle.std.proofs.Common.{Bool, ap, ap₂, ◌∙◌}
use Rattle.board_faults.specs.Together as together
use Rattle.jt_bits.specs.Packed.{has_bit}
use Rattle.board_faults.specs.Planes.{driven_at}
use Rattle.board_faults.specs.declared.together.Driven.{Driven}
use Rattle.board_faults.proofs.WordBits.{xor_bit}
use Rattle.board_faults.proofs.planes.differing.Goals as goal

pub returns : goal.returns
returns c = λ k h.
    xor_bit c.sees.result c.args.after k
    ∙ ap (λ (x : Bool). together.unlike x (has_bit c.args.after k))
    (c.sees.ensures k h ∙ ap together.sees (c.together.ensures k ∙ ap (λ (d : Driven). together.together d (driven_at c.args.made k)) (c.pulled.ensures k h)))

use Rattle.std.proofs.Common.{ℕ, ap, ◌∙◌}
use Rattle.std.proofs.lemmas.Bool.{eqb-true}
use Rattle.jt_bits.specs.Packed.{has_bit}
use Rattle.board_faults.proofs.WordBits.{no_bit}
use Rattle.fault_serving.proofs.planing.is_untold.Goals as goal

pub returns-then-changes-eq0 : goal.returns-then-changes-eq0
returns-then-changes-eq0 c = λ is k h. (
  ap (λ (n : ℕ). has_bit n k) c.if-changes-eq0.true ∙ no_bit k,
  ap (λ (n : ℕ). has_bit n k) (eqb-true c.args.changes.stays 0 is) ∙ no_bit k,
)

use Rattle.std.proofs.Common.{◌∙◌, Some, sym, ap, arith, ℕ, List}
use Rattle.svf_parse.specs.FormView.{given}
use Rattle.svf_parse.proofs.FieldValues.{field_bits, field_digits}
use Rattle.svf_parse.proofs.judging.bits.Goals as goal

pub of_digits-requires : goal.of_digits-requires
of_digits-requires c =
    field_digits c.args.len (given c.args.field) c.bytes-digits.result.now (ap given c.in-Some.is ∙ ap (λ (w : List ℕ). Some w) (sym c.bytes-digits.ensures)) c.requires

pub returns-in-Ok : goal.returns-in-Ok
returns-in-Ok c =
    let h = c.bytes-digits.result.now in
    field_bits c.args.len c.min-written.result (given c.args.field) h c.in-Ok.bits (ap given c.in-Some.is ∙ ap (λ (w : List ℕ). Some w) (sym c.bytes-digits.ensures)) c.requires
    (omega (arith, c.min-written.ensures, c.saturating_mul.ensures, c.ranges.len.fits))
    c.in-Ok.ensures

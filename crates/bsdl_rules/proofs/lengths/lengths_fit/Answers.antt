use Rattle.std.proofs.Common.{ap, sym, ◌∙◌, map}
use Rattle.std.specs.List.{list_all}
use Rattle.std.proofs.lemmas.Result.{IfOk-weaker}
use Rattle.bsdl_values.specs.InstructionView.{access_row}
use Rattle.bsdl_description.specs.View.{description}
use Rattle.bsdl_rules.specs.Lengths.{access_fits, agree}
use Rattle.bsdl_rules.proofs.SizeLaws.{first_fails, rest_is}
use Rattle.bsdl_rules.proofs.lengths.lengths_fit.Goals as goal

pub returns-then-not-has_bits : goal.returns-then-not-has_bits
returns-then-not-has_bits c = λ o. first_fails _ _ (sym (c.if-not-has_bits.ensures o))

pub returns-then-not-instructions_fit : goal.returns-then-not-instructions_fit
returns-then-not-instructions_fit c = λ o.
    first_fails _ _ (sym (c.if-not-instructions_fit.ensures o)) ∙ rest_is _ _ (sym (c.if-not-has_bits.ensures o))

pub returns-then-not-codes_fit : goal.returns-then-not-codes_fit
returns-then-not-codes_fit c = λ o.
    first_fails _ _ (sym (c.if-not-codes_fit.ensures o)) ∙ rest_is _ _ (sym (c.if-not-instructions_fit.ensures o)) ∙ rest_is _ _ (sym (c.if-not-has_bits.ensures o))

pub returns : goal.returns
returns c = IfOk-weaker c.agree.result _ _ (λ b agreed o.
    agreed ∙ ap (λ rows. agree (map access_row rows)) c.deref-2.ensures.value
    ∙ rest_is _ _ (ap (λ rows. list_all (access_fits (description o c.args.described.now).boundary_length) (map access_row rows)) (sym c.deref.ensures.value) ∙ sym (c.if-not-accesses_fit.ensures _ c.size.ensures))
    ∙ rest_is _ _ (sym (c.if-not-codes_fit.ensures o)) ∙ rest_is _ _ (sym (c.if-not-instructions_fit.ensures o)) ∙ rest_is _ _ (sym (c.if-not-has_bits.ensures o))) c.agree.ensures

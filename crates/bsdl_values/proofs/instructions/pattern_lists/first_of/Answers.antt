use Rattle.std.proofs.Common.{◌≡◌, ◌+◌, ◌-◌, ◌≤◌, ◌∷◌, length, take, drop, sym, ap, ◌∙◌, take_all, arith}
use Rattle.std.proofs.lemmas.List.{length-drop}
use Rattle.bsdl_values.specs.Parts.{parts}
use Rattle.bsdl_values.proofs.PartLaws.{before_comma, no_comma}
use Rattle.bsdl_values.proofs.instructions.pattern_lists.first_of.Goals as goal

pub returns-in_err-len : goal.returns-in_err-len
returns-in_err-len c = rw c.from_residual.ensures (no_comma c.args.text.now (sym c.in_err-len.ensures.place))

pub returns : goal.returns
returns c =
    let text = c.args.text.now in
    let k = c.in_ok-len.len in
    let size : length (drop (k + 1) text) ≡ length text - (k + 1) = length-drop (k + 1) text in
    let fits : length (drop (k + 1) text) ≤ length text - (k + 1) = omega (arith, size) in
    before_comma text k (sym c.in_ok-len.ensures.place)
    ∙ ap (λ rest. take k text ∷ parts rest) (sym (take_all (length text - (k + 1)) (drop (k + 1) text) fits))

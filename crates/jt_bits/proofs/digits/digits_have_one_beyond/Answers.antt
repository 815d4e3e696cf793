use Rattle.std.proofs.Common.{◌≡◌, ℕ, ◌-◌, ◌/◌, ◌%◌, List, length, take, drop, sym, ap, ◌∙◌, arith}
use Rattle.std.proofs.lemmas.List.{length-take, take-append-drop}
use Rattle.jt_bits.specs.Hex.{has_one_beyond}
use Rattle.jt_bits.proofs.Solid.{beyond_high}
use Rattle.jt_bits.proofs.digits.digits_have_one_beyond.Goals as goal

pub returns : goal.returns
returns c =
    let n = c.args.n in
    let text = c.args.digits.now in
    let place = c.saturating_sub.result in
    let is : place ≡ length text - n / 4 = c.saturating_sub.ensures in
    c.has_one_beyond.ensures ∙ ap (has_one_beyond (n % 4)) c.split_at.ensures.front
    ∙ beyond_high n (take place text) (drop place text) text (sym (take-append-drop place text)) (length-take place text ∙ omega (arith, is)) c.requires

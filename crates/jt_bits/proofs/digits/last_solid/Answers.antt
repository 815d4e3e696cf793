use Rattle.std.proofs.Common.{◌≡◌, ◌-◌, length, take, drop, sym, ap, ◌∙◌, arith}
use Rattle.std.proofs.lemmas.List.{length-take, take-append-drop}
use Rattle.jt_bits.specs.Words.{number}
use Rattle.jt_bits.specs.Hex.{binary, is_bad}
use Rattle.std.specs.List.{position}
use Rattle.jt_bits.proofs.Solid.{last_solid, solid_clean, solid_front}
use Rattle.jt_bits.proofs.digits.last_solid.Goals as goal

pub returns-clause-value : goal.returns-clause-value
returns-clause-value c =
    let text = c.args.text.now in
    let place = c.saturating_sub.result in
    let is : place ≡ length text - 16 = c.saturating_sub.ensures in
    let last = last_solid (take place text) (drop place text) text (sym (take-append-drop place text)) (length-take place text ∙ omega (arith, is)) c.requires in
    c.digits_value.ensures ∙ ap (λ ds. number (binary ds)) c.split_at.ensures.back ∙ last.worth

pub returns-clause-rest : goal.returns-clause-rest
returns-clause-rest c =
    let text = c.args.text.now in
    let place = c.saturating_sub.result in
    let is : place ≡ length text - 16 = c.saturating_sub.ensures in
    let last = last_solid (take place text) (drop place text) text (sym (take-append-drop place text)) (length-take place text ∙ omega (arith, is)) c.requires in
    ap binary c.split_at.ensures.front ∙ last.rest_is

pub returns-clause-good : goal.returns-clause-good
returns-clause-good c =
    let text = c.args.text.now in
    let place = c.saturating_sub.result in
    ap (position is_bad) c.split_at.ensures.front ∙ solid_clean (take place text) (solid_front (take place text) (drop place text) text (sym (take-append-drop place text)) c.requires).0

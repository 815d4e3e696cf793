use Rattle.std.proofs.Common.{◌≡◌, cond, map, drop, get_or, ◌+◌, ◌∷◌, ap, sym, ◌∙◌}
use Rattle.std.specs.Prelude.{filter, option_map, Some}
use Rattle.std.specs.BTreeMap.{get}
use Rattle.std.proofs.lemmas.List.{at_drop_more}
use denote.Ref.{Bor}
use Rattle.name_keys.specs.Keys.{key_order}
use Rattle.bsdl_text.specs.declared.names.Word as declared_word
use Rattle.bsdl_text.specs.Words.{upper}
use Rattle.bsdl_rules.specs.Namings.{Naming, earliest, is_repeated}
use Rattle.bsdl_rules.specs.Positions.{begins_before, either}
use Rattle.bsdl_rules.specs.NamingView.{named, naming}
use Rattle.bsdl_rules.proofs.PositionLaws.{repeat_step}
use Rattle.bsdl_rules.proofs.naming.first_repeat.Goals.{then-is_repeated, else-is_repeated}
use Rattle.bsdl_rules.proofs.naming.first_repeat.Goals as goal

pub loop-name-preserved : goal.loop-name-preserved
loop-name-preserved c =
    let names = c.args.names.now in
    let item = c.name-item.result in
    let i = c.loop-name.name-index in
    let rest = drop (i + 1) names in
    let at = named c.args.quote in
    let all = map at names in
    let test = is_repeated all in
    let so_far = option_map naming c.loop-name.first in
    let here : either so_far (earliest (filter test (at item ∷ map at rest))) ≡ earliest (filter test all) =
    ap (λ (n : Bor declared_word.Word). either so_far (earliest (filter test (at n ∷ map at rest)))) c.name-item.is
    ∙ sym (at_drop_more (λ ns. either so_far (earliest (filter test (map at ns)))) names i item c.loop-name-test.true)
    ∙ c.loop-name.invariant in
    let found : naming c.naming_at-found.result ≡ at item = c.naming_at-found.ensures in
    let told : c.is_repeated.result ≡ test (at item) =
    c.is_repeated.ensures ∙ ap (λ (n : Naming). begins_before (get key_order c.in_ok-positions.positions (upper n.name)) n.position) found
    ∙ c.in_ok-positions.ensures (upper item.now.text.now) (at item).position in
    let after : option_map naming c.if-is_repeated.first ≡ cond (test (at item)) (either so_far (Some (at item))) so_far =
    elim c.if-is_repeated.branch [
      | then-is_repeated w ↦ rw (sym told ∙ w.if-is_repeated.true) (ap (option_map naming) w.first-is ∙ w.earlier-first.ensures ∙ ap (λ (n : Naming). either so_far (Some n)) found)
      | else-is_repeated w ↦ rw (sym told ∙ w.if-is_repeated.false) (ap (option_map naming) w.first-is)
    ] in
    repeat_step test all (map at rest) so_far (option_map naming c.if-is_repeated.first) (at item) here after

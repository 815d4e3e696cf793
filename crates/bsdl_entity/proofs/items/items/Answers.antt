use Rattle.std.proofs.Common.{◌≡◌, List, [], ◌++◌, true, false, length, map, sym, ap, subst, ◌∙◌, Some, None, arith}
use Rattle.std.specs.Prelude.{codes, option_map}
use Rattle.std.proofs.lemmas.List.{map-append, append-nil}
use Rattle.bsdl_text.specs.Left.{left}
use Rattle.bsdl_text.specs.Reading.{fits}
use Rattle.bsdl_text.specs.View.{Stops}
use Rattle.bsdl_text.proofs.ListLaws.{prepend}
use Rattle.bsdl_values.specs.InstructionValues.{begins}
use Rattle.bsdl_values.specs.View.{judged, unsaid as value_unsaid}
use Rattle.bsdl_entity.specs.Entity.{item, items}
use Rattle.bsdl_entity.specs.GivenView.{first_unsaid, given, unsaid}
use Rattle.bsdl_entity.specs.PortsView.{ports}
use Rattle.bsdl_entity.specs.declared.ports.Group.{Group}
use Rattle.bsdl_entity.specs.Scalars.{is_scalar}
use Rattle.bsdl_entity.proofs.ItemLaws.{all_items, no_item, one_item}
use Rattle.bsdl_entity.proofs.StopLaws.{one_unsaid, unsaid_more}
use Rattle.bsdl_entity.proofs.items.items.Goals as goal

pub returns-then-is_some-clause-writes : goal.returns-then-is_some-clause-writes
returns-then-is_some-clause-writes c =
    let is_port = is_scalar (ports c.args.groups.now) in
    let end : begins (codes "END") (left c.items.rest) ≡ true = sym c.behind_word.ensures.begins ∙ sym c.is_some.ensures ∙ c.if-is_some.true in
    all_items is_port (items is_port (length (left c.args.lexer)) (left c.args.lexer)) (first_unsaid c.items.all.items) (map given c.items.all.items) c.items.invariant.0 (left c.items.rest) c.items.invariant.3 end

pub returns-in-Err-clause-writes : goal.returns-in-Err-clause-writes
returns-in-Err-clause-writes c =
    let is_port = is_scalar (ports c.args.groups.now) in
    let more : begins (codes "END") (left c.items.rest) ≡ false = sym c.behind_word.ensures.begins ∙ sym c.is_some.ensures ∙ c.if-is_some.false in
    no_item is_port (items is_port (length (left c.args.lexer)) (left c.args.lexer)) (first_unsaid c.items.all.items) (map given c.items.all.items) c.items.invariant.0 (left c.items.rest) c.items.invariant.3
    c.in-Err.stop c.behind_given.result c.items.invariant.1 more
    (subst (λ (gs : List Group). Stops c.in-Err.stop (item (is_scalar (ports gs)) (left c.items.rest))) c.items.invariant.4 c.in-Err.ensures.writes)
    (rw (sym c.deref.ensures.value) c.behind_given.ensures)

pub items-preserved-in-Ok-push : goal.items-preserved-in-Ok-push
items-preserved-in-Ok-push c =
    let is_port = is_scalar (ports c.args.groups.now) in
    let more : begins (codes "END") (left c.items.rest) ≡ false = sym c.behind_word.ensures.begins ∙ sym c.is_some.ensures ∙ c.if-is_some.false in
    let next = one_item is_port (items is_port (length (left c.args.lexer)) (left c.args.lexer)) (first_unsaid c.items.all.items) (map given c.items.all.items) c.items.invariant.0 (left c.items.rest) c.items.invariant.3
    (value_unsaid c.in-Some.given.value) (Some (given c.in-Some.given)) (left c.in-Ok.read.1) c.items.invariant.1 more
    (ap (λ (gs : List Group). item (is_scalar (ports gs)) (left c.items.rest)) (sym c.items.invariant.4) ∙ c.in-Ok.ensures.writes ∙ ap (λ o. judged (unsaid o) (fits (option_map given o) (left c.in-Ok.read.1))) c.in-Some.is) c.in-Ok.ensures.shorter in (
      next.0,
      next.1,
      omega (arith, c.in-Ok.ensures.shorter, c.items.invariant.2),
      rw (c.in-Ok-push.ensures.items, map-append, unsaid_more c.items.all.items c.in-Some.given) next.2,
      c.item.ensures.groups ∙ c.items.invariant.4,
    )

pub items-preserved : goal.items-preserved
items-preserved c =
    let is_port = is_scalar (ports c.args.groups.now) in
    let more : begins (codes "END") (left c.items.rest) ≡ false = sym c.behind_word.ensures.begins ∙ sym c.is_some.ensures ∙ c.if-is_some.false in
    let next = one_item is_port (items is_port (length (left c.args.lexer)) (left c.args.lexer)) (first_unsaid c.items.all.items) (map given c.items.all.items) c.items.invariant.0 (left c.items.rest) c.items.invariant.3
    None None (left c.in-Ok.read.1) c.items.invariant.1 more
    (ap (λ (gs : List Group). item (is_scalar (ports gs)) (left c.items.rest)) (sym c.items.invariant.4) ∙ c.in-Ok.ensures.writes ∙ ap (λ o. judged (unsaid o) (fits (option_map given o) (left c.in-Ok.read.1))) c.in_default.is) c.in-Ok.ensures.shorter in (
      next.0,
      next.1,
      omega (arith, c.in-Ok.ensures.shorter, c.items.invariant.2),
      next.2 ∙ ap (λ u. judged u (prepend (map given c.items.all.items ++ []) (items is_port next.0 (left c.in-Ok.read.1)))) (one_unsaid (first_unsaid c.items.all.items))
          ∙ ap (λ gs. judged (first_unsaid c.items.all.items) (prepend gs (items is_port next.0 (left c.in-Ok.read.1)))) (append-nil (map given c.items.all.items)),
      c.item.ensures.groups ∙ c.items.invariant.4,
    )

use Rattle.std.proofs.Common.{◌≡◌, ◌∷◌, [], ℕ, List, cond, true, false, length, ap, sym, ◌∙◌, map}
use Rattle.std.specs.Prelude.{string_bytes, bytes_eq, is_some, Some}
use Rattle.std.specs.BTreeMap.{get_by_text}
use Rattle.std.proofs.lemmas.List.{map-append, length-map}
use Rattle.std.proofs.lemmas.Map.Text.{btree_map_updates_text}
use Rattle.bsdl_text.specs.NumberView.{value}
use Rattle.bsdl_text.specs.Words.{upper}
use Rattle.bsdl_opcodes.proofs.UserLaws.{added_known, added_new}
use Rattle.bsdl_opcodes.proofs.users.add_user.Goals as goal

pub returns-then-contains_key : goal.returns-then-contains_key
returns-then-contains_key c = λ us lists.
    let name = upper c.args.register.text.now in
    let users = c.args.users.now in
    let known : is_some (get_by_text users.numbers name) ≡ true =
    ap (λ (bs : List ℕ). is_some (get_by_text users.numbers bs)) (sym (c.as_str.ensures.value ∙ c.in_ok-key.ensures)) ∙ sym c.contains_key.ensures ∙ c.if-contains_key.true in
    let k = added_known (map value users.lengths.items) (λ q. get_by_text users.numbers q) us name (value c.args.len) known (record { lengths_are = lists.lengths; numbers_are = lists.numbers }) in
    record { lengths = k.lengths_are; numbers = k.numbers_are }

pub returns : goal.returns
returns c = λ us lists.
    let name = upper c.args.register.text.now in
    let users = c.args.users.now in
    let unknown : is_some (get_by_text users.numbers name) ≡ false =
    ap (λ (bs : List ℕ). is_some (get_by_text users.numbers bs)) (sym (c.as_str.ensures.value ∙ c.in_ok-key.ensures)) ∙ sym c.contains_key.ensures ∙ c.if-contains_key.false in
    let at : c.len-number.result ≡ length (map value users.lengths.items) = c.len-number.ensures ∙ users.lengths.ok.0 ∙ sym (length-map users.lengths.items value) in
    let k = added_new (map value users.lengths.items) (λ q. get_by_text users.numbers q) (λ q. get_by_text c.insert.new.self q) us name (value c.args.len) c.len-number.result unknown at
    (λ q. btree_map_updates_text (string_bytes c.in_ok-key.key) users.numbers c.insert.new.self _ c.in_ok-insert.ensures.updates q
    ∙ ap (λ (bs : List ℕ). cond (bytes_eq bs q) (Some c.len-number.result) (get_by_text users.numbers q)) c.in_ok-key.ensures)
    (record { lengths_are = lists.lengths; numbers_are = lists.numbers }) in
    record { lengths = ap (map value) c.in_ok-push.ensures.items ∙ map-append value users.lengths.items (c.args.len ∷ []) ∙ k.lengths_are; numbers = k.numbers_are }

use Rattle.std.proofs.Common.{cond, ap, ◌∙◌, ℕ, List}
use Rattle.std.specs.Prelude.{string_bytes, bytes_eq, Some}
use Rattle.std.specs.BTreeMap.{get_by_text}
use Rattle.std.proofs.lemmas.Map.Text.{btree_map_updates_text}
use Rattle.bsdl_rules.proofs.agreeing.put_len.Goals as goal

pub returns-in-Some-clause-noted : goal.returns-in-Some-clause-noted
returns-in-Some-clause-noted c = λ q.
    btree_map_updates_text (string_bytes c.in_ok-key.key) c.args.lengths.now c.insert.new.self _ c.in_ok-known.ensures.updates q
    ∙ ap (λ (name : List ℕ). cond (bytes_eq name q) (Some c.args.len) (get_by_text c.args.lengths.now q)) c.in_ok-key.ensures

pub returns-in-None-clause-noted : goal.returns-in-None-clause-noted
returns-in-None-clause-noted c = λ q.
    btree_map_updates_text (string_bytes c.in_ok-key.key) c.args.lengths.now c.insert.new.self _ c.in_ok-known.ensures.updates q
    ∙ ap (λ (name : List ℕ). cond (bytes_eq name q) (Some c.args.len) (get_by_text c.args.lengths.now q)) c.in_ok-key.ensures

use Rattle.std.proofs.Common.{◌≡◌, ◌++◌, ◌∷◌, [], ap, ◌∙◌}
use Rattle.std.specs.Prelude.{string_bytes}
use Rattle.std.proofs.lemmas.Map.Text.{btree_set_updates_text}
use Rattle.bsdl_device.proofs.NameLaws.{cut_with, kept_with}
use Rattle.bsdl_device.proofs.names.Names.with.Goals as goal

pub invariant_of-self : goal.invariant_of-self
invariant_of-self c =
    let text : string_bytes c.push_str.new.self ≡ string_bytes c.self.inside.text ++ string_bytes c.args.name =
    c.in_ok-push_str.ensures.bytes ∙ ap (λ bs. string_bytes c.self.inside.text ++ bs) c.as_str.ensures.value in
    kept_with (string_bytes c.self.inside.text) c.self.inside.lens.items (string_bytes c.args.name) (string_bytes c.push_str.new.self) c.push.new.self.items c.len.result c.self.inside.known c.insert.new.self
    c.self.invariant text (c.len.ensures ∙ c.args.name.bytes.ok.0) c.in_ok-push.ensures.items
    (btree_set_updates_text (string_bytes c.args.name) c.self.inside.known c.insert.new.self _ c.in_ok-insert.ensures.updates)

pub returns : goal.returns
returns c =
    let text : string_bytes c.push_str.new.self ≡ string_bytes c.self.inside.text ++ string_bytes c.args.name =
    c.in_ok-push_str.ensures.bytes ∙ ap (λ bs. string_bytes c.self.inside.text ++ bs) c.as_str.ensures.value in
    cut_with (string_bytes c.self.inside.text) c.self.inside.lens.items (string_bytes c.args.name) (string_bytes c.push_str.new.self) c.push.new.self.items c.len.result
    c.self.invariant.whole text (c.len.ensures ∙ c.args.name.bytes.ok.0) c.in_ok-push.ensures.items
    ∙ ap (λ ns. ns ++ string_bytes c.args.name ∷ []) c.self.view_is

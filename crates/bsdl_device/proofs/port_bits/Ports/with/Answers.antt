use Rattle.std.proofs.Common.{ap, refl, ◌∙◌}
use Rattle.std.specs.Prelude.{string_bytes}
use Rattle.std.specs.Str.{str_to_ascii_lowercase}
use Rattle.bsdl_device.proofs.FoundLaws.{with_kept}
use Rattle.bsdl_device.proofs.PortLaws.{with_port}
use Rattle.bsdl_device.proofs.port_bits.Ports.with.Goals as goal

pub invariant_of-self : goal.invariant_of-self
invariant_of-self c =
    let names = c.self.inside.by_name in
    let adds = c.in_ok-add_named.ensures.named in
    with_kept c.self.inside.ports.items c.push.new.self.items c.args.port c.self.inside.bits.items c.add_named.new.bits.items c.args.indices names
    names c.add_named.new.by_name c.in_ok-key.key adds.before adds.now c.len-place.result
    c.self.invariant (c.in_ok-key.ensures ∙ ap str_to_ascii_lowercase c.as_str.ensures.value)
    adds.had (λ q apart. refl) adds.put adds.added
    (c.len-place.ensures ∙ c.self.inside.ports.ok.0) c.in_ok-push.ensures.items c.in_ok-add_named.ensures.places

pub returns : goal.returns
returns c =
    rw (c.in_ok-push.ensures.items, c.in_ok-add_named.ensures.places, c.len-place.ensures, c.self.inside.ports.ok.0, ← c.self.view_is) (with_port c.self.inside.ports.items c.args.port c.self.inside.bits.items c.args.indices c.self.invariant.placed)

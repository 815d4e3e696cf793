use Rattle.std.proofs.Common.{◌<◌, length, option_map, slice_get, ap, ◌∙◌, sym, arith}
use Rattle.pin_nets.specs.Levels.{NetsValue, level, reads}
use Rattle.pin_nets.proofs.Counting.{seen_at}
use Rattle.pin_nets.proofs.nets.Nets.seen.Goals as goal

pub returns : goal.returns
returns c =
    let ds = c.self.inside.drives.items in
    let nets = c.self.inside.nets.items in
    let inside : c.args.net < length nets = omega (arith, c.requires, ap (λ (v : NetsValue). length v.nets) c.self.view_is) in
    sym (ap (λ (v : NetsValue). option_map (λ x. reads (level v.drives x)) (slice_get v.nets c.args.net)) c.self.view_is)
    ∙ seen_at ds nets c.self.inside.seen.items c.args.net c.index.result.now c.self.invariant.seen inside c.index.ensures

use Rattle.std.proofs.Common.{ℕ, ltb, cond, refl, ◌∙◌, ap, ap₂, w8, List, Bool, map}
use Rattle.std.specs.Char.{to_ascii_uppercase}
use Rattle.std.proofs.lemmas.Simd.{zip2_of_maps, splat_is_map, zip2_splat, length-chunk, chunk-fits, map-map}
use lib.Lanes.{chunk, sel_l, top}
use Rattle.name_keys.proofs.LaneLaws.{selected, map_of_bytes}
use Rattle.name_keys.proofs.lanes.in_upper_case.Goals as goal

pub returns : goal.returns
returns c =
    let v = chunk c.args.at 16 c.args.name.now in
    let long = length-chunk c.args.at 16 c.args.name.now c.requires in
    let small = zip2_of_maps (λ a b. cond (ltb a b) 255 0) _ _ v (zip2_splat {Y = ℕ} _ v 16 _ long) (splat_is_map v 16 _ long) in
    ap₂ (λ (m : List Bool) (l : List ℕ). sel_l m l v) (ap (map (top 7)) small ∙ map-map (top 7) _ v) (zip2_splat {Y = ℕ} _ v 16 32 long)
    ∙ selected _ _ v
    ∙ map_of_bytes _ to_ascii_uppercase v (chunk-fits w8 c.args.at 16 c.args.name.now c.type_inv.name) refl

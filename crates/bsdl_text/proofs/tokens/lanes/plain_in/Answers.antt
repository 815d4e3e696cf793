use Rattle.std.proofs.Common.{ℕ, leb, cond, bit_and, refl, ◌-◌, ◌∙◌, arith}
use Rattle.std.proofs.lemmas.Simd.{zip2_of_maps, splat_is_map, zip2_splat, length-chunk}
use lib.Lanes.{chunk}
use Rattle.bsdl_text.proofs.PlainLanes.{plain_by_lanes}
use Rattle.bsdl_text.proofs.tokens.lanes.plain_in.Goals as goal

pub returns : goal.returns
returns c =
    let text = c.args.text.now in
    let at = c.args.at in
    let v = chunk at 16 text in
    let w = chunk (at - 1) 16 text in
    let long = length-chunk at 16 text c.requires.within in
    let w_long = length-chunk (at - 1) 16 text (omega arith) in
    c.first_set.ensures
    ∙ plain_by_lanes c.args.ending at text c.requires.behind c.requires.within c.type_inv.text _ _ _ _ _ _ (zip2_splat {Y = ℕ} _ v 16 c.args.ending long)
    (zip2_of_maps bit_and _ _ v
    (zip2_of_maps bit_and _ _ v
    (zip2_of_maps bit_and _ _ v
    (zip2_of_maps bit_and _ _ v
    (zip2_of_maps bit_and _ _ v
    (zip2_of_maps (λ a b. cond (leb a b) 255 0) _ _ v (splat_is_map v 16 26 long) (zip2_of_maps _ _ _ v (zip2_splat {Y = ℕ} _ v 16 32 long) (splat_is_map v 16 97 long)))
    (zip2_of_maps (λ a b. cond (leb a b) 255 0) _ _ v (splat_is_map v 16 25 long) (zip2_splat {Y = ℕ} _ v 16 38 long)))
    (zip2_of_maps (λ a b. cond (leb a b) 255 0) _ _ v (splat_is_map v 16 5 long) (zip2_splat {Y = ℕ} _ v 16 9 long)))
    (zip2_of_maps _ _ _ v (zip2_splat {Y = ℕ} _ v 16 6 long) (splat_is_map v 16 95 long)))
    (zip2_splat {Y = ℕ} _ v 16 32 long))
    (zip2_splat {Y = ℕ} _ v 16 124 long))
    (zip2_splat {Y = ℕ} _ v 16 95 long)
    (zip2_of_maps bit_and _ _ w
    (zip2_of_maps bit_and _ _ w
    (zip2_of_maps (λ a b. cond (leb a b) 255 0) _ _ w (splat_is_map w 16 26 w_long) (zip2_of_maps _ _ _ w (zip2_splat {Y = ℕ} _ w 16 32 w_long) (splat_is_map w 16 97 w_long)))
    (zip2_of_maps (λ a b. cond (leb a b) 255 0) _ _ w (splat_is_map w 16 10 w_long) (zip2_splat {Y = ℕ} _ w 16 48 w_long)))
    (zip2_splat {Y = ℕ} _ w 16 95 w_long))
    refl refl

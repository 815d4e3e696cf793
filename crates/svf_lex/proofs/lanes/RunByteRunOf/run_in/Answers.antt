use Rattle.std.proofs.Common.{ℕ, leb, cond, bit_and, bit_or, refl, ◌∙◌, w8}
use Rattle.std.proofs.lemmas.Simd.{zip2_of_maps, splat_is_map, zip2_splat, length-chunk, chunk-fits}
use lib.Lanes.{chunk}
use Rattle.svf_lex.specs.Bytes.{is_run}
use Rattle.token_runs.proofs.RunsAtOnce.{front_by_mask}
use Rattle.svf_lex.proofs.lanes.RunByteRunOf.run_in.Goals as goal

pub returns : goal.returns
returns c =
    let v = chunk c.args.at 16 c.args.text.now in
    let long = length-chunk c.args.at 16 c.args.text.now c.requires in
    c.first_set.ensures
    ∙ front_by_mask is_run _ v _
    (zip2_of_maps bit_and _ _ v
    (zip2_of_maps bit_and _ _ v
    (zip2_of_maps (λ a b. cond (leb a b) 255 0) _ _ v (splat_is_map v 16 26 long) (zip2_of_maps _ _ _ v (zip2_splat {Y = ℕ} _ v 16 32 long) (splat_is_map v 16 97 long)))
    (zip2_of_maps bit_or _ _ v
    (zip2_of_maps bit_or _ _ v
    (zip2_of_maps (λ a b. cond (leb a b) 255 0) _ _ v (splat_is_map v 16 15 long) (zip2_splat {Y = ℕ} _ v 16 43 long))
    (zip2_splat {Y = ℕ} _ v 16 44 long))
    (zip2_splat {Y = ℕ} _ v 16 47 long)))
    (zip2_splat {Y = ℕ} _ v 16 95 long))
    long (chunk-fits w8 c.args.at 16 c.args.text.now c.type_inv.text) refl

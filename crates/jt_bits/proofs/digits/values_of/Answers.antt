use Rattle.std.proofs.Common.{ℕ, refl}
use Rattle.std.proofs.lemmas.Simd.{zip2_of_maps, zip2_splat, splat_is_map}
use Rattle.jt_bits.proofs.DigitLanes.{values_by}
use Rattle.jt_bits.proofs.digits.values_of.Goals as goal

pub returns : goal.returns
returns c =
    let v = c.args.digits in
    let is = values_by _ v _
    (zip2_of_maps _ _ _ v (zip2_splat {Y = ℕ} _ v 16 15 c.fits-digits.0)
    (zip2_of_maps _ _ _ v (zip2_splat {Y = ℕ} _ v 16 6 c.fits-digits.0) (splat_is_map v 16 9 c.fits-digits.0)))
    c.fits-digits.0 c.fits-digits.1 refl in
    record { long = is.0; values = is.1 }

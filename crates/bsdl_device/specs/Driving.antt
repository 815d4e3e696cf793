-- Which boundary cells drive their ports (IEEE Std 1149.1-2001, Annex B, BOUNDARY_REGISTER).
use Rattle.std.specs.Prelude.{Bool, true, false}
use Rattle.bsdl_device.specs.declared.Function.{Function}
use Rattle.bsdl_device.specs.declared.Function.TheVariants.{Bidir, Output2, Output3}

abbrev pub drives : Function → Bool
drives Output2 = true
drives Output3 = true
drives Bidir = true
drives _ = false

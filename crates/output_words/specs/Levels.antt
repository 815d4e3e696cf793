-- The words of levels.
use Rattle.std.specs.Prelude.{ℕ, List, codes}
use Rattle.pin_nets.specs.declared.Level.{Level}
use Rattle.pin_nets.specs.declared.Level.TheVariants.{Zero, One, Contend, Float}

abbrev pub level_word : Level → List ℕ
level_word Zero = codes "Zero"
level_word One = codes "One"
level_word Contend = codes "Contend"
level_word Float = codes "Float"

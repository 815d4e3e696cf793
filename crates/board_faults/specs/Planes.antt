-- What nets and bridges show at up to 64 captures at once: bit k of each word is of the k-th.
use Rattle.std.specs.Prelude.{Bool, true, false, not, ◌&&◌, ℕ}
use Rattle.jt_bits.specs.Packed.{has_bit}
use Rattle.board_faults.specs.declared.kinds.Winner.{Winner}
use Rattle.board_faults.specs.declared.kinds.Winner.TheVariants.{Zeros, Ones, First, Second}
use Rattle.board_faults.specs.declared.planes.DrivenWords.{DrivenWords}
use Rattle.board_faults.specs.declared.together.Driven.{Driven}

-- what is driven at the k-th capture
abbrev pub driven_at : DrivenWords → ℕ → Driven
driven_at d k = record { zero = has_bit d.zero k; one = has_bit d.one k; weak = has_bit d.weak k }

-- what a bridge shows where its strong drivers are opposed
abbrev pub led : Winner → (first second : Driven) → Bool
led Zeros f g = false
led Ones f g = true
led First f g = f.one && not f.zero
led Second f g = g.one && not g.zero

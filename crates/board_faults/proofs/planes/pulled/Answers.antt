use Rattle.std.proofs.Common.{◌≡◌, ◌<◌, ℕ, false, ⊎_elim, sym, ap, ◌∙◌}
use Rattle.board_faults.specs.Together as together
use Rattle.board_faults.specs.Planes.{driven_at}
use Rattle.pin_nets.specs.declared.Pull.TheVariants.{Up, Down, Free}
use Rattle.board_faults.proofs.WordBits.{every_bit, no_bit}
use Rattle.board_faults.proofs.planes.pulled.Goals as goal

down : (k : ℕ) → k < 64 → driven_at (record { zero = 0; one = 0; weak = 18446744073709551615 }) k ≡ together.pulled Down
down k h = λ i. record { zero = no_bit k i; one = no_bit k i; weak = every_bit k h i }

nothing : (k : ℕ) → driven_at (record { zero = 0; one = 0; weak = 0 }) k ≡ record { zero = false; one = false; weak = false }
nothing k = λ i. record { zero = no_bit k i; one = no_bit k i; weak = no_bit k i }

pub returns-in-Down : goal.returns-in-Down
returns-in-Down c = λ k h. down k h ∙ ap together.pulled (sym c.in-Down.is)

pub returns-in-Up : goal.returns-in-Up
returns-in-Up c = λ k h. ⊎_elim (λ is. nothing k ∙ ap together.pulled (sym is)) (λ is. nothing k ∙ ap together.pulled (sym is)) c.in-Up.is

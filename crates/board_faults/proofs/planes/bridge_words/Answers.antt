use Rattle.std.proofs.Common.{◌≡◌, ◌&&◌, if◌then◌else◌, refl, ap, ap₂, ◌∙◌}
use Rattle.board_faults.specs.Together as together
use Rattle.board_faults.specs.Planes.{driven_at, led}
use Rattle.board_faults.specs.declared.together.Driven.{Driven}
use Rattle.pin_nets.specs.declared.Pull.{Pull}
use Rattle.board_faults.specs.declared.kinds.Winner.{Winner}
use Rattle.board_faults.specs.declared.kinds.Winner.TheVariants.{Zeros, Ones, First, Second}
use Rattle.board_faults.proofs.WordBits.{and_bit}
use Rattle.board_faults.proofs.planes.bridge_words.Goals as goal

shown : (winner : Winner) (pull : Pull) (f g : Driven) → let all = together.together (together.pulled pull) (together.together f g) in
    (if all.zero && all.one then led winner f g else together.sees all) ≡ together.bridge_sees winner pull f g
shown Zeros pull f g = refl
shown Ones pull f g = refl
shown First pull f g = refl
shown Second pull f g = refl

pub returns : goal.returns
returns c = λ k h.
    let f = driven_at c.args.f k in
    let g = driven_at c.args.g k in
    let t = c.together-all.result in
    let made : driven_at t k ≡ together.together (together.pulled c.args.pull) (together.together f g) =
    c.together-all.ensures k ∙ ap₂ together.together (c.pulled.ensures k h) (c.together.ensures k) in
    c.chosen.ensures k h
    ∙ (λ i. if and_bit t.zero t.one k i then c.led.ensures k h i else c.sees.ensures k h i)
    ∙ ap (λ (d : Driven). if d.zero && d.one then led c.args.winner f g else together.sees d) made
    ∙ shown c.args.winner c.args.pull f g

use Rattle.std.proofs.Common.{◌≡◌, Bool, true, false, ◌&&◌, ◌||◌, bit_and, refl, ap, ap₂, ◌∙◌}
use Rattle.board_faults.specs.Faults.{joined}
use Rattle.board_faults.specs.Together as together
use Rattle.jt_bits.specs.Packed.{has_bit}
use Rattle.board_faults.specs.Together.{short_differs}
use Rattle.board_faults.specs.Planes.{driven_at}
use Rattle.pin_nets.specs.declared.Pull.{Pull}
use Rattle.board_faults.proofs.WordBits.{and_bit, or_bit}
use Rattle.fault_serving.proofs.planing.changes_of.Goals as goal

or-false : (x : Bool) → x ≡ (x || false)
or-false true = refl
or-false false = refl

pub returns-clause-wanted : goal.returns-clause-wanted
returns-clause-wanted c = λ k h.
    let p = c.args.pulls in
    let one = c.args.one in
    let two = c.args.two in
    let f = driven_at one.made k in
    let g = driven_at two.made k in
    let x = c.differing-first.result in
    let y = c.differing-second.result in
    let after : has_bit c.bridge_words-after.result k ≡ together.bridge_sees c.args.winner (joined p.first p.second) f g =
    c.bridge_words-after.ensures k h ∙ ap (λ (q : Pull). together.bridge_sees c.args.winner q f g) c.joined.ensures in
    let first : has_bit x k ≡ short_differs c.args.winner p.first p.second true false f g =
    c.differing-first.ensures k h ∙ ap (λ (b : Bool). together.unlike (together.sees (together.together (together.pulled p.first) f)) b) after
    ∙ or-false (together.unlike (together.sees (together.together (together.pulled p.first) f)) (together.bridge_sees c.args.winner (joined p.first p.second) f g)) in
    let second : has_bit y k ≡ short_differs c.args.winner p.first p.second false true f g =
    c.differing-second.ensures k h ∙ ap (λ (b : Bool). together.unlike (together.sees (together.together (together.pulled p.second) g)) b) after in
    or_bit (bit_and x one.wanted) (bit_and y two.wanted) k
    ∙ ap₂ (λ (u v : Bool). u || v)
    (and_bit x one.wanted k ∙ ap (λ (u : Bool). u && has_bit one.wanted k) first)
    (and_bit y two.wanted k ∙ ap (λ (u : Bool). u && has_bit two.wanted k) second)

pub returns-clause-stays : goal.returns-clause-stays
returns-clause-stays c = λ k h.
    let p = c.args.pulls in
    let one = c.args.one in
    let two = c.args.two in
    let f = driven_at one.made k in
    let g = driven_at two.made k in
    let x = c.differing-first.result in
    let y = c.differing-second.result in
    let after : has_bit c.bridge_words-after.result k ≡ together.bridge_sees c.args.winner (joined p.first p.second) f g =
    c.bridge_words-after.ensures k h ∙ ap (λ (q : Pull). together.bridge_sees c.args.winner q f g) c.joined.ensures in
    let first : has_bit x k ≡ short_differs c.args.winner p.first p.second true false f g =
    c.differing-first.ensures k h ∙ ap (λ (b : Bool). together.unlike (together.sees (together.together (together.pulled p.first) f)) b) after
    ∙ or-false (together.unlike (together.sees (together.together (together.pulled p.first) f)) (together.bridge_sees c.args.winner (joined p.first p.second) f g)) in
    let second : has_bit y k ≡ short_differs c.args.winner p.first p.second false true f g =
    c.differing-second.ensures k h ∙ ap (λ (b : Bool). together.unlike (together.sees (together.together (together.pulled p.second) g)) b) after in
    or_bit (bit_and one.stays x) (bit_and two.stays y) k
    ∙ ap₂ (λ (u v : Bool). u || v)
    (and_bit one.stays x k ∙ ap (λ (u : Bool). has_bit one.stays k && u) first)
    (and_bit two.stays y k ∙ ap (λ (u : Bool). has_bit two.stays k && u) second)

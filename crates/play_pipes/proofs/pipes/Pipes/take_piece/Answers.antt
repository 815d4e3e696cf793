use Rattle.std.proofs.Common.{◌≡◌, ◌-◌, ◌≤◌, ◌++◌, ℕ, List, take, drop, length, length-append, refl, sym, ap, subst, ◌∙◌, arith}
use Rattle.circular_buffer.specs.Buffer.{Buffer, buffer}
use Rattle.play_model.specs.Events.{World, take_answers}
use Rattle.play_model.specs.Streams.{StreamState}
use Rattle.player.specs.Each.{hear_each}
use Rattle.play_model.specs.Histories.{bits_told}
use Rattle.play_pipes.specs.Joining.{AreAnswers, JoinedState, side, world_between}
use Rattle.play_pipes.proofs.Steps.{answers-left, take-front, take-piece}
use Rattle.play_pipes.proofs.Together.{kept}
use Rattle.play_pipes.proofs.pipes.Pipes.take_piece.Goals as goal

pub invariant_of-self : goal.invariant_of-self
invariant_of-self c =
    let i = c.self.inside in
    let count = c.min-count.result in
    let long : count ≤ length i.up.items = omega (arith, c.min-count.ensures, ap length c.as_slices.ensures, length-append c.as_slices.result.0.now c.as_slices.result.1.now) in
    let left = kept (c.len.result - count) count i.up.items (ap (λ (n : ℕ). n - count) c.len.ensures.len) long in
    subst AreAnswers (sym (ap (λ (b : Buffer ℕ). b.items) c.truncate_front.ensures ∙ left))
    (answers-left count i.up.items c.self.invariant)

pub returns-clause-world : goal.returns-clause-world
returns-clause-world c =
    let i = c.self.inside in
    let count = c.min-count.result in
    let front = c.as_slices.result.0.now in
    let back = c.as_slices.result.1.now in
    let old : JoinedState = world_between i.player i.board i.down i.up i.quit i.lost in
    let w : World StreamState = old.world in
    let some : count ≤ length front = omega (arith, c.min-count.ensures) in
    let long : count ≤ length i.up.items = omega (arith, some, ap length c.as_slices.ensures, length-append front back) in
    let up : c.truncate_front.new.self ≡ buffer (drop count i.up.items) i.up.capacity =
    c.truncate_front.ensures
    ∙ ap (λ (l : List ℕ). buffer l i.up.capacity) (kept (c.len.result - count) count i.up.items (ap (λ (n : ℕ). n - count) c.len.ensures.len) long) in
    let piece : take count front ≡ take count i.up.items = sym (take-front count front back some) ∙ ap (take count) c.as_slices.ensures in
    let heard = c.answers_each.ensures ∙ ap (λ (l : List ℕ). hear_each l i.player) piece in
    let world =
    ap (λ (b : Buffer ℕ). record w { player = c.answers_each.new.self; up = bits_told b.items }) up
    ∙ take-piece old.down_room old.up_room count w i.up.items c.self.invariant refl c.answers_each.new.self heard in
    (λ j. record { world = world j; down_room = old.down_room; up_room = (up j).capacity })
    ∙ ap (λ (s : JoinedState). record s { world = take_answers side s.down_room s.up_room count s.world }) c.self.view_is

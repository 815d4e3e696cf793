use Rattle.std.proofs.Common.{◌-◌, ℕ, take, sym, ap, subst, ◌∙◌, arith}
use Rattle.std.proofs.lemmas.List.{length-take-le}
use Rattle.circular_buffer.specs.Buffer.{Buffer}
use Rattle.play_model.specs.Events.{served}
use Rattle.play_links.specs.Serves.{serve_bytes}
use Rattle.play_pipes.specs.Joining.{AreAnswers, JoinedState, world_between}
use Rattle.play_pipes.specs.Together.{is_quit}
use Rattle.play_pipes.proofs.Together.{answers-both, answers-served, left_shorter, piece_taken}
use Rattle.play_pipes.proofs.pipes.Pipes.serve_piece.Goals as goal

pub invariant_of-self : goal.invariant_of-self
invariant_of-self c =
    let i = c.self.inside in
    let piece = take c.min-most.result c.as_slices.result.0.now in
    subst AreAnswers (sym (ap (λ (b : Buffer ℕ). b.items) c.serve_front-taken.ensures.up))
    (answers-both i.up.items (serve_bytes piece i.board).answers c.self.invariant (answers-served piece i.board))

pub returns-clause-world : goal.returns-clause-world
returns-clause-world c =
    let i = c.self.inside in
    let taken = c.serve_front-taken in
    let world = piece_taken i.player i.board i.down i.up i.lost c.as_slices.result.0.now c.as_slices.result.1.now c.min-most.result taken.result.bytes
    (c.len-2.result - taken.result.bytes) taken.new.board c.truncate_front.new.self taken.new.up c.is_quit-self-inside.result c.as_slices.ensures
    (omega (arith, c.min-most.ensures, c.min-2.ensures, c.min.ensures))
    (omega (arith, c.min-most.ensures, c.min-2.ensures, c.capacity.ensures.capacity, c.len.ensures.len, c.len.ensures.within.0))
    taken.ensures.bytes (ap (λ (n : ℕ). n - taken.result.bytes) c.len-2.ensures.len) taken.ensures.board taken.ensures.up
    (c.is_quit-self-inside.ensures ∙ ap is_quit taken.ensures.stop) c.truncate_front.ensures in
    world
    ∙ (λ j. let s = world_between i.player i.board i.down i.up (sym c.if-self.false j) i.lost in record s { world = served s.up_room taken.result.bytes s.world.down s.world })
    ∙ ap (λ (s : JoinedState). record s { world = served s.up_room taken.result.bytes s.world.down s.world }) c.self.view_is

pub returns-clause-none : goal.returns-clause-none
returns-clause-none c = λ none m.
    let i = c.self.inside in
    let front = c.as_slices.result.0.now in
    let most = c.min-most.result in
    let long = length-take-le most front (omega (arith, c.min-most.ensures, c.min-2.ensures, c.min.ensures)) in
    let fewer = left_shorter (take most front) i.board (omega (arith, long, c.if-most-lt-FEWEST_TOGETHER.false)) in
    absurd (omega (arith, none, c.serve_front-taken.ensures.bytes, fewer))

use Rattle.std.proofs.Common.{ap, ◌∙◌, arith, ◌-◌}
use Rattle.play_model.specs.Events.{take_answers}
use Rattle.play_pipes.specs.Joining.{JoinedState, side}
use Rattle.play_pipes.proofs.Steps.{take-keeps}
use Rattle.play_pipes.proofs.pipes.Pipes.take.Goals as goal

pub loop-count-preserved : goal.loop-count-preserved
loop-count-preserved c =
    let start = c.args.self.now in
    let now = c.loop-count.self in
    let i = c.loop-count.invariant in
    let more = c.take_piece-more.result in
    record {
      within = omega (arith, c.take_piece-more.ensures.within, c.loop-count-test.true);
      rest = take-keeps start.down_room start.up_room c.args.n c.loop-count.count more now.world c.take_piece-more.new.self.world start.world
          c.take_piece-more.ensures.within
          (ap (λ (s : JoinedState). s.world) c.take_piece-more.ensures.world ∙ (λ j. take_answers side (i.down_room j) (i.up_room j) more now.world))
          i.rest;
      count = omega (arith, c.take_piece-more.ensures.moved, i.count);
      down_room = ap (λ (s : JoinedState). s.down_room) c.take_piece-more.ensures.world ∙ i.down_room;
      up_room = ap (λ (s : JoinedState). s.up_room) c.take_piece-more.ensures.world ∙ i.up_room;
    }

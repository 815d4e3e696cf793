use Rattle.std.proofs.Common.{ap, ◌∙◌, arith, min, ◌-◌}
use Rattle.play_model.specs.Events.{put_bytes}
use Rattle.play_pipes.specs.Joining.{JoinedState, side}
use Rattle.play_pipes.proofs.Steps.{put-keeps}
use Rattle.play_pipes.proofs.pipes.Pipes.put.Goals as goal

pub loop-count-preserved : goal.loop-count-preserved
loop-count-preserved c =
    let start = c.args.self.now in
    let now = c.loop-count.self in
    let i = c.loop-count.invariant in
    let k = min (c.args.n - c.loop-count.count) 64 in
    let kept = put-keeps start.down_room start.up_room c.args.n c.loop-count.count c.put_piece-more.result now.world c.put_piece-more.new.self.world start.world
    c.loop-count-test.true
    (ap (λ (s : JoinedState). s.world) c.put_piece-more.ensures.world ∙ ap (λ d. put_bytes side d start.up_room k now.world) i.down_room)
    c.put_piece-more.ensures.moved i.rest in
    record {
      within = kept.2;
      rest = kept.0;
      count = omega (arith, kept.1, i.count);
      down_room = ap (λ (s : JoinedState). s.down_room) c.put_piece-more.ensures.world ∙ i.down_room;
      up_room = ap (λ (s : JoinedState). s.up_room) c.put_piece-more.ensures.world ∙ i.up_room;
    }

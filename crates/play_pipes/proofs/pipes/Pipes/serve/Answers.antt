use Rattle.std.proofs.Common.{ap, ◌∙◌, arith}
use Rattle.play_model.specs.Events.{served}
use Rattle.play_pipes.specs.Joining.{JoinedState}
use Rattle.play_pipes.proofs.Together.{piece-keeps}
use Rattle.play_pipes.proofs.pipes.Pipes.serve.Goals as goal

pub loop-count-preserved : goal.loop-count-preserved
loop-count-preserved c =
    let start = c.args.self.now in
    let now = c.loop-count.self in
    let i = c.loop-count.invariant in
    let more = c.serve_piece-more.result in
    record {
      within = omega (arith, c.serve_piece-more.ensures.within, c.loop-count-test.true);
      rest = piece-keeps start.up_room c.args.n c.loop-count.count more now.world c.serve_piece-more.new.self.world start.world c.serve_piece-more.ensures.within
          (ap (λ (s : JoinedState). s.world) c.serve_piece-more.ensures.world ∙ ap (λ r. served r more now.world.down now.world) i.up_room) i.rest;
      count = omega (arith, c.serve_piece-more.ensures.moved, i.count);
      down_room = ap (λ (s : JoinedState). s.down_room) c.serve_piece-more.ensures.world ∙ i.down_room;
      up_room = ap (λ (s : JoinedState). s.up_room) c.serve_piece-more.ensures.world ∙ i.up_room;
    }

use Rattle.std.proofs.Common.{refl}
use Rattle.board_loops.specs.declared.net_loops.order.Job.{Job}
use Rattle.board_loops.proofs.OrderLaws.{jobs_more, places_more}
use Rattle.board_loops.proofs.net_loops.order.jobs_of.Goals as goal

pub loop-place-preserved : goal.loop-place-preserved
loop-place-preserved c =
    let jobs = c.loop-place.jobs.items in
    let new = c.push.new.self.items in
    let job : Job = record { number = _; place = c.loop-place.place } in
    record {
      places = places_more jobs new job c.loop-place.place c.loop-place.invariant.places refl c.in_ok-push.ensures.items;
      jobs = jobs_more c.args.strings.now c.args.numbers.now jobs new job _ c.loop-place.invariant.jobs c.loop-place-test.true refl c.in_ok-push.ensures.items;
    }

use Rattle.std.proofs.Common.{◌+◌, ◌*◌, List, ℕ, refl, subst, arith, length}
use Rattle.std.specs.Io.KnownBytes.{Appends}
use Rattle.byte_streams.proofs.Fronts.{WritesAll-is}
use Rattle.wave_files.specs.Changes.{net_change}
use Rattle.wave_files.proofs.Nets.{change_said}
use Rattle.wave_files.proofs.Numbers.{by_one, done, lost, written}
use Rattle.wave_files.proofs.changes.write_net_changes.Goals as goal

pub loop-k-preserved : goal.loop-k-preserved
loop-k-preserved g c =
    let nets = c.args.behind.now.nets in
    let first = 6 + 3 * length c.args.behind.now.chips in
    let k = c.loop-k.k in
    let m = 6 + 3 * c.devices.result + k in
    let it = change_said nets c.args.ahead.now.nets c.args.behind.now.chips c.args.ahead.now.chips k m c.level.result c.level-in-loop-k.result c.level_of-before.result c.level_of-after.result c.requires.alike c.level.ensures c.level-in-loop-k.ensures c.level_of-before.ensures c.level_of-after.ensures in
    record {
      none_lost = c.in_ok-write_byte_change.ensures.ok.0 refl;
      sent = written (net_change c.args.behind.now.nets c.args.behind.now.chips c.args.ahead.now.chips) 1 first nets k m it.net it.is (omega (arith, by_one first k, c.devices.ensures)) _ _ _ c.loop-k.invariant.sent
          (subst (λ (l : List ℕ). Appends (g.W.Write.contents c.loop-k.out.inner) (g.W.Write.contents c.write_byte_change.new.out.inner) l) it.text
          c.in_ok-write_byte_change.ensures.whole);
    }

pub returns-in_err-write_byte_change : goal.returns-in_err-write_byte_change
returns-in_err-write_byte_change g c =
    let nets = c.args.behind.now.nets in
    let first = 6 + 3 * length c.args.behind.now.chips in
    let k = c.loop-k.k in
    let m = 6 + 3 * c.devices.result + k in
    let it = change_said nets c.args.ahead.now.nets c.args.behind.now.chips c.args.ahead.now.chips k m c.level.result c.level-in-loop-k.result c.level_of-before.result c.level_of-after.result c.requires.alike c.level.ensures c.level-in-loop-k.ensures c.level_of-before.ensures c.level_of-after.ensures in
    lost (net_change c.args.behind.now.nets c.args.behind.now.chips c.args.ahead.now.chips) 1 first nets k m it.net it.is (omega (arith, by_one first k, c.devices.ensures)) c.loop-k.invariant.sent
    (WritesAll-is it.text c.in_err-write_byte_change.ensures) refl c.from_residual.ensures.0

pub returns : goal.returns
returns g c =
    done (net_change c.args.behind.now.nets c.args.behind.now.chips c.args.ahead.now.chips) 1 tt (6 + 3 * length c.args.behind.now.chips) c.args.behind.now.nets c.loop-k.k
    (omega (arith, c.loop-k-test.false, c.nets-k-end.ensures)) c.loop-k.invariant.none_lost c.loop-k.invariant.sent

use Rattle.std.proofs.Common.{◌+◌, ◌*◌, List, ℕ, refl, subst, arith, length}
use Rattle.std.specs.Io.KnownBytes.{Appends}
use Rattle.byte_streams.proofs.Fronts.{WritesAll-is}
use Rattle.wave_files.specs.Heading.{net_line}
use Rattle.wave_files.proofs.Nets.{line_said}
use Rattle.wave_files.proofs.Numbers.{by_one, done, lost, written}
use Rattle.wave_files.proofs.start.write_nets.Goals as goal

pub loop-k-preserved : goal.loop-k-preserved
loop-k-preserved g c =
    let nets = c.args.chain.now.nets in
    let first = 6 + 3 * length c.args.chain.now.chips in
    let k = c.loop-k.k in
    let m = 6 + 3 * c.devices.result + k in
    let it = line_said nets c.args.chain.now.chips k m c.level.result c.level_of.result c.level.ensures c.level_of.ensures in
    record {
      none_lost = c.in_ok-write_byte.ensures.ok.0 refl;
      sent = written (net_line c.args.chain.now.nets c.args.chain.now.chips) 1 first nets k m it.net it.is (omega (arith, by_one first k, c.devices.ensures)) _ _ _ c.loop-k.invariant.sent
          (subst (λ (l : List ℕ). Appends (g.W.Write.contents c.loop-k.out.inner) (g.W.Write.contents c.write_byte.new.out.inner) l) it.text
          c.in_ok-write_byte.ensures.whole);
    }

pub returns-in_err-write_byte : goal.returns-in_err-write_byte
returns-in_err-write_byte g c =
    let nets = c.args.chain.now.nets in
    let first = 6 + 3 * length c.args.chain.now.chips in
    let k = c.loop-k.k in
    let m = 6 + 3 * c.devices.result + k in
    let it = line_said nets c.args.chain.now.chips k m c.level.result c.level_of.result c.level.ensures c.level_of.ensures in
    lost (net_line c.args.chain.now.nets c.args.chain.now.chips) 1 first nets k m it.net it.is (omega (arith, by_one first k, c.devices.ensures)) c.loop-k.invariant.sent
    (WritesAll-is it.text c.in_err-write_byte.ensures) refl c.from_residual.ensures.0

pub returns : goal.returns
returns g c =
    done (net_line c.args.chain.now.nets c.args.chain.now.chips) 1 tt (6 + 3 * length c.args.chain.now.chips) c.args.chain.now.nets c.loop-k.k
    (omega (arith, c.loop-k-test.false, c.nets-k-end.ensures)) c.loop-k.invariant.none_lost c.loop-k.invariant.sent

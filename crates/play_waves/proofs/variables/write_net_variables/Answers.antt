use Rattle.std.proofs.Common.{◌+◌, ◌*◌, List, ℕ, Some, refl, sym, ap, ◌∙◌, subst, arith, length}
use Rattle.std.specs.Prelude.{codes}
use Rattle.std.specs.Io.KnownBytes.{Appends}
use Rattle.byte_streams.proofs.Fronts.{WritesAll-is}
use Rattle.wave_files.specs.Heading.{net_variable}
use Rattle.wave_files.proofs.Nets.{variable_said}
use Rattle.wave_files.proofs.Numbers.{by_one, done, lost, written}
use Rattle.play_waves.proofs.variables.write_net_variables.Goals as goal

pub loop-k-preserved : goal.loop-k-preserved
loop-k-preserved g c =
    let nets = c.args.chain.now.nets in
    let first = 6 + 3 * length c.args.chain.now.chips in
    let k = c.loop-k.k in
    let m = 6 + 3 * c.devices.result + k in
    let it = variable_said nets k m (codes "wire 1") c.as_bytes.result.now (c.net_name.ensures ∙ ap (λ (l : List ℕ). Some l) (sym c.as_bytes.ensures.value)) in
    record {
      none_lost = c.in_ok-write_net_variable.ensures.ok.0 refl;
      sent = written net_variable 1 first nets k m it.net it.is (omega (arith, by_one first k, c.devices.ensures)) _ _ _ c.loop-k.invariant.sent
          (subst (λ (l : List ℕ). Appends (g.W.Write.contents c.loop-k.out.inner) (g.W.Write.contents c.write_net_variable.new.out.inner) l) it.text
          c.in_ok-write_net_variable.ensures.whole);
    }

pub returns-in_err-write_net_variable : goal.returns-in_err-write_net_variable
returns-in_err-write_net_variable g c =
    let nets = c.args.chain.now.nets in
    let first = 6 + 3 * length c.args.chain.now.chips in
    let k = c.loop-k.k in
    let m = 6 + 3 * c.devices.result + k in
    let it = variable_said nets k m (codes "wire 1") c.as_bytes.result.now (c.net_name.ensures ∙ ap (λ (l : List ℕ). Some l) (sym c.as_bytes.ensures.value)) in
    lost net_variable 1 first nets k m it.net it.is (omega (arith, by_one first k, c.devices.ensures)) c.loop-k.invariant.sent
    (WritesAll-is it.text c.in_err-write_net_variable.ensures) refl c.from_residual.ensures.0

pub returns : goal.returns
returns g c =
    done net_variable 1 tt (6 + 3 * length c.args.chain.now.chips) c.args.chain.now.nets c.loop-k.k
    (omega (arith, c.loop-k-test.false, c.nets-k-end.ensures)) c.loop-k.invariant.none_lost c.loop-k.invariant.sent

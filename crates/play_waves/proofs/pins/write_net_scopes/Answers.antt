use Rattle.std.proofs.Common.{◌≡◌, ◌+◌, ℕ, length, take, drop, refl, sym, ap, ◌∙◌, arith}
use Rattle.std.specs.Prelude.{slice_get}
use Rattle.byte_streams.proofs.Fronts.{WritesAll-is, WritesAll-lost}
use Rattle.pin_nets.specs.Wired.{Net}
use Rattle.wave_files.specs.Heading.{net_scope, net_scopes}
use Rattle.wave_files.proofs.Numbers.{there_is}
use Rattle.play_waves.proofs.PinLaws.{pins_before, pins_inside, pins_next, scope_sent, scopes_done, scopes_left}
use Rattle.play_waves.proofs.pins.write_net_scopes.Goals as goal

pub overflow_add-pin : goal.overflow_add-pin
overflow_add-pin g c =
    let nets = c.args.chain.now.nets in
    let k = c.loop-k.k in
    let it = there_is (λ (x : Net). length x.pins) (slice_get nets k) c.net_size-count.result c.net_size-count.ensures in
    omega (arith, pins_inside nets k it.thing it.is, it.says, c.loop-k.invariant.place, c.pin_count.ensures.count, c.pin_count.ensures.few)

pub loop-k-preserved : goal.loop-k-preserved
loop-k-preserved g c =
    let cs = c.args.chain.now.chips in
    let nets = c.args.chain.now.nets in
    let n = c.args.first in
    let k = c.loop-k.k in
    let it = there_is (λ (x : Net). length x.pins) (slice_get nets k) c.net_size-count.result c.net_size-count.ensures in
    let place : c.loop-k.pin ≡ pins_before nets k = c.loop-k.invariant.place in
    let one = WritesAll-is (ap (λ (p : ℕ). net_scope cs (n + p) it.thing) place) (c.in_ok-write_net_scope.ensures it.thing it.is) in
    record {
      none_lost = one.ok.0 refl;
      place = (λ i. place i + sym it.says i) ∙ sym (pins_next nets k it.thing it.is);
      sent = scope_sent cs _ _ _ nets k n it.thing it.is c.loop-k.invariant.sent one.whole;
    }

pub returns-in_err-write_net_scope : goal.returns-in_err-write_net_scope
returns-in_err-write_net_scope g c =
    let cs = c.args.chain.now.chips in
    let nets = c.args.chain.now.nets in
    let n = c.args.first in
    let k = c.loop-k.k in
    let it = there_is (λ (x : Net). length x.pins) (slice_get nets k) c.net_size-count.result c.net_size-count.ensures in
    let place : c.loop-k.pin ≡ pins_before nets k = c.loop-k.invariant.place in
    WritesAll-lost (net_scopes cs n nets) (net_scopes cs n (take k nets)) (net_scopes cs (n + pins_before nets (k + 1)) (drop (k + 1) nets))
    (scopes_left cs nets k n it.thing it.is) c.loop-k.invariant.sent
    (WritesAll-is (ap (λ (p : ℕ). net_scope cs (n + p) it.thing) place) (c.in_err-write_net_scope.ensures it.thing it.is)) refl c.from_residual.ensures.0

pub returns : goal.returns
returns g c =
    scopes_done c.args.chain.now.chips tt c.args.chain.now.nets c.loop-k.k c.args.first (omega (arith, c.loop-k-test.false, c.nets-k-end.ensures))
    c.loop-k.invariant.none_lost c.loop-k.invariant.sent

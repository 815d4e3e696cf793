use Rattle.std.proofs.Common.{◌≡◌, true, false, List, length, get_or, sym, ap, ◌∙◌, arith}
use Rattle.std.specs.Prelude.{bytes_eq}
use Rattle.bsdl_device.specs.Device.{Access}
use Rattle.chip_instructions.proofs.DecodeLaws.{own_found, passed_at}
use Rattle.chip_instructions.proofs.decoding.own.Goals as goal

pub returns-then-eq-clause-meaning : goal.returns-then-eq-clause-meaning
returns-then-eq-clause-meaning c =
    let d = c.args.device.now in
    let name = c.args.name.now in
    let x = c.access-item.result in
    let here : bytes_eq name (get_or d.accesses c.loop-k.k x).instruction ≡ true =
    ap (λ (a : Access). bytes_eq name a.instruction) (sym (c.access-item.is ∙ ap (λ (xs : List Access). get_or xs c.loop-k.k x) c.accesses-access-items.ensures))
    ∙ ap (bytes_eq name) (sym c.instruction.ensures) ∙ sym c.if-eq.ensures in
    own_found d name c.loop-k.k x _ (omega (arith, c.loop-k-test.true, ap length c.accesses-access-items.ensures)) c.loop-k.invariant here c.at_place.ensures.meaning

pub loop-k-preserved : goal.loop-k-preserved
loop-k-preserved c =
    let d = c.args.device.now in
    let name = c.args.name.now in
    let x = c.access-item.result in
    let here : bytes_eq name (get_or d.accesses c.loop-k.k x).instruction ≡ false =
    ap (λ (a : Access). bytes_eq name a.instruction) (sym (c.access-item.is ∙ ap (λ (xs : List Access). get_or xs c.loop-k.k x) c.accesses-access-items.ensures))
    ∙ ap (bytes_eq name) (sym c.instruction.ensures) ∙ sym c.if-eq.ensures in
    passed_at d name d.accesses c.loop-k.k x (omega (arith, c.loop-k-test.true, ap length c.accesses-access-items.ensures)) c.loop-k.invariant here

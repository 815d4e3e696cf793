use Rattle.std.proofs.Common.{◌<◌, ℕ, ◌+◌, ◌++◌, List, length, refl, sym, drop, take, ap, ◌∙◌, subst, arith}
use Rattle.std.proofs.lemmas.List.{take_all}
use Rattle.std.specs.Prelude.{flat_map}
use Rattle.std.specs.Io.KnownBytes.{Appends}
use Rattle.std.proofs.KnownBytes.{Appends-trans}
use Rattle.byte_streams.proofs.Fronts.{WritesAll-lost, WritesAll-done}
use Rattle.byte_streams.proofs.Pieces.{flat_map-more, flat_map-split}
use Rattle.pin_nets.specs.Wired.{Net}
use Rattle.board_chain.specs.Chain.{members}
use Rattle.jt_board.specs.Report.{net_line}
use Rattle.jt_board.proofs.Lines.{net_said}
use Rattle.jt_board.proofs.report.lines.write_nets.Goals as goal

pub net_name-requires : goal.net_name-requires
net_name-requires g c = omega (arith, c.loop-k-test.true, c.nets-k-end.ensures)

pub level-requires : goal.level-requires
level-requires g c = omega (arith, c.loop-k-test.true, c.nets-k-end.ensures)

pub write_level-requires : goal.write_level-requires
write_level-requires g c = c.loop-k.invariant.none_lost

pub loop-k-preserved : goal.loop-k-preserved
loop-k-preserved g c =
    let chain = c.args.chain.now in
    let k = c.loop-k.k in
    let line = net_line chain.nets (members chain.chips) in
    let below : k < length chain.nets = omega (arith, c.loop-k-test.true, c.nets-k-end.ensures) in
    record {
      none_lost = c.in_ok-write_level.ensures.ok.0 refl;
      sent = subst (λ (l : List ℕ). Appends (g.W.Write.contents c.args.out.now.inner) (g.W.Write.contents c.write_level.new.out.inner) l)
          (ap (λ (x : List ℕ). flat_map line (take k chain.nets) ++ x) (net_said (members chain.chips) chain.nets k c.net_name.result.now c.level.result c.net_name.ensures c.level.ensures)
          ∙ flat_map-more line chain.nets k _ below)
          (Appends-trans _ _ _ _ _ c.loop-k.invariant.sent c.in_ok-write_level.ensures.whole);
    }

pub returns-in_err-write_level : goal.returns-in_err-write_level
returns-in_err-write_level g c =
    let chain = c.args.chain.now in
    let k = c.loop-k.k in
    let line = net_line chain.nets (members chain.chips) in
    let below : k < length chain.nets = omega (arith, c.loop-k-test.true, c.nets-k-end.ensures) in
    let more = ap (λ (x : List ℕ). flat_map line (take k chain.nets) ++ x) (net_said (members chain.chips) chain.nets k c.net_name.result.now c.level.result c.net_name.ensures c.level.ensures)
    ∙ flat_map-more line chain.nets k _ below in
    WritesAll-lost (flat_map line chain.nets) (flat_map line (take k chain.nets)) (flat_map line (drop (k + 1) chain.nets))
    (flat_map-split line chain.nets (k + 1) ∙ ap (λ l. l ++ flat_map line (drop (k + 1) chain.nets)) (sym more))
    c.loop-k.invariant.sent c.in_err-write_level.ensures refl c.from_residual.ensures.0

pub returns : goal.returns
returns g c =
    let chain = c.args.chain.now in
    let line = net_line chain.nets (members chain.chips) in
    WritesAll-done tt c.loop-k.invariant.none_lost
    (subst (λ (l : List Net). Appends (g.W.Write.contents c.args.out.now.inner) (g.W.Write.contents c.loop-k.out.inner) (flat_map line l))
    (take_all c.loop-k.k chain.nets (omega (arith, c.loop-k-test.false, c.nets-k-end.ensures))) c.loop-k.invariant.sent)

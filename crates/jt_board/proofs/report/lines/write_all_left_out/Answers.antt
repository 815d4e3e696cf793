use Rattle.std.proofs.Common.{◌≡◌, ℕ, ◌+◌, ◌++◌, List, refl, sym, drop, take, get_or, ap, ◌∙◌, subst, arith}
use Rattle.std.proofs.lemmas.List.{take_all}
use Rattle.std.proofs.lemmas.Option.{get_or_from_slice_get}
use Rattle.std.specs.Prelude.{flat_map}
use Rattle.std.specs.Io.KnownBytes.{Appends}
use Rattle.std.proofs.KnownBytes.{Appends-trans}
use Rattle.byte_streams.proofs.Fronts.{WritesAll-lost, WritesAll-done}
use Rattle.byte_streams.proofs.Pieces.{flat_map-more, flat_map-split}
use Rattle.board_chain.specs.Chain.{ChipState}
use Rattle.board_chain.specs.WiredChips.{chip_state}
use Rattle.jt_board.specs.LeftOut.{device_lines}
use Rattle.jt_board.proofs.report.lines.write_all_left_out.Goals as goal

pub chip-requires : goal.chip-requires
chip-requires g c = omega (arith, c.loop-i-test.true, c.devices-i-end.ensures)

pub loop-i-preserved : goal.loop-i-preserved
loop-i-preserved g c =
    let chips = c.args.chain.now.chips in
    let i = c.loop-i.i in
    let chip = chip_state c.chip.result.now in
    let here : chip ≡ get_or chips i chip = sym (get_or_from_slice_get chips i chip chip c.chip.ensures) in
    record {
      none_lost = c.in_ok-write_instructions.ensures.ok.0 refl;
      sent = subst (λ (l : List ℕ). Appends (g.W.Write.contents c.args.out.now.inner) (g.W.Write.contents c.write_instructions.new.out.inner) l)
          (ap (λ (x : ChipState). flat_map device_lines (take i chips) ++ device_lines x) here ∙ flat_map-more device_lines chips i chip (omega (arith, c.loop-i-test.true, c.devices-i-end.ensures)))
          (Appends-trans _ _ _ _ _ c.loop-i.invariant.sent c.in_ok-write_instructions.ensures.whole);
    }

pub returns-in_err-write_instructions : goal.returns-in_err-write_instructions
returns-in_err-write_instructions g c =
    let chips = c.args.chain.now.chips in
    let i = c.loop-i.i in
    let chip = chip_state c.chip.result.now in
    let here : chip ≡ get_or chips i chip = sym (get_or_from_slice_get chips i chip chip c.chip.ensures) in
    let more = ap (λ (x : ChipState). flat_map device_lines (take i chips) ++ device_lines x) here
    ∙ flat_map-more device_lines chips i chip (omega (arith, c.loop-i-test.true, c.devices-i-end.ensures)) in
    WritesAll-lost (flat_map device_lines chips) (flat_map device_lines (take i chips)) (flat_map device_lines (drop (i + 1) chips))
    (flat_map-split device_lines chips (i + 1) ∙ ap (λ l. l ++ flat_map device_lines (drop (i + 1) chips)) (sym more))
    c.loop-i.invariant.sent c.in_err-write_instructions.ensures refl c.from_residual.ensures.0

pub returns : goal.returns
returns g c =
    let chips = c.args.chain.now.chips in
    WritesAll-done tt c.loop-i.invariant.none_lost
    (subst (λ (l : List ChipState). Appends (g.W.Write.contents c.args.out.now.inner) (g.W.Write.contents c.loop-i.out.inner) (flat_map device_lines l))
    (take_all c.loop-i.i chips (omega (arith, c.loop-i-test.false, c.devices-i-end.ensures))) c.loop-i.invariant.sent)

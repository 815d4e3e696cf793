use Rattle.std.proofs.Common.{◌≡◌, ◌+◌, ◌++◌, ◌∷◌, [], List, drop, sym, ap, ◌∙◌, append_assoc}
use Rattle.chip_instructions.specs.declared.Mode.{Mode}
use Rattle.board_chips.specs.WiredChips.{chip_state, member_of}
use Rattle.board_model.specs.Chain.{ChipState, members}
use Rattle.fault_events.specs.Drives.{mode_of, modes}
use Rattle.fault_events.proofs.Numbering.{drop_next, formed_at}
use Rattle.fault_events.proofs.drives.put_modes.Goals as goal

pub chip_mode-requires : goal.chip_mode-requires
chip_mode-requires c = formed_at c.args.chain.now.chips c.requires c.loop-device.device _ c.chip.ensures

pub loop-device-preserved : goal.loop-device-preserved
loop-device-preserved c =
    let chips = c.args.chain.now.chips in
    let k = c.loop-device.device in
    let old = c.loop-device.list.items in
    let m = member_of c.chip.result.now in
    let rest = modes (members (drop (k + 1) chips)) in
    let put : c.push.new.self.items ≡ old ++ c.chip_mode.result ∷ [] = c.in_ok-push.ensures.items in
    ap (λ (l : List Mode). l ++ rest) (put ∙ ap (λ (x : Mode). old ++ x ∷ []) c.chip_mode.ensures)
    ∙ append_assoc old (mode_of m ∷ []) rest
    ∙ ap (λ (l : List ChipState). old ++ modes (members l)) (sym (drop_next chips k (chip_state c.chip.result.now) c.chip.ensures))
    ∙ c.loop-device.invariant

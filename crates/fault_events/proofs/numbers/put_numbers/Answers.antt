use Rattle.std.proofs.Common.{◌≡◌, ◌+◌, ◌++◌, ℕ, List, map, drop, Option, sym, ap, ◌∙◌, append_assoc}
use Rattle.std.proofs.lemmas.List.{map-append}
use Rattle.board_chips.specs.WiredChips.{chip_state, member_of}
use Rattle.board_model.specs.Chain.{members}
use Rattle.fault_events.specs.Numbers.{number_of}
use Rattle.fault_events.specs.Sources.{member_sources, sources_from}
use Rattle.fault_events.proofs.Numbering.{formed_at, sources_next}
use Rattle.fault_events.proofs.numbers.put_numbers.Goals as goal

pub put_register-requires : goal.put_register-requires
put_register-requires c = formed_at c.args.chain.now.chips c.requires c.loop-device.device _ c.chip.ensures

pub loop-device-preserved : goal.loop-device-preserved
loop-device-preserved c =
    let tables : List (List (Option ℕ)) = map (λ t. t.items) c.args.tables.now in
    let chips = c.args.chain.now.chips in
    let k = c.loop-device.device in
    let old = c.loop-device.list.items in
    let mine = member_sources k (member_of c.chip.result.now) in
    let rest = sources_from (k + 1) (members (drop (k + 1) chips)) in
    let put : c.put_register.new.list.items ≡ old ++ map (number_of tables) mine = c.in_ok-put_register.ensures in
    ap (λ (l : List (Option ℕ)). l ++ map (number_of tables) rest) put
    ∙ append_assoc old (map (number_of tables) mine) (map (number_of tables) rest)
    ∙ ap (λ (l : List (Option ℕ)). old ++ l)
    (sym (map-append (number_of tables) mine rest) ∙ sym (ap (map (number_of tables)) (sources_next chips k (chip_state c.chip.result.now) c.chip.ensures)))
    ∙ c.loop-device.invariant

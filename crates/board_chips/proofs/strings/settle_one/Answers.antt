use Rattle.std.proofs.Common.{rules, arith, ◌≡◌, ◌<◌, ◌∙◌, Bool, Some, map, length, get_or, set, slice_get, not, sym, ap, if◌then◌else◌}
use Rattle.std.proofs.lemmas.Grind.{common_steps}
use Rattle.std.proofs.lemmas.Option.{get_or_from_slice_get, slice_get-get_or}
use Rattle.board_chips.specs.Driving.{cells_of}
use Rattle.board_chips.specs.WiredChips.{WiredChipValue, held_of}
use Rattle.board_chips.specs.Strings.{with_core}
use Rattle.board_chips.proofs.StringLaws.{IsPutOne, at_string, cell_there, device_there, net_there, put_one_string}
use Rattle.board_chips.proofs.strings.settle_one.Goals.{then-string, else-string}
use Rattle.board_chips.proofs.strings.settle_one.Goals as goal

pub sight-seen-requires : goal.sight-seen-requires
sight-seen-requires c = net_there c.args.wiring.now.nets (map cells_of c.args.chips.now) c.args.string c.requires.string

pub offset_bounds-chips-string-2 : goal.offset_bounds-chips-string-2
offset_bounds-chips-string-2 c =
    let inside : c.args.string.device < length c.args.chips.now = device_there c.args.chips.now c.args.wiring.now.nets c.args.string c.requires.string in
    first_of (search rules, grind (arith, common_steps))

pub bounds-chips-string-2 : goal.bounds-chips-string-2
bounds-chips-string-2 c = device_there c.args.chips.now c.args.wiring.now.nets c.args.string c.requires.string

pub set_core-requires : goal.set_core-requires
set_core-requires c =
    let chips = c.args.chips.now in
    let s = c.args.string in
    let inside : s.device < length chips = device_there chips c.args.wiring.now.nets s c.requires.string in
    let t = get_or chips s.device c.index-chips-string-2.result in
    let here : slice_get chips s.device ≡ Some t = slice_get-get_or chips s.device c.index-chips-string-2.result inside in
    cell_there chips c.args.wiring.now.nets s t c.requires.string here

pub returns : goal.returns
returns c =
    let chips = c.args.chips.now in
    let w = c.args.wiring.now in
    let s = c.args.string in
    let seen = c.sight-seen.result in
    let bit = c.if-string.bit in
    let t = get_or chips s.device c.index-chips-string.result in
    let inside : s.device < length chips = device_there chips w.nets s c.requires.string in
    let here : slice_get chips s.device ≡ Some t = slice_get-get_or chips s.device c.index-chips-string.result inside in
    let given : bit ≡ (if s.inverted then not seen else seen) = elim c.if-string.branch [
      | then-string b ↦ b.bit-is ∙ sym (ap (λ (i : Bool). if i then not seen else seen) b.if-string.true)
      | else-string b ↦ b.bit-is ∙ sym (ap (λ (i : Bool). if i then not seen else seen) b.if-string.false)
    ] in
    let same : get_or chips s.device c.index-chips-string-2.result ≡ t = get_or_from_slice_get chips s.device t c.index-chips-string-2.result here in
    let is : c.set_core.new.self ≡ with_core t s.cell bit = c.set_core.ensures ∙ ap (λ (x : WiredChipValue). with_core x s.cell bit) same in
    let one : IsPutOne chips (set chips s.device c.set_core.new.self) w c.put_pin.new.wiring s =
    put_one_string chips (set chips s.device c.set_core.new.self) w c.put_pin.new.wiring s t seen bit c.requires.wired c.requires.string here
    (c.sight-seen.ensures s.device (map held_of chips) (at_string chips w s t c.requires.wired here) c.requires.string.net) given
    (ap (λ (x : WiredChipValue). set chips s.device x) is) c.put_pin.ensures.none c.put_pin.ensures.some in
    record { nets = one.nets; wired = one.wired; held = one.held; same = one.same; others = one.others }

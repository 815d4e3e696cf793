use Rattle.std.proofs.Common.{◌<◌, ◌-◌, length, map, sym, ◌∙◌, arith}
use Rattle.std.specs.List.{range_with_len}
use Rattle.std.proofs.lemmas.List.FromFn.{length-map-range_with_len}
use Rattle.board_faults.specs.Faults.{behind_opens}
use Rattle.board_faults.specs.declared.kinds.Fault.TheVariants as fault
use Rattle.board_faults.proofs.Places.{at_left, at_right, mapped_at}
use Rattle.board_faults.proofs.listed.fault_of.Goals as goal

pub returns-then-at-pins-clause-value : goal.returns-then-at-pins-clause-value
returns-then-at-pins-clause-value c =
    let pins = length c.args.its.now.pins.items in
    let opens = map (fault.Open c.args.net) (range_with_len 0 pins) in
    let below : c.args.at < pins = omega (arith, c.if-at-pins.true, c.len-pins.ensures) in
    sym (at_left opens (behind_opens c.args.count c.args.net c.args.its.now.pull) c.args.at (omega (arith, below, length-map-range_with_len (fault.Open c.args.net) 0 pins))
    ∙ mapped_at (fault.Open c.args.net) 0 pins c.args.at c.args.at below (omega arith))

pub returns-else-at-pins-clause-value : goal.returns-else-at-pins-clause-value
returns-else-at-pins-clause-value c =
    let pins = length c.args.its.now.pins.items in
    let opens = map (fault.Open c.args.net) (range_with_len 0 pins) in
    c.behind_opens.ensures.value
    ∙ sym (at_right opens (behind_opens c.args.count c.args.net c.args.its.now.pull) c.args.at (c.args.at - c.len-pins.result)
    (omega (arith, c.if-at-pins.false, c.len-pins.ensures, length-map-range_with_len (fault.Open c.args.net) 0 pins)))

use Rattle.std.proofs.Common.{rules, ◌-◌, List, ℕ, length, drop, ap, arith, sym, subst, length-drop}
use Rattle.std.proofs.lemmas.List.{take_all}
use Rattle.play_links.specs.Shifts.{IsCycle}
use Rattle.play_links.proofs.ShiftServes.{edges_are}
use Rattle.play_links.proofs.shifting.cycle_at.Goals as goal

pub returns-in_ok-cycle_of-in-len2-up : goal.returns-in_ok-cycle_of-in-len2-up
returns-in_ok-cycle_of-in-len2-up c =
    let bytes = c.args.bytes.now in
    let is = c.in_ok-cycle_of-in-len2-up.ensures in
    let cycle = edges_are c.in_ok-cycle_of-in-len2-up.field-0 bytes is.0 is.1 is.2 in (
      subst (IsCycle c.in_ok-cycle_of-in-len2-up.field-0 bytes) (sym (take_all (length bytes - 2) (drop 2 bytes) (omega (arith, length-drop 2 bytes)))) cycle,
      search rules,
    )

-- What the captures of one run tell of a run that goes on after what fails: the first bit that fails at each.
use Rattle.std.specs.Prelude.{List, [], ◌∷◌, Some, None, if◌then◌else◌}
use Rattle.scan_vectors.specs.declared.failures.Mismatch.{Mismatch}
use Rattle.pin_nets.specs.Wired.{Net}
use Rattle.fault_events.specs.Events.{Event, caught_at, stays_other}

-- with other nets, at each capture the least wanted bit that is another, up to one at which a bit that stays is another
abbrev pub firsts_by : List Event → List Net → List Mismatch
firsts_by [] nets = []
firsts_by (e ∷ es) nets =
    let rest = if stays_other nets e then [] else firsts_by es nets in
    elim (caught_at nets e) [
      | None ↦ rest
      | Some f ↦ record { command = e.command; part = f.0; bit = f.1 } ∷ rest
    ]

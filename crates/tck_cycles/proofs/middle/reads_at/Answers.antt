use Rattle.std.proofs.Common.{Bool, refl, ap, sym, ◌∙◌, Some}
use Rattle.std.specs.Prelude.{option_map}
use Rattle.bitbang_protocol.specs.declared.Cycle.{Cycle}
use Rattle.scan_vectors.specs.Held.{bits}
use Rattle.tck_cycles.proofs.Places.{scan_at}
use Rattle.tck_cycles.proofs.middle.reads_at.Goals as goal

pub returns : goal.returns
returns c =
    ap (option_map {U = Bool} (λ (x : Cycle). x.read)) (scan_at (bits c.args.vector.now) c.args.place c.bit.result _ c.bit.ensures refl)
    ∙ ap (λ (b : Bool). Some b) (sym c.is_some.ensures)

use Rattle.std.proofs.Common.{◌∙◌, arith}
use Rattle.tck_cycles.specs.Middles.{middle_cycles}
use Rattle.tck_cycles.proofs.Places.{middle_reads}
use Rattle.tck_cycles.proofs.source.Source.reads.Goals as goal

pub returns : goal.returns
returns c =
    let s = c.args.self.now in
    c.reads_from.ensures
    ∙ middle_reads s.lead.items s.tail.items (middle_cycles s.middle) s.at c.saturating_sub.result (omega (arith, c.saturating_sub.ensures, c.len-lead.ensures.value))

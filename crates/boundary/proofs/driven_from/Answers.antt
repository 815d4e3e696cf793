use Rattle.std.proofs.Common.{subst, sym}
use Rattle.jt_bits.proofs.PackedWords.{or_bit}
use Rattle.boundary.specs.Controls.{AreGroups}
use Rattle.boundary.proofs.DrivenLaws.{told_by_words}
use Rattle.boundary.proofs.driven_from.Goals as goal

pub returns : goal.returns
returns c = λ cells plain groups.
    told_by_words cells c.args.mask.now c.args.bits.now c.args.first c.word_at.result c.word_at-2.result _ c.by_groups-words.result plain
    c.word_at.ensures.bits c.word_at-2.ensures.bits
    (c.by_groups-words.ensures cells (subst (AreGroups cells) (sym c.deref.ensures.value) groups))
    (λ j. or_bit c.word_at.result c.by_groups-words.result.on j)

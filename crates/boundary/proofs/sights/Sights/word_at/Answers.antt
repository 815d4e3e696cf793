use Rattle.std.proofs.Common.{◌+◌, ◌∙◌, ℕ, Bool, List, map, ap, sym}
use Rattle.jt_bits.specs.Words.{bit_of}
use Rattle.boundary.specs.Told.{is_one}
use Rattle.boundary.proofs.ToldLaws.{cut_told}
use Rattle.boundary.proofs.sights.Sights.word_at.Goals as goal

pub returns : goal.returns
returns c = λ j h.
    let s = c.self.inside in
    c.told_word.ensures j h
    ∙ ap (λ (l : List ℕ). bit_of (map is_one l) (c.args.at + j)) c.deref.ensures.value
    ∙ sym (cut_told s.bytes.items s.len (c.args.at + j) c.self.invariant.none)
    ∙ ap (λ (l : List Bool). bit_of l (c.args.at + j)) c.self.view_is

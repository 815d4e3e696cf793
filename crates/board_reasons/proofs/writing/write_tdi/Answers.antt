use Rattle.std.proofs.Common.{◌≡◌, ℕ, List, [], ◌∷◌, codes, decimal, ap, ◌∙◌}
use Rattle.byte_streams.proofs.Fronts.{WritesAll-is}
use Rattle.output_words.specs.Texts.{texts}
use Rattle.board_reasons.specs.Lines.{part_word}
use Rattle.board_reasons.proofs.writing.write_tdi.Goals as goal

pub returns : goal.returns
returns g c =
    let number : c.as_bytes.result.now ≡ decimal c.args.bit = c.as_bytes.ensures.value ∙ c.format.ensures.text in
    WritesAll-is
    (ap (λ (p : List ℕ). texts (codes "from TDI " ∷ p ∷ codes " bit " ∷ c.as_bytes.result.now ∷ codes "\n" ∷ [])) c.part_word.ensures
    ∙ ap (λ (n : List ℕ). texts (codes "from TDI " ∷ part_word c.args.part ∷ codes " bit " ∷ n ∷ codes "\n" ∷ [])) number)
    c.put_pieces.ensures.writes

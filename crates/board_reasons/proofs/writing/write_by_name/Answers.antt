use Rattle.std.proofs.Common.{ℕ, List, [], ◌∷◌, codes, ap, ◌∙◌}
use Rattle.byte_streams.proofs.Fronts.{WritesAll-is}
use Rattle.output_words.specs.Texts.{texts}
use Rattle.board_reasons.proofs.writing.write_by_name.Goals as goal

pub returns : goal.returns
returns g c =
    WritesAll-is
    (ap (λ (n : List ℕ). texts (codes " by instruction " ∷ n ∷ c.left_out_words.result.now ∷ [])) c.as_bytes.ensures.value
    ∙ ap (λ (l : List ℕ). texts (codes " by instruction " ∷ c.args.name.now ∷ l ∷ [])) c.left_out_words.ensures)
    c.put_pieces.ensures.writes

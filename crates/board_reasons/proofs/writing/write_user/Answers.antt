use Rattle.std.proofs.Common.{◌≡◌, ℕ, List, [], ◌∷◌, codes, decimal, ap, ◌∙◌}
use Rattle.byte_streams.proofs.Fronts.{WritesAll-is}
use Rattle.output_words.specs.Texts.{texts}
use Rattle.board_description.specs.Words.{user_words}
use Rattle.board_reasons.proofs.writing.write_user.Goals as goal

pub returns : goal.returns
returns g c =
    let number : c.as_bytes.result.now ≡ decimal c.args.bit = c.as_bytes.ensures.value ∙ c.format.ensures.text in
    WritesAll-is
    (ap (λ (r : List ℕ). texts (codes "register of " ∷ r ∷ codes " bit " ∷ c.as_bytes.result.now ∷ [])) c.user_words.ensures
    ∙ ap (λ (n : List ℕ). texts (codes "register of " ∷ user_words c.args.device.now c.args.register ∷ codes " bit " ∷ n ∷ [])) number)
    c.put_pieces.ensures.writes

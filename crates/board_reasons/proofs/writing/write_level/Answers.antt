use Rattle.std.proofs.Common.{ℕ, List, [], ◌∷◌, ◌++◌, refl, ap, ◌∙◌, codes}
use Rattle.byte_streams.proofs.Fronts.{WritesAll-is, WritesAll-stopped, WritesAll-then}
use Rattle.output_words.specs.Texts.{texts}
use Rattle.board_description.specs.Words.{net_name}
use Rattle.output_words.specs.Levels.{level_word}
use Rattle.board_reasons.proofs.writing.write_level.Goals as goal

pub returns-in_err-write_net_name : goal.returns-in_err-write_net_name
returns-in_err-write_net_name g c =
    let level = level_word c.args.shown.level in
    WritesAll-is (ap (λ (n : List ℕ). texts (codes " net " ∷ n ∷ codes " level " ∷ []) ++ level) c.net_name.ensures)
    (WritesAll-stopped level c.in_err-write_net_name.ensures refl c.from_residual.ensures.0)

pub returns : goal.returns
returns g c =
    let nets = c.args.chain.now.nets in
    WritesAll-is
    (ap (λ (n : List ℕ). texts (codes " net " ∷ n ∷ codes " level " ∷ []) ++ c.level_word.result.now) c.net_name.ensures
    ∙ ap (λ (l : List ℕ). texts (codes " net " ∷ net_name nets c.args.shown.net ∷ codes " level " ∷ []) ++ l) c.level_word.ensures)
    (WritesAll-then c.in_ok-write_net_name.ensures refl c.put_all.ensures.writes)

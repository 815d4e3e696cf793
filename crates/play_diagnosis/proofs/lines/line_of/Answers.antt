use Rattle.std.proofs.Common.{List, ℕ, Bor, map, sym, ap, ◌∙◌}
use Rattle.play_diagnosis.specs.LogLines.{by_words, words}
use Rattle.play_diagnosis.proofs.WordLaws.{first_words_say}
use Rattle.play_diagnosis.proofs.lines.line_of.Goals as goal

pub returns : goal.returns
returns c =
    c.by_words.ensures
    ∙ ap (λ (ws : List (Bor (List ℕ))). by_words (map (λ w. w.now) ws)) c.deref.ensures.0
    ∙ ap by_words c.first_words.ensures
    ∙ first_words_say (words c.without_return.result.now)
    ∙ ap (λ (line : List ℕ). by_words (words line)) c.without_return.ensures

use Rattle.std.proofs.Common.{◌≡◌, ◌++◌, List, ℕ, length, map, option_map, take, sym, ap, ◌∙◌}
use Rattle.play_diagnosis.specs.LogLines as spec
use Rattle.play_diagnosis.specs.Pieces.{pieces}
use Rattle.play_diagnosis.proofs.WordLaws.{length_of_map, take_front}
use Rattle.play_diagnosis.proofs.lines.first_words.Goals as goal

pub returns-then-len-eq-MOST_WORDS : goal.returns-then-len-eq-MOST_WORDS
returns-then-len-eq-MOST_WORDS c =
    let l = c.loop-rest in
    let long : length (map (λ w. w.now) l.words.items) ≡ 7 =
    length_of_map (λ w. w.now) l.words.items ∙ sym c.len.ensures.value ∙ c.if-len-eq-MOST_WORDS.true in
    sym (ap (λ (ws : List (List ℕ)). take 7 ws) l.invariant.cut ∙ take_front 7 (map (λ w. w.now) l.words.items) (pieces 32 (option_map (λ r. r.now) l.rest)) long)

use Rattle.std.proofs.Common.{◌≡◌, ℕ, ◌-◌, List, length, take, drop, length-drop, ap, ◌∙◌, arith}
use Rattle.std.specs.List.{fold}
use Rattle.std.proofs.lemmas.List.{take_all}
use Rattle.name_keys.specs.Keys.{end_of, with_byte}
use Rattle.name_keys.proofs.owned.end_of_text.Goals as goal

pub returns : goal.returns
unfolding end_of
returns c =
    let bytes = c.as_bytes-bytes.result.now in
    let start = c.saturating_sub-start.result in
    let items = take (length bytes - start) (drop start bytes) in
    let whole : items ≡ drop start bytes = take_all (length bytes - start) (drop start bytes) (omega (arith, length-drop start bytes)) in
    c.loop-byte.invariant ∙ ap (fold with_byte 0) (take_all c.loop-byte.byte-index items c.loop-byte-test.false ∙ whole)
    ∙ ap (λ (n : ℕ). fold with_byte 0 (drop n bytes)) c.saturating_sub-start.ensures
    ∙ ap (λ (bs : List ℕ). fold with_byte 0 (drop (length bs - 8) bs)) c.as_bytes-bytes.ensures.value

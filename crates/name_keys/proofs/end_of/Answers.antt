use Rattle.std.proofs.Common.{◌≡◌, ℕ, ◌-◌, map, length, take, drop, length-drop, sym, ap, ◌∙◌, arith}
use Rattle.std.specs.Char.{to_ascii_uppercase}
use Rattle.std.specs.List.{fold}
use Rattle.std.proofs.lemmas.List.{drop-map, length-map, take_all}
use Rattle.std.proofs.lemmas.List.Folds.{fold-map}
use Rattle.name_keys.specs.Keys.{end_of, with_byte}
use Rattle.name_keys.proofs.end_of.Goals as goal

pub returns : goal.returns
unfolding end_of
returns c =
    let name = c.args.name.now in
    let start = c.saturating_sub-start.result in
    let place : start ≡ length (map to_ascii_uppercase name) - 8 = rw (length-map name to_ascii_uppercase) (omega arith) in
    let items = take (length name - start) (drop start name) in
    let whole : items ≡ drop start name = take_all (length name - start) (drop start name) (omega (arith, length-drop start name)) in
    c.loop-byte.invariant ∙ ap (fold (λ number byte. with_byte number (to_ascii_uppercase byte)) 0) (take_all c.loop-byte.byte-index items c.loop-byte-test.false ∙ whole)
    ∙ sym (fold-map with_byte to_ascii_uppercase 0 (drop start name)) ∙ ap (fold with_byte 0) (sym (drop-map to_ascii_uppercase start name))
    ∙ ap (λ (n : ℕ). fold with_byte 0 (drop n (map to_ascii_uppercase name))) place

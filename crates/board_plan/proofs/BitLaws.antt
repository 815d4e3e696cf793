-- The bits of a text, from the right.
use Rattle.std.proofs.Common.{◌≡◌, ◌<◌, ℕ, ◌+◌, ◌-◌, ◌==◌, Bool, List, [], ◌∷◌, ◌++◌, length, map, take, get_or, sym, ap, ◌∙◌, arith}
use Rattle.std.specs.Prelude.{Some, option_map, reverse, slice_get, slice_set}
use Rattle.std.proofs.lemmas.List.{get_or-reverse, length-map, length-reverse, take_more, take_more_set}
use Rattle.std.proofs.lemmas.Option.{get_or_from_slice_get, slice_get-get_or, slice_get-map}

abbrev pub written : List ℕ → List Bool
written cs = map (λ c. c == 49) (reverse cs)

pub bit_more : (cs : List ℕ) (bs : List Bool) (i c d : ℕ) → length bs ≡ length cs → i < length cs → c ≡ get_or cs (length cs - 1 - i) d → take i bs ≡ take i (written cs)
    → take (i + 1) (slice_set bs i (c == 49)) ≡ take (i + 1) (written cs)
bit_more cs bs i c d len h digit front =
    let b = c == 49 in
    let inside : i < length bs = omega arith in
    let within : i < length (reverse cs) = rw (length-reverse cs) h in
    let at : slice_get (written cs) i ≡ Some b =
    slice_get-map (λ c. c == 49) (reverse cs) i ∙ ap (option_map (λ c. c == 49)) (slice_get-get_or (reverse cs) i d within ∙ ap Some (get_or-reverse cs i d h ∙ sym digit)) in
    let whole : length (written cs) ≡ length cs = length-map (reverse cs) (λ c. c == 49) ∙ length-reverse cs in
    let there : i < length (written cs) = rw whole h in
    take_more_set bs i b inside ∙ ap (λ xs. xs ++ b ∷ []) front ∙ ap (λ (o : Bool). take i (written cs) ++ o ∷ []) (sym (get_or_from_slice_get (written cs) i b b at)) ∙ sym (take_more (written cs) i b there)

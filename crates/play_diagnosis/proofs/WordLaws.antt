-- The first words of a line say what all of them do.
use Rattle.std.proofs.Common.{◌≡◌, ◌≤◌, ℕ, zero, suc, List, [], ◌∷◌, ◌++◌, length, map, slice_index_or, take, Bor, refl, ap, arith}
use Rattle.play_diagnosis.specs.LogLines.{by_words, from}

pub first_words_say : (ws : List (List ℕ)) → by_words (take 7 ws) ≡ by_words ws
first_words_say [] = refl
first_words_say (a ∷ []) = refl
first_words_say (a ∷ b ∷ []) = refl
first_words_say (a ∷ b ∷ c ∷ []) = refl
first_words_say (a ∷ b ∷ c ∷ d ∷ []) = refl
first_words_say (a ∷ b ∷ c ∷ d ∷ e ∷ []) = refl
first_words_say (a ∷ b ∷ c ∷ d ∷ e ∷ f ∷ []) = refl
first_words_say (a ∷ b ∷ c ∷ d ∷ e ∷ f ∷ g ∷ ws) = refl

-- of seven words and more the first is enough
pub many_words : (ws : List (Bor (List ℕ))) (none : Bor (List ℕ)) → 7 ≤ length ws → from (slice_index_or ws 0 none).now ≡ by_words (map (λ w. w.now) ws)
many_words [] none many = absurd (omega (arith, many))
many_words (a ∷ []) none many = absurd (omega (arith, many))
many_words (a ∷ b ∷ []) none many = absurd (omega (arith, many))
many_words (a ∷ b ∷ c ∷ []) none many = absurd (omega (arith, many))
many_words (a ∷ b ∷ c ∷ d ∷ []) none many = absurd (omega (arith, many))
many_words (a ∷ b ∷ c ∷ d ∷ e ∷ []) none many = absurd (omega (arith, many))
many_words (a ∷ b ∷ c ∷ d ∷ e ∷ f ∷ []) none many = absurd (omega (arith, many))
many_words (a ∷ b ∷ c ∷ d ∷ e ∷ f ∷ g ∷ ws) none many = refl

pub take_front : {X : Type 0} (n : ℕ) (xs ys : List X) → length xs ≡ n → take n (xs ++ ys) ≡ xs
take_front zero [] ys e = refl
take_front zero (x ∷ xs) ys e = absurd (omega (arith, e))
take_front (suc n) [] ys e = absurd (omega (arith, e))
take_front (suc n) (x ∷ xs) ys e = ap (λ l. x ∷ l) (take_front n xs ys (omega (arith, e)))

pub take_few : {X : Type 0} (n : ℕ) (xs : List X) → length xs ≤ n → take n (xs ++ []) ≡ xs
take_few zero [] few = refl
take_few zero (x ∷ xs) few = absurd (omega (arith, few))
take_few (suc n) [] few = refl
take_few (suc n) (x ∷ xs) few = ap (λ l. x ∷ l) (take_few n xs (omega (arith, few)))

pub length_of_map : {X Y : Type 0} (f : X → Y) (xs : List X) → length (map f xs) ≡ length xs
length_of_map f [] = refl
length_of_map f (x ∷ xs) = omega (arith, length_of_map f xs)

-- Plain bytes are counted sixteen at a time.
use Rattle.std.proofs.Common.{◌≡◌, ℕ, zero, suc, ◌+◌, ◌-◌, ◌<◌, ◌≤◌, ◌%◌, ◌^◌, eqb, bit_and, bit_or, Bool, true, false, not, ◌&&◌, ◌||◌, List, [], ◌∷◌, length, take, drop, get_or, map, cond, refl, ap, ap₂, ◌∙◌, sym, subst, arith, Fits, w8}
use Rattle.std.specs.List.{prefix_len}
use Rattle.std.proofs.lemmas.Bool.{agree_below, agree_below_at, eqb-true}
use Rattle.std.proofs.lemmas.Bool.Decides.{nat_tests}
use Rattle.std.proofs.lemmas.List.{length-map, length-drop, drop_more}
use Rattle.std.proofs.lemmas.Simd.{Each2-of, chunk-fits, first_set_mask_l, length-chunk, length-zip2, map-map, mask_l-mod, zip2_of_maps}
use lib.Count.{count_trailing_zeros}
use lib.Lanes.{Each1, Each2, chunk, mask_l, top, zip2}
use Rattle.bsdl_text.specs.Bytes.{is_word}
use Rattle.bsdl_text.specs.Plain.{is_plain, is_plain_behind, plain_len}

-- a byte, and the one before it
abbrev Pair : Type 0
Pair = ℕ × ℕ

abbrev pairs : List ℕ → List ℕ → List Pair
pairs ws vs = zip2 (λ (w v : ℕ). (w, v)) ws vs

lefts : (ws vs : List ℕ) → length ws ≡ length vs → ws ≡ map (λ (p : Pair). p.0) (pairs ws vs)
lefts [] vs long = refl
lefts (w ∷ ws) [] long = absurd (omega arith)
lefts (w ∷ ws) (v ∷ vs) long = ap (λ (l : List ℕ). w ∷ l) (lefts ws vs (omega arith))

rights : (ws vs : List ℕ) → length ws ≡ length vs → vs ≡ map (λ (p : Pair). p.1) (pairs ws vs)
rights [] [] long = refl
rights [] (v ∷ vs) long = absurd (omega arith)
rights (w ∷ ws) [] long = absurd (omega arith)
rights (w ∷ ws) (v ∷ vs) long = ap (λ (l : List ℕ). v ∷ l) (rights ws vs (omega arith))

each_pair : (P : ℕ → ℕ → Type 0) (ws vs : List ℕ) → Each2 P ws vs → Each1 (λ (p : Pair). P p.0 p.1) (pairs ws vs)
each_pair P [] vs all = tt
each_pair P (w ∷ ws) [] all = tt
each_pair P (w ∷ ws) (v ∷ vs) all = (all.0, each_pair P ws vs all.1)

-- a run of pairs that pass is a run of plain bytes
run_of_pairs : (p : Pair → Bool) (e b n : ℕ) (cs : List ℕ) → n ≤ length cs → Each1 (λ (x : Pair). p x ≡ is_plain_behind e x.0 x.1) (pairs (take n (b ∷ cs)) (take n cs))
    → prefix_len p (pairs (take n (b ∷ cs)) (take n cs)) ≡ plain_len e b (take n cs)
run_of_pairs p e b zero cs room same = refl
run_of_pairs p e b (suc n) [] room same = absurd (omega arith)
run_of_pairs p e b (suc n) (c ∷ cs) room same = ap₂ (λ (t : Bool) (m : ℕ). cond t (1 + m) 0) same.0 (run_of_pairs p e c n cs (omega arith) same.1)

-- ---- one lane

-- the byte c behind the byte w, where f and g tell apart what is neither plain nor `_` and what is of no word
abbrev lane : (e : ℕ) → (f g : ℕ → ℕ) → Pair → ℕ
lane e f g p = bit_or (bit_or (cond (eqb p.1 e) 255 0) (f p.1)) (bit_and (cond (eqb p.1 95) 255 0) (g p.0))

lane_stops : (ends plain line word : Bool) → (line ≡ true → plain ≡ true → ⊥)
    → not (top 7 (bit_or (bit_or (cond ends 255 0) (cond (plain || line) 0 255)) (bit_and (cond line 255 0) (cond word 0 255)))) ≡ (not ends && (plain || (line && word)))
lane_stops true true true word other = absurd (other refl refl)
lane_stops true true false true other = refl
lane_stops true true false false other = refl
lane_stops true false true true other = refl
lane_stops true false true false other = refl
lane_stops true false false true other = refl
lane_stops true false false false other = refl
lane_stops false true true word other = absurd (other refl refl)
lane_stops false true false true other = refl
lane_stops false true false false other = refl
lane_stops false false true true other = refl
lane_stops false false true false other = refl
lane_stops false false false true other = refl
lane_stops false false false false other = refl

line_is_not_plain : (c : ℕ) → eqb c 95 ≡ true → is_plain c ≡ true → ⊥
line_is_not_plain c line plain = grind (arith, nat_tests)

abbrev pub Tells : (ℕ → ℕ) → (ℕ → Bool) → Type 0
Tells f passes = agree_below (λ c. eqb (f c) (cond (passes c) 0 255)) (λ c. true) 256 ≡ true

told : (f : ℕ → ℕ) (passes : ℕ → Bool) (c : ℕ) → Tells f passes → c < 256 → f c ≡ cond (passes c) 0 255
told f passes c all small = eqb-true (f c) (cond (passes c) 0 255) (agree_below_at (λ c. eqb (f c) (cond (passes c) 0 255)) (λ c. true) 256 c all small)

module _ (e : ℕ) (f g : ℕ → ℕ) (neither : Tells f (λ c. is_plain c || eqb c 95)) (no_word : Tells g is_word) where
  lane_is : (w c : ℕ) → Fits w8 w → Fits w8 c → not (top 7 (lane e f g (w, c))) ≡ is_plain_behind e w c
  lane_is w c w_small c_small =
      let fc : f c ≡ cond (is_plain c || eqb c 95) 0 255 = told f (λ c. is_plain c || eqb c 95) c neither c_small.fits in
      let gw : g w ≡ cond (is_word w) 0 255 = told g is_word w no_word w_small.fits in
      ap₂ (λ (x y : ℕ). not (top 7 (bit_or (bit_or (cond (eqb c e) 255 0) x) (bit_and (cond (eqb c 95) 255 0) y)))) fc gw
      ∙ lane_stops (eqb c e) (is_plain c) (eqb c 95) (is_word w) (line_is_not_plain c)

  module _ (at : ℕ) (text : List ℕ) (behind : 1 ≤ at) (room : at + 16 ≤ length text) (fits : (k : ℕ) → Fits w8 (get_or text k 0)) where
    abbrev vs : List ℕ
    vs = chunk at 16 text

    abbrev ws : List ℕ
    ws = chunk (at - 1) 16 text

    abbrev both : List Pair
    both = pairs ws vs

    vs_long : length vs ≡ 16
    vs_long = length-chunk at 16 text room

    ws_long : length ws ≡ 16
    ws_long = length-chunk (at - 1) 16 text (omega arith)

    long : length both ≡ 16
    long = length-zip2 (λ (w v : ℕ). (w, v)) ws vs (ws_long ∙ sym vs_long) ∙ ws_long

    of_right : (h : ℕ → ℕ) (zs : List ℕ) → zs ≡ map h vs → zs ≡ map (λ (p : Pair). h p.1) both
    of_right h zs is = is ∙ ap (map h) (rights ws vs (ws_long ∙ sym vs_long)) ∙ map-map h (λ (p : Pair). p.1) both

    of_left : (h : ℕ → ℕ) (zs : List ℕ) → zs ≡ map h ws → zs ≡ map (λ (p : Pair). h p.0) both
    of_left h zs is = is ∙ ap (map h) (lefts ws vs (ws_long ∙ sym vs_long)) ∙ map-map h (λ (p : Pair). p.0) both

    behind_it : ws ≡ take 16 (get_or text (at - 1) 0 ∷ drop at text)
    behind_it =
        let lt : at - 1 < length text = omega arith in
        let place : at - 1 + 1 ≡ at = omega arith in
        ap (take 16) (drop_more text (at - 1) 0 lt ∙ ap (λ (k : ℕ). get_or text (at - 1) 0 ∷ drop k text) place)

    abbrev passes : Pair → Bool
    passes p = not (top 7 (lane e f g p))

    all_lanes : Each1 (λ (p : Pair). passes p ≡ is_plain_behind e p.0 p.1) both
    all_lanes =
        each_pair (λ (w c : ℕ). passes (w, c) ≡ is_plain_behind e w c) ws vs
        (Each2-of (Fits w8) (Fits w8) (λ (w c : ℕ). passes (w, c) ≡ is_plain_behind e w c) lane_is ws vs (chunk-fits w8 (at - 1) 16 text fits) (chunk-fits w8 at 16 text fits))

    run : prefix_len passes both ≡ plain_len e (get_or text (at - 1) 0) vs
    run =
        let room_there : 16 ≤ length (drop at text) = omega (arith, length-drop at text) in
        let P : List ℕ → Type 0 = λ l. Each1 (λ (p : Pair). passes p ≡ is_plain_behind e p.0 p.1) (pairs l vs) in
        ap (λ (l : List ℕ). prefix_len passes (pairs l vs)) behind_it ∙ run_of_pairs passes e (get_or text (at - 1) 0) 16 (drop at text) room_there (subst P behind_it all_lanes)

    -- the lowest lane that stops
    plain_by_mask : (ends others lines no_words : List ℕ) → ends ≡ map (λ (c : ℕ). cond (eqb c e) 255 0) vs → others ≡ map f vs → lines ≡ map (λ (c : ℕ). cond (eqb c 95) 255 0) vs
        → no_words ≡ map g ws
        → cond (eqb (mask_l (map (top 7) (zip2 bit_or (zip2 bit_or ends others) (zip2 bit_and lines no_words))) % 2 ^ 64) 0) 16
        (count_trailing_zeros 64 (mask_l (map (top 7) (zip2 bit_or (zip2 bit_or ends others) (zip2 bit_and lines no_words))) % 2 ^ 64))
        ≡ plain_len e (get_or text (at - 1) 0) vs
    plain_by_mask ends others lines no_words ends_is others_is lines_is no_words_is =
        let stops : Pair → Bool = λ p. top 7 (lane e f g p) in
        let lanes : zip2 bit_or (zip2 bit_or ends others) (zip2 bit_and lines no_words) ≡ map (lane e f g) both =
        zip2_of_maps bit_or _ _ both
        (zip2_of_maps bit_or _ _ both (of_right (λ (c : ℕ). cond (eqb c e) 255 0) ends ends_is) (of_right f others others_is))
        (zip2_of_maps bit_and _ _ both (of_right (λ (c : ℕ). cond (eqb c 95) 255 0) lines lines_is) (of_left g no_words no_words_is)) in
        let mask : mask_l (map (top 7) (zip2 bit_or (zip2 bit_or ends others) (zip2 bit_and lines no_words))) % 2 ^ 64 ≡ mask_l (map stops both) =
        ap (λ (l : List ℕ). mask_l (map (top 7) l) % 2 ^ 64) lanes ∙ ap (λ (l : List Bool). mask_l l % 2 ^ 64) (map-map (top 7) (lane e f g) both)
        ∙ mask_l-mod (map stops both) 64 (omega (arith, length-map both stops, long)) in
        ap (λ (m : ℕ). cond (eqb m 0) 16 (count_trailing_zeros 64 m)) mask ∙ first_set_mask_l stops both 16 long (omega arith) ∙ run

-- the lowest lane that stops is the first byte that is not plain
pub plain_by_lanes : (e at : ℕ) (text : List ℕ) → 1 ≤ at → at + 16 ≤ length text → ((k : ℕ) → Fits w8 (get_or text k 0)) → (f g : ℕ → ℕ) (ends others lines no_words : List ℕ)
    → ends ≡ map (λ (c : ℕ). cond (eqb c e) 255 0) (chunk at 16 text) → others ≡ map f (chunk at 16 text) → lines ≡ map (λ (c : ℕ). cond (eqb c 95) 255 0) (chunk at 16 text)
    → no_words ≡ map g (chunk (at - 1) 16 text) → Tells f (λ c. is_plain c || eqb c 95) → Tells g is_word
    → cond (eqb (mask_l (map (top 7) (zip2 bit_or (zip2 bit_or ends others) (zip2 bit_and lines no_words))) % 2 ^ 64) 0) 16
    (count_trailing_zeros 64 (mask_l (map (top 7) (zip2 bit_or (zip2 bit_or ends others) (zip2 bit_and lines no_words))) % 2 ^ 64))
    ≡ plain_len e (get_or text (at - 1) 0) (chunk at 16 text)
plain_by_lanes e at text behind room fits f g ends others lines no_words ends_is others_is lines_is no_words_is neither no_word =
    plain_by_mask e f g neither no_word at text behind room fits ends others lines no_words ends_is others_is lines_is no_words_is

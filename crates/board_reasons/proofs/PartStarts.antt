-- Where the parts of a joined vector start, and what stands there.
use Rattle.std.proofs.Common.{◌≡◌, Bool, true, false, ℕ, zero, suc, ◌+◌, ◌-◌, ◌<◌, ◌≤◌, List, [], ◌∷◌, ◌++◌, length, Option, Some, None, option_map, slice_get, refl, sym, ap, ◌∙◌, arith, append_assoc, inl, inr}
use Rattle.std.specs.Prelude.{◌&&◌, ◌==◌, if◌then◌else◌, unwrap_or}
use Rattle.std.proofs.lemmas.Bool.{cases_Bool, cases_lt}
use Rattle.std.proofs.lemmas.List.{append-nil, length-append}
use Rattle.std.proofs.lemmas.Option.{slice_get_within}
use Rattle.scan_vectors.specs.declared.part.Part.{Part}
use Rattle.scan_vectors.specs.declared.part.Part.TheVariants.{Header, Data, Trailer}
use Rattle.scan_vectors.specs.Vector.{PartBits, VectorBit, bits_from, join}
use Rattle.board_reasons.specs.declared.origins.Holder.TheVariants.{Tdi}
use Rattle.board_reasons.specs.Laws.{TellsWhereItWentIn}
use Rattle.board_reasons.specs.Reasons.{is_bit, is_same_part, place_in}
use Rattle.board_reasons.proofs.Places.{bodied, get_first, get_second, headed, place_found, placed, place_low, trailed}

some_is : {A : Type 0} → (x y : A) → Some x ≡ Some y → x ≡ y
some_is x y e = cc

-- where a bit of a list is there, so are those before it
before : (xs : List VectorBit) (k i : ℕ) (v : VectorBit) → slice_get xs k ≡ Some v → i ≤ k → (w : VectorBit) × (slice_get xs i ≡ Some w)
before [] k i v at le = absurd cc
before (x ∷ xs) k zero v at le = (x, refl)
before (x ∷ xs) zero (suc i) v at le = absurd (omega (arith, le))
before (x ∷ xs) (suc k) (suc i) v at le = before xs k i v at (omega (arith, le))

-- bit i of a part stands at a place of a vector
pub record Stands (vs : List VectorBit) (k : ℕ) (of : Part) (i : ℕ) : Type 0 where
  pub bit : VectorBit
  pub there : slice_get vs k ≡ Some bit
  pub part : bit.part ≡ of
  pub place : bit.place ≡ i

-- so does each bit before one of the same part, where these are all of its bits
module _ (xs rest : List VectorBit) (part : Part) (ts ws cs : List Bool) (k : ℕ) (v : VectorBit) where
  among : slice_get (xs ++ (bits_from part 0 ts ws cs ++ rest)) k ≡ Some v → length xs ≤ k → k - length xs < length (bits_from part 0 ts ws cs)
      → slice_get (bits_from part 0 ts ws cs) (k - length xs) ≡ Some v
  among at past inside =
      let mine = bits_from part 0 ts ws cs in
      sym (get_first mine rest (k - length xs) inside) ∙ sym (get_second xs (mine ++ rest) k past) ∙ at

  in_part : slice_get (xs ++ (bits_from part 0 ts ws cs ++ rest)) k ≡ Some v → length xs ≤ k → k - length xs < length (bits_from part 0 ts ws cs)
      → (i : ℕ) → i ≤ v.place → Stands (xs ++ (bits_from part 0 ts ws cs ++ rest)) (k - v.place + i) v.part i
  in_part at past inside i le =
      let mine = bits_from part 0 ts ws cs in
      let here = among at past inside in
      let its = placed part 0 ts ws cs (k - length xs) v here in
      let w = before mine (k - length xs) i v here (omega (arith, its.1, le)) in
      let same = placed part 0 ts ws cs i w.0 w.1 in
      let low = slice_get_within mine i w.0 w.1 in
      let after : length xs ≤ length xs + i = omega arith in
      let back : length xs + i - length xs ≡ i = omega arith in
      let place : k - v.place + i ≡ length xs + i = omega (arith, its.1, past) in
      record {
        bit = w.0;
        there = ap (slice_get (xs ++ (mine ++ rest))) place ∙ get_second xs (mine ++ rest) (length xs + i) after
            ∙ ap (slice_get (mine ++ rest)) back ∙ get_first mine rest i low ∙ w.1;
        part = same.0 ∙ sym its.0;
        place = omega (arith, same.1);
      }

stands_in : (vs ws : List VectorBit) (k : ℕ) (part : Part) (i : ℕ) → vs ≡ ws → Stands vs k part i → Stands ws k part i
stands_in vs ws k part i same s = record { bit = s.bit; there = sym (ap (λ l. slice_get l k) same) ∙ s.there; part = s.part; place = s.place }

-- of a bit of a joined vector: those of its part stand before it, one after another
pub alongside : (h b t : PartBits) (k : ℕ) (v : VectorBit) → slice_get (join h b t) k ≡ Some v → (i : ℕ) → i ≤ v.place → Stands (join h b t) (k - v.place + i) v.part i
alongside h b t k v at i le =
    let first = length (headed h) in
    let second = length (headed h ++ bodied b) in
    let long : second ≡ first + length (bodied b) = length-append (headed h) (bodied b) in
    let total : length (join h b t) ≡ second + length (trailed t) = length-append (headed h ++ bodied b) (trailed t) in
    let within = slice_get_within (join h b t) k v at in
    let apart : headed h ++ (bodied b ++ trailed t) ≡ join h b t = sym (append_assoc (headed h) (bodied b) (trailed t)) in
    let last : (headed h ++ bodied b) ++ (trailed t ++ []) ≡ join h b t = ap (λ l. (headed h ++ bodied b) ++ l) (append-nil (trailed t)) in
    elim (cases_lt k first) [
      | inl inside ↦ stands_in _ _ (k - v.place + i) v.part i apart
          (in_part [] (bodied b ++ trailed t) Header h.tdi h.want h.care k v (ap (λ l. slice_get l k) apart ∙ at) (omega arith) (omega (arith, inside)) i le)
      | inr past ↦ elim (cases_lt (k - first) (length (bodied b))) [
        | inl inside ↦ stands_in _ _ (k - v.place + i) v.part i apart
            (in_part (headed h) (trailed t) Data b.tdi b.want b.care k v (ap (λ l. slice_get l k) apart ∙ at) past inside i le)
        | inr beyond ↦ stands_in _ _ (k - v.place + i) v.part i last
            (in_part (headed h ++ bodied b) [] Trailer t.tdi t.want t.care k v (ap (λ l. slice_get l k) last ∙ at) (omega (arith, past, beyond, long))
            (omega (arith, within, total, past, beyond, long)) i le)
      ]
    ]

-- ---- where a bit of a part is looked for, the last part first

-- from a place on no bit is the one that is looked for
abbrev pub NoneFrom : List VectorBit → (from : ℕ) → Part → (bit : ℕ) → Type 0
NoneFrom vs from part bit = (k : ℕ) (v : VectorBit) → from ≤ k → slice_get vs k ≡ Some v → is_bit part bit v ≡ false

pub none_past : (vs : List VectorBit) (from : ℕ) (part : Part) (bit : ℕ) → length vs ≤ from → NoneFrom vs from part bit
none_past vs from part bit past = λ k v le at. absurd (omega (arith, slice_get_within vs k v at, le, past))

-- the bit at a place, as it is told
told : (vs : List VectorBit) (k : ℕ) (r : Part × ℕ) → option_map {U = Part × ℕ} (λ b. (b.part, b.place)) (slice_get vs k) ≡ Some r → Stands vs k r.0 r.1
told vs k r e = by (slice_get vs k) refl e
  where
    by : (o : Option VectorBit) → slice_get vs k ≡ o → option_map {U = Part × ℕ} (λ b. (b.part, b.place)) o ≡ Some r → Stands vs k r.0 r.1
    by None is e = absurd cc
    by (Some v) is e =
        let same : (v.part, v.place) ≡ r = some_is _ r e in
        record { bit = v; there = is; part = ap (λ (p : Part × ℕ). p.0) same; place = ap (λ (p : Part × ℕ). p.1) same }

same_is : (p q : Part) → is_same_part p q ≡ true → p ≡ q
same_is Header Header e = refl
same_is Header Data e = absurd cc
same_is Header Trailer e = absurd cc
same_is Data Header e = absurd cc
same_is Data Data e = refl
same_is Data Trailer e = absurd cc
same_is Trailer Header e = absurd cc
same_is Trailer Data e = absurd cc
same_is Trailer Trailer e = refl

module _ (h b t : PartBits) (end : ℕ) (last : Part × ℕ) (some : 0 < end) (part : Part) (bit : ℕ)
    (its : option_map {U = Part × ℕ} (λ b. (b.part, b.place)) (slice_get (join h b t) (end - 1)) ≡ Some last) where
  -- a bit of the part that ends there
  stands : (i : ℕ) → i ≤ last.1 → Stands (join h b t) (end - 1 - last.1 + i) last.0 i
  stands i le =
      let v = told (join h b t) (end - 1) last its in
      let s = alongside h b t (end - 1) v.bit v.there i (omega (arith, le, v.place)) in
      let place : end - 1 - v.bit.place + i ≡ end - 1 - last.1 + i = ap (λ n. end - 1 - n + i) v.place in
      record { bit = s.bit; there = sym (ap (slice_get (join h b t)) place) ∙ s.there; part = s.part ∙ v.part; place = s.place }

  pub found_here : is_same_part last.0 part ≡ true → bit ≤ last.1 → place_in (join h b t) part bit ≡ end - 1 - last.1 + bit
  found_here same le =
      let s = stands bit le in
      ap (λ p. place_in (join h b t) p bit) (sym (s.part ∙ same_is last.0 part same))
      ∙ ap (place_in (join h b t) s.bit.part) (sym s.place)
      ∙ place_found h b t (end - 1 - last.1 + bit) s.bit s.there

  other_there : (is_same_part last.0 part ≡ true → last.1 < bit) → (i : ℕ) → i ≤ last.1 → (is_same_part last.0 part && i == bit) ≡ false
  other_there apart i le =
      elim (cases_Bool (is_same_part last.0 part)) [
        | inl same ↦
            let other : (i == bit) ≡ false = grind (arith, apart same, le) in
            ap (λ b. b && i == bit) same ∙ other
        | inr other ↦ ap (λ b. b && i == bit) other
      ]

  pub none_here : NoneFrom (join h b t) end part bit → (is_same_part last.0 part ≡ true → last.1 < bit) → NoneFrom (join h b t) (end - 1 - last.1) part bit
  none_here none apart = λ k w from at.
      elim (cases_lt k end) [
        | inl below ↦
            let i = k - (end - 1 - last.1) in
            let v = told (join h b t) (end - 1) last its in
            let low = place_low h b t (end - 1) v.bit v.there in
            let le : i ≤ last.1 = omega (arith, below, from, some, low, v.place) in
            let s = stands i le in
            let place : end - 1 - last.1 + i ≡ k = omega (arith, from) in
            let same : s.bit ≡ w = some_is s.bit w (sym s.there ∙ ap (slice_get (join h b t)) place ∙ at) in
            ap (is_bit part bit) (sym same) ∙ ap (λ p. is_same_part p part && s.bit.place == bit) s.part
            ∙ ap (λ n. is_same_part last.0 part && n == bit) s.place ∙ other_there apart i le
        | inr past ↦ none k w past at
      ]

chosen : (test : Bool) (k : ℕ) → ℕ
chosen test k = if test then zero else suc k

pub nowhere : (part : Part) (bit : ℕ) (vs : List VectorBit) → NoneFrom vs 0 part bit → place_in vs part bit ≡ length vs
unfolding chosen
nowhere part bit [] none = refl
nowhere part bit (v ∷ vs) none =
    ap (λ b. chosen b (place_in vs part bit)) (none 0 v (omega arith) refl)
    ∙ ap suc (nowhere part bit vs (λ k w from at. none (suc k) w (omega arith) at))

pub tells_where : TellsWhereItWentIn
tells_where h b t k x at = (
  ap (λ (o : Option VectorBit). unwrap_or (option_map (λ (b : VectorBit). Tdi b.part b.place) o) (Tdi Data k)) at,
  place_found h b t k x at,
)

-- no place in a part is past the end of what was looked at
pub room : (h b t : PartBits) (k : ℕ) (r : Part × ℕ) → option_map {U = Part × ℕ} (λ b. (b.part, b.place)) (slice_get (join h b t) k) ≡ Some r → r.1 ≤ k
room h b t k r e =
    let v = told (join h b t) k r e in
    omega (arith, place_low h b t k v.bit v.there, v.place)

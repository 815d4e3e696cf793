-- Lists with separators are read as they are written.
use Rattle.std.proofs.Common.{◌≡◌, ℕ, zero, suc, ◌≤◌, Bool, true, false, cond, List, [], ◌∷◌, ◌++◌, length, refl, sym, ap, subst, ◌∙◌, append_assoc, inl, inr, arith}
use Rattle.std.proofs.lemmas.List.{length-append}
use Rattle.bsdl_text.specs.Cutting.{Lexeme}
use Rattle.bsdl_text.specs.Reading.{Read, fits, ◌>>=◌, mark, stands, chain, joined_by, further, separated, refused_at}
use Rattle.worked_examples.specs.Lists.{IsMark, IsNothing, IsMarkOrNothing, AreMore, AreListed, IsChain, IsList}
use Rattle.worked_examples.proofs.Steps.{Found, Finds, Reads, AreTokens, bound, same_read, joined_split, front_tokens, back_tokens, mark_found, mark_is}

-- ---- what is found

module _ {A : Type 0} (item : List Lexeme → Read A) (Item : A → List Lexeme → Type 0) (separator : ℕ) (End : List Lexeme → Type 0) where
  -- an item, and then more
  pub entry_found : (more : List Lexeme → Read (List A)) → Finds item Item → Finds more (AreMore Item separator End) → (ts : List Lexeme) (xs : List A) (rest : List Lexeme)
      → (item ts >>= λ x a. more a >>= λ ys b. fits (x ∷ ys) b) ≡ fits xs rest → Found (AreListed Item separator End) xs ts rest
  entry_found more finds finds_more ts xs rest e =
      let b = bound (item ts) (λ x a. more a >>= λ ys b. fits (x ∷ ys) b) xs rest e in
      let c = bound (more b.more) (λ ys b'. fits (b.x ∷ ys) b') xs rest b.next in
      let f = finds ts b.x b.more b.first in
      let g = finds_more b.more c.x c.more c.first in
      let s = same_read (b.x ∷ c.x) xs c.more rest c.next in
      let split : ts ≡ (f.front ++ g.front) ++ rest = joined_split ts f.front b.more g.front rest f.split (g.split ∙ ap (λ (us : List Lexeme). g.front ++ us) s.1) in
      subst (λ ys. Found (AreListed Item separator End) ys ts rest) s.0 (record { front = f.front ++ g.front; split = split; is = (f.front, g.front, refl, f.is, g.is) })

  marked : (xs : List A) (m : Lexeme) (front : List Lexeme) → IsMark separator m → AreListed Item separator End xs front → AreMore Item separator End xs (m ∷ front)
  marked [] m front mark h = absurd h
  marked (x ∷ xs) m front mark h = (m, h.0, h.1, ap (λ (us : List Lexeme). m ∷ us) h.2, mark, h.3, h.4)

  -- the same behind a separator
  pub marked_found : (m : Lexeme) (ts : List Lexeme) (xs : List A) (rest : List Lexeme) → IsMark separator m → Found (AreListed Item separator End) xs ts rest → Found (AreMore Item separator End) xs (m ∷ ts) rest
  marked_found m ts xs rest mark f = record { front = m ∷ f.front; split = ap (λ (us : List Lexeme). m ∷ us) f.split; is = marked xs m f.front mark f.is }

  pub none_found : (ts : List Lexeme) (xs : List A) (rest : List Lexeme) → End [] → fits [] ts ≡ fits xs rest → Found (AreMore Item separator End) xs ts rest
  none_found ts xs rest none e =
      let s = same_read [] xs ts rest e in
      subst (λ ys. Found (AreMore Item separator End) ys ts rest) s.0 (record { front = []; split = s.1; is = none })

module _ {A : Type 0} (item : List Lexeme → Read A) (Item : A → List Lexeme → Type 0) (separator : ℕ) (finds : Finds item Item) where
  chain_by : (n : ℕ) (ts : List Lexeme) (b : Bool) (xs : List A) (rest : List Lexeme) → Finds (chain item separator n) (AreMore Item separator IsNothing)
      → cond b (mark separator ts >>= λ m a. item a >>= λ x more. chain item separator n more >>= λ xs after. fits (x ∷ xs) after) (fits [] ts) ≡ fits xs rest
      → Found (AreMore Item separator IsNothing) xs ts rest
  chain_by n ts false xs rest again e = none_found item Item separator IsNothing ts xs rest refl e
  chain_by n ts true xs rest again e =
      let b = bound (mark separator ts) (λ m a. item a >>= λ x more. chain item separator n more >>= λ xs after. fits (x ∷ xs) after) xs rest e in
      let m = mark_found separator ts b.x b.more b.first in
      let f = entry_found item Item separator IsNothing (chain item separator n) finds again b.more xs rest b.next in
      subst (λ us. Found (AreMore Item separator IsNothing) xs us rest) (sym m.0) (marked_found item Item separator IsNothing b.x b.more xs rest m.1 f)

  pub chain_found : (n : ℕ) → Finds (chain item separator n) (AreMore Item separator IsNothing)
  unfolding chain
  chain_found zero ts xs rest e = none_found item Item separator IsNothing ts xs rest refl e
  chain_found (suc n) ts xs rest e = chain_by n ts (stands separator ts) xs rest (chain_found n) e

  pub joined_found : Finds (joined_by item separator) (IsChain Item separator)
  joined_found ts xs rest e = entry_found item Item separator IsNothing (λ a. chain item separator (length a) a) finds (λ us. chain_found (length us) us) ts xs rest e

  module _ (closes : List Lexeme → Bool) where
    closed_by : (b : Bool) (ts : List Lexeme) (r : Read (List A)) (xs : List A) (rest : List Lexeme) → cond b (fits [] ts) r ≡ fits xs rest
        → (r ≡ fits xs rest → Found (AreMore Item separator (IsMarkOrNothing separator)) xs ts rest) → Found (AreMore Item separator (IsMarkOrNothing separator)) xs ts rest
    closed_by true ts r xs rest e on = none_found item Item separator (IsMarkOrNothing separator) ts xs rest (inl refl) e
    closed_by false ts r xs rest e on = on e

    -- behind a separator the list may end
    behind_by : (b : Bool) (m : Lexeme) (ts : List Lexeme) (r : Read (List A)) (xs : List A) (rest : List Lexeme) → IsMark separator m → cond b (fits [] ts) r ≡ fits xs rest
        → (r ≡ fits xs rest → Found (AreListed Item separator (IsMarkOrNothing separator)) xs ts rest) → Found (AreMore Item separator (IsMarkOrNothing separator)) xs (m ∷ ts) rest
    behind_by true m ts r xs rest mark e on =
        let s = same_read [] xs ts rest e in
        subst (λ ys. Found (AreMore Item separator (IsMarkOrNothing separator)) ys (m ∷ ts) rest) s.0
        (record { front = m ∷ []; split = ap (λ (us : List Lexeme). m ∷ us) s.1; is = inr (m, refl, mark) })
    behind_by false m ts r xs rest mark e on = marked_found item Item separator (IsMarkOrNothing separator) m ts xs rest mark (on e)

    pub further_found : (n : ℕ) → Finds (further item separator closes n) (AreMore Item separator (IsMarkOrNothing separator))
    unfolding further
    further_found zero ts xs rest e = closed_by (closes ts) ts (refused_at ts) xs rest e (λ f. absurd cc)
    further_found (suc n) ts xs rest e =
        closed_by (closes ts) ts (mark separator ts >>= λ m a. cond (closes a) (fits [] a) (item a >>= λ x more. further item separator closes n more >>= λ xs after. fits (x ∷ xs) after)) xs rest e
        (λ f.
        let b = bound (mark separator ts) (λ m a. cond (closes a) (fits [] a) (item a >>= λ x more. further item separator closes n more >>= λ xs after. fits (x ∷ xs) after)) xs rest f in
        let m = mark_found separator ts b.x b.more b.first in
        subst (λ us. Found (AreMore Item separator (IsMarkOrNothing separator)) xs us rest) (sym m.0)
        (behind_by (closes b.more) b.x b.more (item b.more >>= λ x more. further item separator closes n more >>= λ xs after. fits (x ∷ xs) after) xs rest m.1 b.next
        (entry_found item Item separator (IsMarkOrNothing separator) (further item separator closes n) finds (further_found n) b.more xs rest)))

    pub separated_found : Finds (separated item separator closes) (IsList Item separator)
    separated_found ts xs rest e = entry_found item Item separator (IsMarkOrNothing separator) (λ a. further item separator closes (length a) a) finds (λ us. further_found (length us) us) ts xs rest e

-- ---- what is read

-- the part behind another is no longer than both
part_short : (front rest : List Lexeme) (n : ℕ) → length (front ++ rest) ≤ n → length rest ≤ n
part_short front rest n h = omega (arith, length-append front rest)

module _ {A : Type 0} (item : List Lexeme → Read A) (Item : A → List Lexeme → Type 0) (Before : List Lexeme → Type 0) (separator : ℕ) (reads : Reads item Item Before)
    (behind : (s : Lexeme) (ts : List Lexeme) → IsMark separator s → Before (s ∷ ts)) where
  -- what stands behind an item
  before_more : (End : List Lexeme → Type 0) → ((ts rest : List Lexeme) → End ts → Before rest → Before (ts ++ rest)) → (xs : List A) (ts rest : List Lexeme) → AreMore Item separator End xs ts → Before rest → Before (ts ++ rest)
  before_more End end [] ts rest h b = end ts rest h b
  before_more End end (x ∷ xs) ts rest h b = subst (λ us. Before (us ++ rest)) (sym h.3) (behind h.0 ((h.1 ++ h.2) ++ rest) h.4)

  before_nothing : (ts rest : List Lexeme) → IsNothing ts → Before rest → Before (ts ++ rest)
  before_nothing ts rest h b = subst (λ us. Before (us ++ rest)) (sym h) b

  before_mark : (ts rest : List Lexeme) → IsMarkOrNothing separator ts → Before rest → Before (ts ++ rest)
  before_mark ts rest (inl h) b = subst (λ us. Before (us ++ rest)) (sym h) b
  before_mark ts rest (inr h) b = subst (λ us. Before (us ++ rest)) (sym h.1) (behind h.0 rest h.2)

  -- the first item of two parts
  first_read : (x : A) (front more rest : List Lexeme) → Item x front → AreTokens (front ++ more) → Before (more ++ rest) → item ((front ++ more) ++ rest) ≡ fits x (more ++ rest)
  first_read x front more rest h tokens b = ap item (append_assoc front more rest) ∙ reads front x (more ++ rest) h (front_tokens front more tokens) b

  chain_none : (n : ℕ) (rest : List Lexeme) → stands separator rest ≡ false → chain item separator n rest ≡ fits [] rest
  unfolding chain
  chain_none zero rest none = refl
  chain_none (suc n) rest none = rw none refl

  chain_read : (xs : List A) (n : ℕ) (ts rest : List Lexeme) → AreMore Item separator IsNothing xs ts → AreTokens ts → length ts ≤ n → stands separator rest ≡ false → Before rest → chain item separator n (ts ++ rest) ≡ fits xs rest
  unfolding chain
  chain_read [] n ts rest h tokens short none b = subst (λ us. chain item separator n (us ++ rest) ≡ fits [] rest) (sym h) (chain_none n rest none)
  chain_read (x ∷ xs) zero ts rest h tokens short none b = absurd (let len : length ts ≡ suc (length (h.1 ++ h.2)) = ap length h.3 in omega (arith, len))
  chain_read (x ∷ xs) (suc n) ts rest h tokens short none b =
      let all = subst AreTokens h.3 tokens in
      let len : length (h.1 ++ h.2) ≤ n = omega (arith, ap length h.3) in
      let here : item ((h.1 ++ h.2) ++ rest) ≡ fits x (h.2 ++ rest) = first_read x h.1 h.2 rest h.5 all.1 (before_more IsNothing before_nothing xs h.2 rest h.6 b) in
      let later : chain item separator n (h.2 ++ rest) ≡ fits xs rest = chain_read xs n h.2 rest h.6 (back_tokens h.1 h.2 all.1) (part_short h.1 h.2 n len) none b in
      subst (λ us. chain item separator (suc n) (us ++ rest) ≡ fits (x ∷ xs) rest) (sym h.3) (rw (mark_is separator h.0 h.4, here, later) refl)

  pub joined_read : (ts : List Lexeme) (xs : List A) (rest : List Lexeme) → IsChain Item separator xs ts → AreTokens ts → stands separator rest ≡ false → Before rest → joined_by item separator (ts ++ rest) ≡ fits xs rest
  joined_read ts [] rest h tokens none b = absurd h
  joined_read ts (x ∷ xs) rest h tokens none b =
      let all = subst AreTokens h.2 tokens in
      let here : item ((h.0 ++ h.1) ++ rest) ≡ fits x (h.1 ++ rest) = first_read x h.0 h.1 rest h.3 all (before_more IsNothing before_nothing xs h.1 rest h.4 b) in
      let later : chain item separator (length (h.1 ++ rest)) (h.1 ++ rest) ≡ fits xs rest = chain_read xs (length (h.1 ++ rest)) h.1 rest h.4 (back_tokens h.0 h.1 all) (omega (arith, length-append h.1 rest)) none b in
      subst (λ us. joined_by item separator (us ++ rest) ≡ fits (x ∷ xs) rest) (sym h.2) (rw (here, later) refl)

  module _ (closes : List Lexeme → Bool) (parts : (s : Lexeme) (ts : List Lexeme) → IsMark separator s → closes (s ∷ ts) ≡ false)
      (opens : (x : A) (front ts : List Lexeme) → Item x front → AreTokens front → closes (front ++ ts) ≡ false) where
    further_none : (n : ℕ) (rest : List Lexeme) → closes rest ≡ true → further item separator closes n rest ≡ fits [] rest
    unfolding further
    further_none zero rest close = rw close refl
    further_none (suc n) rest close = rw close refl

    further_end : (n : ℕ) (ts rest : List Lexeme) → IsMarkOrNothing separator ts → length ts ≤ n → closes rest ≡ true → further item separator closes n (ts ++ rest) ≡ fits [] rest
    unfolding further
    further_end n ts rest (inl h) short close = subst (λ us. further item separator closes n (us ++ rest) ≡ fits [] rest) (sym h) (further_none n rest close)
    further_end zero ts rest (inr h) short close = absurd (omega (arith, ap length h.1))
    further_end (suc n) ts rest (inr h) short close =
        subst (λ us. further item separator closes (suc n) (us ++ rest) ≡ fits [] rest) (sym h.1) (rw (parts h.0 rest h.2, mark_is separator h.0 h.2, close) refl)

    further_read : (xs : List A) (n : ℕ) (ts rest : List Lexeme) → AreMore Item separator (IsMarkOrNothing separator) xs ts → AreTokens ts → length ts ≤ n → closes rest ≡ true → Before rest
        → further item separator closes n (ts ++ rest) ≡ fits xs rest
    unfolding further
    further_read [] n ts rest h tokens short close b = further_end n ts rest h short close
    further_read (x ∷ xs) zero ts rest h tokens short close b = absurd (let len : length ts ≡ suc (length (h.1 ++ h.2)) = ap length h.3 in omega (arith, len))
    further_read (x ∷ xs) (suc n) ts rest h tokens short close b =
        let all = subst AreTokens h.3 tokens in
        let len : length (h.1 ++ h.2) ≤ n = omega (arith, ap length h.3) in
        let here : item ((h.1 ++ h.2) ++ rest) ≡ fits x (h.2 ++ rest) = first_read x h.1 h.2 rest h.5 all.1 (before_more (IsMarkOrNothing separator) before_mark xs h.2 rest h.6 b) in
        let later : further item separator closes n (h.2 ++ rest) ≡ fits xs rest = further_read xs n h.2 rest h.6 (back_tokens h.1 h.2 all.1) (part_short h.1 h.2 n len) close b in
        let is_open : closes ((h.1 ++ h.2) ++ rest) ≡ false = ap closes (append_assoc h.1 h.2 rest) ∙ opens x h.1 (h.2 ++ rest) h.5 (front_tokens h.1 h.2 all.1) in
        subst (λ us. further item separator closes (suc n) (us ++ rest) ≡ fits (x ∷ xs) rest) (sym h.3)
        (rw (parts h.0 ((h.1 ++ h.2) ++ rest) h.4, mark_is separator h.0 h.4, is_open, here, later) refl)

    pub separated_read : (ts : List Lexeme) (xs : List A) (rest : List Lexeme) → IsList Item separator xs ts → AreTokens ts → closes rest ≡ true → Before rest → separated item separator closes (ts ++ rest) ≡ fits xs rest
    separated_read ts [] rest h tokens close b = absurd h
    separated_read ts (x ∷ xs) rest h tokens close b =
        let all = subst AreTokens h.2 tokens in
        let here : item ((h.0 ++ h.1) ++ rest) ≡ fits x (h.1 ++ rest) = first_read x h.0 h.1 rest h.3 all (before_more (IsMarkOrNothing separator) before_mark xs h.1 rest h.4 b) in
        let later : further item separator closes (length (h.1 ++ rest)) (h.1 ++ rest) ≡ fits xs rest =
        further_read xs (length (h.1 ++ rest)) h.1 rest h.4 (back_tokens h.0 h.1 all) (omega (arith, length-append h.1 rest)) close b in
        subst (λ us. separated item separator closes (us ++ rest) ≡ fits (x ∷ xs) rest) (sym h.2) (rw (here, later) refl)

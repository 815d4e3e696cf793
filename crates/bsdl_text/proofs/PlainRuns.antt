-- Plain bytes are passed piece by piece.
use Rattle.std.proofs.Common.{◌≡◌, ℕ, zero, suc, ◌+◌, ◌-◌, ◌<◌, ◌≤◌, Bool, true, false, cond, not, nat_eq, ◌&&◌, ◌||◌, List, [], ◌∷◌, length, take, drop, get_or, refl, sym, ap, ◌∙◌, subst, inl, inr, arith}
use Rattle.std.proofs.lemmas.Bool.{eqb-true, cases_Bool, not_from_false, both_ways}
use Rattle.std.proofs.lemmas.Bool.Decides.{nat_tests}
use Rattle.std.proofs.lemmas.List.{drop-drop, drop_more, get_or-drop, length-drop, length-take-le}
use Rattle.std.specs.List.{prefix_len}
use Rattle.bsdl_text.specs.Bytes.{is_word}
use Rattle.bsdl_text.specs.Plain.{is_plain, is_plain_behind, plain_len}

one_more : (b : Bool) (m n : ℕ) → cond b (1 + m) 0 ≡ suc n → (b ≡ true) × (m ≡ n)
one_more true m n is = (refl, omega (arith, is))
one_more false m n is = absurd (omega (arith, is))

fits : (b : Bool) (m n : ℕ) → m ≤ n → cond b (1 + m) 0 ≤ suc n
fits true m n le = omega arith
fits false m n le = omega arith

fewer_by : (b : Bool) (m k n : ℕ) → (k < n → m ≡ k) → cond b (1 + k) 0 < suc n → cond b (1 + m) 0 ≡ cond b (1 + k) 0
fewer_by true m k n later few = ap (λ (i : ℕ). 1 + i) (later (omega (arith, few)))
fewer_by false m k n later few = refl

word_byte : (c : ℕ) → is_word c ≡ true → (is_plain c || (nat_eq c 95 && true)) ≡ true
word_byte c is = grind (arith, nat_tests)

module _ (e : ℕ) where
  pub plain_le : (b : ℕ) (cs : List ℕ) → plain_len e b cs ≤ length cs
  plain_le b [] = omega arith
  plain_le b (c ∷ cs) = fits (is_plain_behind e b c) (plain_len e c cs) (length cs) (plain_le c cs)

  -- plain bytes that end among the first n, and others
  pub ends_among : (b n : ℕ) (cs : List ℕ) → plain_len e b (take n cs) < n → plain_len e b cs ≡ plain_len e b (take n cs)
  ends_among b zero cs few = absurd (omega arith)
  ends_among b (suc n) [] few = refl
  ends_among b (suc n) (c ∷ cs) few =
      fewer_by (is_plain_behind e b c) (plain_len e c cs) (plain_len e c (take n cs)) n (λ fewer. ends_among c n cs fewer) few

  pub goes_on : (b n : ℕ) (cs : List ℕ) → plain_len e b (take n cs) ≡ n → plain_len e b cs ≡ n + plain_len e (get_or (b ∷ cs) n 0) (drop n cs)
  goes_on b zero cs all = omega arith
  goes_on b (suc n) [] all = absurd (omega arith)
  goes_on b (suc n) (c ∷ cs) all =
      let more = one_more (is_plain_behind e b c) (plain_len e c (take n cs)) n all in
      let here : is_plain_behind e b c ≡ true = more.0 in
      let later : plain_len e c cs ≡ n + plain_len e (get_or (c ∷ cs) n 0) (drop n cs) = goes_on c n cs more.1 in
      rw here (omega (arith, later))

  module _ (no_word : is_word e ≡ false) where
    no_end : (c : ℕ) → is_word c ≡ true → not (nat_eq c e) ≡ true
    no_end c word =
        elim (cases_Bool (nat_eq c e)) [
          | inl same ↦ absurd (both_ways (is_word e) no_word (subst (λ (d : ℕ). is_word d ≡ true) (eqb-true c e same) word))
          | inr other ↦ not_from_false (nat_eq c e) other
        ]

    -- bytes of a word behind one
    pub word_is_plain : (b : ℕ) (cs : List ℕ) → is_word b ≡ true → prefix_len is_word cs ≡ length cs → plain_len e b cs ≡ length cs
    word_is_plain b [] behind all = refl
    word_is_plain b (c ∷ cs) behind all =
        let more = one_more (is_word c) (prefix_len is_word cs) (length cs) all in
        let no : not (nat_eq c e) ≡ true = no_end c more.0 in
        let plain : (is_plain c || (nat_eq c 95 && true)) ≡ true = word_byte c more.0 in
        let later : plain_len e c cs ≡ length cs = word_is_plain c cs more.0 more.1 in
        rw (no, behind, plain) (omega (arith, later))

-- ---- the same at a place of a text, behind its first byte

module _ (e at : ℕ) (text : List ℕ) (passed : plain_len e 32 text ≡ at + plain_len e (get_or text (at - 1) 0) (drop at text)) where
  pub ends_at : (n : ℕ) → plain_len e (get_or text (at - 1) 0) (take n (drop at text)) < n → plain_len e 32 text ≡ at + plain_len e (get_or text (at - 1) 0) (take n (drop at text))
  ends_at n few = omega (arith, passed, ends_among e (get_or text (at - 1) 0) n (drop at text) few)

  pub passes_on : (n : ℕ) → plain_len e (get_or text (at - 1) 0) (take (suc n) (drop at text)) ≡ suc n
      → plain_len e 32 text ≡ at + suc n + plain_len e (get_or text (at + suc n - 1) 0) (drop (at + suc n) text)
  passes_on n all =
      let here : plain_len e (get_or text (at - 1) 0) (drop at text) ≡ suc n + plain_len e (get_or (drop at text) n 0) (drop (suc n) (drop at text)) =
      goes_on e (get_or text (at - 1) 0) (suc n) (drop at text) all in
      let place : at + n ≡ at + suc n - 1 = omega arith in
      let last : get_or (drop at text) n 0 ≡ get_or text (at + suc n - 1) 0 = get_or-drop at text n 0 ∙ ap (λ (k : ℕ). get_or text k 0) place in
      let same : plain_len e (get_or (drop at text) n 0) (drop (suc n) (drop at text)) ≡ plain_len e (get_or text (at + suc n - 1) 0) (drop (at + suc n) text) =
      ap (λ (b : ℕ). plain_len e b (drop (suc n) (drop at text))) last ∙ ap (plain_len e (get_or text (at + suc n - 1) 0)) (drop-drop (suc n) at text) in
      omega (arith, passed, here, same)

  -- of the bytes of a word those behind the first are plain
  pub passes_word : (n : ℕ) → is_word e ≡ false → 1 ≤ at → at + suc n ≤ length text → prefix_len is_word (take (suc (suc n)) (drop (at - 1) text)) ≡ suc (suc n)
      → plain_len e 32 text ≡ at + suc n + plain_len e (get_or text (at + suc n - 1) 0) (drop (at + suc n) text)
  passes_word n no_word behind within word =
      let place : at - 1 + 1 ≡ at = omega arith in
      let lt : at - 1 < length text = omega arith in
      let cells : drop (at - 1) text ≡ get_or text (at - 1) 0 ∷ drop at text = drop_more text (at - 1) 0 lt ∙ ap (λ (k : ℕ). get_or text (at - 1) 0 ∷ drop k text) place in
      let all : prefix_len is_word (get_or text (at - 1) 0 ∷ take (suc n) (drop at text)) ≡ suc (suc n) = ap (λ (l : List ℕ). prefix_len is_word (take (suc (suc n)) l)) (sym cells) ∙ word in
      let more = one_more (is_word (get_or text (at - 1) 0)) (prefix_len is_word (take (suc n) (drop at text))) (suc n) all in
      let room : suc n ≤ length (drop at text) = omega (arith, length-drop at text) in
      let long : length (take (suc n) (drop at text)) ≡ suc n = length-take-le (suc n) (drop at text) room in
      passes_on n (word_is_plain e no_word (get_or text (at - 1) 0) (take (suc n) (drop at text)) more.0 (more.1 ∙ sym long) ∙ long)

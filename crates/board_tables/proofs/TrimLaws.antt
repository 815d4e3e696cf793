-- Texts without the spaces at their ends, and behind a `!`.
use Rattle.std.proofs.Common.{◌≡◌, ◌<◌, ℕ, ◌-◌, ◌==◌, Bool, true, false, cond, List, [], ◌∷◌, ◌++◌, length, take, drop, reverse, Option, Some, None, option_map, refl, ap, sym, ◌∙◌, arith}
use Rattle.std.proofs.lemmas.Bool.{eqb-true}
use Rattle.std.proofs.lemmas.List.{drop_all, reverse-append, reverse-reverse, take-append-drop}
use Rattle.std.proofs.lemmas.Str.{encode_ascii, len_utf8_ascii}
use Rattle.std.proofs.lemmas.Str.Pattern.{drop_at_char}
use Rattle.std.specs.Option.{MatchOption}
use Rattle.std.specs.Str.Pattern.{HasCharAt, FindsCharPrefix, FindsCharSuffix, CutsPrefixes, CutsSuffixes, IsFullyTrimmed, IsTrimStartMatches, IsTrimEndMatches}
use denote.Ref.{Bor}
use Rattle.board_tables.specs.FollowTexts.{without_before, without_behind, behind_mark}

low : 32 < 128
low = omega arith

-- a text that does not begin with a space keeps all
pub kept : (r : List ℕ) → ((rest : List ℕ) → r ≡ 32 ∷ rest → ⊥) → without_before r ≡ r
kept [] none = refl
kept (c ∷ cs) none = by (c == 32) refl
  where
    by : (b : Bool) → (c == 32) ≡ b → cond b (without_before cs) (c ∷ cs) ≡ c ∷ cs
    by true e = absurd (none cs (ap (λ x. x ∷ cs) (eqb-true c 32 e)))
    by false e = refl

last_first : (cs : List ℕ) → reverse (cs ++ 32 ∷ []) ≡ 32 ∷ reverse cs
last_first cs = reverse-append cs (32 ∷ [])

-- and one that does not end with one
pub kept_behind : (r : List ℕ) → ((front : List ℕ) → r ≡ front ++ 32 ∷ [] → ⊥) → without_behind r ≡ r
kept_behind r none =
    ap reverse (kept (reverse r) (λ rest e. none (reverse rest) (sym (reverse-reverse r) ∙ ap reverse e ∙ reverse-append (32 ∷ []) rest)))
    ∙ reverse-reverse r

-- ---- spaces before a text

starts : (n : ℕ) (m r : List ℕ) → HasCharAt 32 m 0 n → r ≡ drop n m → m ≡ 32 ∷ r
starts n m r found is = drop_at_char 32 m 0 n found low ∙ ap (λ l. 32 ∷ l) (sym is)

cut_before : (ns s r : List ℕ) → CutsPrefixes (FindsCharPrefix 32) s ns r → without_before r ≡ without_before s
cut_before [] s r is = ap without_before is
cut_before (n ∷ ns) s r (m, cuts, found, is) = sym (ap without_before (starts n m r found is)) ∙ cut_before ns s m cuts

nothing_left : (r : List ℕ) → IsFullyTrimmed (FindsCharPrefix 32) r → without_before r ≡ r
nothing_left r (None, none, small) = kept r (λ rest e. none rest (e ∙ ap (λ l. l ++ rest) (sym (encode_ascii 32 low))))
nothing_left r (Some n, at, small) = absurd (omega (arith, at.ends, len_utf8_ascii 32 low, small))

pub before_is : (s r : List ℕ) → IsTrimStartMatches (FindsCharPrefix 32) s r → r ≡ without_before s
before_is s r (cuts, full) = sym (nothing_left r full) ∙ cut_before cuts.0 s r cuts.1

-- ---- spaces behind it

ends : (n : ℕ) (m r : List ℕ) → HasCharAt 32 m (length m - n) (length m) → r ≡ take (length m - n) m → m ≡ r ++ 32 ∷ []
ends n m r found is =
    sym (take-append-drop (length m - n) m)
    ∙ ap (λ l. take (length m - n) m ++ l) (drop_at_char 32 m (length m - n) (length m) found low ∙ ap (λ l. 32 ∷ l) (drop_all (length m) m (omega arith)))
    ∙ ap (λ l. l ++ 32 ∷ []) (sym is)

cut_behind : (ns s r : List ℕ) → CutsSuffixes (FindsCharSuffix 32) s ns r → without_behind r ≡ without_behind s
cut_behind [] s r is = ap without_behind is
cut_behind (n ∷ ns) s r (m, cuts, found, is) =
    sym (ap (λ l. reverse (without_before l)) (ap reverse (ends n m r found.1 is) ∙ last_first r)) ∙ cut_behind ns s m cuts

nothing_left_behind : (r : List ℕ) → IsFullyTrimmed (FindsCharSuffix 32) r → without_behind r ≡ r
nothing_left_behind r (None, none, small) = kept_behind r (λ front e. none front (e ∙ ap (λ l. front ++ l) (sym (encode_ascii 32 low))))
nothing_left_behind r (Some n, at, small) = absurd (omega (arith, at.0, len_utf8_ascii 32 low, small))

pub behind_is : (s r : List ℕ) → IsTrimEndMatches (FindsCharSuffix 32) s r → r ≡ without_behind s
behind_is s r (cuts, full) = sym (nothing_left_behind r full) ∙ cut_behind cuts.0 s r cuts.1

-- ---- a `!`

pub mark_is : (bs : List ℕ) (r : Option (Bor (List ℕ))) → MatchOption r ((rest : List ℕ) → bs ≡ 33 ∷ rest → ⊥) (λ x. bs ≡ 33 ∷ x.now)
    → option_map (λ (t : Bor (List ℕ)). t.now) r ≡ behind_mark bs
mark_is bs (Some x) h = sym (ap behind_mark h)
mark_is [] None h = refl
mark_is (c ∷ cs) None h = by (c == 33) refl
  where
    by : (b : Bool) → (c == 33) ≡ b → None ≡ cond b (Some cs) None
    by true e = absurd (h cs (ap (λ x. x ∷ cs) (eqb-true c 33 e)))
    by false e = refl

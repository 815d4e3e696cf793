-- A text is read as the pin that it spells.
use Rattle.std.proofs.Common.{◌≡◌, ◌⊎◌, inl, inr, ℕ, suc, ◌+◌, nat_lt, ◌==◌, Bool, true, false, not, ◌&&◌, cond, List, [], ◌∷◌, ◌++◌, append_assoc, length, Option, Some, None, option_map, option_and_then, unwrap_or, if◌then◌else◌, refl, ap, sym, ◌∙◌, subst, arith}
use Rattle.std.specs.List.{list_all, position_or_len}
use Rattle.std.specs.Char.{is_ascii_alphabetic, is_ascii_digit}
use Rattle.std.proofs.lemmas.Bool.{false≢true, and_parts, eqb-true}
use Rattle.std.proofs.lemmas.Bool.Decides.{nat_tests}
use Rattle.std.proofs.lemmas.List.{append-nil, length-append}
use Rattle.std.proofs.Math.Seq.{take-append_seam, drop-append-add}
use Rattle.board_tables.specs.Names.{continues, is_name}
use Rattle.board_tables.specs.PinTexts.{PinText, PortText, IsPortText, is_number, index_text, port_text, pin_text, is_index, Spells, split_at, index_of, indexed, scalar, port_of, with_device, pin_of, PinsAreReadAsSpelt}

-- ---- the first such byte

-- whether a list has no such byte
abbrev pub lacks : ℕ → List ℕ → Bool
lacks c xs = list_all (λ x. not (x == c)) xs

itself : (c : ℕ) → (c == c) ≡ true
itself c = grind (arith, nat_tests)

place_at : (c : ℕ) (xs ys : List ℕ) → lacks c xs ≡ true → position_or_len (λ b. b == c) (xs ++ c ∷ ys) ≡ length xs
place_at c [] ys h = rw (itself c) refl
place_at c (x ∷ xs) ys h = by (x == c) h (place_at c xs ys)
  where
    by : (b : Bool) → not b && lacks c xs ≡ true → (lacks c xs ≡ true → position_or_len (λ b. b == c) (xs ++ c ∷ ys) ≡ length xs)
        → cond (not b) (1 + position_or_len (λ b. b == c) (xs ++ c ∷ ys)) 0 ≡ suc (length xs)
    by true h f = absurd (false≢true h)
    by false h f = let e = f h in omega (arith, e)

no_place : (c : ℕ) (xs : List ℕ) → lacks c xs ≡ true → position_or_len (λ b. b == c) xs ≡ length xs
no_place c [] h = refl
no_place c (x ∷ xs) h = by (x == c) h (no_place c xs)
  where
    by : (b : Bool) → not b && lacks c xs ≡ true → (lacks c xs ≡ true → position_or_len (λ b. b == c) xs ≡ length xs)
        → cond (not b) (1 + position_or_len (λ b. b == c) xs) 0 ≡ suc (length xs)
    by true h f = absurd (false≢true h)
    by false h f = let e = f h in omega (arith, e)

pub split_made : (c : ℕ) (xs ys : List ℕ) → lacks c xs ≡ true → split_at c (xs ++ c ∷ ys) ≡ Some (xs, ys)
split_made c xs ys h =
    let inside : nat_lt (length xs) (length (xs ++ c ∷ ys)) ≡ true = rw (length-append xs (c ∷ ys)) (grind (arith, nat_tests)) in
    rw (place_at c xs ys h, inside, take-append_seam xs (c ∷ ys), drop-append-add xs (c ∷ ys) 1) refl

pub split_none : (c : ℕ) (xs : List ℕ) → lacks c xs ≡ true → split_at c xs ≡ None
split_none c xs h =
    let beyond : nat_lt (length xs) (length xs) ≡ false = grind (arith, nat_tests) in
    rw (no_place c xs h, beyond) refl

-- a list lacks the byte, or has a first one
record Parts (c : ℕ) (text : List ℕ) : Type 0 where
  front : List ℕ
  back : List ℕ
  whole : text ≡ front ++ c ∷ back
  first : lacks c front ≡ true

parts : (c : ℕ) (text : List ℕ) → (lacks c text ≡ true) ⊎ Parts c text
parts c [] = inl refl
parts c (x ∷ xs) = by (x == c) refl (parts c xs)
  where
    by : (b : Bool) → (x == c) ≡ b → (lacks c xs ≡ true) ⊎ Parts c xs → (lacks c (x ∷ xs) ≡ true) ⊎ Parts c (x ∷ xs)
    by true e rest = inr (record { front = []; back = xs; whole = ap (λ y. y ∷ xs) (eqb-true x c e); first = refl })
    by false e (inl none) = inl (rw e none)
    by false e (inr p) = inr (record { front = x ∷ p.front; back = p.back; whole = ap (λ ys. x ∷ ys) p.whole; first = rw e p.first })

pub none_some : {A : Type 0} (x : A) → None ≡ Some x → ⊥
none_some x e = absurd cc

same_pair : (q r : List ℕ × List ℕ) → Some q ≡ Some r → (q.0 ≡ r.0) × (q.1 ≡ r.1)
same_pair q r e = (ap (λ o. (unwrap_or o q).0) e, ap (λ o. (unwrap_or o q).1) e)

-- what a split says
pub split_says : (c : ℕ) (text front back : List ℕ) → split_at c text ≡ Some (front, back) → (text ≡ front ++ c ∷ back) × (lacks c front ≡ true)
split_says c text front back e = by (parts c text)
  where
    by : (lacks c text ≡ true) ⊎ Parts c text → (text ≡ front ++ c ∷ back) × (lacks c front ≡ true)
    by (inl none) = absurd (none_some (front, back) (sym (split_none c text none) ∙ e))
    by (inr p) =
        let made = sym (split_made c p.front p.back p.first) ∙ ap (split_at c) (sym p.whole) ∙ e in
        let (one, two) = same_pair (p.front, p.back) (front, back) made in
        (p.whole ∙ ap (λ f. f ++ c ∷ p.back) one ∙ ap (λ b. front ++ c ∷ b) two, subst (λ f. lacks c f ≡ true) one p.first)

-- ---- names and digits lack the marks

pub apart_at : (test : ℕ → Bool) (m x : ℕ) → test m ≡ false → test x ≡ true → not (x == m) ≡ true
apart_at test m x never passes = by (x == m) refl
  where
    by : (b : Bool) → (x == m) ≡ b → not b ≡ true
    by true e = absurd (false≢true (sym never ∙ ap test (sym (eqb-true x m e)) ∙ passes))
    by false e = refl

all_lack : (test : ℕ → Bool) (m : ℕ) (xs : List ℕ) → test m ≡ false → list_all test xs ≡ true → lacks m xs ≡ true
all_lack test m [] never h = refl
all_lack test m (x ∷ xs) never h =
    let both = and_parts (test x) (list_all test xs) h in
    rw (apart_at test m x never both.0) (all_lack test m xs never both.1)

pub name_lacks : (m : ℕ) (name : List ℕ) → is_ascii_alphabetic m ≡ false → continues m ≡ false → is_name name ≡ true → lacks m name ≡ true
name_lacks m [] first rest h = absurd (false≢true h)
name_lacks m (x ∷ xs) first rest h =
    let both = and_parts (is_ascii_alphabetic x) (list_all continues xs) h in
    rw (apart_at is_ascii_alphabetic m x first both.0) (all_lack continues m xs rest both.1)

pub digits_lack : (m : ℕ) (ds : List ℕ) → is_ascii_digit m ≡ false → is_number ds ≡ true → lacks m ds ≡ true
digits_lack m ds never h = all_lack is_ascii_digit m ds never ((and_parts (nat_lt 0 (length ds)) (list_all is_ascii_digit ds) h).1)

-- ---- an index

index_made : (ds : List ℕ) → is_number ds ≡ true → index_of (ds ++ 41 ∷ []) ≡ Some ds
unfolding index_of
index_made ds h = rw (split_made 41 ds [] (digits_lack 41 ds refl h), h) refl

empty : (xs : List ℕ) → (length xs == 0) ≡ true → xs ≡ []
empty [] h = refl
empty (x ∷ xs) h = absurd (grind (arith, nat_tests))

index_says : (text ds : List ℕ) → index_of text ≡ Some ds → (text ≡ ds ++ 41 ∷ []) × (is_number ds ≡ true)
unfolding index_of
index_says text ds e = by (split_at 41 text) refl e
  where
    found : (front back : List ℕ) → split_at 41 text ≡ Some (front, back) → (b : Bool) → (is_number front && length back == 0) ≡ b → cond b (Some front) None ≡ Some ds → (text ≡ ds ++ 41 ∷ []) × (is_number ds ≡ true)
    found front back at false t e = absurd (none_some ds e)
    found front back at true t e =
        let both = and_parts (is_number front) (length back == 0) t in
        let same : front ≡ ds = ap (λ o. unwrap_or o front) e in
        ((split_says 41 text front back at).0 ∙ ap (λ b. front ++ 41 ∷ b) (empty back both.1) ∙ ap (λ f. f ++ 41 ∷ []) same, subst (λ f. is_number f ≡ true) same both.0)

    by : (o : Option (List ℕ × List ℕ)) → split_at 41 text ≡ o → option_and_then (λ p. if is_number p.0 && length p.1 == 0 then Some p.0 else None) o ≡ Some ds → (text ≡ ds ++ 41 ∷ []) × (is_number ds ≡ true)
    by None at e = absurd (none_some ds e)
    by (Some (front, back)) at e = found front back at (is_number front && length back == 0) refl e

-- ---- a port

-- the text spells this port
pub record PortSpelt (text : List ℕ) (p : PortText) : Type 0 where
  pub spelt : text ≡ port_text p
  pub fits : IsPortText p

port_plain : (text : List ℕ) → split_at 40 text ≡ None → port_of text ≡ scalar text
unfolding port_of
port_plain text e = ap (λ o. elim o [ Some q ↦ indexed q.0 q.1 | None ↦ scalar text ]) e

port_indexed : (text front back : List ℕ) → split_at 40 text ≡ Some (front, back) → port_of text ≡ indexed front back
unfolding port_of
port_indexed text front back e = ap (λ o. elim o [ Some q ↦ indexed q.0 q.1 | None ↦ scalar text ]) e

pub port_made : (name : List ℕ) (i : Option (List ℕ)) → is_name name ≡ true → is_index i ≡ true → port_of (name ++ index_text i) ≡ Some (record { name = name; index = i })
port_made name None good i =
    ap port_of (append-nil name) ∙ port_plain name (split_none 40 name (name_lacks 40 name refl refl good)) ∙ rw good refl
port_made name (Some ds) good i =
    port_indexed (name ++ 40 ∷ (ds ++ 41 ∷ [])) name (ds ++ 41 ∷ []) (split_made 40 name (ds ++ 41 ∷ []) (name_lacks 40 name refl refl good)) ∙ rw (good, index_made ds i) refl

pub same_some : {A : Type 0} (x y : A) → Some x ≡ Some y → x ≡ y
same_some x y e = ap (λ o. unwrap_or o x) e

pub port_says : (text : List ℕ) (p : PortText) → port_of text ≡ Some p → PortSpelt text p
unfolding port_of
port_says text p e = by (split_at 40 text) refl e
  where
    plain : (b : Bool) → is_name text ≡ b → cond b (Some (record { name = text; index = None })) None ≡ Some p → PortSpelt text p
    plain false n e = absurd (none_some p e)
    plain true n e =
        subst (PortSpelt text) (same_some (record { name = text; index = None }) p e)
        (record { spelt = sym (append-nil text); fits = record { name = n; index = refl } })

    with_index : (front back : List ℕ) → split_at 40 text ≡ Some (front, back) → is_name front ≡ true → (o : Option (List ℕ)) → index_of back ≡ o
        → option_map {U = PortText} (λ ds. record { name = front; index = Some ds }) o ≡ Some p → PortSpelt text p
    with_index front back at n None i e = absurd (none_some p e)
    with_index front back at n (Some ds) i e =
        let is = index_says back ds i in
        subst (PortSpelt text) (same_some (record { name = front; index = Some ds }) p e)
        (record { spelt = (split_says 40 text front back at).0 ∙ ap (λ b. front ++ 40 ∷ b) is.0; fits = record { name = n; index = is.1 } })

    bracketed : (front back : List ℕ) → split_at 40 text ≡ Some (front, back) → (b : Bool) → is_name front ≡ b
        → cond b (option_map {U = PortText} (λ ds. record { name = front; index = Some ds }) (index_of back)) None ≡ Some p → PortSpelt text p
    bracketed front back at false n e = absurd (none_some p e)
    bracketed front back at true n e = with_index front back at n (index_of back) refl e

    by : (o : Option (List ℕ × List ℕ)) → split_at 40 text ≡ o → elim o [ Some q ↦ indexed q.0 q.1 | None ↦ scalar text ] ≡ Some p → PortSpelt text p
    by None at e = plain (is_name text) refl e
    by (Some (front, back)) at e = bracketed front back at (is_name front) refl e

-- ---- a pin

pin_made : (p : PinText) → is_name p.device ≡ true → is_name p.port ≡ true → is_index p.index ≡ true → pin_of (pin_text p) ≡ Some p
unfolding pin_of
pin_made p device port index =
    let whole = append_assoc p.device (46 ∷ p.port) (index_text p.index) in
    rw (whole, split_made 46 p.device (p.port ++ index_text p.index) (name_lacks 46 p.device refl refl device), device)
    (ap (option_map (with_device p.device)) (port_made p.port p.index port index))

pin_says : (text : List ℕ) (p : PinText) → pin_of text ≡ Some p → Spells text p
unfolding pin_of
pin_says text p e = by (split_at 46 text) refl e
  where
    placed : (front back : List ℕ) → split_at 46 text ≡ Some (front, back) → is_name front ≡ true → (o : Option PortText) → port_of back ≡ o
        → option_map (with_device front) o ≡ Some p → Spells text p
    placed front back at n None is e = absurd (none_some p e)
    placed front back at n (Some q) is e =
        let says = port_says back q is in
        subst (Spells text) (same_some (with_device front q) p e)
        (record {
          spelt = (split_says 46 text front back at).0 ∙ ap (λ b. front ++ 46 ∷ b) says.spelt ∙ sym (append_assoc front (46 ∷ q.name) (index_text q.index));
          device = n;
          port = says.fits.name;
          index = says.fits.index;
        })

    named : (front back : List ℕ) → split_at 46 text ≡ Some (front, back) → (b : Bool) → is_name front ≡ b → cond b (option_map (with_device front) (port_of back)) None ≡ Some p → Spells text p
    named front back at false n e = absurd (none_some p e)
    named front back at true n e = placed front back at n (port_of back) refl e

    by : (o : Option (List ℕ × List ℕ)) → split_at 46 text ≡ o → option_and_then (λ q. if is_name q.0 then option_map (with_device q.0) (port_of q.1) else None) o ≡ Some p → Spells text p
    by None at e = absurd (none_some p e)
    by (Some (front, back)) at e = named front back at (is_name front) refl e

pub read_as_spelt : PinsAreReadAsSpelt
read_as_spelt text p = (pin_says text p, λ s. ap pin_of s.spelt ∙ pin_made p s.device s.port s.index)

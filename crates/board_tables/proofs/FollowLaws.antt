-- A text is read as the string that it spells.
use Rattle.std.proofs.Common.{◌≡◌, ◌<◌, ℕ, zero, suc, ◌+◌, ◌==◌, Bool, true, false, not, ◌&&◌, cond, List, [], ◌∷◌, ◌++◌, append_assoc, length, reverse, Option, Some, None, option_map, option_and_then, refl, ap, sym, ◌∙◌, subst, arith}
use Rattle.std.specs.Char.{is_ascii_alphabetic, is_ascii_digit}
use Rattle.std.specs.List.{list_all}
use Rattle.std.proofs.lemmas.Bool.{false≢true, and_parts, eqb-true}
use Rattle.std.proofs.lemmas.List.{append-nil, length-reverse, replicate-append-replicate, replicate_more, reverse-append, reverse-reverse}
use Rattle.std.proofs.lemmas.List.Folds.{list_all-append}
use Rattle.board_tables.specs.Names.{continues, is_name}
use Rattle.board_tables.specs.PinTexts.{IsPortText, PortText, index_text, is_index, port_of, port_text, split_at}
use Rattle.board_tables.specs.FollowTexts.{FollowText, FollowsAreReadAsSpelt, SpellsFollow, TargetsAreAsSpelt, behind_mark, follow_of, mark, source_of, spaces, trimmed, with_mark, with_source, without_before, without_behind}
use Rattle.board_tables.proofs.SpellLaws.{apart_at, digits_lack, lacks, name_lacks, none_some, port_made, port_says, same_some, split_made, split_says}

not_true : (b : Bool) → not b ≡ true → b ≡ false
not_true true h = absurd (false≢true h)
not_true false h = refl

-- ---- spaces

reverse-spaces : (n : ℕ) → reverse (spaces n) ≡ spaces n
reverse-spaces zero = refl
reverse-spaces (suc n) =
    let next : n + 1 ≡ suc n = omega arith in
    reverse-append (32 ∷ []) (spaces n) ∙ ap (λ l. l ++ 32 ∷ []) (reverse-spaces n) ∙ replicate_more n 32 ∙ ap spaces next

skip : (n : ℕ) (x : List ℕ) → without_before (spaces n ++ x) ≡ without_before x
skip zero x = refl
skip (suc n) x = skip n x

-- what begins with another byte keeps all
first_kept : (x zs : List ℕ) → lacks 32 x ≡ true → 0 < length x → without_before (x ++ zs) ≡ x ++ zs
first_kept [] zs h long = absurd (omega arith)
first_kept (y ∷ ys) zs h long =
    ap (λ (b : Bool). cond b (without_before (ys ++ zs)) (y ∷ (ys ++ zs))) (not_true (y == 32) ((and_parts (not (y == 32)) (lacks 32 ys) h).0))

lacks_reverse : (x : List ℕ) → lacks 32 x ≡ true → lacks 32 (reverse x) ≡ true
lacks_reverse [] h = refl
lacks_reverse (y ∷ ys) h =
    let both = and_parts (not (y == 32)) (lacks 32 ys) h in
    ap (lacks 32) (reverse-append (y ∷ []) ys) ∙ list_all-append (λ x. not (x == 32)) (reverse ys) (y ∷ [])
    ∙ (λ i. lacks_reverse ys both.1 i && (both.0 i && true))

-- what ends with another byte loses the spaces behind it alone
ends : (f x : List ℕ) (b : ℕ) → lacks 32 x ≡ true → 0 < length x → without_behind ((f ++ x) ++ spaces b) ≡ f ++ x
ends f x b h long =
    let turned : reverse ((f ++ x) ++ spaces b) ≡ spaces b ++ (reverse x ++ reverse f) =
    reverse-append (f ++ x) (spaces b) ∙ (λ i. reverse-spaces b i ++ reverse-append f x i) in
    let there : 0 < length (reverse x) = omega (arith, length-reverse x, long) in
    ap reverse (ap without_before turned ∙ skip b (reverse x ++ reverse f) ∙ first_kept (reverse x) (reverse f) (lacks_reverse x h) there ∙ sym (reverse-append f x))
    ∙ reverse-reverse (f ++ x)

trim_made : (a b : ℕ) (f x : List ℕ) → ((zs : List ℕ) → without_before ((f ++ x) ++ zs) ≡ (f ++ x) ++ zs) → lacks 32 x ≡ true → 0 < length x
    → trimmed ((spaces a ++ (f ++ x)) ++ spaces b) ≡ f ++ x
unfolding trimmed
trim_made a b f x starts h long =
    ap without_behind (ap without_before (append_assoc (spaces a) (f ++ x) (spaces b)) ∙ skip a ((f ++ x) ++ spaces b) ∙ starts (spaces b)) ∙ ends f x b h long

front_says : (x : List ℕ) → (n : ℕ) × (x ≡ spaces n ++ without_before x)
front_says [] = (0, refl)
front_says (c ∷ cs) = by (c == 32) refl (front_says cs)
  where
    by : (b : Bool) → (c == 32) ≡ b → ((n : ℕ) × (cs ≡ spaces n ++ without_before cs)) → (n : ℕ) × (c ∷ cs ≡ spaces n ++ cond b (without_before cs) (c ∷ cs))
    by true e (n, is) = (suc n, (λ i. eqb-true c 32 e i ∷ is i))
    by false e rest = (0, refl)

trim_says : (x : List ℕ) → (a : ℕ) × (b : ℕ) × (x ≡ (spaces a ++ trimmed x) ++ spaces b)
unfolding trimmed
trim_says x =
    let (a, front) = front_says x in
    let y = without_before x in
    let (b, back) = front_says (reverse y) in
    let turned : y ≡ without_behind y ++ spaces b =
    sym (reverse-reverse y) ∙ ap reverse back ∙ reverse-append (spaces b) (without_before (reverse y)) ∙ ap (λ l. without_behind y ++ l) (reverse-spaces b) in
    (a, b, front ∙ ap (λ l. spaces a ++ l) turned ∙ sym (append_assoc (spaces a) (without_behind y) (spaces b)))

-- ---- ports

index_lacks : (m : ℕ) → is_ascii_digit m ≡ false → (40 == m) ≡ false → (41 == m) ≡ false → (i : Option (List ℕ)) → is_index i ≡ true → lacks m (index_text i) ≡ true
index_lacks m digit front back None h = refl
index_lacks m digit front back (Some ds) h =
    let rest : lacks m (ds ++ 41 ∷ []) ≡ true = list_all-append (λ x. not (x == m)) ds (41 ∷ []) ∙ (λ i. digits_lack m ds digit h i && (not (back i) && true)) in
    (λ i. not (front i) && rest i)

port_lacks : (m : ℕ) → is_ascii_alphabetic m ≡ false → continues m ≡ false → is_ascii_digit m ≡ false → (40 == m) ≡ false → (41 == m) ≡ false → (p : PortText) → IsPortText p
    → lacks m (port_text p) ≡ true
port_lacks m letter rest digit front back p fits =
    list_all-append (λ x. not (x == m)) p.name (index_text p.index)
    ∙ (λ i. name_lacks m p.name letter rest fits.name i && index_lacks m digit front back p.index fits.index i)

port_long : (p : PortText) → IsPortText p → 0 < length (port_text p)
port_long p fits = by p.name fits.name
  where
    by : (name : List ℕ) → is_name name ≡ true → 0 < length (name ++ index_text p.index)
    by [] h = absurd (false≢true h)
    by (c ∷ cs) h = omega arith

no_space : (p : PortText) → IsPortText p → lacks 32 (port_text p) ≡ true
no_space p fits = port_lacks 32 refl refl refl refl refl p fits

port_trimmed : (a b : ℕ) (p : PortText) → IsPortText p → trimmed ((spaces a ++ port_text p) ++ spaces b) ≡ port_text p
port_trimmed a b p fits =
    trim_made a b [] (port_text p) (λ zs. first_kept (port_text p) zs (no_space p fits) (port_long p fits)) (no_space p fits) (port_long p fits)

port_read : (p : PortText) → IsPortText p → port_of (port_text p) ≡ Some p
port_read p fits = port_made p.name p.index fits.name fits.index

-- ---- a source

no_mark : (p : PortText) → IsPortText p → behind_mark (port_text p) ≡ None
no_mark p fits = by p.name fits.name
  where
    by : (name : List ℕ) → is_name name ≡ true → behind_mark (name ++ index_text p.index) ≡ None
    by [] h = absurd (false≢true h)
    by (c ∷ cs) h =
        let letter = (and_parts (is_ascii_alphabetic c) (list_all continues cs) h).0 in
        ap (λ (b : Bool). cond b (Some (cs ++ index_text p.index)) None) (not_true (c == 33) (apart_at is_ascii_alphabetic 33 c refl letter))

source_made : (inverted : Bool) (d : ℕ) (p : PortText) → IsPortText p → source_of (mark inverted d ++ port_text p) ≡ Some (p, inverted)
unfolding source_of
source_made false d p fits =
    ap (λ o. elim o [ Some rest ↦ option_map (with_mark true) (port_of (trimmed rest)) | None ↦ option_map (with_mark false) (port_of (port_text p)) ]) (no_mark p fits)
    ∙ ap (option_map (with_mark false)) (port_read p fits)
source_made true d p fits =
    ap (λ l. option_map (with_mark true) (port_of l)) (ap trimmed (sym (append-nil (spaces d ++ port_text p))) ∙ port_trimmed d 0 p fits)
    ∙ ap (option_map (with_mark true)) (port_read p fits)

mark_starts : (inverted : Bool) (d : ℕ) (p : PortText) → IsPortText p → (zs : List ℕ) → without_before ((mark inverted d ++ port_text p) ++ zs) ≡ (mark inverted d ++ port_text p) ++ zs
mark_starts false d p fits zs = first_kept (port_text p) zs (no_space p fits) (port_long p fits)
mark_starts true d p fits zs = refl

mark_says : (x rest : List ℕ) → behind_mark x ≡ Some rest → x ≡ 33 ∷ rest
mark_says [] rest e = absurd (none_some rest e)
mark_says (c ∷ cs) rest e = by (c == 33) refl e
  where
    by : (b : Bool) → (c == 33) ≡ b → cond b (Some cs) None ≡ Some rest → c ∷ cs ≡ 33 ∷ rest
    by true is e = (λ i. eqb-true c 33 is i ∷ same_some cs rest e i)
    by false is e = absurd (none_some rest e)

-- what a source says: its `!` and its port, and spaces behind them
abbrev SourceSpelt : List ℕ → PortText × Bool → Type 0
SourceSpelt x s = (d : ℕ) × (k : ℕ) × (x ≡ (mark s.1 d ++ port_text s.0) ++ spaces k) × IsPortText s.0

source_says : (x : List ℕ) (s : PortText × Bool) → source_of x ≡ Some s → SourceSpelt x s
unfolding source_of
source_says x s e = by (behind_mark x) refl e
  where
    plain : (o : Option PortText) → port_of x ≡ o → option_map (with_mark false) o ≡ Some s → SourceSpelt x s
    plain None is e = absurd (none_some s e)
    plain (Some p) is e =
        let says = port_says x p is in
        subst (SourceSpelt x) (same_some (with_mark false p) s e) (0, 0, says.spelt ∙ sym (append-nil (port_text p)), says.fits)

    behind : (rest : List ℕ) → behind_mark x ≡ Some rest → (o : Option PortText) → port_of (trimmed rest) ≡ o → option_map (with_mark true) o ≡ Some s → SourceSpelt x s
    behind rest at None is e = absurd (none_some s e)
    behind rest at (Some p) is e =
        let says = port_says (trimmed rest) p is in
        let (d, k, whole) = trim_says rest in
        subst (SourceSpelt x) (same_some (with_mark true p) s e)
        (d, k, mark_says x rest at ∙ ap (λ l. 33 ∷ l) (whole ∙ ap (λ l. (spaces d ++ l) ++ spaces k) says.spelt), says.fits)

    by : (o : Option (List ℕ)) → behind_mark x ≡ o
        → elim o [ Some rest ↦ option_map (with_mark true) (port_of (trimmed rest)) | None ↦ option_map (with_mark false) (port_of x) ] ≡ Some s → SourceSpelt x s
    by None at e = plain (port_of x) refl e
    by (Some rest) at e = behind rest at (port_of (trimmed rest)) refl e

-- ---- a string

spaces_lack : (n : ℕ) → lacks 61 (spaces n) ≡ true
spaces_lack zero = refl
spaces_lack (suc n) = spaces_lack n

target_lacks : (a b : ℕ) (p : PortText) → IsPortText p → lacks 61 ((spaces a ++ port_text p) ++ spaces b) ≡ true
target_lacks a b p fits =
    list_all-append (λ x. not (x == 61)) (spaces a ++ port_text p) (spaces b)
    ∙ (λ i. (list_all-append (λ x. not (x == 61)) (spaces a) (port_text p) ∙ (λ j. spaces_lack a j && port_lacks 61 refl refl refl refl refl p fits j)) i && spaces_lack b i)

-- what stands before the `=`, and behind it
abbrev front_of : (f : FollowText) (text : List ℕ) → SpellsFollow text f → List ℕ
front_of f text s = (spaces s.before ++ port_text f.target) ++ spaces s.between

abbrev back_of : (f : FollowText) (text : List ℕ) → SpellsFollow text f → List ℕ
back_of f text s = (spaces s.after_equals ++ (mark f.inverted s.after_mark ++ port_text f.source)) ++ spaces s.behind

spelt_split : (f : FollowText) (text : List ℕ) (s : SpellsFollow text f) → split_at 61 text ≡ Some (front_of f text s, back_of f text s)
spelt_split f text s =
    ap (split_at 61) s.spelt ∙ split_made 61 (front_of f text s) (back_of f text s) (target_lacks s.before s.between f.target s.target)

follow_made : (text : List ℕ) (f : FollowText) → SpellsFollow text f → follow_of text ≡ Some f
unfolding follow_of
follow_made text f s =
    let front = front_of f text s in
    let back = back_of f text s in
    let split : split_at 61 text ≡ Some (front, back) = spelt_split f text s in
    let target : port_of (trimmed front) ≡ Some f.target = ap port_of (port_trimmed s.before s.between f.target s.target) ∙ port_read f.target s.target in
    let source : source_of (trimmed back) ≡ Some (f.source, f.inverted) =
    ap source_of (trim_made s.after_equals s.behind (mark f.inverted s.after_mark) (port_text f.source)
    (mark_starts f.inverted s.after_mark f.source s.source) (no_space f.source s.source) (port_long f.source s.source))
    ∙ source_made f.inverted s.after_mark f.source s.source in
    ap (option_and_then (λ (p : List ℕ × List ℕ). option_and_then (λ t. option_map (with_source t) (source_of (trimmed p.1))) (port_of (trimmed p.0)))) split
    ∙ ap (option_and_then (λ t. option_map (with_source t) (source_of (trimmed back)))) target
    ∙ ap (option_map (with_source f.target)) source

follow_says : (text : List ℕ) (f : FollowText) → follow_of text ≡ Some f → SpellsFollow text f
unfolding follow_of
follow_says text f e = by (split_at 61 text) refl e
  where
    spelt : (front back : List ℕ) → split_at 61 text ≡ Some (front, back) → (t : PortText) → port_of (trimmed front) ≡ Some t → (s : PortText × Bool) → source_of (trimmed back) ≡ Some s
        → SpellsFollow text (with_source t s)
    spelt front back at t to s from =
        let says = port_says (trimmed front) t to in
        let (a, b, first) = trim_says front in
        let (c, n, second) = trim_says back in
        let (d, k, source, fits) = source_says (trimmed back) s from in
        let body = mark s.1 d ++ port_text s.0 in
        let behind : back ≡ (spaces c ++ body) ++ spaces (k + n) =
        second ∙ ap (λ l. (spaces c ++ l) ++ spaces n) source ∙ ap (λ l. l ++ spaces n) (sym (append_assoc (spaces c) body (spaces k)))
        ∙ append_assoc (spaces c ++ body) (spaces k) (spaces n) ∙ ap (λ l. (spaces c ++ body) ++ l) (replicate-append-replicate k n 32) in
        record {
          before = a;
          between = b;
          after_equals = c;
          after_mark = d;
          behind = k + n;
          spelt = (split_says 61 text front back at).0 ∙ (λ i. (first ∙ ap (λ l. (spaces a ++ l) ++ spaces b) says.spelt) i ++ 61 ∷ behind i);
          target = says.fits;
          source = fits;
        }

    both : (front back : List ℕ) → split_at 61 text ≡ Some (front, back) → (t : Option PortText) → port_of (trimmed front) ≡ t → (s : Option (PortText × Bool)) → source_of (trimmed back) ≡ s
        → option_and_then (λ t. option_map (with_source t) s) t ≡ Some f → SpellsFollow text f
    both front back at None to s from e = absurd (none_some f e)
    both front back at (Some t) to None from e = absurd (none_some f e)
    both front back at (Some t) to (Some s) from e = subst (SpellsFollow text) (same_some (with_source t s) f e) (spelt front back at t to s from)

    by : (o : Option (List ℕ × List ℕ)) → split_at 61 text ≡ o
        → option_and_then (λ (p : List ℕ × List ℕ). option_and_then (λ t. option_map (with_source t) (source_of (trimmed p.1))) (port_of (trimmed p.0))) o ≡ Some f → SpellsFollow text f
    by None at e = absurd (none_some f e)
    by (Some (front, back)) at e = both front back at (port_of (trimmed front)) refl (source_of (trimmed back)) refl e

pub follows_read_as_spelt : FollowsAreReadAsSpelt
follows_read_as_spelt text f = (follow_says text f, follow_made text f)

pub targets_as_spelt : TargetsAreAsSpelt
targets_as_spelt text f s =
    ap (λ (o : Option (List ℕ × List ℕ)). elim o [ Some p ↦ trimmed p.0 | None ↦ trimmed text ]) (spelt_split f text s)
    ∙ port_trimmed s.before s.between f.target s.target

-- Port bits that are marked one after another.
use Rattle.std.proofs.Common.{◌≡◌, ◌<◌, ℕ, ◌+◌, Bool, true, false, ◌||◌, List, [], ◌∷◌, ◌++◌, length, map, take, get_or, Option, refl, sym, ap, subst, ◌∙◌, arith}
use Rattle.std.specs.List.{list_any, range_with_len}
use Rattle.pin_nets.proofs.Leading.{list_any-map}
use Rattle.std.proofs.lemmas.List.{map-append, take_more}
use Rattle.std.proofs.lemmas.List.FromFn.{map-range_with_len_more}
use Rattle.boundary.specs.Cells.{is_port}
use Rattle.board_faults.specs.Sights.{Marks}

or-assoc : (a b c : Bool) → ((a || b) || c) ≡ (a || (b || c))
or-assoc true b c = refl
or-assoc false b c = refl

or-none : (a : Bool) → (a || false) ≡ a
or-none true = refl
or-none false = refl

any-both : {X : Type 0} (t : X → Bool) (xs ys : List X) → list_any t (xs ++ ys) ≡ (list_any t xs || list_any t ys)
any-both t [] ys = refl
any-both t (x ∷ xs) ys = ap (λ (b : Bool). t x || b) (any-both t xs ys) ∙ sym (or-assoc (t x) (list_any t xs) (list_any t ys))

pub none_marked : (read : List Bool) → Marks read read []
none_marked read = record { long = refl; each = λ p h. sym (or-none (get_or read p false)) }

-- some are marked, and then one more
pub marks_more : {X : Type 0} (f : X → Option ℕ) (xs : List X) (k : ℕ) (x : X) (a b c : List Bool) → k < length xs → x ≡ get_or xs k x
    → Marks a b (map f (take k xs)) → Marks b c (f x ∷ []) → Marks a c (map f (take (k + 1) xs))
marks_more {X = X} f xs k x a b c below is one more =
    subst (λ (l : List (Option ℕ)). Marks a c l) (sym next)
    (record {
      long = more.long ∙ one.long;
      each = λ p h.
          more.each p (omega (arith, h, one.long)) ∙ ap (λ (v : Bool). v || list_any (is_port p) (f x ∷ [])) (one.each p h)
          ∙ or-assoc (get_or a p false) (list_any (is_port p) (map f (take k xs))) (list_any (is_port p) (f x ∷ []))
          ∙ ap (λ (v : Bool). get_or a p false || v) (sym (any-both (is_port p) (map f (take k xs)) (f x ∷ [])));
    })
  where
    next : map f (take (k + 1) xs) ≡ map f (take k xs) ++ f x ∷ []
    next = ap (map f) (take_more xs k x below ∙ ap (λ (y : X). take k xs ++ y ∷ []) (sym is)) ∙ map-append f (take k xs) (x ∷ [])

pub all_marked : {X : Type 0} (f : X → Option ℕ) (xs : List X) (k : ℕ) (a b : List Bool) → take k xs ≡ xs → Marks a b (map f (take k xs)) → Marks a b (map f xs)
all_marked f xs k a b all marks = subst (λ (l : List _). Marks a b (map f l)) all marks

-- one more of a range
pub range_more : {Y : Type 0} (f : ℕ → Y) (n : ℕ) → map f (range_with_len 0 (n + 1)) ≡ map f (range_with_len 0 n) ++ f n ∷ []
range_more f n = map-range_with_len_more f 0 n n (omega arith)

-- whether a port bit is read, by what was marked first and then
pub read_is : {X Y : Type 0} (f : X → Option ℕ) (g : Y → Option ℕ) (xs : List X) (ys : List Y) (a b c : List Bool) (p : ℕ) → p < length a
    → get_or a p false ≡ false → Marks a b (map f xs) → Marks b c (map g ys)
    → get_or c p false ≡ (list_any (λ x. is_port p (f x)) xs || list_any (λ y. is_port p (g y)) ys)
read_is f g xs ys a b c p below none one more =
    more.each p (omega (arith, below, one.long)) ∙ ap (λ (v : Bool). v || list_any (is_port p) (map g ys)) (one.each p below)
    ∙ ap (λ (v : Bool). (v || list_any (is_port p) (map f xs)) || list_any (is_port p) (map g ys)) none
    ∙ (λ i. sym (list_any-map (is_port p) f xs) i || sym (list_any-map (is_port p) g ys) i)
